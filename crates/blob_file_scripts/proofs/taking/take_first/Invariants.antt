use Rattle.std.proofs.Common.{string_bytes}
use Rattle.blob_file_scripts.specs.Takes.{TakesFirst}
use Rattle.blob_file_scripts.proofs.taking.take_first.Given as goal

abbrev pub invariant-loop-taken : goal.invariant-loop-taken
invariant-loop-taken l = TakesFirst l.last l.fn.script l.rest l.fn.files l.files (string_bytes l.fn.text) (string_bytes l.text)
