use Rattle.std.proofs.Common.{◌≡◌, ◌++◌, take, string_bytes}
use Rattle.std.specs.List.{flat_map}
use Rattle.blob_distinct.specs.Printed.{word_text}
use Rattle.blob_distinct.proofs.words.print_words.Given as goal

abbrev pub invariant-loop-word : goal.invariant-loop-word
invariant-loop-word l = string_bytes l.printed ≡ string_bytes l.fn.printed ++ flat_map word_text (take l.word-index l.words)
