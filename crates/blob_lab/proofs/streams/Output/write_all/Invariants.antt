-- the bytes no longer in `rest` were appended
use Rattle.std.proofs.Common.{◌≡◌, ℕ, List, ◌++◌, false}
use Rattle.std.specs.Io.KnownBytes.{Appends}
use Rattle.blob_lab.specs.Streams.{writer_of, write_failed, is_flushed}
use Rattle.blob_lab.proofs.streams.Output.write_all.Given as goal

abbrev pub invariant-loop : goal.invariant-loop
invariant-loop g l = record {
  moved : (done : List ℕ) × (l.initial.rest ≡ done ++ l.rest) × Appends (g.W.Write.contents (writer_of l.initial.self)) (g.W.Write.contents (writer_of l.self)) done;
  sound : write_failed l.self ≡ write_failed l.initial.self;
  held : is_flushed l.self ≡ false;
}
