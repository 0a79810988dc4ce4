use Rattle.std.proofs.Common.{◌≡◌, ℕ, ◌<◌, List, get_or, length}
use Rattle.blob_directory.specs.declared.unsettled.Unsettled.{Unsettled}
use Rattle.blob_journal.specs.Moves.{AddsNames, NewNameIsBound, TellsAgain}
use Rattle.blob_journal.specs.Settling.{unsettled_of}
use Rattle.blob_journal.specs.Unchanged.{KeepsNames}
use Rattle.blob_journal.proofs.journaled.Journaled.bind_moved.Given as goal

abbrev pub invariant-loop-at : goal.invariant-loop-at
invariant-loop-at g l = record {
  names : KeepsNames l.fn.self l.self;
  told : TellsAgain l.fn.self l.self;
  more : List Unsettled;
  adds : AddsNames more l.fn.self l.self;
  bound : (k : ℕ) (e : Unsettled) → k < l.at → k < length (unsettled_of l.fn.self) → e ≡ get_or (unsettled_of l.fn.self) k e → NewNameIsBound l.fn.self l.directory more e;
}
