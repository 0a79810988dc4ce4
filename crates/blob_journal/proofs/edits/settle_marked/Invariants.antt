use Rattle.std.proofs.Common.{◌≡◌, take}
use Rattle.blob_memory.specs.Store.{place}
use Rattle.blob_faulty.specs.Wrapper.{inside}
use Rattle.blob_journal.specs.Found.{IsKept, WritesJournal}
use Rattle.blob_journal.specs.Keeping.{told_by}
use Rattle.blob_journal.specs.Settling.{Changes, all_settled}
use Rattle.blob_journal.specs.Told.{is_marked_in, settled_in}
use Rattle.blob_journal.proofs.edits.settle_marked.Given as goal

abbrev pub invariant-loop-edit : goal.invariant-loop-edit
invariant-loop-edit g l = record {
  writes : WritesJournal l.fn.store l.fn.journal l.store l.journal;
  settled : Changes l.fn.store l.store (place (inside l.fn.journal.blob)) (all_settled (take l.edit-index l.edits));
  records : l.journal.records ≡ l.fn.journal.records;
  kept : IsKept l.fn.store l.fn.journal l.edits → IsKept l.store l.journal l.edits;
  told : IsKept l.fn.store l.fn.journal l.edits → told_by l.journal ≡ settled_in (is_marked_in (take l.edit-index l.edits)) 0 (told_by l.fn.journal);
}
