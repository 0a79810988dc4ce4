use Rattle.std.proofs.Common.{◌≡◌, ◌<◌, ℕ, get_or, false}
use Rattle.blob_model.specs.Pending.{is_mark}
use Rattle.blob_pending.specs.Views.{view}
use Rattle.blob_pending.specs.declared.entry.Entry.{Entry}
use Rattle.blob_pending.proofs.entries.end_of.Given as goal

abbrev pub invariant-loop-i : goal.invariant-loop-i
invariant-loop-i l = (k : ℕ) (e : Entry) → k < l.i → is_mark l.marker (view (get_or l.entries k e)) ≡ false
