use Rattle.std.proofs.Common.{◌≡◌, max, drop}
use Rattle.blob_model.specs.Pending.{ends}
use Rattle.blob_pending.specs.Replays.{most_zeros, widest}
use Rattle.blob_pending.specs.Views.{left_in}
use Rattle.blob_pending.proofs.entries.replay_room.Given as goal

abbrev pub invariant-loop-entry : goal.invariant-loop-entry
invariant-loop-entry l = record {
  end : max l.end (ends (left_in (drop l.entry-index l.entries))) ≡ ends (left_in l.entries);
  width : max l.choices (widest (left_in (drop l.entry-index l.entries))) ≡ widest (left_in l.entries);
  zeros : max l.zeros (most_zeros (left_in (drop l.entry-index l.entries))) ≡ most_zeros (left_in l.entries);
}
