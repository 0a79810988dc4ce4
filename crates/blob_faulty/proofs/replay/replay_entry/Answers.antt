use Rattle.std.proofs.Common.{◌≡◌, ◌∙◌, ap, sym, subst, [], arith}
use Rattle.blob_model.specs.Pending.{replay_entry, end_of}
use Rattle.blob_pending.specs.declared.entry.Entry.{Entry}
use Rattle.blob_pending.specs.Replays.{width, zeros_for}
use Rattle.blob_pending.specs.Contents.{HasZeros}
use Rattle.blob_pending.specs.Views.{view}
use Rattle.blob_model.proofs.Bytes.{none_chosen}
use Rattle.blob_faulty.specs.Crashes.{chosen_in}
use Rattle.blob_faulty.specs.Ready.{CanReplay}
use Rattle.blob_faulty.proofs.replay.replay_entry.Goals as goal

pub replay_write-requires-clause-room : goal.replay_write-requires-clause-room
replay_write-requires-clause-room c = subst (λ (e : Entry). CanReplay c.args.bytes.now (end_of (view e)) (width (view e)) c.args.chosen.now) c.in-Write.is c.requires.room

pub replay_write-requires-clause-zeros : goal.replay_write-requires-clause-zeros
replay_write-requires-clause-zeros c = subst (λ (e : Entry). HasZeros (zeros_for (view e)) c.args.zeros.now) c.in-Write.is c.requires.zeros

pub returns-in-Write-clause-bytes : goal.returns-in-Write-clause-bytes
returns-in-Write-clause-bytes c =
    record {
      items = c.replay_write.ensures.bytes.items ∙ ap (λ (e : Entry). replay_entry c.args.bytes.now.items (view e) (chosen_in c.args.rows.now)) (sym c.in-Write.is);
      capacity = c.replay_write.ensures.bytes.capacity;
    }

pub returns-in-Dropped-clause-bytes : goal.returns-in-Dropped-clause-bytes
returns-in-Dropped-clause-bytes c =
    let x = c.args.bytes.now.items in
    let none : replay_entry x (view c.args.entry.now) (chosen_in c.args.rows.now) ≡ x = ap (λ (e : Entry). replay_entry x (view e) (chosen_in c.args.rows.now)) c.in-Dropped.is ∙ none_chosen x 0 [] in
    record { items = sym none; capacity = omega arith }
