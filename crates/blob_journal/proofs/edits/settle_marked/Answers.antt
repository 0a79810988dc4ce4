use Rattle.std.proofs.Common.{◌≡◌, List, false, refl, ◌+◌, ap, sym, subst, take, ◌∙◌}
use Rattle.blob_directory.specs.Records.{Found}
use Rattle.blob_journal.specs.Keeping.{told_by}
use Rattle.blob_journal.specs.Told.{Grows}
use Rattle.blob_journal.proofs.Growing.{grows_settled, settled_none}
use Rattle.blob_journal.proofs.Telling.{told_next, told_same}
use Rattle.blob_journal.proofs.Settling.{changes_none, marked_more, unmarked_more}
use Rattle.blob_journal.proofs.Found.{refused_kept, same_kept, same_told, settled_kept, told_one}
use Rattle.blob_model.specs.Places.{Place}
use Rattle.blob_memory.specs.Store.{directory, place}
use Rattle.blob_faulty.specs.Keeps.{OverMemory}
use Rattle.blob_faulty.specs.Wrapper.{inside}
use Rattle.blob_journal.specs.declared.journal.Journal.{Journal}
use Rattle.blob_journal.specs.Settling.{Changes, all_settled}
use Rattle.blob_journal.proofs.edits.settle_marked.Goals.{then-edit+in_ok-settle, else-edit}
use Rattle.blob_journal.proofs.Stores.{writes_none, writes_over, writes_twice}
use Rattle.blob_journal.proofs.edits.settle_marked.Goals as goal

pub loop-edit-preserved : goal.loop-edit-preserved
loop-edit-preserved g c =
    let edits = c.args.edits.now in
    let k = c.loop-edit.edit-index in
    let item = c.edit-item.result in
    let before = c.args.store.now in
    let at : Place = place (inside c.args.journal.now.blob) in
    let i = c.loop-edit.invariant in
    elim c.if-edit.branch [
      | then-edit+in_ok-settle w ↦
          let s = w.in_ok-settle.ensures in
          record {
            settled = subst (λ (x : OverMemory g.row.R.Denot). Changes before x at (all_settled (take (k + 1) edits))) (sym w.store-is)
                (marked_more edits k item c.loop-edit-test.true c.edit-item.is before c.loop-edit.store w.settle.new.store at (place (inside c.loop-edit.journal.blob)) i.writes.place i.writes.directory w.if-edit.true i.settled s.settled);
            writes = writes_over _ _ _ _ _ _ w.store-is w.journal-is (writes_twice _ _ _ _ _ _ i.writes s.writes);
            records = ap (λ (j : Journal). j.records) w.journal-is ∙ s.records ∙ i.records;
            kept = λ h. same_kept _ w.settle.new.store _ w.settle.new.self edits w.store-is w.journal-is
                (settled_kept c.records.ensures.found c.loop-edit.store w.settle.new.store c.loop-edit.journal w.settle.new.self edits k item c.loop-edit-test.true c.edit-item.is w.in_ok-settle.ensures.left (i.kept h));
            told = λ h. ap told_by w.journal-is ∙ told_next c.loop-edit.journal w.settle.new.self edits k item c.loop-edit-test.true c.edit-item.is w.if-edit.true
                (told_one c.records.ensures.found c.loop-edit.store w.settle.new.store c.loop-edit.journal w.settle.new.self edits k item c.loop-edit-test.true c.edit-item.is w.in_ok-settle.ensures.left (i.kept h))
                (told_by c.args.journal.now) (i.told h);
          }
      | else-edit w ↦
          record {
            settled = subst (λ (x : OverMemory g.row.R.Denot). Changes before x at (all_settled (take (k + 1) edits))) (sym w.store-is)
                (unmarked_more edits k item c.loop-edit-test.true c.edit-item.is before c.loop-edit.store at w.if-edit.false i.settled);
            writes = writes_over _ _ _ _ _ _ w.store-is w.journal-is i.writes;
            records = ap (λ (j : Journal). j.records) w.journal-is ∙ i.records;
            kept = λ h. same_kept _ c.loop-edit.store _ c.loop-edit.journal edits w.store-is w.journal-is (i.kept h);
            told = λ h. ap told_by w.journal-is ∙ i.told h ∙ told_same edits k item c.loop-edit-test.true c.edit-item.is w.if-edit.false (told_by c.args.journal.now);
          }
    ]

pub returns-in_err-settle-clause-kept : goal.returns-in_err-settle-clause-kept
returns-in_err-settle-clause-kept g c = λ h.
    let s = c.in_err-settle.ensures in
    refused_kept c.loop-edit.store c.settle.new.store c.loop-edit.journal c.settle.new.self c.args.edits.now s.same (c.loop-edit.invariant.kept h)

pub loop-edit-init : goal.loop-edit-init
loop-edit-init g c = record {
  settled = changes_none c.args.store.now (place (inside c.args.journal.now.blob));
  writes = writes_none _ _;
  records = refl;
  kept = λ h. h;
  told = λ h. sym (settled_none (λ _. false) 0 (told_by c.args.journal.now) (λ _. refl));
}

pub returns-in_err-settle-clause-grows : goal.returns-in_err-settle-clause-grows
returns-in_err-settle-clause-grows g c = λ h.
    let s = c.in_err-settle.ensures in
    let k = c.loop-edit.invariant.kept h in
    let same : told_by c.settle.new.self ≡ told_by c.loop-edit.journal = same_told c.loop-edit.store c.settle.new.store c.loop-edit.journal c.settle.new.self c.args.edits.now s.same k in
    subst (λ (l : List Found). Grows (told_by c.args.journal.now) l) (sym (same ∙ c.loop-edit.invariant.told h)) (grows_settled _ 0 (told_by c.args.journal.now))

pub returns-clause-grows : goal.returns-clause-grows
returns-clause-grows g c = λ h. subst (λ (l : List Found). Grows (told_by c.args.journal.now) l) (sym (c.loop-edit.invariant.told h)) (grows_settled _ 0 (told_by c.args.journal.now))

pub returns-in_err-settle-clause-writes : goal.returns-in_err-settle-clause-writes
returns-in_err-settle-clause-writes g c = writes_twice _ _ _ _ _ _ c.loop-edit.invariant.writes c.in_err-settle.ensures.writes
