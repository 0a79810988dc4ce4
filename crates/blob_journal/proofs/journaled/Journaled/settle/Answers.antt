use Rattle.std.proofs.Common.{rules, ap, refl, sym, ◌∙◌, List, ℕ, map, subst, ◌≡◌, true}
use Rattle.std.proofs.Math.Logic.{∥∥₁_elim, ∥∥₁_map}
use Rattle.std.specs.List.{list_all}
use Rattle.std.specs.Prelude.{filter}
use Rattle.blob_directory.specs.Indexes.{unwanted}
use Rattle.blob_directory.specs.Logs.{logged_after}
use Rattle.blob_directory.specs.Syncs.{marked}
use Rattle.blob_directory.specs.UnsettledEdits.{edits_listed}
use Rattle.blob_directory.specs.declared.unsettled.Unsettled.{Unsettled}
use Rattle.blob_memory.specs.Store.{place}
use Rattle.blob_faulty.specs.Wrapper.{inside}
use Rattle.blob_journal.specs.Found.{IsKept}
use Rattle.blob_journal.specs.Keeping.{told_by}
use Rattle.blob_journal.specs.Logs.{logged_in}
use Rattle.blob_journal.specs.Settling.{Changes, all_settled}
use Rattle.blob_journal.specs.Told.{is_marked_in, settled_in}
use Rattle.blob_journal.proofs.Found.{filtered_kept, marked_kept}
use Rattle.blob_journal.proofs.Growing.{grows_prop, grows_same, settled_none, told_prop}
use Rattle.blob_journal.proofs.Settling.{changes_alike, changes_none}
use Rattle.blob_journal.proofs.Stores.{holds_written, open_written}
use Rattle.blob_journal.proofs.Telling.{same_length}
use Rattle.blob_journal.proofs.Unwanted.{logged_none, marked_none, settled_same}
use Rattle.blob_journal.proofs.journaled.Journaled.settle.Goals as goal

pub invariant_of-self : goal.invariant_of-self
invariant_of-self g c =
    let self = c.args.self.now in
    record {
      partition = self.partition;
      name = self.name;
      current = self.current;
      given = self.given;
      numbered = self.numbered;
      accepted = self.accepted;
      kept = subst (λ (es : List Unsettled). ∥ IsKept self.store self.journal es ∥₁) (sym c.in_err-want.ensures.refused) self.kept;
    }

pub invariant_of-self-then-not-branch : goal.invariant_of-self-then-not-branch
invariant_of-self-then-not-branch g c =
    let self = c.args.self.now in
    let m = c.in_ok-want.ensures.marks in
    record {
      partition = self.partition;
      name = self.name;
      current = self.current;
      given = self.given;
      numbered = self.numbered;
      accepted = self.accepted;
      kept = ∥∥₁_map self.kept (λ k. marked_kept self.store self.journal (edits_listed self.unsettled) (edits_listed c.want.new.self) m.wants m.is k);
    }

pub invariant_of-self-in-Break-branch-3 : goal.invariant_of-self-in-Break-branch-3
invariant_of-self-in-Break-branch-3 g c =
    let self = c.args.self.now in
    let m = c.in_ok-want.ensures.marks in
    record {
      partition = self.partition;
      name = self.name;
      current = self.current;
      given = self.given;
      numbered = self.numbered;
      accepted = self.accepted;
      kept = ∥∥₁_map self.kept (λ k. marked_kept self.store self.journal (edits_listed self.unsettled) (edits_listed c.want.new.self) m.wants m.is k);
    }

pub invariant_of-self-in-Break-branch-4 : goal.invariant_of-self-in-Break-branch-4
invariant_of-self-in-Break-branch-4 g c =
    let self = c.args.self.now in
    let edits : List Unsettled = edits_listed self.unsettled in
    let m = c.in_ok-want.ensures.marks in
    let same : c.as_slice-edits.result.now ≡ map (marked m.wants) edits = c.as_slice-edits.ensures ∙ m.is in
    let new = c.settle_marked.new.store in
    let s = c.settle_marked.ensures in
    holds_written self new c.settle_marked.new.journal _ s.writes (∥∥₁_map self.kept (λ k. subst (λ (es : List Unsettled). IsKept new c.settle_marked.new.journal es) c.as_slice-edits.ensures
    (s.kept (marked_kept self.store self.journal edits c.as_slice-edits.result.now m.wants same k))))

pub invariant_of-self-2 : goal.invariant_of-self-2
invariant_of-self-2 g c =
    let self = c.args.self.now in
    let edits : List Unsettled = edits_listed self.unsettled in
    let m = c.in_ok-want.ensures.marks in
    let same : c.as_slice-edits.result.now ≡ map (marked m.wants) edits = c.as_slice-edits.ensures ∙ m.is in
    let new = c.settle_marked.new.store in
    let s = c.settle_marked.ensures in
    holds_written self new c.settle_marked.new.journal _ s.writes (∥∥₁_map self.kept (λ k.
    let was : IsKept self.store self.journal c.as_slice-edits.result.now = marked_kept self.store self.journal edits c.as_slice-edits.result.now m.wants same k in
    filtered_kept self.store new self.journal c.settle_marked.new.journal c.as_slice-edits.result.now _ (c.drop_wanted.ensures ∙ ap (filter unwanted) (sym c.as_slice-edits.ensures))
    (c.in_ok-settle_marked.ensures.told was) was (s.kept was)))

pub returns-then-not-branch-clause-settled : goal.returns-then-not-branch-clause-settled
returns-then-not-branch-clause-settled g c =
    let self = c.args.self.now in
    let m = c.in_ok-want.ensures.marks in
    let none : list_all unwanted (map (marked m.wants) (edits_listed self.unsettled)) ≡ true = ap (list_all unwanted) (sym m.is) ∙ c.in_ok-want.ensures.none (search rules) in
    let all : List Unsettled = map (marked m.wants) (edits_listed self.unsettled) in
    record {
      place = refl;
      wants = m.wants;
      exactly = m.exactly;
      journal = changes_alike self.store self.store (place (inside self.journal.blob)) (λ x. x) (all_settled all) (λ x. sym (settled_same all none x)) (changes_none self.store (place (inside self.journal.blob)));
      told = sym (settled_none (is_marked_in all) 0 (told_by self.journal) (marked_none all none));
    }

pub returns-then-not-branch-clause-some : goal.returns-then-not-branch-clause-some
returns-then-not-branch-clause-some g c = record { grows = grows_same (told_by c.args.self.now.journal); length = refl }

pub returns-then-not-branch-clause-log : goal.returns-then-not-branch-clause-log
returns-then-not-branch-clause-log g c =
    let self = c.args.self.now in
    let m = c.in_ok-want.ensures.marks in
    let none : list_all unwanted (map (marked m.wants) (edits_listed self.unsettled)) ≡ true = ap (list_all unwanted) (sym m.is) ∙ c.in_ok-want.ensures.none (search rules) in
    record {
      wants = m.wants;
      exactly = m.exactly;
      log = λ e. c.in_ok-note.ensures e ∙ logged_none c.args.settles (map (marked m.wants) (edits_listed self.unsettled)) (logged_in self) none e;
    }

pub returns-clause-settled : goal.returns-clause-settled
returns-clause-settled g c =
    let self = c.args.self.now in
    let edits : List Unsettled = edits_listed self.unsettled in
    let m = c.in_ok-want.ensures.marks in
    let same : c.as_slice-edits.result.now ≡ map (marked m.wants) edits = c.as_slice-edits.ensures ∙ m.is in
    record {
      place = c.settle_marked.ensures.writes.place;
      wants = m.wants;
      exactly = m.exactly;
      journal = subst (λ (l : List Unsettled). Changes self.store c.settle_marked.new.store (place (inside self.journal.blob)) (all_settled l)) same c.in_ok-settle_marked.ensures.settled;
      told = ∥∥₁_elim self.kept (told_prop _ _) (λ k. c.in_ok-settle_marked.ensures.told (marked_kept self.store self.journal edits c.as_slice-edits.result.now m.wants same k)
          ∙ ap (λ (es : List Unsettled). settled_in (is_marked_in es) 0 (told_by self.journal)) same);
    }

pub returns-in_err-want-clause-some : goal.returns-in_err-want-clause-some
returns-in_err-want-clause-some g c = record { grows = grows_same (told_by c.args.self.now.journal); length = refl }

pub returns-in_err-note-clause-some : goal.returns-in_err-note-clause-some
returns-in_err-note-clause-some g c = record { grows = grows_same (told_by c.args.self.now.journal); length = refl }

pub returns-in_err-note-2-clause-some : goal.returns-in_err-note-2-clause-some
returns-in_err-note-2-clause-some g c = record { grows = grows_same (told_by c.args.self.now.journal); length = refl }

pub returns-in_err-settle_marked-clause-some : goal.returns-in_err-settle_marked-clause-some
returns-in_err-settle_marked-clause-some g c =
    let self = c.args.self.now in
    let edits : List Unsettled = edits_listed self.unsettled in
    let m = c.in_ok-want.ensures.marks in
    let same : c.as_slice-edits.result.now ≡ map (marked m.wants) edits = c.as_slice-edits.ensures ∙ m.is in
    record {
      grows = ∥∥₁_elim self.kept (grows_prop _ _) (λ k. c.settle_marked.ensures.grows (marked_kept self.store self.journal edits c.as_slice-edits.result.now m.wants same k));
      length = same_length c.records.ensures.found self.store c.settle_marked.new.store self.journal c.settle_marked.new.journal edits c.as_slice-edits.result.now c.settle_marked.ensures.records self.kept
          (∥∥₁_map self.kept (λ k. c.settle_marked.ensures.kept (marked_kept self.store self.journal edits c.as_slice-edits.result.now m.wants same k)));
    }

pub returns-clause-some : goal.returns-clause-some
returns-clause-some g c =
    let self = c.args.self.now in
    let edits : List Unsettled = edits_listed self.unsettled in
    let m = c.in_ok-want.ensures.marks in
    let same : c.as_slice-edits.result.now ≡ map (marked m.wants) edits = c.as_slice-edits.ensures ∙ m.is in
    record {
      grows = ∥∥₁_elim self.kept (grows_prop _ _) (λ k. c.settle_marked.ensures.grows (marked_kept self.store self.journal edits c.as_slice-edits.result.now m.wants same k));
      length = same_length c.records.ensures.found self.store c.settle_marked.new.store self.journal c.settle_marked.new.journal edits c.as_slice-edits.result.now c.settle_marked.ensures.records self.kept
          (∥∥₁_map self.kept (λ k. c.settle_marked.ensures.kept (marked_kept self.store self.journal edits c.as_slice-edits.result.now m.wants same k)));
    }

pub returns-in_err-settle_marked-clause-still : goal.returns-in_err-settle_marked-clause-still
returns-in_err-settle_marked-clause-still g c = open_written _ _ c.settle_marked.ensures.writes

pub returns-clause-still : goal.returns-clause-still
returns-clause-still g c = open_written _ _ c.settle_marked.ensures.writes

pub returns-clause-log : goal.returns-clause-log
returns-clause-log g c =
    let self = c.args.self.now in
    let m = c.in_ok-want.ensures.marks in
    let same : c.as_slice-edits.result.now ≡ map (marked m.wants) (edits_listed self.unsettled) = c.as_slice-edits.ensures ∙ m.is in
    record {
      wants = m.wants;
      exactly = m.exactly;
      log = λ e. c.in_ok-note-2.ensures e ∙ ap (λ (l : List Unsettled). logged_after c.args.settles l (logged_in self) e) same;
    }
