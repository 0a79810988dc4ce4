use Rattle.std.proofs.Common.{rules, ◌≡◌, ⊎_elim, ◌+◌, true, false, List, [], ◌∷◌, length, All, Option, Some, None, inl, inr, refl, sym, ◌∙◌, ap₂, subst, arith}
use Rattle.std.specs.Prelude.{is_err}
use Rattle.std.proofs.lemmas.Bool.{cases_Bool}
use Rattle.std.proofs.lemmas.Grind.{common_steps}
use Rattle.std.proofs.lemmas.Option.{none-some}
use Rattle.blob_model.specs.Directory.{is_current}
use Rattle.blob_header.specs.Refusals.{Refusal, WriteFailed, error_of}
use Rattle.blob_model.specs.Runs.{Run}
use Rattle.blob_pending.specs.Lists.{HasRoomAt}
use Rattle.blob_faulty.specs.Pieces.{run_of, runs_in, extents, EndsWithin}
use Rattle.blob_pending.proofs.HoleRoom.{first_at}
use Rattle.blob_faulty.proofs.RunSteps.{ok_holds, is_refused, is_done, popped, later_within, first_within}
use Rattle.blob_base.specs.HandleCalls.{Write}
use Rattle.blob_faulty.specs.Asked.{Made, run_calls}
use Rattle.blob_faulty.specs.Writes.{view_of}
use Rattle.blob_faulty.proofs.Asking.{then_made}
use Rattle.blob_faulty.proofs.Fronts.{up_to_first, up_to_next, front_refused, some_refusal}
use Rattle.blob_faulty.proofs.Writing.{one_less, all_laid, later_refused}
use Rattle.blob_faulty.proofs.blob.Blob.lay_later.Goals as goal

pub returns-then-is_err-clause-indirect : goal.returns-then-is_err-clause-indirect
returns-then-is_err-clause-indirect g c =
    let i = c.loop-run.invariant in
    let e : runs_in c.loop-run.pieces.items ≡ run_of c.in-Some.run' ∷ runs_in c.pop.new.self.items = popped _ _ c.in-Some.run' c.in-Some.ensures.items in
    let failed = is_refused c.lay_range.result (sym c.is_err.ensures.value ∙ c.if-is_err.true) in
    ⊎_elim
    (λ direct. absurd (g.met.B.Blob.done_within c.loop-run.self.inner c.loop-run.store.inner c.in-Some.run'.offset c.in-Some.run'.bytes.now failed.0 direct
    (ap₂ is_current i.left.directory i.left.place ∙ c.requires.current)
    (first_within _ (run_of c.in-Some.run') (runs_in c.pop.new.self.items) (subst (λ (rs : List Run). All (EndsWithin (g.B.Blob.room c.loop-run.self.inner c.loop-run.store.inner)) rs) e (i.within direct)))
    (subst (λ (a : Option Refusal). g.B.Blob.allows_write c.loop-run.self.inner c.loop-run.store.inner c.in-Some.run'.offset c.in-Some.run'.bytes.now true a) failed.1 c.lay_range.ensures.allowed)))
    (λ indirect. indirect)
    (cases_Bool g.B.Blob.is_direct)

pub returns-then-is_err-clause-laid : goal.returns-then-is_err-clause-laid
returns-then-is_err-clause-laid g c = record {
  asked =
      let e : runs_in c.loop-run.pieces.items ≡ run_of c.in-Some.run' ∷ runs_in c.pop.new.self.items = popped _ _ c.in-Some.run' c.in-Some.ensures.items in
      let failed = is_refused c.lay_range.result (sym c.is_err.ensures.value ∙ c.if-is_err.true) in
      inr (
        refl,
        record {
          refusal = failed.0;
          is = c.loop-run.invariant.asked (Some failed.0) c.lay_range.new.self.inner c.lay_range.new.store.inner
              (subst (λ (rs : List Run). Made g.B.Blob.leaves (run_calls rs) (Some failed.0) c.loop-run.self.inner c.loop-run.store.inner c.lay_range.new.self.inner c.lay_range.new.store.inner) (sym e)
              (inl (refl, subst (λ (a : Option Refusal). g.B.Blob.leaves (Write c.in-Some.run'.offset c.in-Some.run'.bytes.now true) c.loop-run.self.inner c.loop-run.store.inner a c.lay_range.new.self.inner c.lay_range.new.store.inner) failed.1 c.lay_range.ensures.asked)));
        },
      );
  recorded = later_refused _ true _ _ _ _ _ _ _ _ c.requires.current (returns-then-is_err-clause-indirect g c) c.loop-run.invariant.left c.lay_range.ensures.recorded;
  front = λ _.
      let e : runs_in c.loop-run.pieces.items ≡ run_of c.in-Some.run' ∷ runs_in c.pop.new.self.items = popped _ _ c.in-Some.run' c.in-Some.ensures.items in
      let failed = is_refused c.lay_range.result (sym c.is_err.ensures.value ∙ c.if-is_err.true) in
      front_refused g.B.Blob.leaves _ _ _ _ _ _ _ _ _ _ (run_of c.in-Some.run') (runs_in c.pop.new.self.items) failed.0 (rw e at c.loop-run.invariant.laid)
      (c.lay_range.ensures.recorded.refused refl (some_refusal (error_of c.lay_range.result) failed.0 failed.1))
      (subst (λ (a : Option Refusal). g.B.Blob.leaves (Write c.in-Some.run'.offset c.in-Some.run'.bytes.now true) c.loop-run.self.inner c.loop-run.store.inner a c.lay_range.new.self.inner c.lay_range.new.store.inner) failed.1 c.lay_range.ensures.asked);
}

pub returns-then-is_err-clause-some : goal.returns-then-is_err-clause-some
returns-then-is_err-clause-some g c none =
    let e : runs_in c.loop-run.pieces.items ≡ run_of c.in-Some.run' ∷ runs_in c.pop.new.self.items = popped _ _ c.in-Some.run' c.in-Some.ensures.items in
    let left : runs_in c.loop-run.pieces.items ≡ [] = c.loop-run.invariant.some none in
    let never : run_of c.in-Some.run' ∷ runs_in c.pop.new.self.items ≡ [] = sym e ∙ left in
    cc

pub returns-clause-laid : goal.returns-clause-laid
returns-clause-laid g c = record {
  asked =
      let none : runs_in c.loop-run.pieces.items ≡ [] = first_of (search rules, grind (arith, common_steps)) in
      inl (c.loop-run.invariant.asked None c.loop-run.self.inner c.loop-run.store.inner
      (subst (λ (rs : List Run). Made g.B.Blob.leaves (run_calls rs) None c.loop-run.self.inner c.loop-run.store.inner c.loop-run.self.inner c.loop-run.store.inner) (sym none) (refl, refl, refl)));
  recorded =
      let none : runs_in c.loop-run.pieces.items ≡ [] = first_of (search rules, grind (arith, common_steps)) in
      all_laid _ _ _ _ _ c.requires.current none c.loop-run.invariant.left;
  front = λ is. absurd (none-some WriteFailed is);
}

pub lay_range-requires-clause-room : goal.lay_range-requires-clause-room
lay_range-requires-clause-room g c =
    first_at g.S.Durable.place c.loop-run.store.lists.all.lists.items c.args.list (g.B.Blob.place c.loop-run.self.inner) (c.in-Some.run'.offset, c.in-Some.run'.offset + length c.in-Some.run'.bytes.now) (extents (runs_in c.pop.new.self.items))
    (subst (λ (rs : List Run). HasRoomAt g.S.Durable.place c.loop-run.store.lists.all.lists.items c.args.list (g.B.Blob.place c.loop-run.self.inner) (extents rs)) (popped _ _ c.in-Some.run' c.in-Some.ensures.items) c.loop-run.invariant.room)

pub loop-run-init : goal.loop-run-init
loop-run-init g c = record {
  room = c.requires.room;
  within = c.requires.within;
  some = λ none. none;
  left = record { live = refl; durable = refl; size = refl; logs = λ later k. k; directory = refl; place = refl; config = refl; rng = refl };
  laid = up_to_first g.B.Blob.leaves c.args.self.now.inner c.args.store.now.inner (view_of g.S.Durable g.B.Blob c.args.self.now c.args.store.now) (runs_in c.args.pieces.items);
  asked = λ answer x y made. made;
}

pub loop-run-preserved : goal.loop-run-preserved
loop-run-preserved g c =
    let i = c.loop-run.invariant in
    let l = c.lay_range.ensures in
    let ok : is_err c.lay_range.result ≡ false = sym c.is_err.ensures.value ∙ c.if-is_err.false in
    let rest : List Run = runs_in c.pop.new.self.items in
    let e : runs_in c.loop-run.pieces.items ≡ run_of c.in-Some.run' ∷ rest = popped _ _ c.in-Some.run' c.in-Some.ensures.items in
    let never : run_of c.in-Some.run' ∷ rest ≡ [] → runs_in c.pop.new.self.items ≡ [] = λ n. cc in
    record {
      room = ok_holds c.lay_range.result ok l.left (extents rest) (subst (λ (rs : List Run). HasRoomAt g.S.Durable.place c.loop-run.store.lists.all.lists.items c.args.list (g.B.Blob.place c.loop-run.self.inner) (extents rs)) e i.room);
      within = λ d. later_within _ _ (run_of c.in-Some.run') rest (ok_holds c.lay_range.result ok l.kept_room) (subst (λ (rs : List Run). All (EndsWithin (g.B.Blob.room c.loop-run.self.inner c.loop-run.store.inner)) rs) e (i.within d));
      some = λ none. never (sym e ∙ i.some none);
      left = one_less g.B.Blob.is_direct _ _ _ _ (run_of c.in-Some.run') rest (error_of c.lay_range.result) (is_done c.lay_range.result ok)
          (rw e at i.left) l.recorded;
      laid = up_to_next g.B.Blob.leaves _ _ _ _ _ _ _ _ _ _ (run_of c.in-Some.run') rest i.left.place (rw e at i.laid) (ok_holds c.lay_range.result ok l.laid)
          (subst (λ (a : Option Refusal). g.B.Blob.leaves (Write c.in-Some.run'.offset c.in-Some.run'.bytes.now true) c.loop-run.self.inner c.loop-run.store.inner a c.lay_range.new.self.inner c.lay_range.new.store.inner) (is_done c.lay_range.result ok) l.asked);
      asked = λ answer x y later. i.asked answer x y (subst (λ (rs : List Run). Made g.B.Blob.leaves (run_calls rs) answer c.loop-run.self.inner c.loop-run.store.inner x y) (sym e)
          (then_made g.B.Blob.leaves (Write c.in-Some.run'.offset c.in-Some.run'.bytes.now true) (run_calls rest) answer _ _ _ _ x y
          (subst (λ (a : Option Refusal). g.B.Blob.leaves (Write c.in-Some.run'.offset c.in-Some.run'.bytes.now true) c.loop-run.self.inner c.loop-run.store.inner a c.lay_range.new.self.inner c.lay_range.new.store.inner) (is_done c.lay_range.result ok) l.asked) later));
    }
