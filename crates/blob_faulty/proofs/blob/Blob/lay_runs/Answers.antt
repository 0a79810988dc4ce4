use Rattle.std.proofs.Common.{rules, ◌≡◌, ◌+◌, true, length, List, [], ◌∷◌, All, Option, None, inl, refl, sym, ◌∙◌, ap₂, subst, arith}
use Rattle.std.specs.Prelude.{IsSome}
use Rattle.std.proofs.lemmas.Grind.{common_steps}
use Rattle.std.proofs.lemmas.Option.{none-some}
use Rattle.blob_model.specs.Directory.{is_current}
use Rattle.blob_header.specs.Refusals.{Refusal, WriteFailed, error_of}
use Rattle.blob_model.specs.Runs.{Run}
use Rattle.blob_pending.specs.Lists.{HasRoomAt}
use Rattle.blob_faulty.specs.Pieces.{run_of, runs_in, extents, EndsWithin}
use Rattle.blob_faulty.specs.Writes.{View, LaidFront, Recorded, view_of, laid_runs}
use Rattle.blob_faulty.proofs.Adding.{bytes_some}
use Rattle.blob_pending.proofs.HoleRoom.{first_at}
use Rattle.blob_faulty.proofs.RunSteps.{not_stale, popped, later_within}
use Rattle.blob_base.specs.HandleCalls.{Write}
use Rattle.blob_faulty.specs.Asked.{Made, InnerMade, run_calls, or_failed}
use Rattle.blob_faulty.proofs.Asking.{then_failed}
use Rattle.blob_faulty.proofs.Fated.{first_allowed, laid_allowed}
use Rattle.blob_faulty.proofs.Fronts.{front_none, front_behind, some_refusal}
use Rattle.blob_faulty.proofs.Plainly.{first_refused}
use Rattle.blob_faulty.proofs.Writing.{no_runs, then_runs}
use Rattle.blob_faulty.proofs.blob.Blob.lay_runs.Goals as goal

pub lay_range-requires-clause-room : goal.lay_range-requires-clause-room
lay_range-requires-clause-room g c =
    first_at g.S.Durable.place c.args.store.now.lists.all.lists.items c.args.list (g.B.Blob.place c.args.self.now.inner) (c.in-Some.first.offset, c.in-Some.first.offset + length c.in-Some.first.bytes.now) (extents (runs_in c.pop.new.self.items))
    (subst (λ (rs : List Run). HasRoomAt g.S.Durable.place c.args.store.now.lists.all.lists.items c.args.list (g.B.Blob.place c.args.self.now.inner) (extents rs)) (popped _ _ c.in-Some.first c.in-Some.ensures.items) c.requires.room)

pub lay_later-requires-clause-room : goal.lay_later-requires-clause-room
lay_later-requires-clause-room g c =
    c.in_ok-lay_range.ensures.left (extents (runs_in c.pop.new.self.items)) (subst (λ (rs : List Run). HasRoomAt g.S.Durable.place c.args.store.now.lists.all.lists.items c.args.list (g.B.Blob.place c.args.self.now.inner) (extents rs)) (popped _ _ c.in-Some.first c.in-Some.ensures.items) c.requires.room)

pub lay_later-requires-clause-current : goal.lay_later-requires-clause-current
lay_later-requires-clause-current g c =
    let now : is_current (g.S.Durable.directory c.args.store.now.inner) (g.B.Blob.place c.args.self.now.inner) ≡ true =
    not_stale _ (λ stale. g.met.B.Blob.stale_refused c.args.self.now.inner c.args.store.now.inner c.in-Some.first.offset c.in-Some.first.bytes.now stale (bytes_some c.in-Some.first.bytes.now c.in-Some.first.some) c.in_ok-lay_range.ensures.allowed) in
    ap₂ is_current c.lay_range.ensures.recorded.wrote.directory c.lay_range.ensures.recorded.wrote.place ∙ now

pub lay_later-requires-clause-within : goal.lay_later-requires-clause-within
lay_later-requires-clause-within g c direct =
    let now : is_current (g.S.Durable.directory c.args.store.now.inner) (g.B.Blob.place c.args.self.now.inner) ≡ true =
    not_stale _ (λ stale. g.met.B.Blob.stale_refused c.args.self.now.inner c.args.store.now.inner c.in-Some.first.offset c.in-Some.first.bytes.now stale (bytes_some c.in-Some.first.bytes.now c.in-Some.first.some) c.in_ok-lay_range.ensures.allowed) in
    let e : runs_in c.args.pieces.items ≡ run_of c.in-Some.first ∷ runs_in c.pop.new.self.items = popped _ _ c.in-Some.first c.in-Some.ensures.items in
    later_within _ _ (run_of c.in-Some.first) (runs_in c.pop.new.self.items) c.in_ok-lay_range.ensures.kept_room
    (subst (λ (rs : List Run). All (EndsWithin (g.B.Blob.room c.args.self.now.inner c.args.store.now.inner)) rs) e (c.requires.within direct now))

pub returns-clause-laid : goal.returns-clause-laid
returns-clause-laid g c = record {
  asked =
      let e : runs_in c.args.pieces.items ≡ run_of c.in-Some.first ∷ runs_in c.pop.new.self.items = popped _ _ c.in-Some.first c.in-Some.ensures.items in
      subst (λ (rs : List Run). or_failed (λ a. Made g.B.Blob.leaves (run_calls rs) a c.args.self.now.inner c.args.store.now.inner c.lay_later.new.self.inner c.lay_later.new.store.inner) (error_of c.lay_later.result)) (sym e)
      (then_failed g.B.Blob.leaves (Write c.in-Some.first.offset c.in-Some.first.bytes.now true) (run_calls (runs_in c.pop.new.self.items)) (error_of c.lay_later.result) _ _ _ _ _ _ c.in_ok-lay_range.ensures.asked c.lay_later.ensures.laid.asked);
  recorded =
      let now : is_current (g.S.Durable.directory c.args.store.now.inner) (g.B.Blob.place c.args.self.now.inner) ≡ true =
      not_stale _ (λ stale. g.met.B.Blob.stale_refused c.args.self.now.inner c.args.store.now.inner c.in-Some.first.offset c.in-Some.first.bytes.now stale (bytes_some c.in-Some.first.bytes.now c.in-Some.first.some) c.in_ok-lay_range.ensures.allowed) in
      let e : runs_in c.args.pieces.items ≡ run_of c.in-Some.first ∷ runs_in c.pop.new.self.items = popped _ _ c.in-Some.first c.in-Some.ensures.items in
      let old : View g.row.R.Denot = view_of g.S.Durable g.B.Blob c.args.self.now c.args.store.now in
      let new : View g.row.R.Denot = view_of g.S.Durable g.B.Blob c.lay_later.new.self c.lay_later.new.store in
      subst (λ (rs : List Run). Recorded g.B.Blob.is_direct g.B.Blob.is_direct old new (laid_runs rs) (error_of c.lay_later.result)) (sym e)
      (then_runs g.B.Blob.is_direct old _ new (run_of c.in-Some.first) (runs_in c.pop.new.self.items) None c.lay_later.result refl c.lay_later.ensures.failed c.lay_later.ensures.indirect now c.in_ok-lay_range.ensures.recorded c.lay_later.ensures.laid.recorded);
  front = λ is.
      let e : runs_in c.args.pieces.items ≡ run_of c.in-Some.first ∷ runs_in c.pop.new.self.items = popped _ _ c.in-Some.first c.in-Some.ensures.items in
      subst (λ (rs : List Run). LaidFront g.S.Durable g.B.Blob c.args.self.now c.args.store.now c.lay_later.new.self c.lay_later.new.store rs) (sym e)
      (front_behind g.B.Blob.leaves _ _ _ _ _ _ _ _ _ (run_of c.in-Some.first) (runs_in c.pop.new.self.items) c.lay_range.ensures.recorded.wrote.place c.in_ok-lay_range.ensures.laid c.in_ok-lay_range.ensures.asked (c.lay_later.ensures.laid.front is));
}

pub returns-in_default-clause-laid : goal.returns-in_default-clause-laid
returns-in_default-clause-laid g c =
    let none : runs_in c.args.pieces.items ≡ [] = first_of (search rules, cc, grind (arith, common_steps)) in
    record {
      asked = subst (λ (rs : List Run). or_failed (InnerMade g.B.Blob c.args.self.now c.args.store.now c.args.self.now c.args.store.now (run_calls rs)) None) (sym none) (inl (refl, refl, refl));
      recorded = no_runs _ _ _ none;
      front = λ is. absurd (none-some WriteFailed is);
    }

pub returns-in_err-lay_range-clause-laid : goal.returns-in_err-lay_range-clause-laid
returns-in_err-lay_range-clause-laid g c =
    let r = c.lay_range in
    let e : runs_in c.args.pieces.items ≡ run_of c.in-Some.first ∷ runs_in c.pop.new.self.items = popped _ _ c.in-Some.first c.in-Some.ensures.items in
    let same : error_of r.result ≡ error_of c.from_residual.result = first_of (search rules, cc, grind (arith, common_steps)) in
    let some : IsSome (error_of c.from_residual.result) = first_of (search rules, cc, grind (arith, common_steps)) in
    let old : View g.row.R.Denot = view_of g.S.Durable g.B.Blob c.args.self.now c.args.store.now in
    let new : View g.row.R.Denot = view_of g.S.Durable g.B.Blob r.new.self r.new.store in
    record {
      asked = subst (λ (rs : List Run). or_failed (InnerMade g.B.Blob c.args.self.now c.args.store.now r.new.self r.new.store (run_calls rs)) (error_of c.from_residual.result)) (sym e)
          (inl (inl (some, subst (λ (a : Option Refusal). g.B.Blob.leaves (Write c.in-Some.first.offset c.in-Some.first.bytes.now true) c.args.self.now.inner c.args.store.now.inner a r.new.self.inner r.new.store.inner) same r.ensures.asked)));
      recorded = subst (λ (rs : List Run). Recorded g.B.Blob.is_direct g.B.Blob.is_direct old new (laid_runs rs) (error_of c.from_residual.result)) (sym e)
          (first_refused g.B.Blob.is_direct old new (run_of c.in-Some.first) (runs_in c.pop.new.self.items) (error_of c.from_residual.result) some
          (subst (λ (a : Option Refusal). Recorded g.B.Blob.is_direct true old new (laid_runs (run_of c.in-Some.first ∷ [])) a) same r.ensures.recorded));
      front = λ is.
          subst (λ (rs : List Run). LaidFront g.S.Durable g.B.Blob c.args.self.now c.args.store.now r.new.self r.new.store rs) (sym e)
          (front_none g.B.Blob.leaves _ _ _ _ _ _ (run_of c.in-Some.first) (runs_in c.pop.new.self.items) WriteFailed (r.ensures.recorded.refused refl (some_refusal (error_of r.result) WriteFailed (same ∙ is)))
          (subst (λ (a : Option Refusal). g.B.Blob.leaves (Write c.in-Some.first.offset c.in-Some.first.bytes.now true) c.args.self.now.inner c.args.store.now.inner a r.new.self.inner r.new.store.inner) (same ∙ is) r.ensures.asked));
    }

pub returns-clause-allowed : goal.returns-clause-allowed
returns-clause-allowed g c =
    laid_allowed (g.B.Blob.allows_write c.args.self.now.inner c.args.store.now.inner) g.B.Blob.is_direct (runs_in c.args.pieces.items) (run_of c.in-Some.first) (runs_in c.pop.new.self.items) c.lay_later.result (popped _ _ c.in-Some.first c.in-Some.ensures.items)
    c.in_ok-lay_range.ensures.allowed c.lay_later.ensures.failed c.lay_later.ensures.indirect c.lay_later.ensures.some

pub returns-in_err-lay_range-clause-allowed : goal.returns-in_err-lay_range-clause-allowed
returns-in_err-lay_range-clause-allowed g c =
    let same : error_of c.lay_range.result ≡ error_of c.from_residual.result = first_of (search rules, cc, grind (arith, common_steps)) in
    rw (sym same) (first_allowed (g.B.Blob.allows_write c.args.self.now.inner c.args.store.now.inner) g.B.Blob.is_direct (runs_in c.args.pieces.items) (run_of c.in-Some.first) (runs_in c.pop.new.self.items) (error_of c.lay_range.result) (popped _ _ c.in-Some.first c.in-Some.ensures.items)
    c.lay_range.ensures.allowed)
