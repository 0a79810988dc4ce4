use Rattle.std.proofs.Common.{rules, ◌≡◌, ◌≢◌, ◌≤◌, List, [], length, Option, None, refl, inl, inr, sym, ◌∙◌, ap, ap₂, subst, arith}
use Rattle.std.specs.Prelude.{IsSome}
use Rattle.std.proofs.lemmas.Bool.{eqb-true}
use Rattle.std.proofs.lemmas.Grind.{common_steps}
use Rattle.blob_model.specs.Directory.{is_current}
use Rattle.blob_base.specs.HandleCalls.{Reserve}
use Rattle.blob_header.specs.Refusals.{Refusal, error_of}
use Rattle.blob_faulty.specs.Asked.{Asks, AsksRuns, InnerRefusedInRoom}
use Rattle.blob_faulty.proofs.Asking.{no_pieces, refused_room, laid_behind}
use Rattle.blob_model.specs.Runs.{Run, runs, AreRunsApart}
use Rattle.blob_faulty.specs.declared.write_runs.Piece.{Piece}
use Rattle.blob_draws.specs.Answers.{or_memory, allows_runs, last_end}
use Rattle.blob_faulty.specs.Pieces.{runs_in}
use Rattle.blob_faulty.specs.Writes.{View, Recorded, LaysFront, view_of, laid_runs}
use Rattle.blob_faulty.proofs.Plainly.{of_room_refused}
use Rattle.blob_faulty.proofs.FailedSteps.{no_runs_in, runs_of_none, end_by_last}
use Rattle.blob_faulty.proofs.Fated.{room_allowed}
use Rattle.blob_faulty.proofs.Fronts.{front_in_room, asked_of, never_failed}
use Rattle.blob_faulty.proofs.RunRoom.{sooner}
use Rattle.blob_faulty.proofs.Writing.{no_runs, runs_after}
use Rattle.blob_faulty.proofs.blob.Blob.lay_kept.Goals as goal

pub returns-then-is_empty-clause-allowed : goal.returns-then-is_empty-clause-allowed
returns-then-is_empty-clause-allowed g c =
    let none : runs c.args.offset c.args.bytes.now c.args.kept.now ≡ [] = runs_of_none c.args.offset c.args.bytes.now c.args.kept.now (eqb-true _ _ (sym c.is_empty.ensures ∙ c.if-is_empty.true)) in
    subst (λ (rs : List Run). or_memory (allows_runs (g.B.Blob.allows_write c.args.self.now.inner c.args.store.now.inner) (g.B.Blob.allows_reserve c.args.self.now.inner c.args.store.now.inner) g.B.Blob.is_direct rs) None) (sym none) (inr refl)

pub returns-then-is_empty-clause-laid : goal.returns-then-is_empty-clause-laid
returns-then-is_empty-clause-laid g c =
    no_runs _ _ _ (runs_of_none c.args.offset c.args.bytes.now c.args.kept.now (eqb-true _ _ (sym c.is_empty.ensures ∙ c.if-is_empty.true)))

pub reserve_runs-requires : goal.reserve_runs-requires
reserve_runs-requires g c =
    subst (λ (ps : List Piece). AreRunsApart 0 (runs_in ps)) (sym c.deref.ensures.value)
    (subst (λ (rs : List Run). AreRunsApart 0 rs) (sym c.in_ok-pieces.ensures.ok)
    (sooner c.args.offset _ (c.runs_are_choices.ensures.apart c.args.offset c.args.bytes.now c.args.kept.now)))

pub lay_runs-requires-clause-within : goal.lay_runs-requires-clause-within
lay_runs-requires-clause-within g c direct now k d h =
    let apart : AreRunsApart 0 (runs_in c.in_ok-pieces.pieces.items) = subst (λ (rs : List Run). AreRunsApart 0 rs) (sym c.in_ok-pieces.ensures.ok)
    (sooner c.args.offset _ (c.runs_are_choices.ensures.apart c.args.offset c.args.bytes.now c.args.kept.now)) in
    let room : last_end 0 (runs_in c.in_ok-pieces.pieces.items) ≤ g.B.Blob.room c.reserve_runs.new.self.inner c.reserve_runs.new.store.inner =
    subst (λ (ps : List Piece). last_end 0 (runs_in ps) ≤ g.B.Blob.room c.reserve_runs.new.self.inner c.reserve_runs.new.store.inner) c.deref.ensures.value
    (c.in_ok-list.ensures.room direct (sym (ap₂ is_current c.reserve_runs.ensures.unchanged.directory c.reserve_runs.ensures.unchanged.place) ∙ now)) in
    let ends = end_by_last 0 0 (runs_in c.in_ok-pieces.pieces.items) apart k d h in
    omega arith

pub returns-clause-laid : goal.returns-clause-laid
returns-clause-laid g c =
    let old : View g.row.R.Denot = view_of g.S.Durable g.B.Blob c.args.self.now c.args.store.now in
    let new : View g.row.R.Denot = view_of g.S.Durable g.B.Blob c.lay_runs.new.self c.lay_runs.new.store in
    let same : runs_in c.in_ok-pieces.pieces.items ≡ runs c.args.offset c.args.bytes.now c.args.kept.now = c.in_ok-pieces.ensures.ok in
    subst (λ (rs : List Run). Recorded g.B.Blob.is_direct g.B.Blob.is_direct old new (laid_runs rs) (error_of c.lay_runs.result)) same
    (runs_after g.B.Blob.is_direct g.B.Blob.is_direct old _ new (runs_in c.in_ok-pieces.pieces.items) (error_of c.lay_runs.result) c.reserve_runs.ensures.unchanged c.lay_runs.ensures.laid.recorded)

pub returns-then-is_empty-clause-asked : goal.returns-then-is_empty-clause-asked
returns-then-is_empty-clause-asked g c =
    subst (λ (rs : List Run). AsksRuns g.B.Blob c.args.self.now c.args.store.now c.args.self.now c.args.store.now rs None) (sym (runs_of_none c.args.offset c.args.bytes.now c.args.kept.now (eqb-true _ _ (sym c.is_empty.ensures ∙ c.if-is_empty.true)))) (inr (inl (refl, refl, refl)))

pub returns-then-is_empty-2-clause-asked : goal.returns-then-is_empty-2-clause-asked
returns-then-is_empty-2-clause-asked g c =
    let empty : length c.in_ok-pieces.pieces.items ≡ 0 = first_of (grind (arith, common_steps), search rules) in
    let none : runs c.args.offset c.args.bytes.now c.args.kept.now ≡ [] = no_runs_in c.in_ok-pieces.pieces.items _ empty c.in_ok-pieces.ensures.ok in
    subst (λ (rs : List Run). AsksRuns g.B.Blob c.args.self.now c.args.store.now c.args.self.now c.args.store.now rs None) (sym none) (inr (inl (refl, refl, refl)))

pub returns-in_err-list-clause-asked : goal.returns-in_err-list-clause-asked
returns-in_err-list-clause-asked g c =
    let r = c.reserve_runs in
    let told : runs_in c.deref.result.now ≡ runs c.args.offset c.args.bytes.now c.args.kept.now = ap runs_in c.deref.ensures.value ∙ c.in_ok-pieces.ensures.ok in
    let some : runs_in c.deref.result.now ≢ [] = λ none. (let empty : length c.deref.result.now ≡ 0 = no_pieces c.deref.result.now none in first_of (search rules, cc, grind (arith, common_steps))) in
    let same : error_of r.result ≡ error_of c.from_residual-in_err-list.result = first_of (search rules, cc, grind (arith, common_steps)) in
    let refusal : IsSome (error_of r.result) = first_of (search rules, cc, grind (arith, common_steps)) in
    subst (λ (a : Option Refusal). AsksRuns g.B.Blob c.args.self.now c.args.store.now r.new.self r.new.store (runs c.args.offset c.args.bytes.now c.args.kept.now) a) same
    (subst (λ (rs : List Run). AsksRuns g.B.Blob c.args.self.now c.args.store.now r.new.self r.new.store rs (error_of r.result)) told
    (refused_room g.B.Blob c.args.self.now c.args.store.now r.new.self r.new.store (runs_in c.deref.result.now) (error_of r.result) some refusal r.ensures.asked))

pub returns-clause-asked : goal.returns-clause-asked
returns-clause-asked g c =
    let r = c.lay_runs in
    let same : runs_in c.in_ok-pieces.pieces.items ≡ runs c.args.offset c.args.bytes.now c.args.kept.now = c.in_ok-pieces.ensures.ok in
    let some : runs_in c.in_ok-pieces.pieces.items ≢ [] = λ none. (let empty : length c.in_ok-pieces.pieces.items ≡ 0 = no_pieces c.in_ok-pieces.pieces.items none in first_of (search rules, cc, grind (arith, common_steps))) in
    subst (λ (rs : List Run). AsksRuns g.B.Blob c.args.self.now c.args.store.now r.new.self r.new.store rs (error_of r.result)) same
    (laid_behind g.B.Blob c.args.self.now c.args.store.now r.new.self r.new.store c.reserve_runs.new.self c.reserve_runs.new.store (runs_in c.in_ok-pieces.pieces.items) (error_of r.result) some
    (subst (λ (ps : List Piece). Asks g.B.Blob c.args.self.now c.args.store.now c.reserve_runs.new.self c.reserve_runs.new.store (Reserve (last_end 0 (runs_in ps))) None) c.deref.ensures.value c.in_ok-list.ensures.asked) r.ensures.laid.asked)

pub returns-in_err-list-clause-front : goal.returns-in_err-list-clause-front
returns-in_err-list-clause-front g c is =
    let r = c.reserve_runs in
    let same : error_of r.result ≡ error_of c.from_residual-in_err-list.result = first_of (search rules, cc, grind (arith, common_steps)) in
    let end = last_end 0 (runs_in c.deref.result.now) in
    absurd (never_failed (g.B.Blob.allows_reserve c.args.self.now.inner c.args.store.now.inner end) (error_of r.result) (λ refusal. g.met.B.Blob.reserve_refused c.args.self.now.inner c.args.store.now.inner end refusal) (same ∙ is) r.ensures.allowed)

pub returns-clause-front : goal.returns-clause-front
returns-clause-front g c is =
    let r = c.lay_runs in
    let same : runs_in c.in_ok-pieces.pieces.items ≡ runs c.args.offset c.args.bytes.now c.args.kept.now = c.in_ok-pieces.ensures.ok in
    let room : Asks g.B.Blob c.args.self.now c.args.store.now c.reserve_runs.new.self c.reserve_runs.new.store (Reserve (last_end 0 (runs_in c.in_ok-pieces.pieces.items))) None =
    subst (λ (ps : List Piece). Asks g.B.Blob c.args.self.now c.args.store.now c.reserve_runs.new.self c.reserve_runs.new.store (Reserve (last_end 0 (runs_in ps))) None) c.deref.ensures.value c.in_ok-list.ensures.asked in
    subst (λ (rs : List Run). LaysFront (InnerRefusedInRoom g.B.Blob c.args.self.now c.args.store.now r.new.self r.new.store rs) (view_of g.S.Durable g.B.Blob c.args.self.now c.args.store.now) (view_of g.S.Durable g.B.Blob r.new.self r.new.store) rs) same
    (front_in_room g.B.Blob.leaves _ _ _ _ _ _ _ _ _ (runs_in c.in_ok-pieces.pieces.items) c.reserve_runs.ensures.unchanged (asked_of g.B.Blob c.args.self.now c.args.store.now c.reserve_runs.new.self c.reserve_runs.new.store room) (r.ensures.laid.front is))

pub returns-then-is_empty-2-clause-laid : goal.returns-then-is_empty-2-clause-laid
returns-then-is_empty-2-clause-laid g c =
    let empty : length c.in_ok-pieces.pieces.items ≡ 0 = first_of (grind (arith, common_steps), search rules) in
    let none : runs c.args.offset c.args.bytes.now c.args.kept.now ≡ [] = no_runs_in c.in_ok-pieces.pieces.items _ empty c.in_ok-pieces.ensures.ok in
    no_runs _ _ _ none

pub returns-then-is_empty-2-clause-allowed : goal.returns-then-is_empty-2-clause-allowed
returns-then-is_empty-2-clause-allowed g c =
    let empty : length c.in_ok-pieces.pieces.items ≡ 0 = first_of (grind (arith, common_steps), search rules) in
    let none : runs c.args.offset c.args.bytes.now c.args.kept.now ≡ [] = no_runs_in c.in_ok-pieces.pieces.items _ empty c.in_ok-pieces.ensures.ok in
    subst (λ (rs : List Run). or_memory (allows_runs (g.B.Blob.allows_write c.args.self.now.inner c.args.store.now.inner) (g.B.Blob.allows_reserve c.args.self.now.inner c.args.store.now.inner) g.B.Blob.is_direct rs) None) (sym none) (inr refl)

pub returns-in_err-list-clause-laid : goal.returns-in_err-list-clause-laid
returns-in_err-list-clause-laid g c =
    let r = c.reserve_runs in
    let same : error_of r.result ≡ error_of c.from_residual-in_err-list.result = first_of (search rules, cc, grind (arith, common_steps)) in
    let some : IsSome (error_of r.result) = first_of (search rules, cc, grind (arith, common_steps)) in
    let end = last_end 0 (runs_in c.deref.result.now) in
    rw (sym same) (of_room_refused _ _ _ _ (g.B.Blob.allows_reserve c.args.self.now.inner c.args.store.now.inner end) (error_of r.result) some (λ refusal. g.met.B.Blob.reserve_refused c.args.self.now.inner c.args.store.now.inner end refusal) r.ensures.allowed r.ensures.unchanged)

pub returns-in_err-list-clause-allowed : goal.returns-in_err-list-clause-allowed
returns-in_err-list-clause-allowed g c =
    let r = c.reserve_runs in
    let told : runs_in c.deref.result.now ≡ runs c.args.offset c.args.bytes.now c.args.kept.now = ap runs_in c.deref.ensures.value ∙ c.in_ok-pieces.ensures.ok in
    let same : error_of r.result ≡ error_of c.from_residual-in_err-list.result = first_of (search rules, cc, grind (arith, common_steps)) in
    let refusal : IsSome (error_of r.result) = first_of (search rules, cc, grind (arith, common_steps)) in
    let some : runs_in c.deref.result.now ≢ [] = λ none. (let empty : length c.deref.result.now ≡ 0 = no_pieces c.deref.result.now none in first_of (grind (arith, common_steps), cc)) in
    rw (sym same) (room_allowed (g.B.Blob.allows_write c.args.self.now.inner c.args.store.now.inner) (g.B.Blob.allows_reserve c.args.self.now.inner c.args.store.now.inner) g.B.Blob.is_direct _ (runs_in c.deref.result.now) (error_of r.result) told some refusal r.ensures.allowed)
