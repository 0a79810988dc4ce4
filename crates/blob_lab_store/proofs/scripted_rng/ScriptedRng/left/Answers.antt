use Rattle.std.proofs.Common.{rules, arith, ℕ, ◌≡◌, ◌≢◌, get_or, drop, ◌-◌, ◌<◌, Option, None, Some, is_some, List, sym, subst, true≢false, refl, false}
use Rattle.std.proofs.lemmas.Grind.{get_or_default_zero}
use Rattle.blob_lab_model.specs.Scripted.{Left, scripted_stream}
use Rattle.blob_tree.specs.WordsLeft.{EndsAfter}
use Rattle.blob_lab_store.proofs.WordsLeft.{ends_after}
use Rattle.blob_lab_store.proofs.scripted_rng.ScriptedRng.left.Goals as goal
use Rattle.blob_lab_store.proofs.scripted_rng.ScriptedRng.left.Goals.{then-loop-end-test+else-index-eq0, else-loop-end-test}

none_of : {X : Type 0} (o : Option X) → is_some o ≡ false → o ≡ None
none_of None e = refl
none_of (Some x) e = absurd (true≢false e)

pub returns-clause-left : goal.returns-clause-left
returns-clause-left c =
    let none : c.self.inside.behind ≡ None = none_of c.self.inside.behind (search rules) in
    let last : c.self.inside.at < c.loop-end.end → get_or c.self.inside.words.items (c.loop-end.end - 1) 0 ≢ 0 =
    elim c.loop-end-test.branch [ then-loop-end-test+else-index-eq0 w ↦ (λ lt e. grind (arith, get_or_default_zero)) | else-loop-end-test w ↦ (λ lt e. grind arith) ] in
    let ends = ends_after c.self.inside.words.items c.self.inside.at c.loop-end.end c.loop-end.invariant.least c.loop-end.invariant.zeros last in
    let P : Option (List ℕ) → Type 0 = λ b. EndsAfter (scripted_stream (drop c.self.inside.at c.self.inside.words.items, b)) (c.loop-end.end - c.self.inside.at) in
    let done = subst P (sym none) ends in
    let Q : Left → Type 0 = λ v. EndsAfter (scripted_stream v) (c.loop-end.end - c.self.inside.at) in
    subst Q c.self.view_is done
