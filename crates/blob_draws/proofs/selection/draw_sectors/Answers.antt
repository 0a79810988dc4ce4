use Rattle.std.proofs.Common.{rules, ◌≡◌, ◌∙◌, ◌⊎◌, ◌++◌, ◌+◌, ◌-◌, ◌%◌, ap, ap₂, sym, arith, ℕ, Bool, List, length, replicate, take, true, false, inl, inr, ⊎_elim}
use Rattle.std.proofs.lemmas.Bool.{cases_lt}
use Rattle.std.proofs.lemmas.List.{take_all}
use Rattle.std.proofs.lemmas.Nat.{mod_below}
use Rattle.blob_model.specs.Draws.{sectors}
use Rattle.blob_draws.proofs.DrawSteps.{joined, sector_more, sectors_all}
use Rattle.blob_draws.proofs.selection.draw_sectors.Goals as goal

pub loop-done-preserved : goal.loop-done-preserved
loop-done-preserved g c =
    let size = c.args.size in
    let len = c.args.len in
    let done = c.loop-done.done in
    let xs = c.loop-done.chosen.items in
    let k : ℕ = c.min-count.result in
    let b = c.sample-is_kept.result in
    let at : ℕ = c.args.offset + done in
    let below = mod_below at size c.requires.some in
    let count : length xs ≡ done = search rules in
    let grown : c.resize.new.self.items ≡ take (done + k) xs ++ replicate (done + k - length xs) b = search rules in
    let left : done + k - length xs ≡ k = omega (arith, count) in
    let items : c.resize.new.self.items ≡ xs ++ replicate k b =
    grown ∙ ap₂ (λ (ys : List Bool) (n : ℕ). ys ++ replicate n b) (take_all (done + k) xs (omega (arith, count))) left in
    let ends : (done + k ≡ len) ⊎ (at % size + k ≡ size) = ⊎_elim (λ lt. inl (omega arith)) (λ ge. inr (omega (arith, below))) (cases_lt (len - done) (size - at % size)) in
    record {
      len = search rules;
      within = omega arith;
      room = search rules;
      drawn = ap (λ (ys : List Bool). joined ys (sectors c.args.rate size (c.args.offset + (done + k)) true false (len - (done + k)) (g.R.Rng.stream c.sample-is_kept.new.rng))) items
          ∙ sector_more c.args.rate size c.args.offset len done k _ _ xs b c.requires.some (omega (arith, below)) (omega arith) (omega (arith, below)) ends c.sample-is_kept.ensures ∙ c.loop-done.invariant.drawn;
    }

pub returns : goal.returns
returns g c = sym (sectors_all c.args.rate c.args.size (c.args.offset + c.loop-done.done) c.args.len c.loop-done.done _ _ (g.R.Rng.stream c.loop-done.rng) c.loop-done.chosen.items (omega arith)) ∙ c.loop-done.invariant.drawn
