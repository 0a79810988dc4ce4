use Rattle.std.proofs.Common.{rules, ◌≡◌, ◌∙◌, ◌++◌, ◌∷◌, [], ap, ap₂, sym, arith, ℕ, List, Bool, true, false, ◌-◌, ◌+◌, length, take, replicate}
use Rattle.std.proofs.lemmas.List.{take_all}
use Rattle.blob_model.specs.Draws.{front}
use Rattle.blob_draws.proofs.DrawSteps.{joined, front_more, front_lost, front_all}
use Rattle.blob_draws.proofs.selection.draw_front.Goals as goal

pub loop-i-preserved : goal.loop-i-preserved
loop-i-preserved g c =
    let told : c.push.new.self.items ≡ c.loop-i.chosen.items ++ true ∷ [] = search rules in
    let kept : c.sample.result ≡ true = search rules in
    record {
      len = search rules;
      room = search rules;
      drawn = ap (λ (xs : List Bool). joined xs (front c.args.rate (c.args.len - (c.loop-i.i + 1)) (g.R.Rng.stream c.sample.new.rng))) told
          ∙ front_more c.args.rate c.args.len c.loop-i.i _ _ c.loop-i.chosen.items c.sample.result (omega arith) c.sample.ensures kept ∙ c.loop-i.invariant.drawn;
    }

pub returns-then-not-sample : goal.returns-then-not-sample
returns-then-not-sample g c =
    let xs = c.loop-i.chosen.items in
    let lost : c.sample.result ≡ false = search rules in
    let size : length xs ≡ c.loop-i.i = search rules in
    let grown : c.resize.new.self.items ≡ take c.args.len xs ++ replicate (c.args.len - length xs) false = search rules in
    let all : c.resize.new.self.items ≡ xs ++ replicate (c.args.len - c.loop-i.i) false =
    grown ∙ ap₂ (λ (ys : List Bool) (n : ℕ). ys ++ replicate (c.args.len - n) false) (take_all c.args.len xs (omega arith)) size in
    front_lost c.args.rate c.args.len c.loop-i.i _ _ xs c.resize.new.self.items c.sample.result (omega arith) c.sample.ensures lost all ∙ c.loop-i.invariant.drawn

pub returns : goal.returns
returns g c = sym (front_all c.args.rate c.args.len c.loop-i.i (g.R.Rng.stream c.loop-i.rng) c.loop-i.chosen.items (omega arith)) ∙ c.loop-i.invariant.drawn
