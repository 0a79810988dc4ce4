use Rattle.std.proofs.Common.{rules, ◌≡◌, ◌∙◌, ◌++◌, ◌∷◌, [], ap, sym, arith, List, Bool, ◌-◌, ◌+◌}
use Rattle.blob_model.specs.Draws.{each}
use Rattle.blob_draws.proofs.DrawSteps.{joined, each_more, each_all}
use Rattle.blob_draws.proofs.selection.draw_each.Goals as goal

pub loop-i-preserved : goal.loop-i-preserved
loop-i-preserved g c =
    let told : c.push.new.self.items ≡ c.loop-i.chosen.items ++ c.sample.result ∷ [] = search rules in
    record {
      room = omega arith;
      drawn = ap (λ (xs : List Bool). joined xs (each c.args.rate (c.args.len - (c.loop-i.i + 1)) (g.R.Rng.stream c.sample.new.rng))) told
          ∙ each_more c.args.rate c.args.len c.loop-i.i _ _ c.loop-i.chosen.items c.sample.result (omega arith) c.sample.ensures ∙ c.loop-i.invariant.drawn;
    }

pub returns : goal.returns
returns g c = sym (each_all c.args.rate c.args.len c.loop-i.i (g.R.Rng.stream c.loop-i.rng) c.loop-i.chosen.items (omega arith)) ∙ c.loop-i.invariant.drawn
