use Rattle.std.proofs.Common.{◌≡◌, Bool, true, false, ap, ◌∙◌, refl, rules}
use Rattle.blob_script.specs.Acts.{act_of}
use Rattle.blob_statuses.specs.Powers.{permits}
use Rattle.blob_statuses.specs.declared.effect.Effect.{Effect}
use Rattle.blob_sessions.specs.Effects.{effect_of}
use Rattle.blob_sessions.specs.Supplies.{after_last}
use Rattle.blob_sessions.specs.declared.kept.Kept.{Kept}
use Rattle.blob_sessions.proofs.Supplying.{permitted, refused}
use Rattle.blob_sessions.proofs.kept.Kept.run.Goals as goal

pub returns-then-not-permits : goal.returns-then-not-permits
returns-then-not-permits c =
    let off : permits c.args.self.now.power (effect_of (act_of c.args.call.now)) ≡ false = search rules in
    refused (permits c.args.self.now.power (effect_of (act_of c.args.call.now))) _ _ off (search rules, refl, refl)

pub returns : goal.returns
returns c =
    let on : permits c.args.self.now.power (effect_of (act_of c.args.call.now)) ≡ true = search rules in
    permitted (permits c.args.self.now.power (effect_of (act_of c.args.call.now))) _ _ on
    (record {
      made = c.make.new.self;
      followed = c.follow.new.self;
      reply = c.make.ensures.made.0;
      makes = c.make.ensures.made.1;
      reader = c.make.ensures.reader;
      power = c.make.ensures.power;
      follows = c.follow.ensures ∙ ap (λ (e : Effect). record c.make.new.self { power = after_last c.make.new.self e }) c.effect_of-effect.ensures;
      tells = c.tell.ensures;
    })
