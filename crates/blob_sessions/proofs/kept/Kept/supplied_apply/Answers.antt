use Rattle.std.proofs.Common.{◌≡◌, true, rules}
use Rattle.blob_statuses.specs.Powers.{permits}
use Rattle.std.specs.Prelude.{◌==◌}
use Rattle.blob_statuses.specs.declared.ran.TheConstants.{DONE, POWER_LOSS}
use Rattle.blob_sessions.specs.Applying.{Applies}
use Rattle.blob_sessions.specs.Effects.{kind_effect}
use Rattle.blob_sessions.specs.Typed.{without_reply}
use Rattle.blob_sessions.proofs.Supplying.{supplied}
use Rattle.blob_sessions.proofs.kept.Kept.supplied_apply.Goals.{else-self-via-then-self+else-not-permits, else-self-via-else-self}
use Rattle.blob_sessions.proofs.kept.Kept.supplied_apply.Goals as goal

pub returns : goal.returns
returns c =
    let on : permits c.args.self.now.power c.effect_of_kind-2.result ≡ true = elim c.else-self.branch [
      | else-self-via-then-self+else-not-permits w ↦ first_of (search rules, cc)
      | else-self-via-else-self w ↦ first_of (search rules, cc)
    ] in
    supplied c.args.self.now c.apply-reply.new.self _ (kind_effect c.args.asked.now.kind) c.effect_of_kind-2.result (c.apply-reply.result.status == DONE)
    (λ made. Applies c.args.self.now made c.args.asked.now c.args.partition.now c.args.name.now c.apply-reply.result) (c.apply-reply.result ≡ without_reply POWER_LOSS) c.follow.new.self c.effect_of_kind-2.ensures on c.apply-reply.ensures.applies c.apply-reply.ensures.power c.follow.ensures
