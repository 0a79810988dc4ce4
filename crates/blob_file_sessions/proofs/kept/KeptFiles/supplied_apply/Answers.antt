use Rattle.std.proofs.Common.{◌≡◌, true, rules}
use Rattle.blob_statuses.specs.Powers.{permits}
use Rattle.std.specs.Prelude.{◌==◌}
use Rattle.blob_statuses.specs.declared.ran.TheConstants.{DONE, POWER_LOSS}
use Rattle.blob_file_sessions.specs.Calls.{Answers}
use Rattle.blob_file_sessions.specs.Effects.{kind_effect}
use Rattle.blob_file_sessions.specs.Replies.{no_reply}
use Rattle.blob_file_sessions.proofs.Supplying.{supplied}
use Rattle.blob_file_sessions.proofs.kept.KeptFiles.supplied_apply.Goals.{else-self-via-then-self+else-not-permits, else-self-via-else-self}
use Rattle.blob_file_sessions.proofs.kept.KeptFiles.supplied_apply.Goals as goal

pub returns : goal.returns
returns c =
    let on : permits c.args.self.now.power c.effect_of_kind-2.result ≡ true = elim c.else-self.branch [
      | else-self-via-then-self+else-not-permits w ↦ first_of (search rules, cc)
      | else-self-via-else-self w ↦ first_of (search rules, cc)
    ] in
    supplied c.args.self.now c.apply-reply.new.self (kind_effect c.args.asked.now.kind) c.effect_of_kind-2.result (c.apply-reply.result.status == DONE)
    (λ made. Answers c.args.self.now c.args.asked.now c.args.path.now c.args.to.now made c.apply-reply.result) (c.apply-reply.result ≡ no_reply POWER_LOSS) c.follow.new.self c.effect_of_kind-2.ensures on c.apply-reply.ensures.answers c.apply-reply.ensures.power c.follow.ensures
