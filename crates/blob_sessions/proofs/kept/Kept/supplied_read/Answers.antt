use Rattle.std.proofs.Common.{◌≡◌, true, length, rules}
use Rattle.blob_statuses.specs.Powers.{permits}
use Rattle.std.specs.Prelude.{◌==◌}
use Rattle.blob_statuses.specs.declared.ran.TheConstants.{DONE, POWER_LOSS}
use Rattle.blob_script.specs.Acts.{Read, Through}
use Rattle.blob_sessions.specs.Effects.{effect_of}
use Rattle.blob_sessions.specs.Sessions.{AnswersRead}
use Rattle.blob_sessions.proofs.Supplying.{supplied}
use Rattle.blob_sessions.proofs.kept.Kept.supplied_read.Goals as goal

pub returns : goal.returns
returns c =
    let on : permits c.args.self.now.power c.of_role-effect.result ≡ true = search rules in
    supplied c.args.self.now c.read-status.new.self _ (effect_of (Through c.args.handle (Read c.args.offset (length c.args.into.now)))) c.of_role-effect.result (c.read-status.result == DONE)
    (λ made. AnswersRead c.args.self.now made c.args.handle c.args.offset c.read-status.result c.args.into.now c.read-status.new.into) ((c.read-status.result ≡ POWER_LOSS) × (c.read-status.new.into ≡ c.args.into.now)) c.follow.new.self c.of_role-effect.ensures on c.read-status.ensures.reads c.read-status.ensures.power c.follow.ensures
