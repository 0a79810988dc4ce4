use Rattle.std.proofs.Common.{◌≡◌, true, rules}
use Rattle.blob_statuses.specs.Powers.{permits}
use Rattle.std.specs.Prelude.{◌==◌}
use Rattle.blob_statuses.specs.declared.ran.TheConstants.{DONE, POWER_LOSS}
use Rattle.blob_script.specs.Acts.{Through, Write}
use Rattle.blob_sessions.specs.Effects.{effect_of}
use Rattle.blob_sessions.specs.Sessions.{AnswersWrite}
use Rattle.blob_sessions.proofs.Supplying.{supplied}
use Rattle.blob_sessions.proofs.kept.Kept.supplied_write.Goals as goal

pub returns : goal.returns
returns c =
    let on : permits c.args.self.now.power c.changing-effect.result ≡ true = search rules in
    supplied c.args.self.now c.write-status.new.self _ (effect_of (Through c.args.handle (Write c.args.offset c.args.bytes.now c.args.sync))) c.changing-effect.result (c.write-status.result == DONE)
    (λ made. AnswersWrite c.args.self.now made c.args.handle c.args.offset c.args.bytes.now c.args.sync c.write-status.result) (c.write-status.result ≡ POWER_LOSS) c.follow.new.self c.changing-effect.ensures on c.write-status.ensures.writes c.write-status.ensures.power c.follow.ensures
