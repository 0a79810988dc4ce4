use Rattle.std.proofs.Common.{◌≡◌, true, rules}
use Rattle.blob_statuses.specs.Powers.{permits}
use Rattle.std.specs.Prelude.{◌==◌}
use Rattle.blob_statuses.specs.declared.ran.TheConstants.{DONE, POWER_LOSS}
use Rattle.blob_file_sessions.specs.Calls.{Writes}
use Rattle.blob_file_sessions.specs.Effects.{kind_effect}
use Rattle.blob_file_sessions.specs.declared.kinds.TheConstants.{WRITE}
use Rattle.blob_file_sessions.proofs.Supplying.{supplied}
use Rattle.blob_file_sessions.proofs.kept.KeptFiles.supplied_write.Goals as goal

pub returns : goal.returns
returns c =
    let on : permits c.args.self.now.power c.effect_of_kind-effect.result ≡ true = search rules in
    supplied c.args.self.now c.write-status.new.self (kind_effect WRITE) c.effect_of_kind-effect.result (c.write-status.result == DONE)
    (λ made. Writes c.args.self.now c.args.descriptor c.args.offset c.args.bytes.now made c.write-status.result) (c.write-status.result ≡ POWER_LOSS) c.follow.new.self c.effect_of_kind-effect.ensures on c.write-status.ensures.writes c.write-status.ensures.power c.follow.ensures
