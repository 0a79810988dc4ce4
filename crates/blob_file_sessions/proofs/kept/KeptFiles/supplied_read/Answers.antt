use Rattle.std.proofs.Common.{◌≡◌, true, length, rules}
use Rattle.blob_statuses.specs.Powers.{permits}
use Rattle.std.specs.Prelude.{◌==◌}
use Rattle.blob_statuses.specs.declared.ran.TheConstants.{DONE, POWER_LOSS}
use Rattle.blob_sessions.specs.Sessions.{stopped}
use Rattle.blob_file_sessions.specs.Calls.{Reads}
use Rattle.blob_file_sessions.specs.Effects.{kind_effect}
use Rattle.blob_file_sessions.specs.declared.kinds.TheConstants.{READ}
use Rattle.blob_file_sessions.proofs.Supplying.{supplied}
use Rattle.blob_file_sessions.proofs.kept.KeptFiles.supplied_read.Goals as goal

pub returns : goal.returns
returns c =
    let on : permits c.args.self.now.power c.effect_of_kind-effect.result ≡ true = search rules in
    supplied c.args.self.now c.read-ran.new.self (kind_effect READ) c.effect_of_kind-effect.result (c.read-ran.result.status == DONE)
    (λ made. Reads c.args.self.now c.args.descriptor c.args.offset (length c.args.into.now) made c.read-ran.result) ((c.read-ran.result ≡ stopped POWER_LOSS) × (c.read-ran.new.into ≡ c.args.into.now)) c.follow.new.self c.effect_of_kind-effect.ensures on c.read-ran.ensures.reads c.read-ran.ensures.power c.follow.ensures
