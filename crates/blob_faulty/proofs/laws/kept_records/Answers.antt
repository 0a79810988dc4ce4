use Rattle.blob_faulty.proofs.Adding.{keeps_stands}
use Rattle.blob_faulty.proofs.laws.kept_records.Goals as goal

pub returns : goal.returns
returns g c names names_after bytes bytes_after old new files named same kept s = keeps_stands g.S.Durable.place names names_after bytes bytes_after old new files named same kept s
