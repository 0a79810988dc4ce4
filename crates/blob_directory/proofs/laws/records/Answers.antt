use Rattle.blob_directory.proofs.Records.{names_fit, round_trip}
use Rattle.blob_directory.proofs.laws.records.Goals as goal

pub returns : goal.returns
returns c = record { trip = round_trip; fit = names_fit }
