use Rattle.std.proofs.Common.{◌≡◌, Bool, true, false, ap, sym, ◌∙◌}
use Rattle.std.proofs.lemmas.Bool.{true≢false}
use Rattle.blob_fs.specs.declared.switches.FailedWrite.{FailedWrite}
use Rattle.blob_fs.specs.declared.switches.FailedWrite.TheVariants.{ByMode, Prefix}
use Rattle.blob_fs.proofs.Calls.{always_ok, on_ok}
use Rattle.blob_fs.proofs.Cutting.{on_map}
use Rattle.blob_fs.proofs.Reading.{shows_written}
use Rattle.blob_fs.proofs.writes.write_blob.Goals as goal

abbrev is_by_mode : FailedWrite → Bool
is_by_mode ByMode = true
is_by_mode Prefix = false

one_mode : (how : FailedWrite) → how ≡ Prefix → how ≡ ByMode → ⊥
one_mode how prefix by_mode = true≢false (sym (ap is_by_mode by_mode) ∙ ap is_by_mode prefix)

pub returns-in-ByMode-clause-recorded : goal.returns-in-ByMode-clause-recorded
returns-in-ByMode-clause-recorded g c = on_ok c.write_file.result c.write_file.ensures.recorded c.write_file.ensures.recorded (λ r _ by_mode. r)

pub returns-in-Prefix-clause-recorded : goal.returns-in-Prefix-clause-recorded
returns-in-Prefix-clause-recorded g c = always_ok c.write_by_prefix.result (λ by_mode. absurd (one_mode c.args.how c.in-Prefix.is by_mode))

pub returns-in-ByMode-clause-shows : goal.returns-in-ByMode-clause-shows
returns-in-ByMode-clause-shows g c = on_map c.write_file.result c.write_file.ensures.written (λ written by_mode.
    shows_written c.args.offset c.args.bytes.now c.args.store.now c.write_file.new.self c.args.blob.now c.write_file.new.file written)
