use Rattle.std.proofs.Common.{rules, ◌≡◌, ℕ, Bool, Option, Some, Vec, MatchOption, option_map, get_or, length, ◌<◌, ap, sym, ◌∙◌, subst}
use Rattle.std.specs.Global.{Global}
use Rattle.std.specs.Prelude.{slice_get}
use Rattle.std.proofs.lemmas.Option.{slice_get-get_or}
use Rattle.blob_draws.specs.Rows.{row_in, rows_of}
use Rattle.blob_fs.specs.declared.crash.Crash.{Crash}
use Rattle.blob_model.specs.Draws.{Row}
use Rattle.blob_sessions.specs.Parts.{no_run, run_from}
use Rattle.blob_sessions.specs.declared.parts.KeptRun.{KeptRun}
use Rattle.blob_statuses.specs.declared.ran.TheConstants.{OTHER_REPLY}
use Rattle.blob_file_sessions.specs.LastParts.{FindsRow, of_last, rows_in}
use Rattle.blob_fs.specs.declared.reply.Reply.{Reply}
use Rattle.blob_fs.specs.declared.reply.Reply.TheVariants.{Crashed}
use Rattle.blob_file_sessions.proofs.kept.KeptFiles.kept_run.Goals as goal

finds : (last : Option Reply) (crash : Crash) (row from : ℕ) (run : KeptRun) (found : ℕ × Vec Bool Global) → last ≡ Some (Crashed crash) → slice_get (rows_of crash.rows) row ≡ Some found
    → run ≡ run_from from (row_in found) → FindsRow last row from run
finds last crash row from run found is lookup same =
    let e : option_map row_in (slice_get (of_last rows_in last) row) ≡ Some (row_in found) = ap (λ l. option_map row_in (slice_get (of_last rows_in l) row)) is ∙ ap (option_map row_in) lookup in
    subst (λ (o : Option Row). MatchOption o (run ≡ no_run OTHER_REPLY) (λ r. run ≡ run_from from r)) (sym e) same

pub returns : goal.returns
returns c =
    let found = c.in-Some.field-0.now in let h = c.in-Some.ensures.lookup in
    let rows : c.rows.result.now ≡ rows_of c.in-Some-Crashed.crash.rows = search rules in
    let lt : c.args.row < length c.rows.result.now = search rules in
    let is : found ≡ get_or c.rows.result.now c.args.row found = search rules in
    let lookup = slice_get-get_or c.rows.result.now c.args.row found lt ∙ ap Some (sym is) in
    finds c.args.self.now.last c.in-Some-Crashed.crash c.args.row c.args.from c.run_of.result found (search rules) (ap (λ xs. slice_get xs c.args.row) (sym rows) ∙ lookup) (search rules)
