use Rattle.std.proofs.Common.{◌∙◌, ap, sym}
use Rattle.blob_directory.specs.declared.table.Table.{Table}
use Rattle.blob_directory.specs.Tables.{bound}
use Rattle.blob_journal.proofs.Again.{open_twice}
use Rattle.blob_journal.proofs.journaled.Journaled.begin_anew.Goals as goal

pub returns-in_err-renew-clause-still : goal.returns-in_err-renew-clause-still
returns-in_err-renew-clause-still g c = open_twice _ _ _ c.find_names.ensures.still c.renew.ensures.still

pub returns-clause-names : goal.returns-clause-names
returns-clause-names g c = λ e.
    ap (λ (t : Table). bound t e) (sym c.find_names.ensures.keeps.names)
    ∙ sym (c.is_same.ensures c.if-not-is_same.false e)
    ∙ ap (λ (t : Table). bound t e) (sym c.in_ok-renew.ensures.done)

pub returns-clause-still : goal.returns-clause-still
returns-clause-still g c = open_twice _ _ _ c.find_names.ensures.still c.renew.ensures.still
