use Rattle.std.proofs.Common.{◌≡◌, [], List, length, nat_lt, get_or, ap, refl, sym, ◌∙◌}
use Rattle.std.proofs.lemmas.Bool.{false≢true, lt-ltb}
use Rattle.std.proofs.lemmas.List.{get_or_default}
use Rattle.blob_directory.specs.declared.unsettled.Unsettled.{Unsettled}
use Rattle.blob_directory.specs.Syncs.{moved_into}
use Rattle.blob_journal.proofs.Again.{adds_none, binds_at}
use Rattle.blob_journal.proofs.journaled.Journaled.bind_one.Goals as goal

pub returns-in_default-clause-bound : goal.returns-in_default-clause-bound
returns-in_default-clause-bound g c =
    let edits = c.args.self.now.unsettled.edits.items in
    record {
      more = [];
      adds = adds_none _ _ refl;
      bound = λ e low is. absurd (false≢true (c.in_default.ensures.lookup.0 ∙ ap (λ (l : List Unsettled). nat_lt c.args.at (length l)) c.as_slice.ensures ∙ lt-ltb c.args.at (length edits) low));
    }

pub returns-then-not-moved_into-clause-bound : goal.returns-then-not-moved_into-clause-bound
returns-then-not-moved_into-clause-bound g c =
    let edits = c.args.self.now.unsettled.edits.items in
    let edit = c.in-Some.edit.now in
    let here : edit ≡ get_or edits c.args.at edit = c.in-Some.ensures.lookup.1 ∙ ap (λ (l : List Unsettled). get_or l c.args.at edit) c.as_slice.ensures in
    record {
      more = [];
      adds = adds_none _ _ refl;
      bound = λ e low is moved.
          let same : e ≡ edit = is ∙ get_or_default edits c.args.at e edit low ∙ sym here in
          absurd (false≢true (c.if-not-moved_into.ensures ∙ ap (λ (u : Unsettled). moved_into c.args.directory u.about) (sym same) ∙ moved));
    }

pub returns-clause-bound : goal.returns-clause-bound
returns-clause-bound g c =
    let edits = c.args.self.now.unsettled.edits.items in
    let edit = c.in-Some.edit.now in
    let here : edit ≡ get_or edits c.args.at edit = c.in-Some.ensures.lookup.1 ∙ ap (λ (l : List Unsettled). get_or l c.args.at edit) c.as_slice.ensures in
    binds_at c.add_name.result c.args.self.now c.add_name.new.self c.args.at c.args.directory edit _ here c.in_ok-name.ensures c.add_name.ensures.added
