use Rattle.std.proofs.Common.{◌≡◌, List, ℕ, Some, ap₂, subst, sym, ◌∙◌}
use Rattle.blob_directory.specs.declared.table.Table.{Table}
use Rattle.blob_directory.specs.Tables.{bound}
use Rattle.blob_fs.specs.declared.file_system.FileSystem.{FileSystem}
use Rattle.blob_fs.specs.Files.{names_of}
use Rattle.blob_fs.specs.Below.{StaysApart}
use Rattle.blob_fs.proofs.Below.{stays_apart}
use Rattle.blob_fs.proofs.Calls.{always_ok, either, grows_leaves, grows_renames, on_err, on_ok}
use Rattle.blob_fs.proofs.Renaming.{Before, leaves_from, renames_at, renames_from}
use Rattle.blob_fs.proofs.States.{rest_before}
use Rattle.blob_fs.proofs.file_system.FileSystem.rename_at.Goals as goal

pub rename_free-requires : goal.rename_free-requires
rename_free-requires g c = record {
  bound = subst (λ (l : List ℕ). names_of c.begin_call.new.self l ≡ Some c.in_ok-moved.moved) c.deref.ensures.value c.in_ok-moved.ensures;
  free = ap₂ (λ (t : Table) (l : List ℕ). bound t l) (sym c.names.ensures) (sym c.deref-2.ensures.value) ∙ sym c.get-there.ensures ∙ c.in-None.is;
}

pub rename_taken-requires : goal.rename_taken-requires
rename_taken-requires g c = record {
  bound = subst (λ (l : List ℕ). names_of c.begin_call.new.self l ≡ Some c.in_ok-moved.moved) c.deref.ensures.value c.in_ok-moved.ensures;
  taken = ap₂ (λ (t : Table) (l : List ℕ). bound t l) (sym c.names.ensures) (sym c.deref-2.ensures.value) ∙ sym c.get-there.ensures ∙ c.in-Some.is;
}

pub returns-in-None : goal.returns-in-None
returns-in-None g c =
    let fs : FileSystem g.row.R.Denot = c.args.self.now in
    let one : FileSystem g.row.R.Denot = c.begin_call.new.self in
    let two : FileSystem g.row.R.Denot = c.rename_free.new.self in
    let b : Before fs one = record { keeps = c.begin_call.ensures.keeps; unsettled = c.in_ok-begin_call.ensures.journal.unsettled } in
    let r = c.rename_free.result in
    let renamed = on_ok r c.rename_free.ensures.renamed c.rename_free.ensures.renamed (λ x _.
    renames_at c.args.how _ _ _ _ _ _ fs two c.in_ok-old.ensures c.in_ok-new.ensures (renames_from c.args.how _ _ _ _ fs one two b x)) in
    let apart : StaysApart fs c.args.from.0 c.args.from.1.now c.args.to.0 = stays_apart fs one c.args.from.0 c.args.from.1.now c.args.to.0 c.in_ok-moved.moved
    (subst (λ (l : List ℕ). names_of one l ≡ Some c.in_ok-moved.moved) (c.deref.ensures.value ∙ c.in_ok-old.ensures) c.in_ok-moved.ensures)
    c.begin_call.ensures.keeps.names c.begin_call.ensures.directories c.in_ok-check_move.ensures in
    let refused = on_err r c.rename_free.ensures.refused c.rename_free.ensures.refused (λ x _. leaves_from fs one two b x) in
    record {
      renamed = renamed;
      apart = always_ok r apart;
      refused = refused;
      grows = either r renamed refused (λ x. grows_renames c.args.how _ _ _ _ fs two x) (λ l. grows_leaves fs two l);
      rest = rest_before c.begin_call.ensures.keeps c.rename_free.ensures.rest;
    }

pub returns-in-Some : goal.returns-in-Some
returns-in-Some g c =
    let fs : FileSystem g.row.R.Denot = c.args.self.now in
    let one : FileSystem g.row.R.Denot = c.begin_call.new.self in
    let two : FileSystem g.row.R.Denot = c.rename_taken.new.self in
    let b : Before fs one = record { keeps = c.begin_call.ensures.keeps; unsettled = c.in_ok-begin_call.ensures.journal.unsettled } in
    let r = c.rename_taken.result in
    let renamed = on_ok r c.rename_taken.ensures.renamed c.rename_taken.ensures.renamed (λ x _.
    renames_at c.args.how _ _ _ _ _ _ fs two c.in_ok-old.ensures c.in_ok-new.ensures (renames_from c.args.how _ _ _ _ fs one two b x)) in
    let apart : StaysApart fs c.args.from.0 c.args.from.1.now c.args.to.0 = stays_apart fs one c.args.from.0 c.args.from.1.now c.args.to.0 c.in_ok-moved.moved
    (subst (λ (l : List ℕ). names_of one l ≡ Some c.in_ok-moved.moved) (c.deref.ensures.value ∙ c.in_ok-old.ensures) c.in_ok-moved.ensures)
    c.begin_call.ensures.keeps.names c.begin_call.ensures.directories c.in_ok-check_move.ensures in
    let refused = on_err r c.rename_taken.ensures.refused c.rename_taken.ensures.refused (λ x _. leaves_from fs one two b x) in
    record {
      renamed = renamed;
      apart = always_ok r apart;
      refused = refused;
      grows = either r renamed refused (λ x. grows_renames c.args.how _ _ _ _ fs two x) (λ l. grows_leaves fs two l);
      rest = rest_before c.begin_call.ensures.keeps c.rename_taken.ensures.rest;
    }
