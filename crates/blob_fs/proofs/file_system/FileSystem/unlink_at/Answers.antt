use Rattle.std.proofs.Common.{Option, ap₂, ◌≡◌, ◌∷◌, [], ℕ, None, Some, ap, pred, subst, sym, ◌∙◌, List}
use Rattle.std.specs.Prelude.{option_map, unwrap_or}
use Rattle.blob_directory.specs.declared.edit.Binding.{Binding}
use Rattle.blob_directory.specs.declared.table.Table.{Table}
use Rattle.blob_directory.specs.Tables.{bound}
use Rattle.blob_directory.specs.Names.{entry, Same, edited, file}
use Rattle.blob_fs.specs.Files.{about_name, names_of}
use Rattle.std.specs.BTreeMap.{BTreeMap, get}
use Rattle.std.specs.Ordering.{nat_cmp}
use Rattle.blob_directory.specs.Counts.{NamedAtMost}
use Rattle.blob_fs.specs.declared.file_system.File as fs_file
use Rattle.blob_fs.specs.Named.{links_in}
use Rattle.blob_fs.proofs.Naming.{file_is}
use Rattle.blob_fs.proofs.Named.{edit_is, freed, one_freed}
use Rattle.blob_fs.proofs.Noting.{noted_between}
use Rattle.blob_fs.specs.declared.file_system.Options.{Options}
use Rattle.blob_fs.proofs.States.{makes_after, rest_after, rest_before}
use Rattle.blob_fs.proofs.file_system.FileSystem.unlink_at.Goals as goal

pub returns-in_err-make-in-File-clause-rest : goal.returns-in_err-make-in-File-clause-rest
returns-in_err-make-in-File-clause-rest g c = rest_before c.begin_call.ensures.keeps c.make.ensures.rest

pub returns-in_ok-make-in-File-clause-rest : goal.returns-in_ok-make-in-File-clause-rest
returns-in_ok-make-in-File-clause-rest g c = rest_after (rest_before c.begin_call.ensures.keeps c.make.ensures.rest) c.drop_link.ensures.keeps

pub make-requires : goal.make-requires
make-requires g c =
    let one = c.begin_call.new.self in
    record {
      fits = freed (names_of one) _ one.files _ (edit_is (names_of one) _ _ c.one.ensures) one.named;
    }

pub drop_link-requires : goal.drop_link-requires
drop_link-requires g c =
    let one = c.begin_call.new.self in
    let two = c.make.new.self in
    let was = c.in_ok-was.was' in
    let bound : names_of one c.in_ok-entry.entry.items ≡ Some (file was.inode) = ap (names_of one) (sym c.deref.ensures.value) ∙ c.in_ok-was.ensures ∙ ap Some (file_is was c.in-File.is) in
    let made : Same (names_of two) (edited (names_of one) ((c.in_ok-entry.entry.items, None) ∷ [])) = λ e. c.in_ok-make-in-File.ensures.made.names e ∙ edit_is (names_of one) _ _ c.one.ensures e in
    record {
      fewer = subst (λ (m : BTreeMap ℕ fs_file.File). ∥ NamedAtMost (names_of two) was.inode (pred (links_in (get nat_cmp m was.inode))) ∥₁) (sym c.make.ensures.files.files)
          (one_freed (names_of one) (names_of two) one.files c.in_ok-entry.entry.items was.inode bound made one.named);
    }

pub returns-in_ok-make-in-File-clause-made : goal.returns-in_ok-make-in-File-clause-made
returns-in_ok-make-in-File-clause-made g c =
    let edit = c.one.ensures ∙ ap (λ (x : List ℕ). (x, None) ∷ []) c.in_ok-entry.ensures in
    makes_after c.args.self.now c.begin_call.new.self c.make.new.self c.drop_link.new.self _ _ edit c.begin_call.ensures.keeps.names c.begin_call.ensures.keeps.told
    c.in_ok-make-in-File.ensures.made c.drop_link.ensures.keeps.names c.drop_link.ensures.keeps.told

pub returns-in_ok-make-in-File-clause-noted : goal.returns-in_ok-make-in-File-clause-noted
returns-in_ok-make-in-File-clause-noted g c =
    let at : names_of c.args.self.now (entry c.args.directory c.args.name.now) ≡ Some c.in_ok-was.was' =
    ap₂ (λ (t : Table) (l : List ℕ). bound t l) (sym c.begin_call.ensures.keeps.names) (sym c.in_ok-entry.ensures) ∙ ap (names_of c.begin_call.new.self) (sym c.deref.ensures.value) ∙ c.in_ok-was.ensures in
    noted_between c.args.self.now.store c.begin_call.new.self.store c.make.new.self.store c.drop_link.new.self.store _ _ _ _ _ _
    (c.one.ensures ∙ ap (λ (x : List ℕ). (x, None) ∷ []) c.in_ok-entry.ensures) (c.about.ensures ∙ ap (λ (o : Option Binding). about_name (unwrap_or (option_map (λ to. to.inode) o) 0) c.args.directory) (sym at))
    (ap (λ (o : Options). o.edit_rate) c.begin_call.ensures.keeps.options) c.in_ok-begin_call.ensures.journal.unsettled c.in_ok-make-in-File.ensures.noted c.drop_link.ensures.store
