use Rattle.std.proofs.Common.{◌≡◌, Option, Some, ap₂, sym, ◌∷◌, [], List, None, ap, ℕ, ◌∙◌, refl}
use Rattle.std.specs.Prelude.{option_map, unwrap_or}
use Rattle.blob_directory.specs.declared.edit.Binding.{Binding}
use Rattle.blob_directory.specs.declared.table.Table.{Table}
use Rattle.blob_directory.specs.Tables.{bound}
use Rattle.blob_directory.specs.Names.{entry}
use Rattle.blob_fs.specs.Files.{about_name, names_of}
use Rattle.blob_fs.proofs.Named.{edit_is, freed}
use Rattle.blob_fs.proofs.Noting.{noted_between}
use Rattle.blob_fs.specs.declared.file_system.Options.{Options}
use Rattle.blob_fs.proofs.States.{keeps_as, keeps_self, makes_after, rest_after, rest_before}
use Rattle.blob_fs.proofs.file_system.FileSystem.remove_directory_at.Goals as goal

pub returns-in_err-make-clause-rest : goal.returns-in_err-make-clause-rest
returns-in_err-make-clause-rest g c = rest_before c.begin_call.ensures.keeps c.make.ensures.rest

pub returns-clause-rest : goal.returns-clause-rest
returns-clause-rest g c =
    rest_after (rest_before c.begin_call.ensures.keeps c.make.ensures.rest) (keeps_as _ (keeps_self c.make.new.self) refl refl refl refl)

pub make-requires : goal.make-requires
make-requires g c =
    let one = c.begin_call.new.self in
    record {
      fits = freed (names_of one) _ one.files _ (edit_is (names_of one) _ _ c.one.ensures) one.named;
    }

pub returns-clause-made : goal.returns-clause-made
returns-clause-made g c =
    let edit = c.one.ensures ∙ ap (λ (x : List ℕ). (x, None) ∷ []) c.in_ok-entry.ensures in
    makes_after c.args.self.now c.begin_call.new.self c.make.new.self _ _ _ edit c.begin_call.ensures.keeps.names c.begin_call.ensures.keeps.told c.in_ok-make.ensures.made refl refl

pub returns-clause-noted : goal.returns-clause-noted
returns-clause-noted g c =
    let at : names_of c.args.self.now (entry c.args.directory c.args.name.now) ≡ Some c.in_ok-was.was' =
    ap₂ (λ (t : Table) (l : List ℕ). bound t l) (sym c.begin_call.ensures.keeps.names) (sym c.in_ok-entry.ensures) ∙ ap (names_of c.begin_call.new.self) (sym c.deref.ensures.value) ∙ c.in_ok-was.ensures in
    noted_between c.args.self.now.store c.begin_call.new.self.store c.make.new.self.store c.make.new.self.store _ _ _ _ _ _
    (c.one.ensures ∙ ap (λ (x : List ℕ). (x, None) ∷ []) c.in_ok-entry.ensures) (c.about.ensures ∙ ap (λ (o : Option Binding). about_name (unwrap_or (option_map (λ to. to.inode) o) 0) c.args.directory) (sym at))
    (ap (λ (o : Options). o.edit_rate) c.begin_call.ensures.keeps.options) c.in_ok-begin_call.ensures.journal.unsettled c.in_ok-make.ensures.noted refl
