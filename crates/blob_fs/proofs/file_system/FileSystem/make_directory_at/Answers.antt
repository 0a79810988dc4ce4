use Rattle.std.proofs.Common.{arith, refl, ◌∷◌, [], List, Some, ap, ℕ, ◌∙◌}
use Rattle.blob_fs.specs.Files.{names_of}
use Rattle.blob_fs.proofs.Named.{edit_is, placed}
use Rattle.blob_directory.specs.Names.{directory_at}
use Rattle.blob_fs.proofs.Noting.{noted_between}
use Rattle.blob_fs.specs.declared.file_system.Options.{Options}
use Rattle.blob_fs.proofs.States.{keeps_as, keeps_self, makes_after, rest_after, rest_before, rest_numbered, rest_of}
use Rattle.blob_fs.proofs.file_system.FileSystem.make_directory_at.Goals as goal

pub returns-in_err-insert-clause-rest : goal.returns-in_err-insert-clause-rest
returns-in_err-insert-clause-rest g c = rest_of (keeps_as _ c.begin_call.ensures.keeps refl refl refl refl)

pub returns-in-Err-clause-rest : goal.returns-in-Err-clause-rest
returns-in-Err-clause-rest g c =
    rest_after (rest_before (keeps_as _ c.begin_call.ensures.keeps refl refl refl refl) c.make.ensures.rest) (keeps_as _ (keeps_self c.make.new.self) refl refl refl refl)

pub returns-clause-rest : goal.returns-clause-rest
returns-clause-rest g c =
    rest_numbered _ (rest_before (keeps_as _ c.begin_call.ensures.keeps refl refl refl refl) c.make.ensures.rest) refl (omega (arith, c.max-self.ensures)) refl refl

pub make-requires : goal.make-requires
make-requires g c =
    let one = c.begin_call.new.self in
    record {
      fits = placed (names_of one) _ one.files _ c.args.self.now.next_inode (edit_is (names_of one) _ _ c.one-edit.ensures) one.named;
    }

pub returns-clause-made : goal.returns-clause-made
returns-clause-made g c =
    let edit = c.one-edit.ensures ∙ ap (λ (x : List ℕ). (x, Some (directory_at c.args.self.now.next_inode)) ∷ []) c.in_ok-entry.ensures in
    makes_after c.args.self.now _ c.make.new.self _ _ _ edit c.begin_call.ensures.keeps.names c.begin_call.ensures.keeps.told c.in_default.ensures.made refl refl

pub returns-clause-noted : goal.returns-clause-noted
returns-clause-noted g c = noted_between c.args.self.now.store c.begin_call.new.self.store c.make.new.self.store c.make.new.self.store _ _ _ _ _ _
    (c.one-edit.ensures ∙ ap (λ (x : List ℕ). (x, Some (directory_at c.args.self.now.next_inode)) ∷ []) c.in_ok-entry.ensures) c.about.ensures (ap (λ (o : Options). o.edit_rate) c.begin_call.ensures.keeps.options)
    c.in_ok-begin_call.ensures.journal.unsettled c.in_default.ensures.noted refl
