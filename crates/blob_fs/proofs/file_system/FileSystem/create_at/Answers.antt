use Rattle.std.proofs.Common.{arith, refl, ap, sym, ◌∙◌, ◌≡◌, ℕ, List, None, subst, ◌∷◌, [], Some}
use Rattle.blob_journal.proofs.Found.{on_err}
use Rattle.blob_fs.proofs.Tracked.{none_found}
use Rattle.blob_directory.specs.Records.{Found}
use Rattle.blob_journal.specs.Bindings.{MayName}
use Rattle.blob_journal.specs.Keeping.{table_in}
use Rattle.blob_fs.specs.Bytes.{file_in}
use Rattle.blob_fs.specs.Files.{names_of, table_of}
use Rattle.blob_fs.specs.Named.{links_in}
use Rattle.blob_fs.proofs.Named.{edit_is, linked, most_same, most_table, none_named, same_at_most}
use Rattle.blob_directory.specs.Names.{file}
use Rattle.blob_journal.specs.Settling.{unsettled_of}
use Rattle.blob_journal.specs.declared.journaled.Journaled.{Journaled}
use Rattle.blob_fs.proofs.Noting.{noted_between}
use Rattle.blob_fs.specs.declared.file_system.Options.{Options}
use Rattle.blob_fs.specs.States.{KeepsState}
use Rattle.blob_fs.proofs.Calls.{leaves}
use Rattle.blob_fs.proofs.States.{keeps_as, keeps_fresh, keeps_opened, keeps_self, makes_after, rest_after, rest_before, rest_numbered, rest_of, rest_twice}
use Rattle.blob_fs.proofs.Standing.{standing_store}
use Rattle.blob_fs.proofs.file_system.FileSystem.create_at.Goals as goal

pub returns-in_err-descriptor-clause-refused : goal.returns-in_err-descriptor-clause-refused
returns-in_err-descriptor-clause-refused g c =
    let opened : KeepsState c.args.self.now c.open_new.new.self = keeps_fresh
    (keeps_opened _ c.begin_call.ensures.keeps refl refl refl c.open_file.ensures.keeps c.open_file.ensures.still) c.open_new.ensures.keeps (omega arith) in
    on_err _ _ (leaves c.args.self.now c.open_new.new.self opened.names opened.told)

pub invariant_of-self : goal.invariant_of-self
invariant_of-self g c = standing_store c.begin_call.new.self c.open_file.new.self c.open_file.ensures.still c.open_file.ensures.keeps

pub returns-in_err-blob-clause-rest : goal.returns-in_err-blob-clause-rest
returns-in_err-blob-clause-rest g c =
    rest_of (keeps_opened _ c.begin_call.ensures.keeps refl refl refl c.open_file.ensures.keeps c.open_file.ensures.still)

pub returns-in_err-descriptor-clause-rest : goal.returns-in_err-descriptor-clause-rest
returns-in_err-descriptor-clause-rest g c =
    let opened : KeepsState c.args.self.now c.open_new.new.self = keeps_fresh
    (keeps_opened _ c.begin_call.ensures.keeps refl refl refl c.open_file.ensures.keeps c.open_file.ensures.still) c.open_new.ensures.keeps (omega arith) in
    rest_of opened

pub returns-in-Err-clause-rest : goal.returns-in-Err-clause-rest
returns-in-Err-clause-rest g c =
    let opened : KeepsState c.args.self.now c.open_new.new.self = keeps_fresh
    (keeps_opened _ c.begin_call.ensures.keeps refl refl refl c.open_file.ensures.keeps c.open_file.ensures.still) c.open_new.ensures.keeps (omega arith) in
    let closed = rest_after (rest_before opened c.make.ensures.rest) (keeps_as _ (keeps_self c.make.new.self) refl refl refl refl) in
    rest_twice closed (record { fixed = c.remove_file.ensures.keeps.fixed; options = c.remove_file.ensures.keeps.options })

pub returns-clause-rest : goal.returns-clause-rest
returns-clause-rest g c =
    let opened : KeepsState c.args.self.now c.open_new.new.self = keeps_fresh
    (keeps_opened _ c.begin_call.ensures.keeps refl refl refl c.open_file.ensures.keeps c.open_file.ensures.still) c.open_new.ensures.keeps (omega arith) in
    rest_numbered _ (rest_before opened c.make.ensures.rest) refl (omega (arith, c.max-self.ensures)) refl refl

pub open_new-requires : goal.open_new-requires
open_new-requires g c =
    let one = c.begin_call.new.self in
    let new = c.args.self.now.next_inode in
    let none : file_in one new ≡ None = subst (λ (n : ℕ). file_in one n ≡ None) c.begin_call.ensures.number c.in_ok-next.ensures.new in
    record {
      opened = c.in_ok-blob.ensures.reopened.still;
      unnamed = most_table (table_of one) (table_in c.open_file.new.self) new 0 c.open_file.ensures.keeps.names (none_named (names_of one) one.files new (ap links_in none) one.named);
      unfound = subst (λ (l : List Found). MayName l new → ⊥) (sym c.open_file.ensures.keeps.told) (none_found one.store one.files new none one.tracked);
    }

pub make-requires : goal.make-requires
make-requires g c =
    let one = c.begin_call.new.self in
    let two = c.open_new.new.self in
    let new = c.args.self.now.next_inode in
    let none : file_in one new ≡ None = subst (λ (n : ℕ). file_in one n ≡ None) c.begin_call.ensures.number c.in_ok-next.ensures.new in
    record {
      fits = linked (names_of two) _ two.files _ new 0
          (most_table (table_of one) (table_of two) new 0 (c.open_new.ensures.keeps.names ∙ c.open_file.ensures.keeps.names) (none_named (names_of one) one.files new (ap links_in none) one.named))
          (same_at_most (sym c.in_ok-descriptor.ensures.links))
          (edit_is (names_of two) _ _ c.one-edit.ensures) two.named;
    }

pub remove_file-requires : goal.remove_file-requires
remove_file-requires g c =
    let one = c.begin_call.new.self in
    let two = c.open_new.new.self in
    let three = c.make.new.self in
    let new = c.args.self.now.next_inode in
    let none : file_in one new ≡ None = subst (λ (n : ℕ). file_in one n ≡ None) c.begin_call.ensures.number c.in_ok-next.ensures.new in
    record {
      unnamed = most_same (names_of two) (names_of three) new 0 c.in-Err.ensures.refused.names
          (most_table (table_of one) (table_of two) new 0 (c.open_new.ensures.keeps.names ∙ c.open_file.ensures.keeps.names) (none_named (names_of one) one.files new (ap links_in none) one.named));
      unfound = subst (λ (l : List Found). MayName l new → ⊥) (sym (c.in-Err.ensures.refused.recorded ∙ c.open_new.ensures.keeps.told ∙ c.open_file.ensures.keeps.told)) (none_found one.store one.files new none one.tracked);
    }

pub returns-clause-made : goal.returns-clause-made
returns-clause-made g c =
    let opened : KeepsState c.args.self.now c.open_new.new.self = keeps_fresh
    (keeps_opened _ c.begin_call.ensures.keeps refl refl refl c.open_file.ensures.keeps c.open_file.ensures.still) c.open_new.ensures.keeps (omega arith) in
    let edit = c.one-edit.ensures ∙ ap (λ (x : List ℕ). (x, Some (file c.args.self.now.next_inode)) ∷ []) c.in_ok-entry.ensures in
    makes_after c.args.self.now c.open_new.new.self c.make.new.self _ _ _ edit opened.names opened.told c.in_default.ensures.made refl refl

pub returns-clause-noted : goal.returns-clause-noted
returns-clause-noted g c = noted_between c.args.self.now.store c.open_new.new.self.store c.make.new.self.store c.make.new.self.store _ _ _ _ _ _
    (c.one-edit.ensures ∙ ap (λ (x : List ℕ). (x, Some (file c.args.self.now.next_inode)) ∷ []) c.in_ok-entry.ensures) c.about.ensures (ap (λ (o : Options). o.edit_rate) (c.open_new.ensures.keeps.options ∙ c.begin_call.ensures.keeps.options))
    (ap (λ (j : Journaled g.row.R.Denot). unsettled_of j) c.in_ok-descriptor.ensures.store ∙ c.open_file.ensures.keeps.unsettled ∙ c.in_ok-begin_call.ensures.journal.unsettled) c.in_default.ensures.noted refl
