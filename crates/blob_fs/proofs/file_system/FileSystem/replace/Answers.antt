use Rattle.std.proofs.Common.{◌≡◌, ℕ, Some, pred, subst, sym, ap, ◌∙◌, refl}
use Rattle.std.specs.BTreeMap.{BTreeMap, get}
use Rattle.std.specs.Ordering.{nat_cmp}
use Rattle.blob_directory.specs.Counts.{NamedAtMost}
use Rattle.blob_directory.specs.Names.{file}
use Rattle.blob_fs.specs.declared.file_system.File as fs_file
use Rattle.blob_fs.specs.Named.{links_in}
use Rattle.blob_fs.proofs.Naming.{file_is}
use Rattle.blob_directory.specs.declared.table.Table.{Table}
use Rattle.blob_directory.specs.Tables.{bound}
use Rattle.blob_fs.specs.Files.{names_of, journaled_of}
use Rattle.blob_fs.proofs.Named.{one_replaced}
use Rattle.blob_fs.specs.declared.file_system.FileSystem.{FileSystem}
use Rattle.blob_fs.proofs.file_system.FileSystem.replace.Goals.{in-File, in-Directory}
use Rattle.blob_fs.specs.declared.file_system.Options.{Options}
use Rattle.blob_fs.proofs.Noting.{noted_between}
use Rattle.blob_fs.proofs.States.{keeps_as, keeps_self, keeps_twice, rest_after, rest_before}
use Rattle.blob_fs.specs.States.{KeepsState}
use Rattle.blob_fs.proofs.file_system.FileSystem.replace.Goals as goal

pub returns-in_err-move_name-clause-rest : goal.returns-in_err-move_name-clause-rest
returns-in_err-move_name-clause-rest g c = rest_before c.reserve_flush.ensures.keeps c.move_name.ensures.rest

pub returns-clause-rest : goal.returns-clause-rest
returns-clause-rest g c =
    let moved = rest_before c.reserve_flush.ensures.keeps c.move_name.ensures.rest in
    let gone : KeepsState c.move_name.new.self c.match-was.self = elim c.match-was.branch [
      | in-File w ↦ subst (λ (fs : FileSystem g.row.R.Denot). KeepsState c.move_name.new.self fs) (sym w.self-is) w.drop_link.ensures.keeps
      | in-Directory w ↦ subst (λ (fs : FileSystem g.row.R.Denot). KeepsState c.move_name.new.self fs) (sym w.self-is) (keeps_as _ (keeps_self c.move_name.new.self) refl refl refl refl)
    ] in
    rest_after moved (keeps_twice gone c.note_flush.ensures.keeps)

pub move_name-requires : goal.move_name-requires
move_name-requires g c =
    record {
      bound = ap (λ (t : Table). bound t c.args.from.0.items) c.reserve_flush.ensures.keeps.names ∙ c.requires.bound;
    }

pub drop_link-requires : goal.drop_link-requires
drop_link-requires g c =
    let two = c.reserve_flush.new.self in
    let three = c.move_name.new.self in
    let was = c.args.was in
    let is = file_is was c.in-File.is in
    let taken : names_of two c.args.to.0.items ≡ Some (file was.inode) = ap (λ (t : Table). bound t c.args.to.0.items) c.reserve_flush.ensures.keeps.names ∙ c.requires.taken ∙ ap Some is in
    record {
      fewer = subst (λ (m : BTreeMap ℕ fs_file.File). ∥ NamedAtMost (names_of three) was.inode (pred (links_in (get nat_cmp m was.inode))) ∥₁) (sym c.move_name.ensures.files.files)
          (one_replaced (names_of two) (names_of three) two.files c.args.from.0.items c.args.to.0.items c.args.moved was.inode taken (λ e. c.requires.differ (is ∙ e)) c.in_ok-move_name.ensures.made.names two.named);
    }

pub returns-clause-noted : goal.returns-clause-noted
returns-clause-noted g c =
    noted_between c.args.self.now.store c.reserve_flush.new.self.store c.move_name.new.self.store _ _ _ _ _ _ _
    refl refl (ap (λ (o : Options). o.edit_rate) c.reserve_flush.ensures.keeps.options) c.reserve_flush.ensures.unsettled c.in_ok-move_name.ensures.noted
    (c.note_flush.ensures.store ∙ elim c.match-was.branch [
      | in-File w ↦ ap (λ (fs : FileSystem g.row.R.Denot). journaled_of fs) w.self-is ∙ w.drop_link.ensures.store
      | in-Directory w ↦ ap (λ (fs : FileSystem g.row.R.Denot). journaled_of fs) w.self-is
    ])
