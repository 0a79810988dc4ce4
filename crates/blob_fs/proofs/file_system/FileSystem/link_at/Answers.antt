use Rattle.std.proofs.Common.{◌≡◌, IsSome, Option, Some, ap, arith, option_copied, refl, subst, sym, ◌∙◌, ◌∷◌, [], List, ℕ}
use Rattle.blob_fs.specs.declared.file_system.File.{File}
use Rattle.blob_fs.specs.Files.{file_of, names_of, table_of}
use Rattle.blob_fs.proofs.Named.{edit_is, linked, linked_most, most_more, most_same, most_table}
use Rattle.blob_directory.specs.Names.{file}
use Rattle.blob_journal.specs.Settling.{unsettled_of}
use Rattle.blob_journal.specs.declared.journaled.Journaled.{Journaled}
use Rattle.blob_fs.proofs.Noting.{noted_between}
use Rattle.blob_fs.specs.declared.file_system.Options.{Options}
use Rattle.blob_fs.proofs.States.{keeps_twice, makes_after, rest_after, rest_before}
use Rattle.blob_fs.proofs.file_system.FileSystem.link_at.Goals as goal

pub set_links-requires : goal.set_links-requires
set_links-requires g c =
    let one = c.begin_call.new.self in
    let file : File = c.in-Some.file.now in
    let is : file_of one c.args.inode ≡ Some file = sym c.file.ensures ∙ ap option_copied c.in-Some.is in
    record { fits = most_more (names_of one) c.args.inode file.links _ (omega arith) (linked_most one c.args.inode file is) }

pub make-requires : goal.make-requires
make-requires g c =
    let one = c.begin_call.new.self in
    let two = c.set_links.new.self in
    let file : File = c.in-Some.file.now in
    let is : file_of one c.args.inode ≡ Some file = sym c.file.ensures ∙ ap option_copied c.in-Some.is in
    let most = most_table (table_of one) (table_of two) c.args.inode file.links c.set_links.ensures.keeps.names (linked_most one c.args.inode file is) in
    let set = c.set_links.ensures.set (subst (λ (o : Option File). IsSome o) (sym is) refl) in
    record { fits = linked (names_of two) _ two.files _ c.args.inode file.links most (omega (arith, set)) (edit_is (names_of two) _ _ c.one-edit.ensures) two.named }

pub set_links-requires-in-Err : goal.set_links-requires-in-Err
set_links-requires-in-Err g c =
    let one = c.begin_call.new.self in
    let two = c.set_links.new.self in
    let file : File = c.in-Some.file.now in
    let is : file_of one c.args.inode ≡ Some file = sym c.file.ensures ∙ ap option_copied c.in-Some.is in
    let most = most_table (table_of one) (table_of two) c.args.inode file.links c.set_links.ensures.keeps.names (linked_most one c.args.inode file is) in
    record { fits = most_same (names_of two) (names_of c.make.new.self) c.args.inode file.links c.in-Err.ensures.refused.names most }

pub returns-in-Err-clause-rest : goal.returns-in-Err-clause-rest
returns-in-Err-clause-rest g c =
    rest_after (rest_before (keeps_twice c.begin_call.ensures.keeps c.set_links.ensures.keeps) c.make.ensures.rest) c.set_links-in-Err.ensures.keeps

pub returns-clause-rest : goal.returns-clause-rest
returns-clause-rest g c = rest_before (keeps_twice c.begin_call.ensures.keeps c.set_links.ensures.keeps) c.make.ensures.rest

pub returns-clause-made : goal.returns-clause-made
returns-clause-made g c =
    let before = keeps_twice c.begin_call.ensures.keeps c.set_links.ensures.keeps in
    let edit = c.one-edit.ensures ∙ ap (λ (x : List ℕ). (x, Some (file c.args.inode)) ∷ []) c.in_ok-entry.ensures in
    makes_after c.args.self.now c.set_links.new.self c.make.new.self c.make.new.self _ _ edit before.names before.told c.in_default.ensures.made refl refl

pub returns-clause-noted : goal.returns-clause-noted
returns-clause-noted g c = noted_between c.args.self.now.store c.set_links.new.self.store c.make.new.self.store c.make.new.self.store _ _ _ _ _ _
    (c.one-edit.ensures ∙ ap (λ (x : List ℕ). (x, Some (file c.args.inode)) ∷ []) c.in_ok-entry.ensures) c.about.ensures (ap (λ (o : Options). o.edit_rate) (c.set_links.ensures.keeps.options ∙ c.begin_call.ensures.keeps.options))
    (ap (λ (j : Journaled g.row.R.Denot). unsettled_of j) c.set_links.ensures.store ∙ c.in_ok-begin_call.ensures.journal.unsettled) c.in_default.ensures.noted refl
