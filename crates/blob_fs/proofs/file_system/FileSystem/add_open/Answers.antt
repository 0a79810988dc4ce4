use Rattle.std.proofs.Common.{None, refl, ◌∙◌, Some, ap}
use Rattle.blob_fs.specs.declared.file_system.File.{File}
use Rattle.blob_fs.proofs.Fixed.{contents_same, contents_through, contents_twice}
use Rattle.blob_fs.proofs.Named.{at_most_self, links_kept, links_through}
use Rattle.blob_fs.proofs.Standing.{standing_none, standing_through}
use Rattle.blob_fs.proofs.States.{keeps_contents}
use Rattle.blob_fs.proofs.file_system.FileSystem.add_open.Goals as goal

pub invariant_of-self : goal.invariant_of-self
invariant_of-self g c = standing_none c.args.self.now c.get_mut.follows.lender-at-none c.get_mut.follows.holds-at-none

pub invariant_of-self-2 : goal.invariant_of-self-2
invariant_of-self-2 g c =
    let there = ap Some c.as_mut-file.ensures.value ∙ c.in-Some.ensures.value in
    let new : File = record c.as_mut-file.result.now { opens = c.saturating_add-file.result; shown = None } in
    standing_through c.args.self.now (c.get_mut.follows.lender new) c.args.inode c.as_mut-file.result.now new there (c.get_mut.follows.holds new) (record { blob = refl; synced = refl; truncations = refl }) (at_most_self _) refl

pub returns-clause-keeps : goal.returns-clause-keeps
returns-clause-keeps g c =
    let fs = c.args.self.now in
    let new : File = record c.as_mut-file.result.now { opens = c.saturating_add-file.result; shown = None } in
    keeps_contents fs c.count.new.self
    (contents_twice fs.files (c.get_mut.follows.lender new) c.count.new.self.files
    (contents_through fs.files (c.get_mut.follows.lender new) c.args.inode c.as_mut-file.result.now new (ap Some c.as_mut-file.ensures.value ∙ c.in-Some.ensures.value) (c.get_mut.follows.holds new) (record { blob = refl; synced = refl; truncations = refl }))
    (contents_same (c.get_mut.follows.lender new) c.count.new.self.files c.count.ensures.files.files))
    c.count.ensures.number c.count.ensures.files.options c.count.ensures.store

pub returns-clause-links : goal.returns-clause-links
returns-clause-links g c = λ inode.
    let fs = c.args.self.now in
    let was : File = c.as_mut-file.result.now in
    let new : File = record was { opens = c.saturating_add-file.result; shown = None } in
    links_kept (c.get_mut.follows.lender new) c.count.new.self.files c.count.ensures.files.files inode
    ∙ links_through fs.files (c.get_mut.follows.lender new) c.args.inode was new (ap Some c.as_mut-file.ensures.value ∙ c.in-Some.ensures.value) (c.get_mut.follows.holds new) refl inode

pub returns-in_default-clause-links : goal.returns-in_default-clause-links
returns-in_default-clause-links g c = links_kept c.args.self.now.files _ c.get_mut.follows.holds-at-none
