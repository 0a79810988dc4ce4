use Rattle.std.proofs.Common.{refl, ◌∙◌, Some, ap}
use Rattle.blob_fs.specs.declared.file_system.File.{File}
use Rattle.blob_fs.proofs.Named.{at_most_self}
use Rattle.blob_fs.proofs.Standing.{standing_none, standing_through}
use Rattle.blob_fs.proofs.file_system.FileSystem.drop_open.Goals as goal

pub invariant_of-self-2 : goal.invariant_of-self-2
invariant_of-self-2 g c =
    let fs = c.args.self.now in
    let was : File = c.as_mut-file.result.now in
    let there = ap Some c.as_mut-file.ensures.value ∙ c.in-Some.ensures.value in
    let now : File = record was { opens = c.saturating_sub-file.result } in
    standing_through fs (c.get_mut.follows.lender now) c.args.inode was now there (c.get_mut.follows.holds now) (record { blob = refl; synced = refl; truncations = refl }) (at_most_self _) refl

pub invariant_of-self : goal.invariant_of-self
invariant_of-self g c = standing_none c.args.self.now c.get_mut.follows.lender-at-none c.get_mut.follows.holds-at-none
