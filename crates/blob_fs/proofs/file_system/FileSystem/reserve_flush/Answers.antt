use Rattle.std.proofs.Common.{◌∙◌, Some, ap, refl}
use Rattle.blob_fs.specs.declared.file_system.File.{File}
use Rattle.blob_fs.proofs.Fixed.{contents_through}
use Rattle.blob_fs.proofs.Named.{at_most_self}
use Rattle.blob_fs.proofs.States.{keeps_contents}
use Rattle.blob_fs.proofs.Standing.{standing_none, standing_through}
use Rattle.blob_fs.proofs.file_system.FileSystem.reserve_flush.Goals as goal

pub invariant_of-self : goal.invariant_of-self
invariant_of-self g c = standing_none c.args.self.now _ c.get_mut.follows.holds-at-none

pub returns-in_err-reserve-clause-keeps : goal.returns-in_err-reserve-clause-keeps
returns-in_err-reserve-clause-keeps g c =
    let fs = c.args.self.now in
    let was : File = c.as_mut-found.result.now in
    let there = ap Some c.as_mut-found.ensures.value ∙ c.in-Some.ensures.value in
    let now : File = record was { truncations = c.reserve.new.self } in
    keeps_contents fs _
    (contents_through fs.files (c.get_mut.follows.lender now) c.args.inode was now there (c.get_mut.follows.holds now) (record { blob = refl; synced = refl; truncations = c.reserve.ensures.items })) refl refl refl

pub invariant_of-self-2 : goal.invariant_of-self-2
invariant_of-self-2 g c =
    let fs = c.args.self.now in
    let was : File = c.as_mut-found.result.now in
    let there = ap Some c.as_mut-found.ensures.value ∙ c.in-Some.ensures.value in
    let now : File = record was { truncations = c.reserve.new.self } in
    standing_through fs (c.get_mut.follows.lender now) c.args.inode was now there (c.get_mut.follows.holds now) (record { blob = refl; synced = refl; truncations = c.reserve.ensures.items }) (at_most_self _) refl

pub returns-clause-keeps : goal.returns-clause-keeps
returns-clause-keeps g c =
    let fs = c.args.self.now in
    let was : File = c.as_mut-found.result.now in
    let there = ap Some c.as_mut-found.ensures.value ∙ c.in-Some.ensures.value in
    let now : File = record was { truncations = c.reserve.new.self } in
    keeps_contents fs _
    (contents_through fs.files (c.get_mut.follows.lender now) c.args.inode was now there (c.get_mut.follows.holds now) (record { blob = refl; synced = refl; truncations = c.reserve.ensures.items })) refl refl refl
