use Rattle.std.proofs.Common.{Some, refl, ◌∙◌, ap}
use Rattle.blob_journal.specs.Keeping.{names_in}
use Rattle.blob_fs.specs.declared.file_system.File.{File}
use Rattle.blob_fs.proofs.Fixed.{opened_through, sets_through}
use Rattle.blob_fs.proofs.Named.{named_set, set_named}
use Rattle.blob_fs.proofs.Tracked.{tracked_through}
use Rattle.blob_fs.proofs.Standing.{standing_none}
use Rattle.blob_fs.proofs.file_system.FileSystem.set_links.Goals as goal

pub invariant_of-self : goal.invariant_of-self
invariant_of-self g c =
    let fs = c.args.self.now in
    let was : File = c.as_mut-file.result.now in
    let there = ap Some c.as_mut-file.ensures.value ∙ c.in-Some.ensures.value in
    let now : File = record was { links = c.args.links } in
    record {
      opened = opened_through fs.store fs.files (c.get_mut.follows.lender now) c.args.inode was now there (c.get_mut.follows.holds now) (record { blob = refl; synced = refl; truncations = refl }) fs.opened;
      named = named_set fs.store fs.files (c.get_mut.follows.lender now) c.args.inode (Some now)
          (sets_through fs.files (c.get_mut.follows.lender now) c.args.inode was now there (c.get_mut.follows.holds now))
          (set_named (names_in fs.store) c.args.inode was c.args.links fs.files there fs.named c.requires.fits) fs.named;
      tracked = tracked_through fs.store fs.files (c.get_mut.follows.lender now) c.args.inode was now there (c.get_mut.follows.holds now) refl fs.tracked;
    }

pub invariant_of-self-in_default : goal.invariant_of-self-in_default
invariant_of-self-in_default g c = standing_none c.args.self.now _ c.get_mut.follows.holds-at-none
