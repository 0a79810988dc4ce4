use Rattle.std.proofs.Common.{ℕ, Option, Some, ap, pred, refl, subst, sym, ◌∙◌}
use Rattle.blob_directory.specs.Counts.{NamedAtMost}
use Rattle.blob_fs.specs.Files.{names_of}
use Rattle.blob_fs.specs.Named.{links_in}
use Rattle.blob_fs.specs.declared.file_system.File.{File}
use Rattle.blob_fs.proofs.Fixed.{opened_through, sets_through}
use Rattle.blob_fs.proofs.Named.{links_less, named_set}
use Rattle.blob_fs.proofs.Tracked.{tracked_through}
use Rattle.blob_fs.proofs.Standing.{standing_none}
use Rattle.blob_fs.proofs.file_system.FileSystem.drop_name.Goals as goal

pub invariant_of-self : goal.invariant_of-self
invariant_of-self g c =
    let fs = c.args.self.now in
    let was : File = c.as_mut-file.result.now in
    let there = ap Some c.as_mut-file.ensures.value ∙ c.in-Some.ensures.value in
    let now : File = record was { links = c.saturating_sub-file.result } in
    record {
      opened = opened_through fs.store fs.files (c.get_mut.follows.lender now) c.args.inode was now there (c.get_mut.follows.holds now) (record { blob = refl; synced = refl; truncations = refl }) fs.opened;
      named = named_set fs.store fs.files (c.get_mut.follows.lender now) c.args.inode (Some now)
          (sets_through fs.files (c.get_mut.follows.lender now) c.args.inode was now there (c.get_mut.follows.holds now))
          (subst (λ (n : ℕ). ∥ NamedAtMost (names_of fs) c.args.inode n ∥₁)
          (ap (λ (o : Option File). pred (links_in o)) (sym there) ∙ sym (links_less was now.links c.saturating_sub-file.ensures)) c.requires.fewer) fs.named;
      tracked = tracked_through fs.store fs.files (c.get_mut.follows.lender now) c.args.inode was now there (c.get_mut.follows.holds now) refl fs.tracked;
    }

pub invariant_of-self-in_default : goal.invariant_of-self-in_default
invariant_of-self-in_default g c = standing_none c.args.self.now _ c.get_mut.follows.holds-at-none
