-- Calls that draw, and change nothing else.
use Rattle.std.proofs.Common.{◌≡◌, ◌≤◌, ◌∙◌, arith, refl}
use Rattle.blob_journal.specs.declared.journaled.Journaled.{Journaled}
use Rattle.blob_journal.specs.Unchanged.{KeepsContents}
use Rattle.blob_journal.specs.Writes.{SameCrashes}
use Rattle.blob_fs.specs.declared.file_system.FileSystem.{FileSystem}
use Rattle.blob_fs.specs.Draws.{OnlyDraws}
use Rattle.blob_fs.specs.Files.{SameFiles, fresh_inode, journaled_of}
use Rattle.blob_fs.proofs.Fixed.{contents_same, fixed_after, fixed_twice}

pub crashes_self : {R : Type 0} (j : Journaled R) → SameCrashes j j
crashes_self j = record { stands = λ files f. f; next_write = refl; same = λ inode file durable h. h; left = λ inode kept. refl }

pub crashes_twice : {R : Type 0} (a b c : Journaled R) → SameCrashes a b → SameCrashes b c → SameCrashes a c
crashes_twice a b c f g = record {
  stands = λ files h. g.stands files (f.stands files h);
  next_write = g.next_write ∙ f.next_write;
  same = λ inode file durable h. g.same inode file durable (f.same inode file durable h);
  left = λ inode kept. g.left inode kept ∙ f.left inode kept;
}

pub only_self : {R : Type 0} (fs : FileSystem R) → OnlyDraws fs fs
only_self fs = record {
  files = record { files = refl; opens = refl; options = refl };
  number = refl;
  names = refl;
  told = refl;
  unsettled = refl;
  crashes = crashes_self fs.store;
  fixed = λ inode at byte below f. f;
}

pub only_twice : {R : Type 0} (a b c : FileSystem R) → OnlyDraws a b → OnlyDraws b c → OnlyDraws a c
only_twice a b c f g = record {
  files = record { files = g.files.files ∙ f.files.files; opens = g.files.opens ∙ f.files.opens; options = g.files.options ∙ f.files.options };
  number = g.number ∙ f.number;
  names = g.names ∙ f.names;
  told = g.told ∙ f.told;
  unsettled = g.unsettled ∙ f.unsettled;
  crashes = crashes_twice a.store b.store c.store f.crashes g.crashes;
  fixed = fixed_twice a b c f.fixed g.fixed;
}

-- the files are the same, and nothing has changed below but the generator and the fault rates
pub only_contents : {R : Type 0} (a b : FileSystem R) → SameFiles a b → fresh_inode b ≡ fresh_inode a → KeepsContents (journaled_of a) (journaled_of b) → OnlyDraws a b
only_contents a b files number keeps =
    let more : fresh_inode a ≤ fresh_inode b = omega (arith, number) in
    record {
      files = files;
      number = number;
      names = keeps.edits.names;
      told = keeps.edits.told;
      unsettled = keeps.edits.unsettled;
      crashes = keeps.crashes;
      fixed = fixed_after a b more (contents_same a.files b.files files.files) keeps.still;
    }
