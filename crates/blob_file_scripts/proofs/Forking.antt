-- A fork of files, from one of their file system.
use Rattle.std.proofs.Common.{◌≡◌, ℕ, List, None, sym, ap, ◌∙◌, subst}
use Rattle.blob_lab_model.specs.Scripted.{Left}
use Rattle.blob_fs.specs.Files.{generator_of}
use Rattle.blob_fs.specs.Fixed.{KeepsFixed}
use Rattle.blob_fs.specs.Forks.{CrashesSame, IsFork, LooksSame}
use Rattle.blob_fs.specs.declared.file_system.FileSystem.{FileSystem}
use Rattle.blob_file_sessions.specs.Held.{fs_of}
use Rattle.blob_file_sessions.specs.declared.kept.KeptFiles.{KeptFiles}
use Rattle.blob_file_scripts.specs.Explorations.{IsForkWith}

pub made : (words : List ℕ) (k new : KeptFiles) (fs fork : FileSystem Left) (rng : Left) → fs ≡ fs_of k → fs_of new ≡ fork → IsFork fs fork → LooksSame fs fork → CrashesSame fs fork
    → KeepsFixed fs fork → generator_of fork ≡ rng → rng ≡ (words, None) → IsForkWith words k new
made words k new fs fork rng here there same looks crashes fixed gives is = record {
  same = subst (λ (f : FileSystem Left). IsFork f (fs_of new)) here (subst (IsFork fs) (sym there) same);
  looks = subst (λ (f : FileSystem Left). LooksSame f (fs_of new)) here (subst (LooksSame fs) (sym there) looks);
  crashes = subst (λ (f : FileSystem Left). CrashesSame f (fs_of new)) here (subst (CrashesSame fs) (sym there) crashes);
  fixed = subst (λ (f : FileSystem Left). KeepsFixed f (fs_of new)) here (subst (KeepsFixed fs) (sym there) fixed);
  words_are = ap generator_of there ∙ gives ∙ is;
}
