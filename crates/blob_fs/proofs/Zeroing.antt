-- When a write writes no zeros first.
use Rattle.std.proofs.Common.{◌≡◌, ◌≤◌, ℕ, ◌%◌, ◌==◌, Bool, true, false, ◌&&◌, ◌||◌, not, Option, Some, refl, sym, ap, ◌∙◌, arith, nat_lt}
use Rattle.std.proofs.lemmas.Bool.{lt-ltb, ltb-true, true≢false}
use Rattle.std.specs.Prelude.{option_and_then}
use Rattle.blob_directory.specs.declared.profile.Profile.{Profile}
use Rattle.blob_faulty.specs.Wrapper.{size_of}
use Rattle.blob_fs.specs.declared.file_system.Descriptor.{Descriptor}
use Rattle.blob_fs.specs.declared.file_system.File.{File}
use Rattle.blob_fs.specs.declared.file_system.FileSystem.{FileSystem}
use Rattle.blob_fs.specs.Bytes.{file_in}
use Rattle.blob_fs.specs.Files.{inode_opened}
use Rattle.blob_fs.specs.Noted.{end_in, end_of}
use Rattle.blob_fs.specs.Writes.{leaves_zeros}

by_implied : (a b x y : Bool) → (y ≡ true → x ≡ true) → (a && x || b) ≡ false → (a && y || b) ≡ false
by_implied false b x y implies h = h
by_implied true b true y implies h = absurd (true≢false h)
by_implied true b false false implies h = h
by_implied true b false true implies h = absurd (true≢false (sym (implies refl)))

-- a shorter one doesn't if a longer one doesn't
pub none_below : (p : Profile) (size offset end less : ℕ) → less ≤ end → leaves_zeros p size offset end ≡ false → leaves_zeros p size offset less ≡ false
none_below p size offset end less below h =
    by_implied p.zeros (p.pages && nat_lt size offset && not (size % 4096 == 0)) (nat_lt size end) (nat_lt size less)
    (λ y. lt-ltb size end (omega (arith, below, ltb-true size less y))) h

pub end_there : {R : Type 0} (fs : FileSystem R) (d : Descriptor) (inode : ℕ) (file : File) → inode_opened fs d ≡ Some inode → file_in fs inode ≡ Some file → end_of fs d ≡ size_of file.blob.blob
end_there fs d inode file opened there = ap (λ (o : Option ℕ). end_in (option_and_then (file_in fs) o)) opened ∙ ap end_in there
