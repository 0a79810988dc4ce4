-- What a recovery finds of files that were open.
use Rattle.std.proofs.Common.{◌≡◌, ◌<◌, ◌^◌, ℕ, Bool, true, List, Option, None, Some, refl, sym, ap, subst, ◌∙◌}
use Rattle.std.proofs.Math.Logic.{∥∥₁_elim, ∥∥₁_map}
use Rattle.std.proofs.lemmas.Bool.{false≢true}
use Rattle.std.specs.Coded.{Coded-set, coded_bool, coded_list, coded_option, coded_ℕ}
use Rattle.std.specs.Prelude.{is_some, option_map}
use Rattle.std.specs.BTreeMap.{BTreeMap, get}
use Rattle.std.specs.Ordering.{nat_cmp}
use Rattle.blob_journal.specs.declared.journaled.Journaled.{Journaled}
use Rattle.blob_journal.specs.Blobs.{OpenIsFound, bytes_of, current_file}
use Rattle.blob_journal.specs.Fixed.{FixedIsFound, HasFixed, IsOpen, KeepsHandles, has_byte}
use Rattle.blob_fs.specs.declared.file_system.File.{File}
use Rattle.blob_fs.specs.declared.truncation.Kept.{Kept}
use Rattle.blob_fs.specs.Bytes.{IsFound, found_of, left_of}
use Rattle.blob_fs.specs.Fixed.{IsSyncedAt}
use Rattle.blob_fs.specs.Truncations.{cut_start, truncated}
use Rattle.blob_fs.specs.Open.{AllOpen}
use Rattle.blob_fs.proofs.Cutting.{cut_has}
use Rattle.blob_fs.proofs.Truncating.{start_above, truncated_has}

some_same : {A : Type 0} {x y : A} → Some x ≡ Some y → x ≡ y
some_same e = cc

some_of : {A : Type 0} (o : Option A) → is_some o ≡ true → (x : A) × (o ≡ Some x)
some_of None e = absurd (false≢true e)
some_of (Some x) e = (x, refl)

module _ {R : Type 0} (law : OpenIsFound R) (j : Journaled R) (inode : ℕ) (found : List ℕ) (is : IsFound (current_file j inode) found) where
  -- exactly the durable bytes of an open file are found
  open_found : (file : File) → IsOpen j inode file.blob → current_file j inode ≡ Some found
  open_found file h =
      let here = law j inode file.blob h in
      here ∙ ap Some (is h.durable here)

  -- so it is for each file of a map
  pub found_is : (files : BTreeMap ℕ File) → inode < 2 ^ 64 → ∥ AllOpen j files ∥₁ → is_some (get nat_cmp files inode) ≡ true → current_file j inode ≡ Some found
  found_is files below opened there =
      let was = some_of (get nat_cmp files inode) there in
      ∥∥₁_elim opened (Coded-set (coded_option (coded_list coded_ℕ)) (current_file j inode) (Some found)) (λ each. open_found was.0 (each inode was.0 below was.1))

  -- a synced byte that is fixed is among those that truncations and a cut leave
  found_byte : FixedIsFound R → (at byte : ℕ) (cuts : Bool) (kept : Kept) (lost : List ℕ) (was : File) → IsOpen j inode was.blob → HasFixed j was.blob at byte → IsSyncedAt was at
      → has_byte at byte (left_of cuts lost (Some was) (found_of kept lost inode (Some was) found)) ≡ true
  found_byte fixed at byte cuts kept lost was is_open h low =
      let some : Some (has_byte at byte found) ≡ Some true = sym (ap (option_map (has_byte at byte)) (open_found was is_open)) ∙ fixed j inode was.blob at byte is_open h in
      let ts = was.truncations.items in
      cut_has cuts (cut_start lost was.synced ts) at byte (bytes_of was.blob) (truncated kept lost inode ts found) (start_above lost at was.synced ts low.below low.uncut)
      (truncated_has lost at kept inode byte ts found low.uncut (some_same some))

  -- by its number
  pub finds_byte : FixedIsFound R → (at byte : ℕ) (cuts : Bool) (kept : Kept) (lost : List ℕ) (files : BTreeMap ℕ File) → inode < 2 ^ 64 → ∥ AllOpen j files ∥₁ → is_some (get nat_cmp files inode) ≡ true
      → ((was : File) → get nat_cmp files inode ≡ Some was → IsSyncedAt was at) → ((was : File) → get nat_cmp files inode ≡ Some was → HasFixed j was.blob at byte)
      → has_byte at byte (left_of cuts lost (get nat_cmp files inode) (found_of kept lost inode (get nat_cmp files inode) found)) ≡ true
  finds_byte fixed at byte cuts kept lost files below opened there low h =
      let was = some_of (get nat_cmp files inode) there in
      ∥∥₁_elim opened (Coded-set coded_bool (has_byte at byte (left_of cuts lost (get nat_cmp files inode) (found_of kept lost inode (get nat_cmp files inode) found))) true)
      (λ each. subst (λ (o : Option File). has_byte at byte (left_of cuts lost o (found_of kept lost inode o found)) ≡ true) (sym was.1)
      (found_byte fixed at byte cuts kept lost was.0 (each inode was.0 below was.1) (h was.0 was.1) (low was.0 was.1)))

-- files through a call that keeps all handles
pub opened_handles : {R : Type 0} (j j' : Journaled R) (files : BTreeMap ℕ File) → KeepsHandles j j' → ∥ AllOpen j files ∥₁ → ∥ AllOpen j' files ∥₁
opened_handles j j' files keeps h = ∥∥₁_map h (λ each inode file below at. keeps inode file.blob (each inode file below at))
