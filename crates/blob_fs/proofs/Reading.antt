-- Bytes of files that calls see: reads of them, and writes behind zeros.
use Rattle.std.proofs.Common.{◌≡◌, ◌<◌, ◌≤◌, ◌+◌, ◌-◌, ◌⊎◌, ℕ, zero, suc, List, [], ◌∷◌, ◌++◌, drop, true, false, Option, None, Some, Vec, Global, get_or, length, max, take, refl, sym, ap, ◌∙◌, ⊎_elim, arith}
use Rattle.std.proofs.lemmas.Bool.{cases_lt}
use Rattle.std.proofs.lemmas.List.{get_or_past, length-drop, length-take-le, take-append-le, take_all}
use Rattle.blob_model.specs.Bytes.{reach, resize, write_live}
use Rattle.blob_model.proofs.Bytes.{at_chosen, at_other, at_resized, length-overlay_by, length-resized, past_resized, picks, same_bytes}
use Rattle.blob_memory.specs.Store.{live}
use Rattle.blob_faulty.specs.Wrapper.{inside, size_of}
use Rattle.blob_journal.specs.declared.journaled.Journaled.{Journaled}
use Rattle.blob_journal.specs.declared.store.FileBlob.{FileBlob}
use Rattle.blob_journal.specs.Blobs.{Sees, WritesFile, bytes_of}
use Rattle.blob_journal.specs.Fixed.{IsOpen}
use Rattle.blob_fs.specs.declared.file_system.File.{File}
use Rattle.blob_fs.specs.Bytes.{bytes_read}
use Rattle.blob_fs.specs.Noted.{size_read}
use Rattle.blob_fs.specs.Reads.{AreZeros, Shows, write_some}

-- What calls see of an open file.

seen_bytes : (blob : FileBlob) (seen : List ℕ) → Sees blob seen → bytes_of blob ≡ seen
seen_bytes blob seen s =
    ap (λ n. take n (live (inside blob.blob))) s.size ∙ ap (λ (l : List ℕ). take (length seen) l) s.live ∙ take_all (length seen) seen (omega arith)

pub open_seen : {R : Type 0} (j : Journaled R) (inode : ℕ) (blob : FileBlob) → IsOpen j inode blob → Sees blob (bytes_of blob)
open_seen j inode blob h =
    let all = seen_bytes blob (live (inside blob.blob)) (record { live = refl; size = h.tracked }) in
    record { live = sym all; size = h.tracked ∙ ap (λ (l : List ℕ). length l) (sym all) }

pub size_bytes : {R : Type 0} (j : Journaled R) (inode : ℕ) (file : File) → IsOpen j inode file.blob → size_read file ≡ length (bytes_read file)
size_bytes j inode file h = by_shown file.shown
  where
    by_shown : (shown : Option (Vec ℕ Global)) → size_read (record file { shown = shown }) ≡ length (bytes_read (record file { shown = shown }))
    by_shown None = (open_seen j inode file.blob h).size
    by_shown (Some bytes) = refl

pub read_blob : (file : File) → file.shown ≡ None → bytes_read file ≡ bytes_of file.blob
read_blob file none = ap (λ (shown : Option (Vec ℕ Global)). bytes_read (record file { shown = shown })) none

-- Bytes that are written.

pub some_written : (seen : List ℕ) (offset : ℕ) (bytes : List ℕ) → (length bytes ≡ 0 → ⊥) → write_live seen offset bytes ≡ write_some seen offset bytes
some_written seen offset [] some = absurd (some refl)
some_written seen offset (b ∷ bytes) some = refl

pub shows_written : {R : Type 0} (offset : ℕ) (bytes : List ℕ) (j j' : Journaled R) (blob blob' : FileBlob) → WritesFile offset bytes j blob j' blob'
    → Shows j blob (λ seen. write_live seen offset bytes) blob'
shows_written offset bytes j j' blob blob' written inode seen open_blob sees = (written inode open_blob.durable open_blob.is).1 seen sees

wide : (x : List ℕ) (n p : ℕ) → length x ≤ n → get_or (resize x n) p 0 ≡ get_or x p 0
wide x n p all = ⊎_elim (λ low. at_resized x n p low) (λ high. past_resized x n p high ∙ sym (get_or_past x p 0 (omega arith))) (cases_lt p n)

beside : (x : List ℕ) (o : ℕ) (b : List ℕ) (p : ℕ) → (o ≤ p → p < o + length b → true ≡ false) → get_or (write_live x o b) p 0 ≡ get_or x p 0
beside x o b p apart = at_other (resize x (max (length x) o)) o b (λ _. true) p apart ∙ wide x (max (length x) o) p (omega arith)

within : (x : List ℕ) (o : ℕ) (b : List ℕ) (p : ℕ) → o ≤ p → p < o + length b → get_or (write_live x o b) p 0 ≡ get_or b (p - o) 0
within x o b p low high = at_chosen (resize x (max (length x) o)) o b (λ _. true) p low high refl

long : (x : List ℕ) (o : ℕ) (b : List ℕ) → length (write_live x o b) ≡ max (max (length x) o) (reach o (length b) (λ _. true))
long x o b = length-overlay_by (resize x (max (length x) o)) o b (λ _. true) ∙ ap (λ n. max n (reach o (length b) (λ _. true))) (length-resized x (max (length x) o))

-- a write that reaches the end of longer bytes leaves what it leaves of the same bytes without zeros at the end
same_under : (x w : List ℕ) (o : ℕ) (b : List ℕ) → ((p : ℕ) → get_or w p 0 ≡ get_or x p 0) → length x ≤ length w → length w ≤ max (length x) (o + length b)
    → write_live w o b ≡ write_live x o b
same_under x w o b same more less = same_bytes (write_live w o b) (write_live x o b) (long w o b ∙ by_count (length b) less ∙ sym (long x o b)) each
  where
    by_count : (n : ℕ) → length w ≤ max (length x) (o + n) → max (max (length w) o) (reach o n (λ _. true)) ≡ max (max (length x) o) (reach o n (λ _. true))
    by_count zero less = omega arith
    by_count (suc n) less = omega arith

    each : (p : ℕ) → get_or (write_live w o b) p 0 ≡ get_or (write_live x o b) p 0
    each p = ⊎_elim
        (λ c. within w o b p c.0 c.1 ∙ sym (within x o b p c.0 c.1))
        (λ apart. beside w o b p apart ∙ same p ∙ sym (beside x o b p apart))
        (picks o (length b) (λ _. true) p)

-- zeros behind the end, and then a write that reaches as far
grown : (x zeros : List ℕ) (o : ℕ) (b : List ℕ) → AreZeros zeros → length x + length zeros ≤ max (length x) (o + length b)
    → write_live (write_some x (length x) zeros) o b ≡ write_live x o b
grown x [] o b all less = refl
grown x (y ∷ ys) o b all less = same_under x (write_live x (length x) (y ∷ ys)) o b same (omega (arith, whole)) (omega (arith, whole, less))
  where
    whole : length (write_live x (length x) (y ∷ ys)) ≡ length x + length (y ∷ ys)
    whole = long x (length x) (y ∷ ys) ∙ omega arith

    same : (p : ℕ) → get_or (write_live x (length x) (y ∷ ys)) p 0 ≡ get_or x p 0
    same p = ⊎_elim
        (λ c. within x (length x) (y ∷ ys) p c.0 c.1 ∙ all (p - length x) ∙ sym (get_or_past x p 0 c.0))
        (λ apart. beside x (length x) (y ∷ ys) p apart)
        (picks (length x) (length (y ∷ ys)) (λ _. true) p)

-- the same of an open blob, if the zeros were written or none of them
pub shows_grown : {R : Type 0} (j : Journaled R) (inode : ℕ) (blob blob' : FileBlob) (from offset : ℕ) (zeros z bytes : List ℕ) → IsOpen j inode blob → size_of blob.blob ≡ from → AreZeros zeros
    → from + length zeros ≤ max from (offset + length bytes) → (z ≡ zeros) ⊎ (z ≡ []) → Shows j blob (λ seen. write_live (write_some seen from z) offset bytes) blob'
    → bytes_of blob' ≡ write_live (bytes_of blob) offset bytes
shows_grown j inode blob blob' from offset zeros z bytes open_blob size all less which shows =
    let seen = bytes_of blob in
    let sees = open_seen j inode blob open_blob in
    let end : length seen ≡ from = sym sees.size ∙ size in
    let here : AreZeros z = ⊎_elim (λ e at. ap (λ (l : List ℕ). get_or l at 0) e ∙ all at) (λ e at. ap (λ (l : List ℕ). get_or l at 0) e) which in
    let short : length z ≤ length zeros = ⊎_elim (λ e. omega (arith, ap (λ (l : List ℕ). length l) e)) (λ e. omega (arith, ap (λ (l : List ℕ). length l) e)) which in
    seen_bytes blob' _ (shows inode seen open_blob sees)
    ∙ ap (λ n. write_live (write_some seen n z) offset bytes) (sym end)
    ∙ grown seen z offset bytes here (omega (arith, end, short, less))

-- what a read puts into the front of a buffer
pub read_part : (seen buf new : List ℕ) (offset n : ℕ) → n ≤ length buf → offset + n ≤ length seen
    → (offset + length (take n buf) ≤ length seen → new ≡ take (length (take n buf)) (drop offset seen)) → take n (new ++ drop n buf) ≡ take n (drop offset seen)
read_part seen buf new offset n room within read =
    let long : length (take n buf) ≡ n = length-take-le n buf room in
    let is : new ≡ take n (drop offset seen) = read (omega (arith, long, within)) ∙ ap (λ k. take k (drop offset seen)) long in
    let whole : length (take n (drop offset seen)) ≡ n = length-take-le n (drop offset seen) (omega (arith, length-drop offset seen, within)) in
    ap (λ (l : List ℕ). take n (l ++ drop n buf)) is
    ∙ take-append-le n (take n (drop offset seen)) (drop n buf) (omega (arith, whole))
    ∙ take_all n (take n (drop offset seen)) (omega (arith, whole))
