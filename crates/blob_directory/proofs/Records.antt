-- The edit of the record of an edit is that edit.
use Rattle.std.proofs.Common.{◌≡◌, ℕ, ◌+◌, ◌<◌, ◌≤◌, ◌^◌, List, [], ◌∷◌, ◌++◌, length, take, drop, get_or, Bool, true, false, Option, Some, None, refl, sym, ap, ◌∙◌, arith, append_assoc, length-append, nat_lt, nat_le, ◌&&◌, append-nil, if◌then◌else◌, lit<}
use Rattle.std.proofs.Math.Seq.{drop-append_seam, take-append_seam}
use Rattle.std.proofs.lemmas.List.{drop-drop}
use Rattle.std.proofs.lemmas.Bool.Decides.{nat_tests}
use Rattle.blob_packed.specs.Numbers.{number_bytes, number_told}
use Rattle.blob_packed.proofs.Numbers.{length-number_bytes, number_told-bytes}
use Rattle.blob_directory.specs.declared.edit.Binding.{Binding}
use Rattle.blob_directory.specs.declared.edit.Kind.{Kind}
use Rattle.blob_directory.specs.declared.edit.Kind.TheVariants.{File, Directory}
use Rattle.blob_directory.specs.Names.{Change, Edit}
use Rattle.blob_directory.specs.Records.{Fits, FitsRecord, RoundTrip, binding_told, change_bytes, change_told, edit_bytes, edit_found, edit_told, has_change, inode_told, IsOfName, NamesFit, kind_byte, kind_number, more_told, record_of}

-- what follows a length, a kind, an inode and an entry
pub behind_change : (bytes mid rest last : List ℕ) (kind n : ℕ) → mid ≡ drop 8 bytes → mid ≡ kind ∷ rest → last ≡ drop 8 rest → drop n last ≡ drop (17 + n) bytes
behind_change bytes mid rest last kind n a b d =
    let one : rest ≡ drop 1 (drop 8 bytes) = ap (drop 1) (sym b ∙ a) in
    let more : rest ≡ drop (8 + 1) bytes = one ∙ drop-drop 1 8 bytes in
    let all : last ≡ drop 17 bytes = d ∙ ap (drop 8) more ∙ drop-drop 8 9 bytes in
    ap (drop n) all ∙ drop-drop n 17 bytes

-- a change with what follows it, one list
rest_of : Change → List ℕ → List ℕ
rest_of c more = kind_byte c.1 ∷ (number_bytes (inode_told c.1) ++ (c.0 ++ more))

change_bytes-append : (c : Change) (more : List ℕ) → change_bytes c ++ more ≡ number_bytes (length c.0) ++ rest_of c more
unfolding change_bytes rest_of
change_bytes-append c more =
    append_assoc (number_bytes (length c.0)) (kind_byte c.1 ∷ (number_bytes (inode_told c.1) ++ c.0)) more
    ∙ ap (λ l. number_bytes (length c.0) ++ (kind_byte c.1 ∷ l)) (append_assoc (number_bytes (inode_told c.1)) c.0 more)

pub length-change_bytes : (c : Change) → length (change_bytes c) ≡ 17 + length c.0
unfolding change_bytes
length-change_bytes c = simp (length-append, length-number_bytes) (omega arith)

kind_told : (inode : ℕ) (kind : Kind) → binding_told (kind_number kind) inode ≡ Some (record { inode = inode; kind = kind })
kind_told inode File = refl
kind_told inode Directory = refl

binding_of_told : (to : Option Binding) → binding_told (kind_byte to) (inode_told to) ≡ to
binding_of_told None = refl
binding_of_told (Some b) = kind_told b.inode b.kind

number_at_change : (c : Change) (more : List ℕ) → Fits c → number_told (change_bytes c ++ more) ≡ length c.0
number_at_change c more fits = ap number_told (change_bytes-append c more) ∙ number_told-bytes (length c.0) (rest_of c more) fits.short

changed_test : (size n k : ℕ) → 0 < size → n ≡ 17 + size + k → (nat_lt 0 size && nat_le (17 + size) n) ≡ true
changed_test size n k h e = grind (arith, nat_tests)

short_test : (size n : ℕ) → n < 17 → (nat_lt 0 size && nat_le (17 + size) n) ≡ false
short_test size n h = grind (arith, nat_tests)

has_change-bytes : (c : Change) (more : List ℕ) → Fits c → has_change (change_bytes c ++ more) ≡ true
has_change-bytes c more fits =
    let number : number_told (change_bytes c ++ more) ≡ length c.0 = number_at_change c more fits in
    let long : length (change_bytes c ++ more) ≡ 17 + length c.0 + length more = length-append (change_bytes c) more ∙ ap (λ n. n + length more) (length-change_bytes c) in
    rw number (changed_test (length c.0) (length (change_bytes c ++ more)) (length more) fits.named long)

drop_17 : (c : Change) (more : List ℕ) → drop 17 (number_bytes (length c.0) ++ rest_of c more) ≡ c.0 ++ more
unfolding number_bytes rest_of
drop_17 c more = refl

drop_9 : (c : Change) (more : List ℕ) → drop 9 (number_bytes (length c.0) ++ rest_of c more) ≡ number_bytes (inode_told c.1) ++ (c.0 ++ more)
unfolding number_bytes rest_of
drop_9 c more = refl

at_8 : (c : Change) (more : List ℕ) → get_or (number_bytes (length c.0) ++ rest_of c more) 8 0 ≡ kind_byte c.1
unfolding number_bytes rest_of
at_8 c more = refl

pairs : {A B : Type 0} (a : A) (b : B) (c : A × B) → a ≡ c.0 → b ≡ c.1 → (a, b) ≡ c
pairs a b c p q = ap (λ x. (x, b)) p ∙ ap (λ y. (c.0, y)) q

change_told-bytes : (c : Change) (more : List ℕ) → Fits c → change_told (change_bytes c ++ more) ≡ c
unfolding change_told
change_told-bytes c more fits =
    let bytes = change_bytes c ++ more in
    let all : bytes ≡ number_bytes (length c.0) ++ rest_of c more = change_bytes-append c more in
    let number : number_told bytes ≡ length c.0 = number_at_change c more fits in
    let front : drop 17 bytes ≡ c.0 ++ more = ap (drop 17) all ∙ drop_17 c more in
    let entry : take (number_told bytes) (drop 17 bytes) ≡ c.0 = ap (λ n. take n (drop 17 bytes)) number ∙ ap (take (length c.0)) front ∙ take-append_seam c.0 more in
    let kind : get_or bytes 8 0 ≡ kind_byte c.1 = ap (λ l. get_or l 8 0) all ∙ at_8 c more in
    let inode : number_told (drop 9 bytes) ≡ inode_told c.1 =
    ap (λ l. number_told (drop 9 l)) all ∙ ap number_told (drop_9 c more) ∙ number_told-bytes (inode_told c.1) (c.0 ++ more) fits.inode in
    let to : binding_told (get_or bytes 8 0) (number_told (drop 9 bytes)) ≡ c.1 =
    ap (λ k. binding_told k (number_told (drop 9 bytes))) kind ∙ ap (binding_told (kind_byte c.1)) inode ∙ binding_of_told c.1 in
    pairs _ _ c entry to

drop_change : (c : Change) (more : List ℕ) → Fits c → drop (17 + number_told (change_bytes c ++ more)) (change_bytes c ++ more) ≡ more
drop_change c more fits =
    let n : 17 + number_told (change_bytes c ++ more) ≡ length (change_bytes c) = ap (λ k. 17 + k) (number_at_change c more fits) ∙ sym (length-change_bytes c) in
    ap (λ k. drop k (change_bytes c ++ more)) n ∙ drop-append_seam (change_bytes c) more

-- no bytes begin with no change
no_change : has_change [] ≡ false
no_change = short_test (number_told []) 0 (lit< tt)

edit_told-one : (c : Change) → Fits c → edit_told (change_bytes c ++ []) ≡ c ∷ []
unfolding edit_told
edit_told-one c fits =
    ap (λ d. d ∷ more_told (drop (17 + number_told (change_bytes c ++ [])) (change_bytes c ++ []))) (change_told-bytes c [] fits)
    ∙ ap (λ l. c ∷ more_told l) (drop_change c [] fits)
    ∙ ap (λ b. c ∷ (if b then change_told [] ∷ [] else [])) no_change

edit_told-two : (c d : Change) (more : List ℕ) → Fits c → Fits d → edit_told (change_bytes c ++ (change_bytes d ++ more)) ≡ c ∷ d ∷ []
unfolding edit_told
edit_told-two c d more fits also =
    let behind = change_bytes d ++ more in
    ap (λ e. e ∷ more_told (drop (17 + number_told (change_bytes c ++ behind)) (change_bytes c ++ behind))) (change_told-bytes c behind fits)
    ∙ ap (λ l. c ∷ more_told l) (drop_change c behind fits)
    ∙ ap (λ b. c ∷ (if b then change_told behind ∷ [] else [])) (has_change-bytes d more also)
    ∙ ap (λ e. c ∷ e ∷ []) (change_told-bytes d more also)

both_tests : (n : ℕ) (b : Bool) → n ≤ 1024 → b ≡ true → (nat_le n 1024 && b) ≡ true
both_tests n b h e = grind (arith, nat_tests)

-- the edit of a record, from its bytes
from_bytes : (edit : Edit) (settled : Bool) (bytes : List ℕ) → length bytes ≤ 1024 → has_change bytes ≡ true → edit_told bytes ≡ edit
    → edit_found (Some (bytes, settled)) ≡ Some (edit, settled)
from_bytes edit settled bytes short has told =
    ap (λ b. if b then Some (edit_told bytes, settled) else None) (both_tests (length bytes) (has_change bytes) short has)
    ∙ ap (λ e. Some (e, settled)) told

pub one_bytes : (c : Change) → edit_bytes (c ∷ []) ≡ change_bytes c
unfolding edit_bytes
one_bytes c = append-nil (change_bytes c)

pub two_bytes : (c d : Change) → edit_bytes (c ∷ d ∷ []) ≡ change_bytes c ++ change_bytes d
unfolding edit_bytes
two_bytes c d = ap (λ l. change_bytes c ++ l) (append-nil (change_bytes d))

one_trip : (c : Change) (settled : Bool) → FitsRecord (c ∷ []) → edit_found (Some (record_of (c ∷ []) settled)) ≡ Some (c ∷ [], settled)
unfolding edit_bytes
one_trip c settled fits = from_bytes (c ∷ []) settled (change_bytes c ++ []) fits.1 (has_change-bytes c [] fits.0) (edit_told-one c fits.0)

two_trip : (c d : Change) (settled : Bool) → FitsRecord (c ∷ d ∷ []) → edit_found (Some (record_of (c ∷ d ∷ []) settled)) ≡ Some (c ∷ d ∷ [], settled)
unfolding edit_bytes
two_trip c d settled fits =
    from_bytes (c ∷ d ∷ []) settled (change_bytes c ++ (change_bytes d ++ [])) fits.2 (has_change-bytes c (change_bytes d ++ []) fits.0) (edit_told-two c d [] fits.0 fits.1)

pub round_trip : RoundTrip
round_trip [] settled fits = absurd fits
round_trip (c ∷ []) settled fits = one_trip c settled fits
round_trip (c ∷ d ∷ []) settled fits = two_trip c d settled fits
round_trip (c ∷ d ∷ e ∷ edit) settled fits = absurd fits

below_word : (n : ℕ) → n ≤ 263 → n < 2 ^ 64
below_word n h = omega arith

one_long : (c : Change) → IsOfName c → length (edit_bytes (c ∷ [])) ≤ 1024
one_long c h =
    let e : length (edit_bytes (c ∷ [])) ≡ 17 + length c.0 = ap length (one_bytes c) ∙ length-change_bytes c in
    omega (arith, e, h.1)

two_long : (c d : Change) → IsOfName c → IsOfName d → length (edit_bytes (c ∷ d ∷ [])) ≤ 1024
two_long c d h k =
    let e : length (edit_bytes (c ∷ d ∷ [])) ≡ length (change_bytes c) + length (change_bytes d) = ap length (two_bytes c d) ∙ length-append (change_bytes c) (change_bytes d) in
    let f : length (change_bytes c) ≡ 17 + length c.0 = length-change_bytes c in
    let g : length (change_bytes d) ≡ 17 + length d.0 = length-change_bytes d in
    omega (arith, e, f, g, h.1, k.1)

fits_of : (c : Change) → IsOfName c → Fits c
fits_of c h = record { named = omega (arith, h.0); short = below_word (length c.0) h.1; inode = h.2 }

pub names_fit : NamesFit
names_fit = record {
  one = λ c h. (fits_of c h, one_long c h);
  two = λ c d h k. (fits_of c h, fits_of d k, two_long c d h k);
}

-- the edits of changes of these sizes
pub one_fits : (c : Change) (size : ℕ) → Fits c → size ≡ length (change_bytes c) → size ≤ 1024 → FitsRecord (c ∷ [])
one_fits c size fits is short = let e : length (edit_bytes (c ∷ [])) ≡ length (change_bytes c) = ap length (one_bytes c) in (fits, omega (arith, e, is, short))

pub two_fit : (c d : Change) (m n : ℕ) → Fits c → Fits d → m ≡ length (change_bytes c) → n ≡ length (change_bytes d) → m + n ≤ 1024 → FitsRecord (c ∷ d ∷ [])
two_fit c d m n fits also is and short =
    let e : length (edit_bytes (c ∷ d ∷ [])) ≡ length (change_bytes c) + length (change_bytes d) = ap length (two_bytes c d) ∙ length-append (change_bytes c) (change_bytes d) in
    (fits, also, omega (arith, e, is, and, short))
