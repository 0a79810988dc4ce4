-- Each name that a journal gives fits in a record.
use Rattle.std.proofs.Common.{◌≡◌, ℕ, zero, suc, ◌+◌, ◌-◌, ◌<◌, ◌≤◌, ◌^◌, ◌∷◌, ◌++◌, [], List, Option, map, replicate, Bool, true, false, ◌||◌, ◌&&◌, not, None, Some, length, take, drop, get_or, sym, ap, subst, ◌∙◌, ⊎_elim, arith, lit<, nat_eq, nat_lt, nat_le, length-drop}
use Rattle.std.specs.List.{All}
use Rattle.std.specs.Cmp.Lexicographic.{bytes_decides}
use Rattle.std.specs.Str.{bytes_eq}
use Rattle.std.specs.Int.{w64, from_be_bytes}
use Rattle.std.proofs.lemmas.Bool.{cases_Bool, cond-true, cond-false, and_parts, ltb-true, leb-true}
use Rattle.std.proofs.lemmas.List.{length-take-le}
use Rattle.std.proofs.lemmas.List.Elements.{All-drop, All-head, All-tail, All-take}
use Rattle.blob_packed.specs.Numbers.{number_told}
use Rattle.blob_packed.specs.Records.{Record, begins_record, first_length, first_number, first_record, found_from, scanned}
use Rattle.blob_directory.specs.Checkpoints.{FitRecords}
use Rattle.blob_directory.specs.Names.{Change, Edit, Names, all_edited, changed, edited}
use Rattle.blob_directory.specs.Profiles.{Rule, edits_of, kept_edits, names_told, with_seen}
use Rattle.blob_directory.specs.Records.{FitsRecord, Found, binding_told, change_told, edit_bytes, edit_found, edit_told, found_in, has_change, has_edit, inode_told, more_told}
use Rattle.blob_directory.proofs.Records.{length-change_bytes, one_bytes}

abbrev Small : List ℕ → Type 0
Small bytes = All (λ b. b < 256) bytes

small_at : (bytes : List ℕ) → Small bytes → (i : ℕ) → get_or bytes i 0 < 256
small_at [] all zero = lit< tt
small_at [] all (suc i) = lit< tt
small_at (b ∷ bytes) all zero = All-head (λ b. b < 256) b bytes all
small_at (b ∷ bytes) all (suc i) = small_at bytes (All-tail (λ b. b < 256) b bytes all) i

sum_small : (a b c d e f g h : ℕ) → a < 256 → b < 256 → c < 256 → d < 256 → e < 256 → f < 256 → g < 256 → h < 256
    → from_be_bytes w64 (a ∷ b ∷ c ∷ d ∷ e ∷ f ∷ g ∷ h ∷ []) < 2 ^ 64
sum_small a b c d e f g h ha hb hc hd he hf hg hh = omega arith

word_small : (bytes : List ℕ) → Small bytes → from_be_bytes w64 bytes < 2 ^ 64
word_small bytes all =
    sum_small (get_or bytes 0 0) (get_or bytes 1 0) (get_or bytes 2 0) (get_or bytes 3 0) (get_or bytes 4 0) (get_or bytes 5 0) (get_or bytes 6 0) (get_or bytes 7 0)
    (small_at bytes all 0) (small_at bytes all 1) (small_at bytes all 2) (small_at bytes all 3) (small_at bytes all 4) (small_at bytes all 5) (small_at bytes all 6) (small_at bytes all 7)

number_small : (bytes : List ℕ) → Small bytes → number_told bytes < 2 ^ 64
unfolding number_told
number_small bytes all = word_small (take 8 bytes) (All-take (λ b. b < 256) 8 bytes all)

binding_small : (kind inode : ℕ) → inode < 2 ^ 64 → inode_told (binding_told kind inode) < 2 ^ 64
binding_small kind inode h = ⊎_elim
    (λ y. subst (λ b. inode_told b < 2 ^ 64) (sym (cond-true (nat_eq kind 1) _ _ y)) h)
    (λ n. subst (λ b. inode_told b < 2 ^ 64) (sym (cond-false (nat_eq kind 1) _ _ n))
    (⊎_elim
    (λ y. subst (λ b. inode_told b < 2 ^ 64) (sym (cond-true (nat_eq kind 2) _ _ y)) h)
    (λ m. subst (λ b. inode_told b < 2 ^ 64) (sym (cond-false (nat_eq kind 2) _ _ m)) (lit< tt))
    (cases_Bool (nat_eq kind 2))))
    (cases_Bool (nat_eq kind 1))

tests : (n m : ℕ) → (nat_lt 0 n && nat_le (17 + n) m) ≡ true → (0 < n) × (17 + n ≤ m)
tests n m e = let p = and_parts (nat_lt 0 n) (nat_le (17 + n) m) e in (ltb-true 0 n p.0, leb-true (17 + n) m p.1)

change_fits : (bytes : List ℕ) → Small bytes → length bytes ≤ 1024 → has_change bytes ≡ true → FitsRecord (change_told bytes ∷ [])
unfolding change_told
change_fits bytes all short has =
    let n = number_told bytes in
    let size = tests n (length bytes) has in
    let entry = take n (drop 17 bytes) in
    let enough : n ≤ length (drop 17 bytes) = omega (arith, size.1, length-drop 17 bytes) in
    let long : length entry ≡ n = length-take-le n (drop 17 bytes) enough in
    let whole : length (edit_bytes (change_told bytes ∷ [])) ≡ 17 + length entry = ap length (one_bytes (change_told bytes)) ∙ length-change_bytes (change_told bytes) in (
      record {
        named = omega (arith, size.0, long);
        short = omega (arith, size.1, long, lit< {m = 1024} {n = 2 ^ 64} tt);
        inode = binding_small (get_or bytes 8 0) (number_told (drop 9 bytes)) (number_small (drop 9 bytes) (All-drop (λ b. b < 256) 9 bytes all));
      },
      omega (arith, size.1, long, whole),
    )

-- each change of an edit fits in a record of its own
abbrev FitEdit : Edit → Type 0
FitEdit [] = Unit {0}
FitEdit (c ∷ edit) = FitsRecord (c ∷ []) × FitEdit edit

abbrev FitEdits : List Edit → Type 0
FitEdits [] = Unit {0}
FitEdits (edit ∷ edits) = FitEdit edit × FitEdits edits

abbrev FitFound : Found → Type 0
FitFound None = Unit {0}
FitFound (Some (edit, settled)) = FitEdit edit

abbrev FitFounds : List Found → Type 0
FitFounds [] = Unit {0}
FitFounds (f ∷ found) = FitFound f × FitFounds found

more_fits : (bytes : List ℕ) → Small bytes → length bytes ≤ 1024 → FitEdit (more_told bytes)
more_fits bytes all short = ⊎_elim
    (λ y. subst FitEdit (sym (cond-true (has_change bytes) (change_told bytes ∷ []) [] y)) (change_fits bytes all short y, tt))
    (λ n. subst FitEdit (sym (cond-false (has_change bytes) (change_told bytes ∷ []) [] n)) tt)
    (cases_Bool (has_change bytes))

edit_fits : (bytes : List ℕ) → Small bytes → length bytes ≤ 1024 → has_change bytes ≡ true → FitEdit (edit_told bytes)
unfolding edit_told
edit_fits bytes all short has =
    let k = 17 + number_told bytes in
    let less : length (drop k bytes) ≤ 1024 = omega (arith, length-drop k bytes) in
    (change_fits bytes all short has, more_fits (drop k bytes) (All-drop (λ b. b < 256) k bytes all) less)

edit_tests : (n : ℕ) (b : Bool) → (nat_le n 1024 && b) ≡ true → (n ≤ 1024) × (b ≡ true)
edit_tests n b e = let p = and_parts (nat_le n 1024) b e in (leb-true n 1024 p.0, p.1)

record_fits : (bytes : List ℕ) (settled : Bool) → Small bytes → FitFound (edit_found (Some (bytes, settled)))
record_fits bytes settled all = ⊎_elim
    (λ y.
    let has = edit_tests (length bytes) (has_change bytes) y in
    subst FitFound (sym (cond-true (has_edit bytes) (Some (edit_told bytes, settled)) None y)) (edit_fits bytes all has.0 has.1))
    (λ n. subst FitFound (sym (cond-false (has_edit bytes) (Some (edit_told bytes, settled)) None n)) tt)
    (cases_Bool (has_edit bytes))

passed_fit : (k : ℕ) (records : List (Option Record)) → FitFounds (map edit_found records) → FitFounds (map edit_found (replicate k None ++ records))
passed_fit zero records h = h
passed_fit (suc k) records h = (tt, passed_fit k records h)

scanned_fit : (fuel next : ℕ) (bytes : List ℕ) → Small bytes → FitFounds (map edit_found (scanned fuel next bytes))
scanned_fit zero next bytes all = tt
scanned_fit (suc fuel) next bytes all =
    let size = first_length bytes in
    let number = first_number bytes in
    let more : List (Option Record) = scanned fuel (suc number) (drop (17 + size) bytes) in
    let here : List (Option Record) = replicate (number - next) None ++ (Some (first_record bytes) ∷ more) in
    let behind : List (Option Record) = scanned fuel next (drop 1 bytes) in
    let record_small : Small (first_record bytes).0 = All-take (λ b. b < 256) size (drop 17 bytes) (All-drop (λ b. b < 256) 17 bytes all) in
    let rest : FitFounds (map edit_found more) = scanned_fit fuel (suc number) (drop (17 + size) bytes) (All-drop (λ b. b < 256) (17 + size) bytes all) in
    ⊎_elim
    (λ y. subst (λ l. FitFounds (map edit_found l)) (sym (cond-true (begins_record next bytes) here behind y))
    (passed_fit (number - next) (Some (first_record bytes) ∷ more) (record_fits (first_record bytes).0 (first_record bytes).1 record_small, rest)))
    (λ n. subst (λ l. FitFounds (map edit_found l)) (sym (cond-false (begins_record next bytes) here behind n))
    (scanned_fit fuel next (drop 1 bytes) (All-drop (λ b. b < 256) 1 bytes all)))
    (cases_Bool (begins_record next bytes))

records_fit : (bytes : List ℕ) → Small bytes → FitFounds (found_in bytes)
unfolding found_from
records_fit bytes all = scanned_fit (length bytes) 0 bytes all

kept_fit : (rule : Rule) (lost : Bool) (found : List Found) → FitFounds found → FitEdits (kept_edits rule lost found)
kept_fit rule lost [] h = tt
kept_fit rule lost (None ∷ found) h = kept_fit rule (lost || rule.is_prefix) found h.1
kept_fit rule lost (Some (edit, settled) ∷ found) h = ⊎_elim
    (λ y. subst FitEdits (sym (cond-true (settled || not lost) (edit ∷ kept_edits rule lost found) (kept_edits rule lost found) y)) (h.0, kept_fit rule lost found h.1))
    (λ n. subst FitEdits (sym (cond-false (settled || not lost) (edit ∷ kept_edits rule lost found) (kept_edits rule lost found) n)) (kept_fit rule lost found h.1))
    (cases_Bool (settled || not lost))

seen_fit : (rule : Rule) (behind : Bool) (n : ℕ) (found : List Found) → FitFounds found → FitFounds (with_seen rule behind n found)
seen_fit rule behind n [] h = tt
seen_fit rule behind n (None ∷ found) h = (h.0, seen_fit rule (behind || rule.is_followed n) (suc n) found h.1)
seen_fit rule behind n (Some (edit, settled) ∷ found) h = (h.0, seen_fit rule behind (suc n) found h.1)

changed_fits : (a : Names) (c : Change) → FitRecords a → FitsRecord (c ∷ []) → FitRecords (changed a c)
changed_fits a c before fits e to h = ⊎_elim
    (λ y.
    let key : c.0 ≡ e = (bytes_decides c.0 e).0 y in
    let value : c.1 ≡ Some to = sym (cond-true (bytes_eq c.0 e) c.1 (a e) y) ∙ h in
    subst (λ k. FitsRecord ((k, Some to) ∷ [])) key (subst (λ v. FitsRecord ((c.0, v) ∷ [])) value fits))
    (λ n. before e to (sym (cond-false (bytes_eq c.0 e) c.1 (a e) n) ∙ h))
    (cases_Bool (bytes_eq c.0 e))

edited_fits : (a : Names) (edit : Edit) → FitRecords a → FitEdit edit → FitRecords (edited a edit)
edited_fits a [] before fits = before
edited_fits a (c ∷ edit) before fits = edited_fits (changed a c) edit (changed_fits a c before fits.0) fits.1

all_fit : (a : Names) (edits : List Edit) → FitRecords a → FitEdits edits → FitRecords (all_edited a edits)
all_fit a [] before fits = before
all_fit a (edit ∷ edits) before fits = all_fit (edited a edit) edits (edited_fits a edit before fits.0) fits.1

-- each name that a journal gives fits in a record
pub told_fits : (rule : Rule) (journal : List ℕ) → All (λ b. b < 256) journal → FitRecords (names_told rule journal)
told_fits rule journal all =
    all_fit (λ _. None) (edits_of rule journal) (λ e to h. absurd (let none : None ≡ Some to = h in cc))
    (kept_fit rule false (with_seen rule false 0 (found_in journal)) (seen_fit rule false 0 (found_in journal) (records_fit journal all)))
