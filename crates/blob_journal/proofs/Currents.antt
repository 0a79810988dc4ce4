-- Incarnations that stay current.
use Rattle.std.proofs.Common.{◌≡◌, ℕ, List, Bool, true, false, ◌&&◌, ◌==◌, ◌+◌, ◌<◌, ◌^◌, arith, cond, subst, Option, Some, None, refl, sym, ap, ap₂, ◌∙◌, ⊎_elim, if◌then◌else◌}
use Rattle.std.specs.Int.{w64, to_be_bytes, from_be_bytes}
use Rattle.std.proofs.lemmas.Nat.{from_be_bytes-to_be_bytes_8}
use Rattle.std.specs.Str.{bytes_eq}
use Rattle.std.specs.Cmp.Lexicographic.{bytes_decides}
use Rattle.std.proofs.lemmas.Bool.{cases_Bool, cond-true, cond-false, false≢true, and_parts, eqb-true, eq-eqb, both_ways, and_from}
use Rattle.blob_header.specs.Header.{data_start}
use Rattle.blob_header.specs.declared.layout.Layout.{Layout}
use Rattle.blob_header.specs.Refusals.{Refusal}
use Rattle.blob_model.specs.Directory.{Directory, File, Raw, Incarnation, current, is_current, is_that, place_in, with_file, directory_without}
use Rattle.blob_model.specs.Durable.{Durable}
use Rattle.blob_model.specs.Opening.{IsOpened, Continued, Begun, Continues, Begins, Declines, opening}
use Rattle.blob_model.specs.Places.{Place}
use Rattle.blob_header.specs.Versions.{is_in_range}

pub decided : (b : Bool) (number : ℕ) (l : Layout) (v : ℕ) (r : Refusal) (layout : Layout) (version : ℕ) (live : List ℕ)
    → (if b then Continues number l v else Declines r) ≡ Begins layout version live → ⊥
decided true number l v r layout version live e = cc
decided false number l v r layout version live e = cc

-- an open begins an incarnation only where none is current
begins_alone : (p n : List ℕ) (file : Option File) (first last : ℕ) (layout : Layout) (version : ℕ) (live : List ℕ) (k s : ℕ)
    → opening p n file first last ≡ Begins layout version live → is_that file k s ≡ true → ⊥
begins_alone p n None first last layout version live k s e h = false≢true h
begins_alone p n (Some (Raw raw)) first last layout version live k s e h = false≢true h
begins_alone p n (Some (Incarnation number l v)) first last layout version live k s e h =
    decided (is_in_range first last v) number l v (Refusal.BlobVersionMismatch first last v) layout version live e

-- the file of any other name is the same
pub other_file : (f : List ℕ → List ℕ → Option File) (p n q m : List ℕ) (new : Option File) → (bytes_eq p q ≡ true → bytes_eq n m ≡ true → ⊥)
    → with_file f p n new q m ≡ f q m
other_file f p n q m new apart = ⊎_elim
    (λ y. cond-true (bytes_eq p q) (cond (bytes_eq n m) new (f q m)) (f q m) y
    ∙ ⊎_elim (λ z. absurd (apart y z)) (λ z. cond-false (bytes_eq n m) new (f q m) z) (cases_Bool (bytes_eq n m)))
    (λ no. cond-false (bytes_eq p q) (cond (bytes_eq n m) new (f q m)) (f q m) no)
    (cases_Bool (bytes_eq p q))

-- an accepted open ends no incarnation
pub opened_keeps : (d : Directory) (b : Durable) (d' : Directory) (b' : Durable) (p n : List ℕ) (first last : ℕ) (o : Place) (live : List ℕ) (version : ℕ)
    → IsOpened d b d' b' p n first last o live version → (a : Place) → is_current d a ≡ true → is_current d' a ≡ true
opened_keeps d b d' b' p n first last o live version (Continued number layout found is here same bytes) a h = ap (λ (x : Directory). is_current x a) same ∙ h
opened_keeps d b d' b' p n first last o live version (Begun layout found is made bytes) a h =
    let apart : bytes_eq p a.partition ≡ true → bytes_eq n a.name ≡ true → ⊥ = λ y z.
    begins_alone p n (d.file p n) first last layout version live a.number a.start found
    (ap (λ q. is_that (d.file q n) a.number a.start) ((bytes_decides p a.partition).0 y) ∙ ap (λ m. is_that (d.file a.partition m) a.number a.start) ((bytes_decides n a.name).0 z) ∙ h) in
    ap (λ (x : Directory). is_current x a) made
    ∙ ap (λ (f : Option File). is_that f a.number a.start) (other_file d.file p n a.partition a.name (Some (Incarnation d.next layout version)) apart)
    ∙ h

-- a removal of a name ends no incarnation of another
pub removed_keeps : (d : Directory) (p n : List ℕ) (a : Place) → (bytes_eq p a.partition && bytes_eq n a.name) ≡ false
    → is_current d a ≡ true → is_current (directory_without d p (Some n)) a ≡ true
removed_keeps d p n a other h =
    ap (λ (f : Option File). is_that f a.number a.start)
    (other_file d.file p n a.partition a.name None (λ y z. both_ways (bytes_eq p a.partition && bytes_eq n a.name) other (and_from (bytes_eq p a.partition) (bytes_eq n a.name) y z)))
    ∙ h

file_current : (d : Directory) (p n : List ℕ) (f : Option File) (o : Place) → d.file p n ≡ f → place_in p n f ≡ Some o → is_current d o ≡ true
file_current d p n None o e h = absurd (cc)
file_current d p n (Some (Raw raw)) o e h = absurd (cc)
file_current d p n (Some (Incarnation k layout version)) o e h =
    let made : Place = record { partition = p; name = n; number = k; start = data_start layout } in
    let same : made ≡ o = cc in
    subst (λ (x : Place). is_current d x ≡ true) same
    (ap (λ (f : Option File). is_that f k (data_start layout)) e
    ∙ and_from (k == k) (data_start layout == data_start layout) (eq-eqb k k refl) (eq-eqb (data_start layout) (data_start layout) refl))

-- the incarnation of a name is current
pub named_current : (d : Directory) (p n : List ℕ) (o : Place) → current d p n ≡ Some o → is_current d o ≡ true
named_current d p n o h = file_current d p n (d.file p n) o refl h

pub same_number : (g : ℕ) → g < 2 ^ 64 → g + 1 < 2 ^ 64 → to_be_bytes w64 g ≡ to_be_bytes w64 (g + 1) → ⊥
same_number g s t e =
    let same : g ≡ g + 1 = sym (from_be_bytes-to_be_bytes_8 g s) ∙ ap (λ b. from_be_bytes w64 b) e ∙ from_be_bytes-to_be_bytes_8 (g + 1) t in
    absurd (omega arith)

-- the name of the next generation is another
pub next_apart : (p : List ℕ) (a : Place) (g : ℕ) → g < 2 ^ 64 → g + 1 < 2 ^ 64 → a.name ≡ to_be_bytes w64 (g + 1)
    → (bytes_eq p a.partition && bytes_eq (to_be_bytes w64 g) a.name) ≡ false
next_apart p a g s t e = ⊎_elim
    (λ y. absurd (same_number g s t ((bytes_decides (to_be_bytes w64 g) a.name).0 (and_parts (bytes_eq p a.partition) _ y).1 ∙ e)))
    (λ n. n)
    (cases_Bool (bytes_eq p a.partition && bytes_eq (to_be_bytes w64 g) a.name))

that_place : (p n : List ℕ) (f : Option File) (k s : ℕ) → is_that f k s ≡ true → place_in p n f ≡ Some (record { partition = p; name = n; number = k; start = s })
that_place p n None k s h = absurd (false≢true h)
that_place p n (Some (Raw raw)) k s h = absurd (false≢true h)
that_place p n (Some (Incarnation number layout version)) k s h =
    let both = and_parts _ _ h in
    ap₂ (λ x y. Some (record { partition = p; name = n; number = x; start = y })) (eqb-true number k both.0) (eqb-true (data_start layout) s both.1)

-- a current incarnation is the one of its name
pub current_of_name : (d : Directory) (a : Place) → is_current d a ≡ true → current d a.partition a.name ≡ Some a
current_of_name d a h = that_place a.partition a.name (d.file a.partition a.name) a.number a.start h

file_named : (p n : List ℕ) (f : Option File) (o : Place) → place_in p n f ≡ Some o → (o.partition ≡ p) × (o.name ≡ n)
file_named p n None o e = absurd (cc)
file_named p n (Some (Raw raw)) o e = absurd (cc)
file_named p n (Some (Incarnation k layout version)) o e =
    let made : Place = record { partition = p; name = n; number = k; start = data_start layout } in
    let same : made ≡ o = cc in
    (sym (ap (λ (x : Place). x.partition) same), sym (ap (λ (x : Place). x.name) same))

-- the incarnation of a name has this name
pub current_named : (d : Directory) (p n : List ℕ) (o : Place) → current d p n ≡ Some o → (o.partition ≡ p) × (o.name ≡ n)
current_named d p n o h = file_named p n (d.file p n) o h

-- a blob that begins gets the next number
pub begun_number : (d : Directory) (b : Durable) (d' : Directory) (b' : Durable) (p n : List ℕ) (first last : ℕ) (o : Place) (bytes : List ℕ) (version : ℕ)
    → IsOpened d b d' b' p n first last o bytes version → d.file p n ≡ None → o.number ≡ d.next
begun_number d b d' b' p n first last o bytes version (Continued number layout found is here same unchanged) none =
    let e : opening p n None first last ≡ Continues number layout version = ap (λ f. opening p n f first last) (sym none) ∙ found in
    absurd (cc)
begun_number d b d' b' p n first last o bytes version (Begun layout found is made unchanged) none = ap (λ (x : Place). x.number) is

-- the name of the generation before is another
pub last_apart : (p : List ℕ) (a : Place) (g : ℕ) → g < 2 ^ 64 → g + 1 < 2 ^ 64 → a.name ≡ to_be_bytes w64 g
    → (bytes_eq p a.partition && bytes_eq (to_be_bytes w64 (g + 1)) a.name) ≡ false
last_apart p a g s t e = ⊎_elim
    (λ y. absurd (same_number g s t (sym ((bytes_decides (to_be_bytes w64 (g + 1)) a.name).0 (and_parts (bytes_eq p a.partition) _ y).1 ∙ e))))
    (λ n. n)
    (cases_Bool (bytes_eq p a.partition && bytes_eq (to_be_bytes w64 (g + 1)) a.name))

-- a name whose blob was removed
pub removed_gone : (d d' : Directory) (p n : List ℕ) → d' ≡ directory_without d p (Some n) → d'.file p n ≡ None
removed_gone d d' p n gone = ap (λ (x : Directory). x.file p n) gone ∙ cond-true (bytes_eq p p) _ _ ((bytes_decides p p).1 refl) ∙ cond-true (bytes_eq n n) _ _ ((bytes_decides n n).1 refl)
