-- A fixed byte: in its incarnation, after any crash, and in the live bytes of each handle on it.
use Rattle.std.proofs.Common.{◌≡◌, ℕ, ◌<◌, ◌++◌, ◌&&◌, ◌==◌, List, [], ◌∷◌, true, Option, Some, None, refl, sym, ap, ◌∙◌, subst, set, length, ⊎_elim}
use Rattle.std.specs.Prelude.{option_map}
use Rattle.std.specs.Cmp.Lexicographic.{bytes_decides}
use Rattle.std.specs.Str.{bytes_eq}
use Rattle.std.proofs.lemmas.Bool.{and_parts, and_from, eqb-true, eq-eqb, false≢true}
use Rattle.blob_header.specs.declared.layout.Layout.{Layout}
use Rattle.blob_model.specs.Directory.{Directory, File, Raw, Incarnation, current, is_that, is_current}
use Rattle.blob_header.specs.Header.{data_start, region}
use Rattle.blob_model.specs.Files.{Files, durable_at}
use Rattle.blob_model.specs.Opening.{place_of}
use Rattle.blob_model.specs.Persistence.{HasByte, IsFixed}
use Rattle.blob_model.specs.Places.{Place, same_place}
use Rattle.blob_model.specs.SamePlace.{same_place_exact}
use Rattle.blob_lab_model.specs.Answers.{kept_at}
use Rattle.blob_lab_model.specs.Fixed.{Byte, is_of, is_on, HasIn, Has}
use Rattle.blob_opens.specs.OpenNames.{Registration}
use Rattle.blob_lab_model.specs.States.{State, Held, held_on}
use Rattle.blob_lab_model.proofs.Slots.{kept_set, kept_push}

-- a handle's live bytes have it, and its tracked size includes it
pub record IsLive (b : Byte) (h : Held) : Type 0 where
  pub live : HasByte b.position b.value h.live
  pub size : b.position < h.size

-- each handle on this incarnation
abbrev pub AreLive : List (Option Held) → Place → Byte → Type 0
AreLive handles o b = (i : ℕ) (h : Held) → kept_at handles i ≡ Some h → same_place h.place o ≡ true → IsLive b h

-- the incarnation of a byte's blob with this number and layout
abbrev pub at : Byte → ℕ → Layout → Place
at b number layout = place_of b.partition b.name number layout

pub data IsFirm (f : Files) (handles : List (Option Held)) (b : Byte) : Type 0 where
  -- in the current incarnation
  Now : (number : ℕ) (layout : Layout) (version : ℕ) → f.directory.file b.partition b.name ≡ Some (Incarnation number layout version)
      → IsFixed b.position b.value f (at b number layout) → AreLive handles (at b number layout) b → IsFirm f handles b
  -- after the header of a raw file
  Behind : (layout : Layout) (version : ℕ) (bytes : List ℕ) → f.directory.file b.partition b.name ≡ Some (Raw (region layout version ++ bytes))
      → HasByte b.position b.value bytes → IsFirm f handles b

-- Handles on a byte's blob.

-- places with equal parts
same_parts : (a o : Place) → a.partition ≡ o.partition → a.name ≡ o.name → a.number ≡ o.number → a.start ≡ o.start → same_place a o ≡ true
same_parts a o p n k s =
    and_from (bytes_eq a.partition o.partition) (bytes_eq a.name o.name && ((a.number == o.number) && (a.start == o.start))) ((bytes_decides a.partition o.partition).1 p)
    (and_from (bytes_eq a.name o.name) ((a.number == o.number) && (a.start == o.start)) ((bytes_decides a.name o.name).1 n)
    (and_from (a.number == o.number) (a.start == o.start) (eq-eqb a.number o.number k) (eq-eqb a.start o.start s)))

self_that : (number : ℕ) (layout : Layout) (version : ℕ) → is_that (Some (Incarnation number layout version)) number (data_start layout) ≡ true
self_that number layout version = and_from (number == number) (data_start layout == data_start layout) (eq-eqb number number refl) (eq-eqb (data_start layout) (data_start layout) refl)

module _ (d : Directory) (b : Byte) where
  -- the incarnation of the name is current
  pub current_at : (number : ℕ) (layout : Layout) (version : ℕ) → d.file b.partition b.name ≡ Some (Incarnation number layout version) → is_current d (at b number layout) ≡ true
  current_at number layout version e = ap (λ (x : Option File). is_that x number (data_start layout)) e ∙ self_that number layout version

  -- the partition and name of the byte
  pub of_parts : (p n : List ℕ) → is_of p (Some n) b ≡ true → (p ≡ b.partition) × (n ≡ b.name)
  of_parts p n e =
      let t = and_parts (bytes_eq p b.partition) (bytes_eq n b.name) e in
      ((bytes_decides p b.partition).0 t.0, (bytes_decides n b.name).0 t.1)

  of_self : (p n : List ℕ) → p ≡ b.partition → n ≡ b.name → is_of p (Some n) b ≡ true
  of_self p n e f = and_from (bytes_eq p b.partition) (bytes_eq n b.name) ((bytes_decides p b.partition).1 e) ((bytes_decides n b.name).1 f)

  -- a handle on the blob is on the incarnation of the name
  pub on_file : (h : Held) → is_on d h b ≡ true → is_that (d.file b.partition b.name) h.place.number h.place.start ≡ true
  on_file h on =
      let t = and_parts (is_of h.place.partition (Some h.place.name) b) (is_current d h.place) on in
      let e = of_parts h.place.partition h.place.name t.0 in
      sym (λ i. is_that (d.file (e.0 i) (e.1 i)) h.place.number h.place.start) ∙ t.1

  pub on_place : (h : Held) (number : ℕ) (layout : Layout) (version : ℕ) → d.file b.partition b.name ≡ Some (Incarnation number layout version) → is_on d h b ≡ true → same_place h.place (at b number layout) ≡ true
  on_place h number layout version e on =
      let t = and_parts (is_of h.place.partition (Some h.place.name) b) (is_current d h.place) on in
      let names = of_parts h.place.partition h.place.name t.0 in
      let that : is_that (Some (Incarnation number layout version)) h.place.number h.place.start ≡ true = ap (λ (x : Option File). is_that x h.place.number h.place.start) (sym e) ∙ on_file h on in
      let s = and_parts (number == h.place.number) (data_start layout == h.place.start) that in
      same_parts h.place (at b number layout) names.0 names.1 (sym (eqb-true number h.place.number s.0)) (sym (eqb-true (data_start layout) h.place.start s.1))

  pub place_on : (h : Held) (number : ℕ) (layout : Layout) (version : ℕ) → d.file b.partition b.name ≡ Some (Incarnation number layout version) → same_place h.place (at b number layout) ≡ true → is_on d h b ≡ true
  place_on h number layout version e same =
      let exact = same_place_exact h.place (at b number layout) same in
      and_from (is_of h.place.partition (Some h.place.name) b) (is_current d h.place)
      (of_self h.place.partition h.place.name (ap (λ (o : Place). o.partition) exact) (ap (λ (o : Place). o.name) exact))
      (ap (is_current d) exact ∙ current_at number layout version e)

-- A fixed byte has its value.

pub firm_has : (v : State) (b : Byte) → IsFirm v.files v.handles b → Has v b
firm_has v b (Now number layout version e fixed live) = record {
  durable = subst (λ (x : Option File). HasIn v.files x b) (sym e) fixed.durable;
  live = λ i h here on. (live i h here (on_place v.files.directory b h number layout version e on)).live;
}
firm_has v b (Behind layout version bytes e has) = record {
  durable = subst (λ (x : Option File). HasIn v.files x b) (sym e) (layout, version, bytes, refl, has);
  live = λ i h here on. absurd (false≢true (ap (λ (x : Option File). is_that x h.place.number h.place.start) (sym e) ∙ on_file v.files.directory b h on));
}

-- Tables of handles.

-- a table with one slot set
pub live_set : (handles : List (Option Held)) (number : ℕ) (slot : Option Held) (o : Place) (b : Byte) → ((h : Held) → slot ≡ Some h → same_place h.place o ≡ true → IsLive b h) → AreLive handles o b → AreLive (set handles number slot) o b
live_set handles number slot o b new old i h here same =
    ⊎_elim
    (λ (n : (number ≡ i) × (slot ≡ Some h)). new h n.1 same)
    (λ (k : (number ≡ i → ⊥) × (kept_at handles i ≡ Some h)). old i h k.1 same)
    (kept_set handles number slot i h here)

-- a table with a new handle
opened_live : (f : Files) (registration : Option Registration) (slot : Option Place) (h : Held) (o : Place) (b : Byte) → HasByte b.position b.value (durable_at f o) → option_map (held_on f registration) slot ≡ Some h → same_place h.place o ≡ true → IsLive b h
opened_live f registration None h o b has e same = cc
opened_live f registration (Some a) h o b has e same =
    let is : held_on f registration a ≡ h = cc in
    let there : same_place a o ≡ true = subst (λ (g : Held). same_place g.place o ≡ true) (sym is) same in
    let bytes : HasByte b.position b.value (durable_at f a) = subst (λ (x : Place). HasByte b.position b.value (durable_at f x)) (sym (same_place_exact a o there)) has in
    subst (IsLive b) is (record { live = bytes; size = bytes.0 })

pub firm_held : (f : Files) (handles : List (Option Held)) (p n : List ℕ) (registration : Option Registration) (b : Byte) → IsFirm f handles b → IsFirm f (handles ++ option_map (held_on f registration) (current f.directory p n) ∷ []) b
firm_held f handles p n registration b (Now number layout version e fixed live) = Now number layout version e fixed (λ i h here same.
    ⊎_elim
    (λ (new : (i ≡ length handles) × (option_map (held_on f registration) (current f.directory p n) ≡ Some h)). opened_live f registration (current f.directory p n) h (at b number layout) b fixed.durable new.1 same)
    (λ (old : kept_at handles i ≡ Some h). live i h old same)
    (kept_push handles (option_map (held_on f registration) (current f.directory p n)) i h here))
firm_held f handles p n registration b (Behind layout version bytes e has) = Behind layout version bytes e has

-- a closed handle
pub firm_closed : (f : Files) (handles : List (Option Held)) (number : ℕ) (b : Byte) → IsFirm f handles b → IsFirm f (set handles number None) b
firm_closed f handles k b (Now number layout version e fixed live) = Now number layout version e fixed (live_set handles k None (at b number layout) b (λ h new same. cc) live)
firm_closed f handles k b (Behind layout version bytes e has) = Behind layout version bytes e has
