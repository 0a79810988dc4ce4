-- What the calls of a disk leave of a version and a value.
use Rattle.std.proofs.Common.{◌≡◌, ℕ, suc, ◌+◌, ◌<◌, List, [], ◌∷◌, length, get_or, sym, subst, ap, ap₂, ◌∙◌, inl, inr, arith, ext_get_or}
use Rattle.sqlite_disk.specs.Disk.{Torn, Mixed, Cut, Holds}
use Rattle.disk_cell.specs.Held.{KeepsFirst, MaySetFirst, next_version}

-- a first byte and the rest, by index
pub is_cons : (c : List ℕ) (v : ℕ) (rest : List ℕ) → length c ≡ length rest + 1 → get_or c 0 0 ≡ v → ((i : ℕ) → i < length rest → get_or c (suc i) 0 ≡ get_or rest i 0) → c ≡ v ∷ rest
is_cons [] v rest len first each = absurd (omega (arith, len))
is_cons (x ∷ xs) v rest len first each = ap₂ (λ (a : ℕ) (b : List ℕ). a ∷ b) first (ext_get_or 0 xs rest (omega (arith, len)) (λ i low. each i (omega (arith, len, low))))

pub keeps_torn : (n : ℕ) (d c : List ℕ) → Torn 1 n d c → KeepsFirst d c
keeps_torn n d c t some = (omega (arith, t.no_shorter, some), t.below 0 some (omega arith))

pub keeps_cut : (n : ℕ) (d c : List ℕ) → Cut (n + 1) d c → KeepsFirst d c
keeps_cut n d c t some = (omega (arith, t.no_shorter, some), t.below 0 some (omega arith))

pub keeps_then : (a b c : List ℕ) → KeepsFirst a b → KeepsFirst b c → KeepsFirst a c
keeps_then a b c f g some = let x = f some in let y = g x.0 in (y.0, y.1 ∙ x.1)

-- the bytes of a value, at their places
pub value_at : (c value : List ℕ) (i : ℕ) → Holds c 1 value → i < length value → get_or c (suc i) 0 ≡ get_or value i 0
value_at c value i h low = let e : 1 + i ≡ suc i = omega arith in subst (λ (k : ℕ). get_or c k 0 ≡ get_or value i 0) e (h.each i low)

pub after_value : (old mid new value : List ℕ) → Torn 1 (length value) old mid → (0 < length value → Holds mid 1 value) → Cut (length value + 1) mid new
    → length new ≡ length value + 1 → 0 < length old → new ≡ get_or old 0 0 ∷ value
after_value old mid new value torn holds cut len some =
    let first = keeps_then old mid new (keeps_torn (length value) old mid torn) (keeps_cut (length value) mid new cut) some in
    is_cons new (get_or old 0 0) value len first.1
    (λ i low. let h = holds (omega (arith, low)) in cut.below (suc i) (omega (arith, h.within, low)) (omega (arith, low)) ∙ value_at mid value i h low)

-- a write of the first byte leaves the rest
pub one_byte : (c : List ℕ) (x first : ℕ) (rest : List ℕ) → Torn 0 1 (first ∷ rest) c → get_or c 0 0 ≡ x → c ≡ x ∷ rest
one_byte c x first rest t is = is_cons c x rest (omega (arith, t.no_shorter, t.no_longer)) is
    (λ i low. t.above (suc i) (omega (arith, low)) (omega arith))

pub may_set : (v : ℕ) (d c : List ℕ) → Mixed 0 (v ∷ []) d c → MaySetFirst v d c
may_set v d c m first rest is =
    let torn : Torn 0 1 (first ∷ rest) c = subst (λ (x : List ℕ). Torn 0 1 x c) is m.torn in
    let some : 0 < length d = omega (arith, ap length is) in
    elim (m.each 0 (omega arith) some) [
      | inl same ↦ inl (one_byte c first first rest torn (same ∙ ap (λ (x : List ℕ). get_or x 0 0) is) ∙ sym is)
      | inr set ↦ inr (one_byte c v first rest torn set)
    ]

-- a new file: its length, the value, then the version
pub after_format : (sized mid new value : List ℕ) (v : ℕ) → length sized ≡ length value + 1 → Torn 1 (length value) sized mid → (0 < length value → Holds mid 1 value)
    → Torn 0 1 mid new → Holds new 0 (v ∷ []) → new ≡ v ∷ value
after_format sized mid new value v len torn holds one set =
    is_cons new v value (omega (arith, len, torn.no_shorter, torn.no_longer, one.no_shorter, one.no_longer)) (set.each 0 (omega arith))
    (λ i low. let h = holds (omega (arith, low)) in one.above (suc i) (omega (arith, h.within, low)) (omega arith) ∙ value_at mid value i h low)

pub no_cycle : (v : ℕ) → next_version (next_version v) ≡ v → ⊥
no_cycle v = grind arith
