-- The edits that a sync saw, among those that were found.
use Rattle.std.proofs.Common.{◌≡◌, ℕ, zero, suc, ◌+◌, ◌-◌, ◌<◌, ◌≤◌, List, [], ◌∷◌, ◌++◌, replicate, Bool, true, false, not, ◌&&◌, ◌||◌, Some, None, is_some, refl, ap, ap₂, ◌∙◌, sym, arith}
use Rattle.blob_packed.specs.Records.{Record, found_from}
use Rattle.blob_directory.specs.Names.{Edit}
use Rattle.blob_directory.specs.Profiles.{Rule, follows_any, lost_behind, seen_one, with_seen}
use Rattle.blob_directory.specs.Records.{Found, edit_found, edits_from}
use Rattle.blob_directory.specs.Rules.{SameRule, any}
use Rattle.blob_directory.specs.Settled.{AreSettled, IsBeside}
use Rattle.blob_directory.proofs.Journals.{edits_next}

or_assoc : (a b c : Bool) → ((a || b) || c) ≡ (a || (b || c))
or_assoc true b c = refl
or_assoc false b c = refl

or_false : (a : Bool) → (a || false) ≡ a
or_false true = refl
or_false false = refl

-- lost records before some edits
pub seen_behind : (rule : Rule) (behind : Bool) (n k : ℕ) (found : List Found)
    → with_seen rule behind n (replicate k None ++ found) ≡ replicate k None ++ with_seen rule (behind || follows_any rule n k) (n + k) found
seen_behind rule behind n zero found = ap₂ (λ (b : Bool) (m : ℕ). with_seen rule b m found) (sym (or_false behind)) (omega arith)
seen_behind rule behind n (suc k) found =
    ap (λ (l : List Found). None ∷ l)
    (seen_behind rule (behind || rule.is_followed n) (suc n) k found
    ∙ ap₂ (λ (b : Bool) (m : ℕ). replicate k None ++ with_seen rule b m found) (or_assoc behind (rule.is_followed n) (follows_any rule (suc n) k)) (omega arith))

-- and behind them
pub seen_before : (rule : Rule) (behind : Bool) (n last : ℕ) (found : List Found)
    → with_seen rule behind n (found ++ replicate last None) ≡ with_seen rule behind n found ++ replicate last None
seen_before rule behind n zero [] = refl
seen_before rule behind n (suc last) [] = ap (λ (l : List Found). None ∷ l) (seen_before rule (behind || rule.is_followed n) (suc n) last [])
seen_before rule behind n last (None ∷ found) =
    ap (λ (l : List Found). None ∷ l) (seen_before rule (behind || rule.is_followed n) (suc n) last found)
seen_before rule behind n last (Some f ∷ found) =
    ap (λ (l : List Found). seen_one (rule.is_seen n) (rule.is_followed n && not behind) (Some f) ∷ l) (seen_before rule behind (suc n) last found)

-- one record that is found, with an edit or without
seen_first : (rule : Rule) (behind : Bool) (n : ℕ) (f : Found) (found : List Found)
    → with_seen rule behind n (f ∷ found)
    ≡ seen_one (rule.is_seen n) (rule.is_followed n && not behind) f ∷ with_seen rule (behind || (rule.is_followed n && not (is_some f))) (suc n) found
seen_first rule behind n None found = ap (λ (b : Bool). None ∷ with_seen rule (behind || b) (suc n) found) (sym (and_true (rule.is_followed n)))
  where
    and_true : (a : Bool) → (a && true) ≡ a
    and_true true = refl
    and_true false = refl
seen_first rule behind n (Some f) found =
    ap (λ (b : Bool). seen_one (rule.is_seen n) (rule.is_followed n && not behind) (Some f) ∷ with_seen rule b (suc n) found) (sym (same behind (rule.is_followed n)))
  where
    same : (a b : Bool) → (a || (b && false)) ≡ a
    same true b = refl
    same false true = refl
    same false false = refl

-- the next record, as bytes have it
pub seen_next : (rule : Rule) (behind now : Bool) (next number : ℕ) (left more : List ℕ) (r : Record) → next ≤ number
    → found_from next left ≡ replicate (number - next) None ++ (Some r ∷ found_from (number + 1) more)
    → now ≡ (behind || follows_any rule next (number - next))
    → with_seen rule behind next (edits_from next left)
    ≡ replicate (number - next) None
    ++ (seen_one (rule.is_seen number) (rule.is_followed number && not now) (edit_found (Some r))
    ∷ with_seen rule (now || (rule.is_followed number && not (is_some (edit_found (Some r))))) (number + 1) (edits_from (number + 1) more))
seen_next rule behind now next number left more r low is then =
    let f : Found = edit_found (Some r) in
    let rest : List Found = edits_from (number + 1) more in
    let at : next + (number - next) ≡ number = omega (arith, low) in
    let after : suc number ≡ number + 1 = omega arith in
    ap (with_seen rule behind next) (edits_next next number left more r is)
    ∙ seen_behind rule behind next (number - next) (f ∷ rest)
    ∙ ap₂ (λ (b : Bool) (m : ℕ). replicate (number - next) None ++ with_seen rule b m (f ∷ rest)) (sym then) at
    ∙ ap (λ (l : List Found). replicate (number - next) None ++ l) (seen_first rule now number f rest)
    ∙ ap (λ (k : ℕ). replicate (number - next) None
    ++ (seen_one (rule.is_seen number) (rule.is_followed number && not now) f
    ∷ with_seen rule (now || (rule.is_followed number && not (is_some f))) k rest)) after

-- settled edits
pub seen_settled : (rule : Rule) (behind : Bool) (n : ℕ) (found : List Found) → AreSettled found → with_seen rule behind n found ≡ found
seen_settled rule behind n [] h = refl
seen_settled rule behind n (None ∷ found) h =
    ap (λ (l : List Found). None ∷ l) (seen_settled rule (behind || rule.is_followed n) (suc n) found h)
seen_settled rule behind n (Some (edit, true) ∷ found) h = ap (λ (l : List Found). Some (edit, true) ∷ l) (seen_settled rule behind (suc n) found h.1)
seen_settled rule behind n (Some (edit, false) ∷ found) h = let no = h.0 in absurd (cc)

-- with `any` no sync counts
pub seen_any : (behind : Bool) (n : ℕ) (found : List Found) → with_seen any behind n found ≡ found
seen_any behind n [] = refl
seen_any behind n (None ∷ found) = ap (λ (l : List Found). None ∷ l) (seen_any (behind || false) (suc n) found)
seen_any behind n (Some (edit, settled) ∷ found) =
    ap₂ (λ (s : Bool) (l : List Found). Some (edit, s) ∷ l) (or_false settled) (seen_any behind (suc n) found)

-- a settled edit among others
pub seen_parts : (rule : Rule) (behind : Bool) (n : ℕ) (before after : List Found) (edit : Edit)
    → (front : List Found) × (b : Bool) × (m : ℕ) × (with_seen rule behind n (before ++ Some (edit, true) ∷ after) ≡ front ++ Some (edit, true) ∷ with_seen rule b m after)
seen_parts rule behind n [] after edit = ([], behind, suc n, refl)
seen_parts rule behind n (None ∷ before) after edit =
    let h = seen_parts rule (behind || rule.is_followed n) (suc n) before after edit in
    (None ∷ h.0, h.1, h.2, ap (λ (l : List Found). None ∷ l) h.3)
seen_parts rule behind n (Some f ∷ before) after edit =
    let h = seen_parts rule behind (suc n) before after edit in
    let one : Found = seen_one (rule.is_seen n) (rule.is_followed n && not behind) (Some f) in
    (one ∷ h.0, h.1, h.2, ap (λ (l : List Found). one ∷ l) h.3)

-- edits of other entries
pub seen_beside : (rule : Rule) (behind : Bool) (n : ℕ) (e : List ℕ) (found : List Found) → IsBeside e found → IsBeside e (with_seen rule behind n found)
seen_beside rule behind n e [] h = tt
seen_beside rule behind n e (None ∷ found) h = seen_beside rule (behind || rule.is_followed n) (suc n) e found h
seen_beside rule behind n e (Some (edit, settled) ∷ found) h = (h.0, seen_beside rule behind (suc n) e found h.1)

-- records that the same log follows
pub follows_same : (a b : Rule) (n k : ℕ) → SameRule a b → follows_any a n k ≡ follows_any b n k
follows_same a b n zero same = refl
follows_same a b n (suc k) same = ap₂ (λ (x y : Bool). x || y) (same.followed n) (follows_same a b (suc n) k same)

follows_parts : (rule : Rule) (n a b : ℕ) → follows_any rule n (a + b) ≡ (follows_any rule n a || follows_any rule (n + a) b)
follows_parts rule n zero b =
    let at : n ≡ n + zero = omega arith in
    let long : zero + b ≡ b = omega arith in
    ap₂ (λ (m k : ℕ). follows_any rule m k) at long
follows_parts rule n (suc a) b =
    let at : suc n + a ≡ n + suc a = omega arith in
    let long : suc a + b ≡ suc (a + b) = omega arith in
    ap (follows_any rule n) long
    ∙ ap (λ (t : Bool). rule.is_followed n || t) (follows_parts rule (suc n) a b ∙ ap (λ (m : ℕ). follows_any rule (suc n) a || follows_any rule m b) at)
    ∙ sym (or_assoc (rule.is_followed n) (follows_any rule (suc n) a) (follows_any rule (n + suc a) b))

-- one of them is followed
pub follows_here : (rule : Rule) (first n end : ℕ) → first ≤ n → n < end → rule.is_followed n ≡ true → follows_any rule first (end - first) ≡ true
follows_here rule first n end low high is =
    let here : ℕ = n - first in
    let more : ℕ = end - suc n in
    let at : first + here ≡ n = omega (arith, low) in
    let long : end - first ≡ here + suc more = omega (arith, low, high) in
    ap (follows_any rule first) long
    ∙ follows_parts rule first here (suc more)
    ∙ ap (λ (m : ℕ). follows_any rule first here || (rule.is_followed m || follows_any rule (suc m) more)) at
    ∙ ap (λ (b : Bool). follows_any rule first here || (b || follows_any rule (suc n) more)) is
    ∙ or_true (follows_any rule first here)
  where
    or_true : (a : Bool) → (a || true) ≡ true
    or_true true = refl
    or_true false = refl

-- none up to one, nor that
pub follows_none : (rule : Rule) (first n : ℕ) → first ≤ n → follows_any rule first (n - first) ≡ false → rule.is_followed n ≡ false → follows_any rule first ((n + 1) - first) ≡ false
follows_none rule first n low none is =
    let here : ℕ = n - first in
    let at : first + here ≡ n = omega (arith, low) in
    let long : (n + 1) - first ≡ here + 1 = omega (arith, low) in
    ap (follows_any rule first) long
    ∙ follows_parts rule first here 1
    ∙ ap₂ (λ (a : Bool) (m : ℕ). a || (rule.is_followed m || false)) none at
    ∙ ap (λ (b : Bool). b || false) is

-- what the same rule loses with some records
pub lost_same : (a b : Rule) (lost : Bool) (k : ℕ) → SameRule a b → lost_behind a lost k ≡ lost_behind b lost k
lost_same a b lost zero same = refl
lost_same a b lost (suc k) same = ap (λ (p : Bool). lost || p) same.prefix
