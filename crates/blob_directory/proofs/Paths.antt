-- The first name of a path.
use Rattle.std.proofs.Common.{◌≡◌, ◌==◌, ◌⊎◌, inl, inr, ℕ, suc, ◌+◌, ◌<◌, Bool, true, false, cond, not, List, [], ◌∷◌, length, take, drop, filter, refl, sym, ◌∙◌, ap, ap₂, subst, ⊎_elim, arith}
use Rattle.std.specs.List.{onto_first, prefix_len, slice_split}
use Rattle.std.proofs.lemmas.Bool.{cases_Bool, true≢false}
use Rattle.std.proofs.lemmas.Bool.Decides.{nat_tests}
use Rattle.blob_directory.specs.Paths.{has_bytes, is_slash, path_names}

abbrev is_other : ℕ → Bool
is_other b = not (is_slash b)

next : (n : ℕ) → 1 + n ≡ suc n
next n = omega arith

-- slashes before a name don't count
pub after_slashes : (path : List ℕ) → path_names path ≡ path_names (drop (prefix_len is_slash path) path)
after_slashes [] = refl
after_slashes (b ∷ path) = ⊎_elim
    (λ (yes : is_slash b ≡ true).
    ap (λ (v : Bool). filter has_bytes (cond v ([] ∷ slice_split is_slash path) (onto_first b (slice_split is_slash path)))) yes
    ∙ after_slashes path
    ∙ ap path_names (sym (ap (λ (v : Bool). drop (cond v (1 + prefix_len is_slash path) 0) (b ∷ path)) yes ∙ ap (λ (n : ℕ). drop n (b ∷ path)) (next (prefix_len is_slash path)))))
    (λ (no : is_slash b ≡ false). ap path_names (sym (ap (λ (v : Bool). drop (cond v (1 + prefix_len is_slash path) 0) (b ∷ path)) no)))
    (cases_Bool (is_slash b))

-- after them the path is empty, or begins with a name
begins : (path : List ℕ) → (drop (prefix_len is_slash path) path ≡ []) ⊎ ((b : ℕ) × (rest : List ℕ) × (drop (prefix_len is_slash path) path ≡ b ∷ rest) × (is_slash b ≡ false))
begins [] = inl refl
begins (b ∷ path) = ⊎_elim
    (λ (yes : is_slash b ≡ true).
    let more : drop (prefix_len is_slash (b ∷ path)) (b ∷ path) ≡ drop (prefix_len is_slash path) path =
    ap (λ (v : Bool). drop (cond v (1 + prefix_len is_slash path) 0) (b ∷ path)) yes ∙ ap (λ (n : ℕ). drop n (b ∷ path)) (next (prefix_len is_slash path)) in
    ⊎_elim (λ none. inl (more ∙ none)) (λ some. inr (some.0, some.1, more ∙ some.2, some.3)) (begins path))
    (λ (no : is_slash b ≡ false). inr (b, path, ap (λ (v : Bool). drop (cond v (1 + prefix_len is_slash path) 0) (b ∷ path)) no, no))
    (cases_Bool (is_slash b))

-- what is before the first slash is the first part
pub record Parts (path : List ℕ) : Type 0 where
  pub rest : List (List ℕ)
  pub is : slice_split is_slash path ≡ take (prefix_len is_other path) path ∷ rest
  pub names : filter has_bytes rest ≡ path_names (drop (prefix_len is_other path) path)

parts : (path : List ℕ) → Parts path
parts [] = record { rest = []; is = refl; names = refl }
parts (b ∷ path) =
    let s : List (List ℕ) = slice_split is_slash path in
    let m : ℕ = prefix_len is_other path in
    let h : Parts path = parts path in
    ⊎_elim
    (λ (yes : is_slash b ≡ true). record {
      rest = s;
      is = ap (λ (v : Bool). cond v ([] ∷ s) (onto_first b s)) yes ∙ ap (λ (v : Bool). take (cond (not v) (1 + m) 0) (b ∷ path) ∷ s) (sym yes);
      names = sym (ap (λ (v : Bool). filter has_bytes (cond v ([] ∷ s) (onto_first b s))) yes) ∙ ap (λ (v : Bool). path_names (drop (cond (not v) (1 + m) 0) (b ∷ path))) (sym yes);
    })
    (λ (no : is_slash b ≡ false). record {
      rest = h.rest;
      is = ap (λ (v : Bool). cond v ([] ∷ s) (onto_first b s)) no ∙ ap (onto_first b) h.is
          ∙ ap (λ (l : List ℕ). l ∷ h.rest) (sym (ap (λ (v : Bool). take (cond (not v) (1 + m) 0) (b ∷ path)) no ∙ ap (λ (n : ℕ). take n (b ∷ path)) (next m)));
      names = h.names ∙ ap path_names (sym (ap (λ (v : Bool). drop (cond (not v) (1 + m) 0) (b ∷ path)) no ∙ ap (λ (n : ℕ). drop n (b ∷ path)) (next m)));
    })
    (cases_Bool (is_slash b))

pub record Begins (path left : List ℕ) : Type 0 where
  pub names : path_names path ≡ take (prefix_len is_other left) left ∷ path_names (drop (prefix_len is_other left) left)
  pub some : 0 < prefix_len is_other left

first_part : (b : ℕ) (rest : List ℕ) → is_slash b ≡ false → Begins (b ∷ rest) (b ∷ rest)
first_part b rest other =
    let h : Parts (b ∷ rest) = parts (b ∷ rest) in
    let m : ℕ = prefix_len is_other rest in
    let t : take (prefix_len is_other (b ∷ rest)) (b ∷ rest) ≡ b ∷ take m rest =
    ap (λ (v : Bool). take (cond (not v) (1 + m) 0) (b ∷ rest)) other ∙ ap (λ (n : ℕ). take n (b ∷ rest)) (next m) in
    let long : prefix_len is_other (b ∷ rest) ≡ 1 + m = ap (λ (v : Bool). cond (not v) (1 + m) 0) other in
    record {
      names = ap (filter has_bytes) h.is
          ∙ ap (λ (x : List ℕ). cond (has_bytes x) (x ∷ filter has_bytes h.rest) (filter has_bytes h.rest)) t
          ∙ ap₂ (λ (x : List ℕ) (l : List (List ℕ)). x ∷ l) (sym t) h.names;
      some = omega (arith, long);
    }

-- a path that isn't empty after its slashes begins with a name
pub first : (path left : List ℕ) → left ≡ drop (prefix_len is_slash path) path → false ≡ (length left == 0) → Begins path left
first path left is some = ⊎_elim
    (λ none. absurd (true≢false (sym (some ∙ ap (λ (l : List ℕ). length l == 0) (is ∙ none)))))
    (λ h.
    let left_is : left ≡ h.0 ∷ h.1 = is ∙ h.2 in
    let begins : Begins (h.0 ∷ h.1) left = subst (λ (l : List ℕ). Begins (h.0 ∷ h.1) l) (sym left_is) (first_part h.0 h.1 h.3) in
    record { names = after_slashes path ∙ ap path_names h.2 ∙ begins.names; some = begins.some })
    (begins path)

-- one that is empty has no name
pub none : (path left : List ℕ) → left ≡ drop (prefix_len is_slash path) path → true ≡ (length left == 0) → path_names path ≡ []
none path left is empty = after_slashes path ∙ ap path_names (sym is) ∙ no_bytes left empty
  where
    no_bytes : (l : List ℕ) → true ≡ (length l == 0) → path_names l ≡ []
    no_bytes [] h = refl
    no_bytes (b ∷ l) h = let never : ⊥ = grind (arith, nat_tests, h) in absurd never
