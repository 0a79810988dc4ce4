-- One more state among those that were found.
use Rattle.std.proofs.Common.{◌≡◌, ◌≢◌, ℕ, Bool, true, false, if◌then◌else◌, List, [], ◌∷◌, ◌++◌, get_or, refl, sym, subst}
use Rattle.std.specs.List.{All, AllPairs, Contains, list_any}
use Rattle.std.specs.Str.{bytes_eq}
use Rattle.std.specs.Cmp.Lexicographic.{nat_list_eq_equiv}
use Rattle.std.proofs.lemmas.List.{map-append}
use Rattle.std.proofs.lemmas.List.Elements.{All-push, Contains-append_left, Contains-get_or, Contains-push}
use Rattle.std.proofs.lemmas.List.Quantifiers.{all_pairs_push}
use Rattle.std.proofs.lemmas.Map.Views.{Contains-from_any, list_any-from_Contains}
use Rattle.std.proofs.lemmas.Slice.Eq.{bytes_eq-Decides}
use Rattle.blob_distinct.specs.Found.{LeftState, has_lines, lines_in, lines_of, with_state}

same_bytes : (a b : List ℕ) → bytes_eq a b ≡ true → a ≡ b
same_bytes a b h = (bytes_eq-Decides a b).0 h

-- The state exists afterwards, and the earlier ones stay.

pub has_now : (states : List LeftState) (state : LeftState) → Contains (lines_in (with_state states state)) state.lines
has_now states state = by (has_lines states state.lines) refl
  where
    by : (b : Bool) → has_lines states state.lines ≡ b → Contains (lines_in (if b then states else states ++ state ∷ [])) state.lines
    by true h = Contains-from_any same_bytes state.lines (lines_in states) h
    by false h = subst (λ (ls : List (List ℕ)). Contains ls state.lines) (sym (map-append lines_of states (state ∷ []))) (Contains-push (lines_in states) state.lines)

pub has_still : (states : List LeftState) (state : LeftState) (lines : List ℕ) → Contains (lines_in states) lines → Contains (lines_in (with_state states state)) lines
has_still states state lines here = by (has_lines states state.lines)
  where
    by : (b : Bool) → Contains (lines_in (if b then states else states ++ state ∷ [])) lines
    by true = here
    by false = subst (λ (ls : List (List ℕ)). Contains ls lines) (sym (map-append lines_of states (state ∷ []))) (Contains-append_left (lines_in states) (state.lines ∷ []) lines here)

-- what holds of each state, and of the new one
pub all_with : (P : LeftState → Type 0) (states : List LeftState) (state : LeftState) → All P states → P state → All P (with_state states state)
all_with P states state all one = by (has_lines states state.lines)
  where
    by : (b : Bool) → All P (if b then states else states ++ state ∷ [])
    by true = all
    by false = All-push P states state all one

-- no two are equal
pub once_with : (states : List LeftState) (state : LeftState) → AllPairs (λ a b. a ≢ b) (lines_in states) → AllPairs (λ a b. a ≢ b) (lines_in (with_state states state))
once_with states state once = by (has_lines states state.lines) refl
  where
    other : has_lines states state.lines ≡ false → (lines : List ℕ) → Contains (lines_in states) lines → lines ≢ state.lines
    other none lines here same =
        let there : list_any (bytes_eq state.lines) (lines_in states) ≡ true = list_any-from_Contains nat_list_eq_equiv state.lines (lines_in states) (subst (Contains (lines_in states)) same here) in
        cc

    by : (b : Bool) → has_lines states state.lines ≡ b → AllPairs (λ a b. a ≢ b) (lines_in (if b then states else states ++ state ∷ []))
    by true h = once
    by false h =
        subst (AllPairs (λ (a b : List ℕ). a ≢ b)) (sym (map-append lines_of states (state ∷ [])))
        (all_pairs_push (λ (a b : List ℕ). a ≢ b) (lines_in states) state.lines once (λ k d below. other h (get_or (lines_in states) k d) (Contains-get_or (lines_in states) k d below)))
