-- The states of a table.
use Rattle.std.proofs.Common.{◌≡◌, ℕ, Bool, true, false, if◌then◌else◌, List, [], ◌∷◌, ◌++◌, map, refl, sym, ap, arith}
use Rattle.std.specs.Prelude.{String, Vec, string_bytes}
use Rattle.std.specs.Global.{Global}
use Rattle.std.specs.Str.{bytes_eq}
use Rattle.std.specs.List.{list_any}
use Rattle.std.specs.Map.{keys_of}
use Rattle.indexmap.specs.IndexMap.{insert_entry}
use Rattle.blob_distinct.specs.Found.{LeftState, has_lines, left_by, state_in, with_state}

abbrev pub Entries : Type 0
Entries = List (String Global × Vec ℕ Global)

abbrev pub is_at : List ℕ → String Global → Bool
is_at text key = bytes_eq text (string_bytes key)

-- whether it has the lines
pub has_key : (text : List ℕ) (es : Entries) → list_any (is_at text) (keys_of es) ≡ has_lines (map state_in es) text
has_key text [] = refl
has_key text (e ∷ es) = grind (arith, has_key text es)

-- a state that is new goes last
pub added : (lines : String Global) (words : Vec ℕ Global) (es : Entries) → list_any (is_at (string_bytes lines)) (keys_of es) ≡ false
    → map state_in (insert_entry (λ (a b : String Global). bytes_eq (string_bytes a) (string_bytes b)) es lines words) ≡ map state_in es ++ left_by words.items (string_bytes lines) ∷ []
added lines words [] none = refl
added lines words (e ∷ es) none = by (bytes_eq (string_bytes lines) (string_bytes e.0)) refl (added lines words es)
  where
    by : (b : Bool) → bytes_eq (string_bytes lines) (string_bytes e.0) ≡ b
        → (list_any (is_at (string_bytes lines)) (keys_of es) ≡ false → map state_in (insert_entry (λ (x y : String Global). bytes_eq (string_bytes x) (string_bytes y)) es lines words) ≡ map state_in es ++ left_by words.items (string_bytes lines) ∷ [])
        → map state_in (insert_entry (λ (x y : String Global). bytes_eq (string_bytes x) (string_bytes y)) (e ∷ es) lines words) ≡ map state_in (e ∷ es) ++ left_by words.items (string_bytes lines) ∷ []
    by true h rest = grind arith
    by false h rest = grind arith

-- the states with one more
pub there : (states : List LeftState) (state : LeftState) → has_lines states state.lines ≡ true → states ≡ with_state states state
there states state h = ap (λ (b : Bool). if b then states else states ++ state ∷ []) (sym h)

pub not_there : (states : List LeftState) (state : LeftState) → has_lines states state.lines ≡ false → states ++ state ∷ [] ≡ with_state states state
not_there states state h = ap (λ (b : Bool). if b then states else states ++ state ∷ []) (sym h)
