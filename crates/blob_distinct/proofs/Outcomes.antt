-- One more leaf in a table of outcomes.
use Rattle.std.proofs.Common.{◌≡◌, ◌<◌, ℕ, ◌+◌, Bool, true, false, List, [], ◌∷◌, map, Some, None, refl, arith}
use Rattle.std.specs.Prelude.{String, string_bytes}
use Rattle.std.specs.Global.{Global}
use Rattle.std.specs.Str.{bytes_eq}
use Rattle.std.specs.List.{AllByRecursion}
use Rattle.std.specs.Map.{lookup, set_value}
use Rattle.indexmap.specs.IndexMap.{insert_entry}
use Rattle.blob_distinct.specs.Distinct.{leaf_text, outcome_at, with_leaf}
use Rattle.blob_distinct.specs.declared.tally.Outcome.{Outcome}

abbrev pub Entries : Type 0
Entries = List (String Global × Outcome)

abbrev pub is_at : List ℕ → String Global → Bool
is_at text key = bytes_eq text (string_bytes key)

-- its text exists
pub counted : (text words : List ℕ) (o o' : Outcome) (es : Entries) → lookup (is_at text) es ≡ Some o → o'.leaves ≡ o.leaves + 1 → o'.words ≡ o.words
    → map outcome_at (set_value (is_at text) es o') ≡ with_leaf (map outcome_at es) (leaf_text words text)
counted text words o o' [] found more same = grind arith
counted text words o o' (e ∷ es) found more same = by (bytes_eq text (string_bytes e.0)) refl (counted text words o o' es)
  where
    by : (b : Bool) → bytes_eq text (string_bytes e.0) ≡ b
        → (lookup (is_at text) es ≡ Some o → o'.leaves ≡ o.leaves + 1 → o'.words ≡ o.words → map outcome_at (set_value (is_at text) es o') ≡ with_leaf (map outcome_at es) (leaf_text words text))
        → map outcome_at (set_value (is_at text) (e ∷ es) o') ≡ with_leaf (map outcome_at (e ∷ es)) (leaf_text words text)
    by true h rest = grind arith
    by false h rest = grind arith

-- its text is new
pub added : (text : String Global) (o : Outcome) (es : Entries) → lookup (is_at (string_bytes text)) es ≡ None → o.leaves ≡ 1
    → map outcome_at (insert_entry (λ (a b : String Global). bytes_eq (string_bytes a) (string_bytes b)) es text o) ≡ with_leaf (map outcome_at es) (leaf_text o.words.items (string_bytes text))
added text o [] none one = grind arith
added text o (e ∷ es) none one = by (bytes_eq (string_bytes text) (string_bytes e.0)) refl (added text o es)
  where
    by : (b : Bool) → bytes_eq (string_bytes text) (string_bytes e.0) ≡ b
        → (lookup (is_at (string_bytes text)) es ≡ None → o.leaves ≡ 1 → map outcome_at (insert_entry (λ (a b : String Global). bytes_eq (string_bytes a) (string_bytes b)) es text o)
        ≡ with_leaf (map outcome_at es) (leaf_text o.words.items (string_bytes text)))
        → map outcome_at (insert_entry (λ (a b : String Global). bytes_eq (string_bytes a) (string_bytes b)) (e ∷ es) text o)
        ≡ with_leaf (map outcome_at (e ∷ es)) (leaf_text o.words.items (string_bytes text))
    by true h rest = grind arith
    by false h rest = grind arith

-- a number of leaves that was found is below the bound
pub found_fits : (text : List ℕ) (n : ℕ) (o : Outcome) (es : Entries) → lookup (is_at text) es ≡ Some o → AllByRecursion (λ d. d.leaves < n) (map outcome_at es) → o.leaves < n
found_fits text n o [] found all = absurd (cc)
found_fits text n o (e ∷ es) found all = by (bytes_eq text (string_bytes e.0)) refl (λ f. found_fits text n o es f all.1)
  where
    by : (b : Bool) → bytes_eq text (string_bytes e.0) ≡ b → (lookup (is_at text) es ≡ Some o → o.leaves < n) → o.leaves < n
    by true h rest = grind (arith, all.0)
    by false h rest = grind (arith, rest)
