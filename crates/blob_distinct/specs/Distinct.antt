-- The distinct outcomes of the leaves that were visited.
use Rattle.std.specs.Prelude.{◌≡◌, ℕ, ◌+◌, ◌-◌, ◌^◌, ◌<◌, Bool, not, List, [], ◌∷◌, ◌++◌, map, filter, length, if◌then◌else◌, string_bytes, String}
use Rattle.std.specs.Global.{Global}
use Rattle.std.specs.List.{AllByRecursion}
use Rattle.std.specs.Str.{bytes_eq}
use Rattle.indexmap.specs.IndexMap.{IndexMap}
use Rattle.blob_distinct.specs.declared.tally.Outcome.{Outcome}

-- a visited leaf: the words of its run, and the text that is printed of its replies
pub record LeafText : Type 0 where
  pub words : List ℕ
  pub text : List ℕ

-- an outcome: its text, the number of leaves with this text, and the words of the first of them
pub record Distinct : Type 0 where
  pub text : List ℕ
  pub leaves : ℕ
  pub words : List ℕ

abbrev pub has_text : List ℕ → LeafText → Bool
has_text text leaf = bytes_eq text leaf.text

-- the outcome has another text
abbrev pub is_other : List ℕ → Distinct → Bool
is_other text outcome = not (bytes_eq text outcome.text)

-- The outcomes in the order of their first leaves: that of the first leaf, and then those of the later leaves without
-- this one.
abbrev pub outcomes_of : List LeafText → List Distinct
outcomes_of [] = []
outcomes_of (leaf ∷ later) =
    record { text = leaf.text; leaves = length (filter (has_text leaf.text) (leaf ∷ later)); words = leaf.words }
    ∷ filter (is_other leaf.text) (outcomes_of later)

-- these outcomes after one more leaf
abbrev pub with_leaf : List Distinct → LeafText → List Distinct
with_leaf [] leaf = record { text = leaf.text; leaves = 1; words = leaf.words } ∷ []
with_leaf (o ∷ os) leaf =
    if bytes_eq leaf.text o.text then record o { leaves = o.leaves + 1 } ∷ os else o ∷ with_leaf os leaf

-- one more leaf of each outcome can be counted
abbrev pub CountsFit : List Distinct → Type 0
CountsFit os = AllByRecursion (λ o. o.leaves < 2 ^ 64 - 1) os

-- the outcomes of a table
abbrev pub distinct : List ℕ → Outcome → Distinct
distinct text outcome = record { text = text; leaves = outcome.leaves; words = outcome.words.items }

abbrev pub outcome_at : String Global × Outcome → Distinct
outcome_at entry = distinct (string_bytes entry.0) entry.1

abbrev pub outcomes_in : {S : Type 0} → IndexMap (String Global) Outcome S → List Distinct
outcomes_in table = map outcome_at table.entries

-- an outcome with this text before its own
abbrev pub behind : List ℕ → Distinct → Distinct
behind front outcome = record outcome { text = front ++ outcome.text }

abbrev pub leaf_text : List ℕ → List ℕ → LeafText
leaf_text words text = record { words = words; text = text }

-- the table has one more leaf, if its count doesn't overflow
abbrev pub AddsLeaf : {S T : Type 0} → IndexMap (String Global) Outcome S → IndexMap (String Global) Outcome T → LeafText
    → Type 0
AddsLeaf old new leaf = CountsFit (outcomes_in old) → outcomes_in new ≡ with_leaf (outcomes_in old) leaf
