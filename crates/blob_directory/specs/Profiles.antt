-- Which edits of a journal count after a crash, and the names that they give.
use Rattle.std.specs.Prelude.{ℕ, zero, suc, Bool, false, not, ◌&&◌, ◌||◌, List, [], ◌∷◌, Some, None, if◌then◌else◌, nat_eq}
use Rattle.blob_directory.specs.Names.{Edit, Names, all_edited, binds_any, edited}
use Rattle.blob_directory.specs.Records.{Found, found_in}

-- which edits count that nothing settled
pub record Rule : Type 0 where
  -- none after a lost one, except those that a sync saw
  pub is_prefix : Bool
  -- a sync saw the edit of this record, and left it unsettled
  pub is_seen : ℕ → Bool
  -- it frees a name that the log of the syncs has
  pub is_followed : ℕ → Bool

-- A sync saw the edit and it was found: it counts whatever was lost before it if it binds a name, or if the log followed it.
abbrev pub seen_one : Bool → Bool → Found → Found
seen_one seen followed None = None
seen_one seen followed (Some (edit, settled)) = Some (edit, settled || (seen && (binds_any edit || followed)))

-- The edits that were found, from a record on: those that a sync saw count as settled ones do. The log follows edits in order, so those
-- alone before which it lost none.
abbrev pub with_seen : Rule → Bool → ℕ → List Found → List Found
with_seen rule behind n [] = []
with_seen rule behind n (None ∷ found) = None ∷ with_seen rule (behind || rule.is_followed n) (suc n) found
with_seen rule behind n (Some f ∷ found) =
    seen_one (rule.is_seen n) (rule.is_followed n && not behind) (Some f) ∷ with_seen rule behind (suc n) found

-- the log follows the edit of one of k records
abbrev pub follows_any : Rule → ℕ → ℕ → Bool
follows_any rule n zero = false
follows_any rule n (suc k) = rule.is_followed n || follows_any rule (suc n) k

-- whether an unsettled edit behind so many lost records is lost
abbrev pub lost_behind : Rule → Bool → ℕ → Bool
lost_behind rule lost zero = lost
lost_behind rule lost (suc n) = lost || rule.is_prefix

-- an edit counts if it was found, and it was settled or none before it was lost
abbrev pub counts : Bool → Found → Bool
counts lost None = false
counts lost (Some (edit, settled)) = settled || not lost

-- the names after a record
abbrev pub with_found : Names → Bool → Found → Names
with_found names lost None = names
with_found names lost (Some (edit, settled)) = if settled || not lost then edited names edit else names

-- Of the edits that were found, those that count: the settled ones, and the others up to the first lost one.
abbrev pub kept_edits : Rule → Bool → List Found → List Edit
kept_edits rule lost [] = []
kept_edits rule lost (None ∷ found) = kept_edits rule (lost || rule.is_prefix) found
kept_edits rule lost (Some (edit, settled) ∷ found) =
    if settled || not lost then edit ∷ kept_edits rule lost found else kept_edits rule lost found

-- of each record, whether its edit counts
abbrev pub all_counts : Rule → Bool → List Found → List Bool
all_counts rule lost [] = []
all_counts rule lost (None ∷ found) = false ∷ all_counts rule (lost || rule.is_prefix) found
all_counts rule lost (Some (edit, settled) ∷ found) = (settled || not lost) ∷ all_counts rule lost found

-- the same of the records of a journal
abbrev pub counts_in : Rule → List ℕ → List Bool
counts_in rule journal = all_counts rule false (with_seen rule false 0 (found_in journal))

-- the edits of a journal that count
abbrev pub edits_of : Rule → List ℕ → List Edit
edits_of rule journal = kept_edits rule false (with_seen rule false 0 (found_in journal))

-- the names that a journal gives: its edits that count, applied in order to no names
abbrev pub names_told : Rule → List ℕ → Names
names_told rule journal = all_edited (λ _. None) (edits_of rule journal)

-- the length of the longest common front of two lists
abbrev pub alike : List ℕ → List ℕ → ℕ
alike [] live = 0
alike (x ∷ found) [] = 0
alike (x ∷ found) (y ∷ live) = if nat_eq x y then suc (alike found live) else 0
