-- Stores that represent files, and bytes that every crash leaves.
use Rattle.std.proofs.Common.{◌≡◌, ◌∷◌, ℕ, List, [], Option, Some, option_map, refl, ap, ap₂, ◌∙◌}
use Rattle.std.specs.Prelude.{unwrap_or}
use Rattle.std.proofs.lemmas.Bool.{cond-true}
use Rattle.blob_model.specs.Durable.{Durable}
use Rattle.blob_model.specs.Files.{wrap}
use Rattle.blob_model.specs.Log.{Choices, Entry, replay_log}
use Rattle.blob_model.specs.Pending.{Pending}
use Rattle.blob_model.specs.Places.{Place, same_place}
use Rattle.blob_model.specs.SamePlace.{same_self}
use Rattle.blob_model.specs.Stands.{replayed_at, retire}
use Rattle.blob_model.proofs.FileSteps.{stands_same, stands_wrapped}
use Rattle.blob_memory.specs.Store.{directory, durable}
use Rattle.blob_draws.specs.Recorded.{kept_entries}
use Rattle.blob_faulty.specs.Keeps.{OverMemory, bytes_found}
use Rattle.blob_faulty.specs.Wrapper.{KeepsRecords, inner_of, next_marker_of, next_write_of, pending_of}
use Rattle.blob_journal.specs.Currents.{IsFixed, Represents, pending_at}
use Rattle.blob_journal.proofs.Overlays.{over_nothing}

-- a call that records nothing
pub unrecorded : {R : Type 0} (before after : OverMemory R) → directory (inner_of after) ≡ directory (inner_of before) → durable (inner_of after) ≡ durable (inner_of before)
    → KeepsRecords (λ (o : Place). o) before after → Represents before → Represents after
unrecorded before after named bytes records (files, stands) =
    let s = stands_same (directory (inner_of before)) (directory (inner_of after)) (durable (inner_of before)) (durable (inner_of after))
    (pending_of (λ (o : Place). o) before) (pending_of (λ (o : Place). o) after) (next_write_of before) (next_marker_of before) files named
    (λ a. ap (λ (d : Durable). d a) bytes) records.pending stands in (
      files,
      record {
        directory = s.directory;
        at = s.at;
        next_write = records.numbers.next_write ∙ s.next_write;
        next_marker = records.numbers.next_marker ∙ s.next_marker;
        rising = s.rising;
        fresh = s.fresh;
      },
    )

-- a store of which nothing is pending
pub nothing_pending : {R : Type 0} (store : OverMemory R) → ((o : Place) → pending_at store o ≡ []) → Represents store
nothing_pending store none = (
  wrap (directory (inner_of store)) (bytes_found (durable (inner_of store))) (next_write_of store) (next_marker_of store),
  stands_wrapped (directory (inner_of store)) (durable (inner_of store)) (pending_of (λ (o : Place). o) store) (bytes_found (durable (inner_of store))) (next_write_of store) (next_marker_of store)
      (λ a x e. ap (λ (v : Option (List ℕ)). unwrap_or v []) e) none,
)

-- durable bytes of which nothing is pending
pub fixed_by : {R : Type 0} (store : OverMemory R) (o : Place) (bytes : List ℕ) → durable (inner_of store) o ≡ Some bytes → pending_at store o ≡ [] → IsFixed store o bytes
fixed_by store o bytes is none = record {
  durable = is;
  left = λ t. ap₂ (λ (q : List Pending) (x : Option (List ℕ)). replayed_at t q x) none is;
}

-- the same durable bytes, and the same is pending
pub fixed_same : {R : Type 0} (before after : OverMemory R) (o : Place) (bytes : List ℕ) → durable (inner_of after) o ≡ durable (inner_of before) o → pending_at after o ≡ pending_at before o
    → IsFixed before o bytes → IsFixed after o bytes
fixed_same before after o bytes same pending h = record {
  durable = same ∙ h.durable;
  left = λ t. ap₂ (λ (q : List Pending) (x : Option (List ℕ)). replayed_at t q x) pending same ∙ h.left t;
}

-- a SYNC write over nothing
pub kept_whole : (t : Choices) (bytes : List ℕ) → replay_log [] (kept_entries 0 bytes) t ≡ bytes
kept_whole t [] = refl
kept_whole t (b ∷ bytes) = over_nothing (b ∷ bytes)

pub kept_left : (t : Choices) (bytes : List ℕ) (entries : List Entry) (before after : Option (List ℕ)) → entries ≡ kept_entries 0 bytes → before ≡ Some []
    → after ≡ option_map (λ x. replay_log x entries t) before → after ≡ Some bytes
kept_left t bytes entries before after same none is = is
    ∙ ap₂ (λ (es : List Entry) (x : Option (List ℕ)). option_map (λ y. replay_log y es t) x) same none
    ∙ ap Some (kept_whole t bytes)

-- what is pending of an incarnation that is admitted
pub retired_at : (lists : Place → List Pending) (found : Option Place) (o : Place) → found ≡ Some o → retire lists found o ≡ []
retired_at lists found o is = ap (λ (f : Option Place). retire lists f o) is ∙ cond-true (same_place o o) [] (lists o) (same_self o)
