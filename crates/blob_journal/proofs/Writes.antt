-- What an unsynced write that was done records.
use Rattle.std.proofs.Common.{◌≡◌, inl, inr, ℕ, List, Bool, true, false, Option, Some, None, Result, Ok, Err, ap, refl, sym, ◌∙◌, length, if◌then◌else◌}
use Rattle.std.specs.Prelude.{MatchBool, OnOk, codes, is_some, option_and_then, option_map}
use Rattle.std.proofs.lemmas.Bool.{false≢true}
use Rattle.rand_core.specs.Stream.{Stream}
use Rattle.blob_header.specs.Refusals.{OffsetOverflow, Refusal, error_of}
use Rattle.blob_header.specs.declared.error.Error.{Error}
use Rattle.blob_model.specs.Directory.{Directory, current}
use Rattle.blob_model.specs.Log.{Choices}
use Rattle.blob_model.specs.Pending.{Pending}
use Rattle.blob_model.specs.Places.{Place}
use Rattle.blob_model.specs.Stands.{replayed_at}
use Rattle.blob_model.specs.Rates.{Rate}
use Rattle.blob_model.specs.Runs.{runs}
use Rattle.blob_model.specs.declared.mode.PartialWriteMode.{PartialWriteMode}
use Rattle.blob_memory.specs.Store.{directory, durable}
use Rattle.blob_memory.specs.declared.storage.Storage as memory
use Rattle.blob_draws.specs.Answers.{Allowed, allows_fate, allows_runs, allows_write, exhausted_or, injected_for, or_memory}
use Rattle.blob_draws.specs.Changes.{lacks_number, loose, write_changes}
use Rattle.blob_draws.specs.Fates.{has_uncounted_end}
use Rattle.blob_draws.specs.Faults.{WriteFate, Uncounted, Done, Unsynced, Failed, drawn_fate, retention}
use Rattle.blob_draws.specs.Recorded.{recorded_write}
use Rattle.blob_draws.specs.declared.config.Config.{Config}
use Rattle.blob_faulty.specs.Keeps.{OverMemory}
use Rattle.blob_faulty.specs.Wrapper.{inner_of}
use Rattle.blob_journal.specs.Blobs.{file_name}
use Rattle.blob_journal.specs.Currents.{SamePending, left_at, pending_at}

-- a plain write that returns Ok is done

no_fault : (inner : Allowed) → injected_for inner None → ⊥
no_fault inner (inl h) = let e = h.0 in cc
no_fault inner (inr h) = absurd (false≢true h.0)

no_numbered : (b : Bool) (inner : Allowed) → exhausted_or b (injected_for inner) None → ⊥
no_numbered true inner e = cc
no_numbered false inner h = no_fault inner h

module _ (writes : ℕ → List ℕ → Bool → Allowed) (reserves : ℕ → Allowed) (direct : Bool) where
  by_fate : (t : Bool) (drawn : WriteFate × Stream) (left : Stream) (retained : Bool) (kept : Option (PartialWriteMode × Rate)) (next offset : ℕ) (bytes : List ℕ)
      → MatchBool t (None ≡ Some OffsetOverflow) (or_memory (allows_fate drawn.0 writes reserves direct retained next false offset bytes) None)
      → (write_changes (if t then (Uncounted, left) else drawn).0 kept false offset bytes None).entries next ≡ loose kept next offset bytes
  by_fate true drawn left retained kept next offset bytes h = cc
  by_fate false (Done, s) left retained kept next offset bytes h = refl
  by_fate false (Unsynced, s) left retained kept next offset bytes (inl e) = cc
  by_fate false (Unsynced, s) left retained kept next offset bytes (inr h) = absurd (no_numbered (lacks_number retained next bytes) (writes offset bytes false) h)
  by_fate false (Failed chosen, s) left retained kept next offset bytes (inl e) = cc
  by_fate false (Failed chosen, s) left retained kept next offset bytes (inr h) = absurd (no_fault (allows_runs writes reserves direct (runs offset bytes chosen)) h)
  by_fate false (fate, s) left retained kept next offset bytes (inl e) = cc
  by_fate false (fate, s) left retained kept next offset bytes (inr h) = absurd h

  -- so it records itself, by the mode and the rate that are set
  pub recorded_loose : (config : Config) (next : ℕ) (stream : Stream) (offset : ℕ) (bytes : List ℕ) (sync : Bool) → sync ≡ false
      → allows_write writes reserves direct config next stream offset bytes sync None
      → recorded_write config next stream sync offset bytes None ≡ loose (retention config.write_rate) next offset bytes
  unfolding allows_write
  recorded_loose config next stream offset bytes true plain h = absurd (false≢true (sym plain))
  recorded_loose config next stream offset bytes false plain h =
      by_fate (has_uncounted_end offset bytes) (drawn_fate config false offset (length bytes) stream) stream (is_some (retention config.write_rate)) (retention config.write_rate) next offset bytes h

-- of a call that was done, and what its answer allows
pub by_answer : {T A B C : Type 0} (r : Result T Error) (P : Option Refusal → Type 0) → P (error_of r) → OnOk r A → (error_of r ≡ None → B) → (A → P None → B → C) → OnOk r C
by_answer (Ok x) P p a b f = f a p (b refl)
by_answer (Err e) P p a b f = tt

-- of three facts about a call that was done
pub by_oks : {T A B C D : Type 0} (r : Result T Error) → OnOk r A → OnOk r B → (error_of r ≡ None → C) → (A → B → C → D) → OnOk r D
by_oks (Ok x) a b c f = f a b (c refl)
by_oks (Err e) a b c f = tt

-- a crash leaves of a file's number what it leaves of its current blob

abbrev pub crashed_in : {R : Type 0} → OverMemory R → Choices → ℕ → Option (List ℕ)
crashed_in store t inode = option_and_then (λ (o : Place). left_at store t o) (current (directory (inner_of store)) (codes "f") (file_name inode))

crashed_is : {R : Type 0} (store : OverMemory R) (t : Choices) (inode : ℕ) (o : Place) → current (directory (inner_of store)) (codes "f") (file_name inode) ≡ Some o → crashed_in store t inode ≡ left_at store t o
crashed_is store t inode o at = ap (option_and_then (λ (p : Place). left_at store t p)) at

pub crashed_by : {R : Type 0} (before after : OverMemory R) (t : Choices) (inode : ℕ) (o : Place) (f : List ℕ → List ℕ) → current (directory (inner_of before)) (codes "f") (file_name inode) ≡ Some o
    → directory (inner_of after) ≡ directory (inner_of before) → left_at after t o ≡ option_map f (left_at before t o) → crashed_in after t inode ≡ option_map f (crashed_in before t inode)
crashed_by before after t inode o f at same left =
    crashed_is after t inode o (ap (λ (d : Directory). current d (codes "f") (file_name inode)) same ∙ at) ∙ left ∙ ap (option_map f) (sym (crashed_is before t inode o at))

abbrev left_of_pending : {R : Type 0} → OverMemory R → Choices → Place → List Pending → Option (List ℕ)
left_of_pending store t o pending = replayed_at t pending (durable (inner_of store) o)

alike_at : (f g : Place → Option (List ℕ)) (x : Option Place) → ((o : Place) → f o ≡ g o) → option_and_then f x ≡ option_and_then g x
alike_at f g None h = refl
alike_at f g (Some o) h = h o

-- a call that changes neither the store below nor what is pending
pub crashed_alike : {R : Type 0} (before after : OverMemory R) (t : Choices) (inode : ℕ) → inner_of after ≡ inner_of before → SamePending before after
    → crashed_in after t inode ≡ crashed_in before t inode
crashed_alike before after t inode inner same =
    ap (λ (s : memory.Storage). option_and_then (λ (o : Place). replayed_at t (pending_at after o) (durable s o)) (current (directory s) (codes "f") (file_name inode))) inner
    ∙ alike_at (λ o. left_of_pending before t o (pending_at after o)) (λ o. left_at before t o) (current (directory (inner_of before)) (codes "f") (file_name inode))
    (λ o. ap (left_of_pending before t o) (same o))
