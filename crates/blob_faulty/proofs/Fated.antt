-- What a write with a drawn outcome leaves, and what it may then return.
use Rattle.std.proofs.Common.{◌≡◌, ◌≢◌, ℕ, Bool, true, false, List, [], ◌∷◌, Option, Some, None, inl, inr, refl, sym, ◌∙◌, subst}
use Rattle.std.specs.Prelude.{Result, Ok, Err, OnErr, IsSome}
use Rattle.blob_header.specs.Refusals.{Refusal, Injected, WriteFailed, error_of}
use Rattle.blob_header.specs.declared.error.Error.{Error}
use Rattle.blob_model.specs.Log.{Entry}
use Rattle.blob_model.specs.Runs.{Run, runs}
use Rattle.blob_draws.specs.Answers.{Allowed, or_memory, allows_laid, allows_runs, last_end, exhausted_or, injected_for}
use Rattle.blob_draws.specs.Faults.{WriteFate, Done, Unsynced, Failed, retention}
use Rattle.blob_faulty.specs.Writes.{View, Logs, Recorded, WroteBy, plain, laid_runs}
use Rattle.blob_faulty.proofs.Fating.{done_plainly, of_synced}
use Rattle.blob_faulty.proofs.Writing.{same_logs}

synced : {R : Type 0} (direct : Bool) (old new : View R) (offset : ℕ) (bytes : List ℕ) (answer : Option Refusal) → bytes ≢ [] → Recorded direct true old new (laid_runs ((offset, bytes) ∷ [])) answer → WroteBy Done direct old new true offset bytes answer
synced direct old new offset [] answer some w = absurd (some refl)
synced direct old new offset (b ∷ bytes) None some w = record {
  done = λ ok. w.wrote.done refl;
  live = λ d. (w.wrote.done refl).live;
  size = λ d. (w.wrote.done refl).size;
  logs = λ d. w.done refl;
  recorded = λ ok. w.done refl;
  undone = λ is some. absurd (cc);
  unrecorded = λ some. absurd (cc);
  injected = λ is. absurd (cc);
  memory = λ m. absurd (cc);
  stale = w.wrote.stale;
  directory = w.wrote.directory;
  place = w.wrote.place;
  config = w.config;
  rng = w.rng;
}
synced direct old new offset (b ∷ bytes) (Some refusal) some w = let table = of_synced old.live old.size old.next_write offset (b ∷ bytes) (retention old.config.write_rate) refusal in record {
  done = λ ok. absurd (cc);
  live = λ d. (w.wrote.refused d refl).live ∙ sym table.live_left;
  size = λ d. (w.wrote.refused d refl).size ∙ sym table.size_left;
  logs = λ d. subst (λ (es : List Entry). Logs old new es) (sym table.entries) (same_logs old new w.wrote.directory (w.wrote.refused d refl).durable (w.refused refl refl));
  recorded = λ ok. absurd (cc);
  undone = λ is some. w.refused refl refl;
  unrecorded = λ some uninjected early. w.refused refl refl;
  injected = λ is. inl (w.refused refl refl);
  memory = w.wrote.memory;
  stale = w.wrote.stale;
  directory = w.wrote.directory;
  place = w.wrote.place;
  config = w.config;
  rng = w.rng;
}

module _ {R : Type 0} (fate : WriteFate) (direct : Bool) (old new : View R) (sync : Bool) (offset : ℕ) (bytes : List ℕ) (answer : Option Refusal) where
  -- a SYNC write that no draw fails
  pub done_synced : fate ≡ Done → sync ≡ true → bytes ≢ [] → Recorded direct true old new (laid_runs ((offset, bytes) ∷ [])) answer → WroteBy fate direct old new sync offset bytes answer
  done_synced f s some w =
      subst (λ (x : WriteFate). WroteBy x direct old new sync offset bytes answer) (sym f)
      (subst (λ (x : Bool). WroteBy Done direct old new x offset bytes answer) (sym s) (synced direct old new offset bytes answer some w))

  -- and another
  pub done_plain : fate ≡ Done → sync ≡ false → Recorded direct true old new (plain offset bytes) answer → WroteBy fate direct old new sync offset bytes answer
  done_plain f s w =
      subst (λ (x : WriteFate). WroteBy x direct old new sync offset bytes answer) (sym f)
      (subst (λ (x : Bool). WroteBy Done direct old new x offset bytes answer) (sym s) (done_plainly direct old new offset bytes answer w))

-- a write with a failed sync
pub done_unsynced : {R : Type 0} (direct : Bool) (old new : View R) (sync : Bool) (offset : ℕ) (bytes : List ℕ) → Recorded direct true old new (plain offset bytes) None → WroteBy Unsynced direct old new sync offset bytes (Some Injected)
done_unsynced direct old new sync offset bytes w = record {
  done = λ ok. absurd (cc);
  live = λ d. (w.wrote.done refl).live;
  size = λ d. (w.wrote.done refl).size;
  logs = λ d. w.done refl;
  recorded = λ ok. absurd (cc);
  undone = λ is. absurd (cc);
  unrecorded = λ some uninjected. absurd (uninjected refl);
  injected = λ is. inr (w.done refl);
  memory = λ m. absurd (cc);
  stale = w.wrote.stale;
  directory = w.wrote.directory;
  place = w.wrote.place;
  config = w.config;
  rng = w.rng;
}

-- a failed one, of which some bytes are kept
pub done_failed : {R : Type 0} (chosen : List Bool) (direct : Bool) (old new : View R) (sync : Bool) (offset : ℕ) (bytes : List ℕ) → Recorded direct direct old new (laid_runs (runs offset bytes chosen)) None →
    WroteBy (Failed chosen) direct old new sync offset bytes (Some Injected)
done_failed chosen direct old new sync offset bytes w = record {
  done = λ ok. absurd (cc);
  live = λ d. (w.wrote.done refl).live;
  size = λ d. (w.wrote.done refl).size;
  logs = λ d. w.done refl;
  recorded = λ ok. absurd (cc);
  undone = λ is. absurd (cc);
  unrecorded = λ some uninjected. absurd (uninjected refl);
  injected = λ is. inr (w.done refl);
  memory = λ m. absurd (cc);
  stale = w.wrote.stale;
  directory = w.wrote.directory;
  place = w.wrote.place;
  config = w.config;
  rng = w.rng;
}

-- a fault in place of Ok, and a refusal that stays
pub fault_allowed : (lacks : Bool) (inner : Allowed) → or_memory (exhausted_or lacks inner) None → or_memory (exhausted_or lacks (injected_for inner)) (Some Injected)
fault_allowed lacks inner (inl memory) = absurd (cc)
fault_allowed true inner (inr e) = absurd (cc)
fault_allowed false inner (inr h) = inr (inl (refl, h))

pub refusal_allowed : (lacks : Bool) (inner : Allowed) (answer : Option Refusal) → IsSome answer → or_memory (exhausted_or lacks inner) answer → or_memory (exhausted_or lacks (injected_for inner)) answer
refusal_allowed lacks inner answer some (inl memory) = inl memory
refusal_allowed true inner answer some (inr e) = inr e
refusal_allowed false inner answer some (inr h) = inr (inr (some, h))

-- runs one after another
pub first_allowed : (writes : ℕ → List ℕ → Bool → Allowed) (direct : Bool) (all : List Run) (r : Run) (rs : List Run) (answer : Option Refusal) → all ≡ r ∷ rs → writes r.0 r.1 true answer → allows_laid writes direct all answer
first_allowed writes direct all r rs answer e h = subst (λ (x : List Run). allows_laid writes direct x answer) (sym e) (inl h)

pub laid_allowed : {T : Type 0} (writes : ℕ → List ℕ → Bool → Allowed) (direct : Bool) (all : List Run) (r : Run) (rs : List Run) (result : Result T Error) → all ≡ r ∷ rs → writes r.0 r.1 true None →
    OnErr result (error_of result ≡ Some WriteFailed) → OnErr result (direct ≡ false) → OnErr result (rs ≢ []) → allows_laid writes direct all (error_of result)
laid_allowed {T} writes direct all r rs (Ok x) e h failed indirect some = first_allowed writes direct all r rs None e h
laid_allowed {T} writes direct all r rs (Err x) e h failed indirect some =
    subst (λ (runs : List Run). allows_laid writes direct runs (error_of {T = T} (Err x))) (sym e) (inr (failed, indirect, some, h))

-- the reservation for them is refused
pub room_allowed : (writes : ℕ → List ℕ → Bool → Allowed) (reserves : ℕ → Allowed) (direct : Bool) (all rs : List Run) (answer : Option Refusal) → rs ≡ all → rs ≢ [] → IsSome answer → or_memory (reserves (last_end 0 rs)) answer → or_memory (allows_runs writes reserves direct all) answer
room_allowed writes reserves direct all rs answer e some refusal h = subst (λ (x : List Run). or_memory (allows_runs writes reserves direct x) answer) e (go rs some h)
  where
    go : (x : List Run) → x ≢ [] → or_memory (reserves (last_end 0 x)) answer → or_memory (allows_runs writes reserves direct x) answer
    go x some (inl memory) = inl memory
    go [] some (inr h) = absurd (some refl)
    go (r ∷ rs) some (inr h) = inr (inl (refusal, h))

pub injected_not_failed : {P : Type 0} → Some Injected ≡ Some WriteFailed → P
injected_not_failed is = absurd (cc)
