-- What a refused write leaves, by its drawn outcome.
use Rattle.std.proofs.Common.{◌≡◌, ◌≢◌, ◌⊎◌, ⊎_elim, ℕ, ◌+◌, ◌^◌, ◌<◌, Bool, true, false, List, [], ◌∷◌, length, take, Option, Some, None, inl, inr, refl, sym, ◌∙◌, subst, arith}
use Rattle.std.proofs.lemmas.Bool.{cond-false, le-ltb}
use Rattle.rand_core.specs.Stream.{Stream}
use Rattle.blob_model.specs.Live.{all_written, live_after, is_idle}
use Rattle.blob_model.specs.Log.{Entry}
use Rattle.blob_model.specs.declared.mode.PartialWriteMode.{PartialWriteMode}
use Rattle.blob_model.specs.Rates.{Rate}
use Rattle.blob_header.specs.Refusals.{Refusal, OffsetOverflow, BlobMissing, Injected, Memory}
use Rattle.blob_model.specs.Runs.{Run, runs}
use Rattle.blob_draws.specs.declared.config.Config.{Config}
use Rattle.blob_draws.specs.Answers.{Allowed, or_memory, exhausted_or, allows_laid, allows_runs, last_end}
use Rattle.blob_draws.specs.Fates.{has_uncounted_end}
use Rattle.blob_draws.specs.Faults.{WriteFate, Done, Unsynced, Failed, drawn_fate, write_fate, retention}
use Rattle.blob_faulty.specs.Pieces.{first_after}
use Rattle.blob_draws.specs.Changes.{write_changes}
use Rattle.blob_faulty.specs.Writes.{View, Effect, Logs, Recorded, WroteBy, plain, laid_runs, live_of_runs}
use Rattle.blob_faulty.proofs.Adding.{nothing_not}
use Rattle.blob_faulty.proofs.Writing.{same_logs}

-- what the tables say of a refusal that isn't the wrapper's own
pub record Refused (fate : WriteFate) (sync : Bool) (live : List ℕ) (size number offset : ℕ) (bytes : List ℕ) (kept : Option (PartialWriteMode × Rate)) (left : List ℕ) (refusal : Refusal) : Type 0 where
  pub live_left : (write_changes fate kept sync offset bytes (Some refusal)).live live ≡ left
  pub size_left : (write_changes fate kept sync offset bytes (Some refusal)).size size ≡ size
  pub entries : (write_changes fate kept sync offset bytes (Some refusal)).entries number ≡ []

pub of_synced : (live : List ℕ) (size number offset : ℕ) (bytes : List ℕ) (kept : Option (PartialWriteMode × Rate)) (refusal : Refusal) →
    Refused Done true live size number offset bytes kept (live_after true live offset bytes (Some refusal)) refusal
of_synced live size number offset bytes kept (BlobMissing a b) = record { live_left = refl; size_left = refl; entries = refl }
of_synced live size number offset bytes kept _ = record { live_left = refl; size_left = refl; entries = refl }

of_unsynced : (sync : Bool) (live : List ℕ) (size number offset : ℕ) (bytes : List ℕ) (kept : Option (PartialWriteMode × Rate)) (refusal : Refusal) → refusal ≢ Injected →
    Refused Unsynced sync live size number offset bytes kept (live_after false live offset bytes (Some refusal)) refusal
of_unsynced sync live size number offset bytes kept Injected never = absurd (never refl)
of_unsynced sync live size number offset bytes kept _ never = record { live_left = refl; size_left = refl; entries = refl }

spared : (live : List ℕ) (rs : List Run) (refusal : Refusal) → ((o : ℕ) (b : List ℕ) → live_after true live o b (Some refusal) ≡ live) → live ≡ first_after live rs (Some refusal)
spared live [] refusal same = refl
spared live (r ∷ rs) refusal same = sym (same r.0 r.1)

gone : (live : List ℕ) (rs : List Run) (a b : List ℕ) → all_written live (take 1 rs) ≡ first_after live rs (Some (BlobMissing a b))
gone live [] a b = refl
gone live (r ∷ rs) a b = refl

of_failed : (chosen : List Bool) (sync : Bool) (live : List ℕ) (size number offset : ℕ) (bytes : List ℕ) (kept : Option (PartialWriteMode × Rate)) (refusal : Refusal) → refusal ≢ Injected →
    Refused (Failed chosen) sync live size number offset bytes kept (live_of_runs live (runs offset bytes chosen) (Some refusal)) refusal
of_failed chosen sync live size number offset bytes kept (BlobMissing a b) never = record { live_left = gone live (runs offset bytes chosen) a b; size_left = refl; entries = refl }
of_failed chosen sync live size number offset bytes kept Injected never = absurd (never refl)
of_failed chosen sync live size number offset bytes kept _ never = record { live_left = spared live (runs offset bytes chosen) _ (λ o b. refl); size_left = refl; entries = refl }

-- the refusal of what was done in the place of a write
refused_by : {R : Type 0} (fate : WriteFate) (direct whole : Bool) (old new : View R) (sync : Bool) (offset : ℕ) (bytes : List ℕ) (effect : View R → Effect) (refusal : Refusal) →
    (direct ≡ true → Refused fate sync old.live old.size old.next_write offset bytes (retention old.config.write_rate) ((effect old).live (Some refusal)) refusal) →
    (fate ≢ Done) → (direct ≡ true → whole ≡ true) → Recorded direct whole old new effect (Some refusal) → WroteBy fate direct old new sync offset bytes (Some refusal)
refused_by fate direct whole old new sync offset bytes effect refusal table other left w = record {
  done = λ ok. absurd (cc);
  live = λ d. (w.wrote.refused d refl).live ∙ sym (table d).live_left;
  size = λ d. (w.wrote.refused d refl).size ∙ sym (table d).size_left;
  logs = λ d. subst (λ (es : List Entry). Logs old new es) (sym (table d).entries) (same_logs old new w.wrote.directory (w.wrote.refused d refl).durable (w.refused (left d) refl));
  recorded = λ ok. absurd (cc);
  undone = λ is. absurd (other is);
  unrecorded = λ some uninjected never. w.undone some never;
  injected = λ is. inl (w.undone refl (λ later. cc));
  memory = w.wrote.memory;
  stale = w.wrote.stale;
  directory = w.wrote.directory;
  place = w.wrote.place;
  config = w.config;
  rng = w.rng;
}

-- a store that injects nothing doesn't answer the wrapper's own refusal
uninjected : (lacks : Bool) (inner : Allowed) (refusal : Refusal) → (inner (Some Injected) → ⊥) → or_memory (exhausted_or lacks inner) (Some refusal) → refusal ≢ Injected
uninjected lacks inner refusal never (inl memory) is = cc
uninjected true inner refusal never (inr a) is = cc
uninjected false inner refusal never (inr a) is = never (subst (λ (x : Refusal). inner (Some x)) is a)

pub unsynced_refused : {R : Type 0} (direct : Bool) (old new : View R) (sync : Bool) (offset : ℕ) (bytes : List ℕ) (lacks : Bool) (inner : Allowed) (answer : Option Refusal) (refusal : Refusal) → answer ≡ Some refusal →
    (direct ≡ true → inner (Some Injected) → ⊥) → or_memory (exhausted_or lacks inner) answer → Recorded direct true old new (plain offset bytes) answer → WroteBy Unsynced direct old new sync offset bytes (Some refusal)
unsynced_refused {R} direct old new sync offset bytes lacks inner answer refusal is never allowed w =
    refused_by Unsynced direct true old new sync offset bytes (plain offset bytes) refusal
    (λ d. of_unsynced sync old.live old.size old.next_write offset bytes (retention old.config.write_rate) refusal (uninjected lacks inner refusal (never d) (subst (λ (a : Option Refusal). or_memory (exhausted_or lacks inner) a) is allowed)))
    (λ is. cc) (λ _. refl) (subst (λ (a : Option Refusal). Recorded direct true old new (plain offset bytes) a) is w)

pub failed_refused : {R : Type 0} (chosen : List Bool) (direct : Bool) (old new : View R) (sync : Bool) (offset : ℕ) (bytes : List ℕ) (answer : Option Refusal) (refusal : Refusal) → answer ≡ Some refusal →
    (direct ≡ true → refusal ≢ Injected) → Recorded direct direct old new (laid_runs (runs offset bytes chosen)) answer → WroteBy (Failed chosen) direct old new sync offset bytes (Some refusal)
failed_refused chosen direct old new sync offset bytes answer refusal is never w =
    refused_by (Failed chosen) direct direct old new sync offset bytes (laid_runs (runs offset bytes chosen)) refusal
    (λ d. of_failed chosen sync old.live old.size old.next_write offset bytes (retention old.config.write_rate) refusal (never d))
    (λ is. cc) (λ d. d) (subst (λ (a : Option Refusal). Recorded direct direct old new (laid_runs (runs offset bytes chosen)) a) is w)

-- runs are refused by what the inner store refuses
pub runs_uninjected : (writes : ℕ → List ℕ → Bool → Allowed) (reserves : ℕ → Allowed) (direct : Bool) (rs : List Run) (refusal : Refusal) → ((o : ℕ) (b : List ℕ) → writes o b true (Some Injected) → ⊥) → ((end : ℕ) → reserves end (Some Injected) → ⊥) →
    or_memory (allows_runs writes reserves direct rs) (Some refusal) → refusal ≢ Injected
runs_uninjected writes reserves direct rs refusal never none (inl memory) is = cc
runs_uninjected writes reserves direct [] refusal never none (inr a) is = cc
runs_uninjected writes reserves direct (r ∷ rs) refusal never none (inr (inl a)) is = none _ (subst (λ (x : Refusal). reserves (last_end 0 (r ∷ rs)) (Some x)) is a.1)
runs_uninjected writes reserves direct (r ∷ rs) refusal never none (inr (inr a)) is = go a.1 is
  where
    go : allows_laid writes direct (r ∷ rs) (Some refusal) → refusal ≡ Injected → ⊥
    go (inl b) is = never r.0 r.1 (subst (λ (x : Refusal). writes r.0 r.1 true (Some x)) is b)
    go (inr b) is = cc

pub reserve_uninjected : (P : Type 0) → (P → (Injected ≡ OffsetOverflow) ⊎ (Injected ≡ Memory)) → P → ⊥
reserve_uninjected P only a = ⊎_elim (λ o. cc) (λ m. cc) (only a)

-- by the outcome and the result as the code has them
pub of_fate : {R : Type 0} (fate fate' : WriteFate) (direct : Bool) (old new : View R) (sync : Bool) (offset : ℕ) (bytes : List ℕ) (answer answer' : Option Refusal) → fate ≡ fate' → answer ≡ answer' → WroteBy fate' direct old new sync offset bytes answer' → WroteBy fate direct old new sync offset bytes answer
of_fate fate fate' direct old new sync offset bytes answer answer' f a w =
    subst (λ (x : WriteFate). WroteBy x direct old new sync offset bytes answer) (sym f) (subst (λ (x : Option Refusal). WroteBy fate' direct old new sync offset bytes x) (sym a) w)

-- a write of some bytes is drawn if its end doesn't overflow
pub drawn_so : (config : Config) (sync : Bool) (offset : ℕ) (bytes : List ℕ) (stream : Stream) → (sync ≡ true → bytes ≢ []) → offset + length bytes < 2 ^ 64 →
    write_fate config sync offset bytes stream ≡ drawn_fate config sync offset (length bytes) stream
drawn_so config sync offset bytes stream some fits =
    cond-false (is_idle sync bytes) _ _ (nothing_not sync bytes some) ∙ cond-false (has_uncounted_end offset bytes) _ _ (le-ltb _ _ (omega (arith, fits)))

-- a plain write that no draw fails
pub done_plainly : {R : Type 0} (direct : Bool) (old new : View R) (offset : ℕ) (bytes : List ℕ) (answer : Option Refusal) → Recorded direct true old new (plain offset bytes) answer → WroteBy Done direct old new false offset bytes answer
done_plainly direct old new offset bytes None w = record {
  done = λ ok. w.wrote.done refl;
  live = λ d. (w.wrote.done refl).live;
  size = λ d. (w.wrote.done refl).size;
  logs = λ d. w.done refl;
  recorded = λ ok. w.done refl;
  undone = λ is some. absurd (cc);
  unrecorded = λ some. absurd (cc);
  injected = λ is. absurd (cc);
  memory = λ m. absurd (cc);
  stale = w.wrote.stale;
  directory = w.wrote.directory;
  place = w.wrote.place;
  config = w.config;
  rng = w.rng;
}
done_plainly direct old new offset bytes (Some refusal) w = record {
  done = λ ok. absurd (cc);
  live = λ d. (w.wrote.refused d refl).live;
  size = λ d. (w.wrote.refused d refl).size;
  logs = λ d. same_logs old new w.wrote.directory (w.wrote.refused d refl).durable (w.refused refl refl);
  recorded = λ ok. absurd (cc);
  undone = λ is some. w.refused refl refl;
  unrecorded = λ some uninjected early. w.refused refl refl;
  injected = λ is. inl (w.refused refl refl);
  memory = w.wrote.memory;
  stale = w.wrote.stale;
  directory = w.wrote.directory;
  place = w.wrote.place;
  config = w.config;
  rng = w.rng;
}
