-- What a write leaves, from what its outcome does to a handle and its wrapper.
use Rattle.std.specs.Prelude.{max, is_some, MatchBool}
use Rattle.std.proofs.Common.{◌≡◌, ◌≢◌, ⊎_elim, ℕ, ◌+◌, ◌^◌, ◌<◌, Bool, true, false, true≢false, List, [], ◌∷◌, length, Option, Some, None, inl, inr, refl, sym, ◌∙◌, ap, subst, arith}
use Rattle.std.proofs.lemmas.Bool.{cond-false, cond-true, le-ltb}
use Rattle.rand_core.specs.Stream.{Stream}
use Rattle.blob_base.specs.declared.storage.Blob as handles
use Rattle.blob_base.specs.declared.storage.Durable as stores
use Rattle.blob_header.specs.Refusals.{Refusal, Memory, Injected, OffsetOverflow, WriteFailed}
use Rattle.blob_model.specs.Live.{is_idle}
use Rattle.blob_draws.specs.declared.config.Config.{Config}
use Rattle.blob_draws.specs.Fates.{has_uncounted_end}
use Rattle.blob_draws.specs.Faults.{WriteFate, Uncounted, Failed, drawn_fate, write_fate, retention}
use Rattle.blob_draws.specs.Changes.{Changes, laying, write_changes}
use Rattle.blob_draws.specs.Recorded.{written_by, recorded_write, live_of_write, size_of_write}
use Rattle.blob_draws.proofs.Unchanged.{memory_changes}
use Rattle.blob_faulty.specs.declared.blob.Blob.{Blob}
use Rattle.blob_faulty.specs.declared.storage.Storage.{Storage}
use Rattle.blob_faulty.specs.Asked.{InnerMade, Unasked, AsksWrite, AsksDrawn}
use Rattle.blob_faulty.specs.HandleLeaves.{WriteLeaves, LeavesFailed, AddsToLog, Untouched, size_written}
use Rattle.blob_faulty.specs.Writes.{WroteBy, FailedBy, SameRecords, Logs, view_of}
use Rattle.blob_faulty.proofs.Adding.{nothing_not}
use Rattle.blob_faulty.proofs.Fating.{drawn_so}
use Rattle.blob_faulty.proofs.Writing.{adds_of, drawn_adds}

-- refused for memory, a write changes nothing
none_changed : (config : Config) (stream : Stream) (sync : Bool) (offset : ℕ) (bytes : List ℕ) → written_by config stream sync offset bytes (Some Memory) ≡ laying [] (λ number. [])
none_changed config stream sync offset bytes = memory_changes (write_fate config sync offset bytes stream).0 (retention config.write_rate) sync offset bytes

-- the size after a write with something to do
size_some : (sync : Bool) (size offset : ℕ) (bytes : List ℕ) → (sync ≡ true → bytes ≢ []) → size_written sync size offset bytes ≡ max size (offset + length bytes)
size_some true size offset [] some = absurd (some refl refl)
size_some true size offset (x ∷ bytes) some = refl
size_some false size offset bytes some = refl

-- a case of a test
pub match_false : (t : Bool) (A B : Type 0) → t ≡ false → B → MatchBool t A B
match_false true A B is h = absurd (true≢false is)
match_false false A B is h = h

pub match_true : (t : Bool) (A B : Type 0) → t ≡ true → A → MatchBool t A B
match_true true A B is h = h
match_true false A B is h = absurd (true≢false (sym is))

match_any : (t : Bool) (A B : Type 0) → A → B → MatchBool t A B
match_any true A B a b = a
match_any false A B a b = b

-- of a write with something to do and an end that doesn't overflow
counted : (offset : ℕ) (bytes : List ℕ) → offset + length bytes < 2 ^ 64 → has_uncounted_end offset bytes ≡ false
counted offset bytes fits = le-ltb _ _ (omega (arith, fits))

changes_so : (config : Config) (stream : Stream) (sync : Bool) (offset : ℕ) (bytes : List ℕ) (answer : Option Refusal) (fate : WriteFate) → (sync ≡ true → bytes ≢ []) → offset + length bytes < 2 ^ 64 →
    fate ≡ (drawn_fate config sync offset (length bytes) stream).0 → written_by config stream sync offset bytes answer ≡ write_changes fate (retention config.write_rate) sync offset bytes answer
changes_so config stream sync offset bytes answer fate some fits is =
    ap (λ (f : WriteFate). write_changes f (retention config.write_rate) sync offset bytes answer) (ap (λ (d : WriteFate × Stream). d.0) (drawn_so config sync offset bytes stream some fits) ∙ sym is)

-- what was asked by the outcome was asked by the draws
asked_so : {S R O B : Type 0} (handle : handles.Ghosts B S O) (b c : Blob B) (w w' : Storage S R O) (stream : Stream) (sync : Bool) (offset : ℕ) (bytes : List ℕ) (answer : Option Refusal) (fate : WriteFate) → (sync ≡ true → bytes ≢ []) → offset + length bytes < 2 ^ 64 →
    fate ≡ (drawn_fate w.config sync offset (length bytes) stream).0 → AsksWrite handle b w c w' fate sync offset bytes answer → AsksDrawn handle b w c w' w.config stream sync offset bytes answer
asked_so {S} {R} {O} {B} handle b c w w' stream sync offset bytes answer fate some fits is asked =
    match_false (is_idle sync bytes) (InnerMade handle b w c w' [] answer) (MatchBool (has_uncounted_end offset bytes) (Unasked handle b w c w' answer) (AsksWrite handle b w c w' (drawn_fate w.config sync offset (length bytes) stream).0 sync offset bytes answer))
    (nothing_not sync bytes some)
    (match_false (has_uncounted_end offset bytes) (Unasked handle b w c w' answer) (AsksWrite handle b w c w' (drawn_fate w.config sync offset (length bytes) stream).0 sync offset bytes answer) (counted offset bytes fits)
    (subst (λ (f : WriteFate). AsksWrite handle b w c w' f sync offset bytes answer) is asked))

-- refused for memory before the draws
unasked_so : {S R O B : Type 0} (handle : handles.Ghosts B S O) (b : Blob B) (w w' : Storage S R O) (stream : Stream) (sync : Bool) (offset : ℕ) (bytes : List ℕ) (answer : Option Refusal) →
    (sync ≡ true → bytes ≢ []) → answer ≡ Some Memory → w'.inner ≡ w.inner → AsksDrawn handle b w b w' w.config stream sync offset bytes answer
unasked_so {S} {R} {O} {B} handle b w w' stream sync offset bytes answer some memory same =
    match_false (is_idle sync bytes) (InnerMade handle b w b w' [] answer) (MatchBool (has_uncounted_end offset bytes) (Unasked handle b w b w' answer) (AsksWrite handle b w b w' (drawn_fate w.config sync offset (length bytes) stream).0 sync offset bytes answer))
    (nothing_not sync bytes some)
    (match_any (has_uncounted_end offset bytes) _ _ unasked (inl unasked))
  where
    unasked : Unasked handle b w b w' answer
    unasked = (ap is_some memory, refl, same)

-- by its outcome
pub write_leaves : {S R O B : Type 0} (store : stores.Ghosts S O) (handle : handles.Ghosts B S O) (stream : R → Stream) (b c : Blob B) (w w' : Storage S R O) (rng : R) (sync : Bool) (offset : ℕ) (bytes : List ℕ) (answer : Option Refusal) (fate : WriteFate) →
    (sync ≡ true → bytes ≢ []) → offset + length bytes < 2 ^ 64 →
    fate ≡ (drawn_fate w.config sync offset (length bytes) (stream w.rng)).0 → stream rng ≡ (drawn_fate w.config sync offset (length bytes) (stream w.rng)).1 →
    AsksWrite handle b w c w' fate sync offset bytes answer →
    WroteBy fate handle.is_direct (view_of store handle b (record w { rng = rng })) (view_of store handle c w') sync offset bytes answer →
    (answer ≡ Some WriteFailed → FailedBy store handle b (record w { rng = rng }) c w' fate offset bytes) →
    WriteLeaves store handle stream offset bytes sync b w answer c w'
write_leaves {S} {R} {O} {B} store handle stream b c w w' rng sync offset bytes answer fate some fits is left asked wrote failed = record {
  drawn = λ other. ap stream wrote.rng ∙ left ∙ sym (ap (λ (d : WriteFate × Stream). d.1) (drawn_so w.config sync offset bytes (stream w.rng) some fits));
  config = wrote.config;
  asked = asked_so handle b c w w' (stream w.rng) sync offset bytes answer fate some fits is asked;
  recorded = λ direct. logged answer (wrote.logs direct);
  live_after = λ direct. wrote.live direct ∙ sym (ap (λ (c : Changes). c.live (handle.live b.inner)) (changes_so w.config (stream w.rng) sync offset bytes answer fate some fits is));
  size = λ direct. wrote.size direct ∙ sym (ap (λ (c : Changes). c.size b.size) (changes_so w.config (stream w.rng) sync offset bytes answer fate some fits is));
  done = λ ok. logged None (wrote.recorded ok);
  done_size = λ ok. (wrote.done ok).size ∙ sym (size_some sync b.size offset bytes some);
  refused = λ done refusal. untouched (wrote.undone (is ∙ done) refusal);
  unrecorded = λ refusal uninjected early. untouched (wrote.unrecorded refusal uninjected early);
  injected = λ fault. ⊎_elim (λ k. inl (untouched k)) (λ logs. inr (logged (Some Injected) logs)) (wrote.injected fault);
  failed = λ early. subst (λ (f : WriteFate). LeavesFailed store handle f offset bytes b w c w') is (left_by fate (failed early));
}
  where
    logged : (a : Option Refusal) → Logs (view_of store handle b (record w { rng = rng })) (view_of store handle c w') ((write_changes fate (retention w.config.write_rate) sync offset bytes a).entries w.next_write) →
        AddsToLog store handle b w w' (recorded_write w.config w.next_write (stream w.rng) sync offset bytes a)
    logged a logs = adds_of store handle b c w w' rng _ _ wrote.directory (ap (λ (c : Changes). c.entries w.next_write) (changes_so w.config (stream w.rng) sync offset bytes a fate some fits is)) logs

    untouched : SameRecords (view_of store handle b (record w { rng = rng })) (view_of store handle c w') → Untouched store b w c w'
    untouched k = record { records = record { pending = k.pending; numbers = record { next_write = k.next_write; next_marker = k.next_marker; config = wrote.config } }; size = k.size }

    left_by : (f : WriteFate) → FailedBy store handle b (record w { rng = rng }) c w' f offset bytes → LeavesFailed store handle f offset bytes b w c w'
    left_by (Failed chosen) l = record {
      front = l.1.front;
      left = l.0;
      parts = l.1.parts;
      refused = l.1.is;
      pending = l.1.lays.pending;
      size = l.1.lays.size;
      numbers = record { next_write = l.1.lays.next_write; next_marker = l.1.lays.next_marker; config = wrote.config };
    }
    left_by fate k = untouched k

-- refused for memory before its outcome was drawn
pub write_undrawn : {S R O B : Type 0} (store : stores.Ghosts S O) (handle : handles.Ghosts B S O) (stream : R → Stream) (b : Blob B) (w : Storage S R O) (rng : R) (sync : Bool) (offset : ℕ) (bytes : List ℕ) (answer : Option Refusal) → (sync ≡ true → bytes ≢ []) →
    answer ≡ Some Memory → WriteLeaves store handle stream offset bytes sync b w answer b (record w { rng = rng })
write_undrawn {S} {R} {O} {B} store handle stream b w rng sync offset bytes answer some memory = record {
  drawn = λ other. absurd (other memory);
  config = refl;
  asked = unasked_so handle b w (record w { rng = rng }) (stream w.rng) sync offset bytes answer some memory refl;
  recorded = λ direct. drawn_adds store.place _ _ w rng _ _ (ap (recorded_write w.config w.next_write (stream w.rng) sync offset bytes) memory ∙ ap (λ (c : Changes). c.entries w.next_write) (none_changed w.config (stream w.rng) sync offset bytes));
  live_after = λ direct. sym (ap (live_of_write w.config (stream w.rng) sync (handle.live b.inner) offset bytes) memory ∙ ap (λ (c : Changes). c.live (handle.live b.inner)) (none_changed w.config (stream w.rng) sync offset bytes));
  size = λ direct. sym (ap (size_of_write w.config (stream w.rng) sync b.size offset bytes) memory ∙ ap (λ (c : Changes). c.size b.size) (none_changed w.config (stream w.rng) sync offset bytes));
  done = λ ok. absurd (cc);
  done_size = λ ok. absurd (cc);
  refused = λ done refusal. same;
  unrecorded = λ refusal uninjected early. same;
  injected = λ fault. inl same;
  failed = λ early. absurd (cc);
}
  where
    same : Untouched store b w b (record w { rng = rng })
    same = record { records = record { pending = λ o. refl; numbers = record { next_write = refl; next_marker = refl; config = refl } }; size = refl }

-- A write that draws nothing.

-- a SYNC write of no byte
pub write_idle : {S R O B : Type 0} (store : stores.Ghosts S O) (handle : handles.Ghosts B S O) (stream : R → Stream) (b : Blob B) (w : Storage S R O) (sync : Bool) (offset : ℕ) (bytes : List ℕ) → sync ≡ true → bytes ≡ [] → WriteLeaves store handle stream offset bytes sync b w None b w
write_idle store handle stream b w false offset bytes s e = absurd (cc)
write_idle store handle stream b w true offset (x ∷ bytes) s e = absurd (cc)
write_idle store handle stream b w true offset [] s e = record {
  drawn = λ other. refl;
  config = refl;
  asked = (refl, refl, refl);
  recorded = λ direct files below k. k;
  live_after = λ direct. refl;
  size = λ direct. refl;
  done = λ ok files below k. k;
  done_size = λ ok. refl;
  refused = λ done refusal. absurd (cc);
  unrecorded = λ refusal. absurd (cc);
  injected = λ fault. absurd (cc);
  failed = λ early. absurd (cc);
}

-- one with an end that overflows
pub write_uncounted : {S R O B : Type 0} (store : stores.Ghosts S O) (handle : handles.Ghosts B S O) (stream : R → Stream) (b : Blob B) (w : Storage S R O) (sync : Bool) (offset : ℕ) (bytes : List ℕ) → (sync ≡ true → bytes ≢ []) → has_uncounted_end offset bytes ≡ true →
    WriteLeaves store handle stream offset bytes sync b w (Some OffsetOverflow) b w
write_uncounted {S} {R} {O} {B} store handle stream b w sync offset bytes some over = record {
  drawn = λ other. sym (ap (λ (d : WriteFate × Stream). d.1) uncounted);
  config = refl;
  asked =
      match_false (is_idle sync bytes) (InnerMade handle b w b w [] (Some OffsetOverflow)) (MatchBool (has_uncounted_end offset bytes) (Unasked handle b w b w (Some OffsetOverflow)) (AsksWrite handle b w b w (drawn_fate w.config sync offset (length bytes) (stream w.rng)).0 sync offset bytes (Some OffsetOverflow)))
      idle (match_true (has_uncounted_end offset bytes) _ _ over (refl, refl, refl));
  recorded = λ direct. drawn_adds store.place _ _ w w.rng _ _ (ap (λ (c : Changes). c.entries w.next_write) unchanged);
  live_after = λ direct. sym (ap (λ (c : Changes). c.live (handle.live b.inner)) unchanged);
  size = λ direct. sym (ap (λ (c : Changes). c.size b.size) unchanged);
  done = λ ok. absurd (cc);
  done_size = λ ok. absurd (cc);
  refused = λ done refusal. same;
  unrecorded = λ refusal uninjected early. same;
  injected = λ fault. inl same;
  failed = λ early. absurd (cc);
}
  where
    idle : is_idle sync bytes ≡ false
    idle = nothing_not sync bytes some

    uncounted : write_fate w.config sync offset bytes (stream w.rng) ≡ (Uncounted, stream w.rng)
    uncounted = cond-false (is_idle sync bytes) _ _ idle ∙ cond-true (has_uncounted_end offset bytes) _ _ over

    unchanged : written_by w.config (stream w.rng) sync offset bytes (Some OffsetOverflow) ≡ laying [] (λ number. [])
    unchanged = ap (λ (d : WriteFate × Stream). write_changes d.0 (retention w.config.write_rate) sync offset bytes (Some OffsetOverflow)) uncounted

    same : Untouched store b w b w
    same = record { records = record { pending = λ o. refl; numbers = record { next_write = refl; next_marker = refl; config = refl } }; size = refl }
