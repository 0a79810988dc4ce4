-- What a resize leaves, by its drawn outcome.
use Rattle.std.proofs.Common.{◌≡◌, ◌≢◌, ⊎_elim, ℕ, Bool, true, false, List, [], ◌∷◌, Option, Some, None, inl, inr, refl, sym, ◌∙◌, ap, subst}
use Rattle.std.specs.Prelude.{Result, Ok, Err, OnErr}
use Rattle.rand_core.specs.Stream.{Stream}
use Rattle.blob_base.specs.declared.storage.Blob as handles
use Rattle.blob_base.specs.declared.storage.Durable as stores
use Rattle.blob_header.specs.Refusals.{Refusal, Injected, error_of}
use Rattle.blob_header.specs.declared.error.Error.{Error}
use Rattle.blob_model.specs.Log.{Entry, Resized}
use Rattle.blob_draws.specs.Answers.{Allowed, or_memory}
use Rattle.blob_draws.specs.Faults.{ResizeFate, Resizes, Stays, Reaches}
use Rattle.blob_draws.specs.Recorded.{live_of_resize, recorded_resize, size_of_resize}
use Rattle.blob_faulty.specs.declared.blob.Blob.{Blob}
use Rattle.blob_faulty.specs.declared.storage.Storage.{Storage}
use Rattle.blob_faulty.specs.Asked.{AsksResize}
use Rattle.blob_faulty.specs.HandleLeaves.{AddsToLog, ResizeLeaves, Untouched}
use Rattle.blob_faulty.specs.Wrapper.{KeepsDurable, KeepsNumbers}
use Rattle.blob_faulty.specs.Writes.{View, Logs, ReachesBy, Recorded, ResizedBy, SameRecords, Wrote, resize_effect, view_of}
use Rattle.blob_faulty.proofs.Plainly.{SameRest}
use Rattle.blob_faulty.proofs.Writing.{adds_of, same_logs}

survives : {R : Type 0} (direct : Bool) (old new : View R) (len : ℕ) (answer : Option Refusal) → Recorded direct true old new (resize_effect len (Resized len ∷ [])) answer → ResizedBy (Resizes true) direct old new len answer
survives direct old new len None w = record {
  done = λ ok. w.wrote.done refl;
  recorded = λ ok. w.done refl;
  live = λ d. (w.wrote.done refl).live;
  size = λ d. (w.wrote.done refl).size;
  logs = λ d. w.done refl;
  unrecorded = λ some. absurd (cc);
  injected = λ is. absurd (cc);
  memory = λ m. absurd (cc);
  directory = w.wrote.directory;
  place = w.wrote.place;
  rng = w.rng;
}
survives direct old new len (Some refusal) w = record {
  done = λ ok. absurd (cc);
  recorded = λ ok. absurd (cc);
  live = λ d. (w.wrote.refused d refl).live;
  size = λ d. (w.wrote.refused d refl).size;
  logs = λ d. same_logs old new w.wrote.directory (w.wrote.refused d refl).durable (w.refused refl refl);
  unrecorded = λ some uninjected. w.refused refl refl;
  injected = λ is. inl (w.refused refl refl);
  memory = w.wrote.memory;
  directory = w.wrote.directory;
  place = w.wrote.place;
  rng = w.rng;
}

-- it was done, or refused, and nothing is recorded of it
pub done_only : {R T : Type 0} (direct : Bool) (old new : View R) (len : ℕ) (result : Result T Error) → Wrote direct old new (resize_effect len []) (error_of result) → OnErr result (new.size ≡ old.size) → new.durable ≡ old.durable → SameRest old new →
    ResizedBy (Resizes false) direct old new len (error_of result)
done_only direct old new len (Ok x) w size durable rest = record {
  done = λ ok. w.done refl;
  recorded = λ ok. logs;
  live = λ d. (w.done refl).live;
  size = λ d. (w.done refl).size;
  logs = λ d. logs;
  unrecorded = λ some. absurd (cc);
  injected = λ is. absurd (cc);
  memory = λ m. absurd (cc);
  directory = w.directory;
  place = w.place;
  rng = rest.rng;
}
  where
    logs : Logs old new []
    logs = same_logs old (record new { size = old.size }) w.directory durable (record { size = refl; pending = rest.pending; next_write = rest.next_write; next_marker = rest.next_marker })
done_only direct old new len (Err e) w size durable rest = record {
  done = λ ok. absurd (cc);
  recorded = λ ok. absurd (cc);
  live = λ d. (w.refused d refl).live;
  size = λ d. size;
  logs = λ d. same_logs old new w.directory durable same;
  unrecorded = λ some uninjected. same;
  injected = λ is. inl same;
  memory = w.memory;
  directory = w.directory;
  place = w.place;
  rng = rest.rng;
}
  where
    same : SameRecords old new
    same = record { size = size; pending = rest.pending; next_write = rest.next_write; next_marker = rest.next_marker }

-- refused, nothing is recorded of it
pub unrecorded_by : {R T : Type 0} (old new : View R) (result : Result T Error) (refusal : Refusal) → OnErr result (new.size ≡ old.size) → SameRest old new → error_of result ≡ Some refusal → SameRecords old new
unrecorded_by old new (Ok x) refusal size rest is = absurd (cc)
unrecorded_by old new (Err e) refusal size rest is = record { size = size; pending = rest.pending; next_write = rest.next_write; next_marker = rest.next_marker }

-- it changes nothing
stays : {R : Type 0} (direct : Bool) (old : View R) (len : ℕ) → ResizedBy Stays direct old old len (Some Injected)
stays direct old len = record {
  done = λ ok. absurd (cc);
  recorded = λ ok. absurd (cc);
  live = λ d. refl;
  size = λ d. refl;
  logs = λ d files below s. s;
  unrecorded = λ some uninjected. absurd (uninjected refl);
  injected = λ is. inl (record { size = refl; pending = λ o. refl; next_write = refl; next_marker = refl });
  memory = λ m. absurd (cc);
  directory = refl;
  place = refl;
  rng = refl;
}

-- it reaches a length of its own
reaches : {R : Type 0} (size : ℕ) (direct : Bool) (old new : View R) (len : ℕ) → Recorded direct true old new (resize_effect size (Resized size ∷ [])) None → ResizedBy (Reaches size) direct old new len (Some Injected)
reaches size direct old new len w = record {
  done = λ ok. absurd (cc);
  recorded = λ ok. absurd (cc);
  live = λ d. (w.wrote.done refl).live;
  size = λ d. (w.wrote.done refl).size;
  logs = λ d. w.done refl;
  unrecorded = λ some uninjected. absurd (uninjected refl);
  injected = λ is. inr (w.done refl);
  memory = λ m. absurd (cc);
  directory = w.wrote.directory;
  place = w.wrote.place;
  rng = w.rng;
}

-- what the tables say if that is refused
record Unreached (size : ℕ) (live : List ℕ) (tracked len : ℕ) (refusal : Refusal) : Type 0 where
  live_left : live_of_resize (Reaches size) live len (Some refusal) ≡ live
  size_left : size_of_resize (Reaches size) tracked len (Some refusal) ≡ tracked
  entries : recorded_resize (Reaches size) len (Some refusal) ≡ []

unreached : (size : ℕ) (live : List ℕ) (tracked len : ℕ) (refusal : Refusal) → refusal ≢ Injected → Unreached size live tracked len refusal
unreached size live tracked len Injected never = absurd (never refl)
unreached size live tracked len _ never = record { live_left = refl; size_left = refl; entries = refl }

refused_by_inner : (inner : Allowed) (refusal : Refusal) → (inner (Some Injected) → ⊥) → or_memory inner (Some refusal) → refusal ≢ Injected
refused_by_inner inner refusal never (inl memory) is = cc
refused_by_inner inner refusal never (inr h) is = never (subst (λ (x : Refusal). inner (Some x)) is h)

pub reaches_none : {R : Type 0} (size : ℕ) (direct : Bool) (old new : View R) (len : ℕ) (inner : Allowed) (answer : Option Refusal) (refusal : Refusal) → answer ≡ Some refusal → (direct ≡ true → inner (Some Injected) → ⊥) → or_memory inner answer →
    Recorded direct true old new (resize_effect size (Resized size ∷ [])) answer → ResizedBy (Reaches size) direct old new len answer
reaches_none size direct old new len inner None refusal is never allowed w = absurd (cc)
reaches_none {R} size direct old new len inner (Some other) refusal is never allowed w = record {
  done = λ ok. absurd (cc);
  recorded = λ ok. absurd (cc);
  live = λ d. (w.wrote.refused d refl).live ∙ sym (table d).live_left;
  size = λ d. (w.wrote.refused d refl).size ∙ sym (table d).size_left;
  logs = λ d. subst (λ (es : List Entry). Logs old new es) (sym (table d).entries) (same_logs old new w.wrote.directory (w.wrote.refused d refl).durable (w.refused refl refl));
  unrecorded = λ some uninjected. w.refused refl refl;
  injected = λ inj. inl (w.refused refl refl);
  memory = w.wrote.memory;
  directory = w.wrote.directory;
  place = w.wrote.place;
  rng = w.rng;
}
  where
    table : direct ≡ true → Unreached size old.live old.size len other
    table d = unreached size old.live old.size len other (refused_by_inner inner other (never d) allowed)

-- By the outcome as the code has it.
module _ {R : Type 0} (fate : ResizeFate) (direct : Bool) (old new : View R) (len : ℕ) (answer : Option Refusal) where
  pub of_fate : (known : ResizeFate) → fate ≡ known → ResizedBy known direct old new len answer → ResizedBy fate direct old new len answer
  of_fate known is r = subst (λ (f : ResizeFate). ResizedBy f direct old new len answer) (sym is) r

  pub of_survives : fate ≡ Resizes true → Recorded direct true old new (resize_effect len (Resized len ∷ [])) answer → ResizedBy fate direct old new len answer
  of_survives is w = of_fate (Resizes true) is (survives direct old new len answer w)

pub of_stays : {R : Type 0} (fate : ResizeFate) (direct : Bool) (old : View R) (len : ℕ) → fate ≡ Stays → ResizedBy fate direct old old len (Some Injected)
of_stays fate direct old len is = of_fate fate direct old old len (Some Injected) Stays is (stays direct old len)

pub of_reaches : {R : Type 0} (fate : ResizeFate) (direct : Bool) (old new : View R) (len size : ℕ) → fate ≡ Reaches size → Recorded direct true old new (resize_effect size (Resized size ∷ [])) None → ResizedBy fate direct old new len (Some Injected)
of_reaches fate direct old new len size is w = of_fate fate direct old new len (Some Injected) (Reaches size) is (reaches size direct old new len w)

-- What it leaves, by what was drawn.
pub resize_leaves : {S R O B : Type 0} (store : stores.Ghosts S O) (handle : handles.Ghosts B S O) (stream : R → Stream) (b c : Blob B) (w w' : Storage S R O) (rng : R) (len : ℕ) (answer : Option Refusal) (fate : ResizeFate) (drawn : ResizeFate × Stream) →
    (fate, stream rng) ≡ drawn → AsksResize handle b w c w' fate len answer → ResizedBy fate handle.is_direct (view_of store handle b (record w { rng = rng })) (view_of store handle c w') len answer → ReachesBy store handle b (record w { rng = rng }) c w' fate answer → KeepsDurable store.durable (record w { rng = rng }) w' →
    ResizeLeaves store handle stream len drawn.0 drawn.1 b w answer c w'
resize_leaves {S} {R} {O} {B} store handle stream b c w w' rng len answer fate drawn is asked resized reached kept =
    subst (λ (d : ResizeFate × Stream). ResizeLeaves store handle stream len d.0 d.1 b w answer c w') is (record {
      drawn = ap stream resized.rng;
      asked = asked;
      numbers = numbers;
      size = λ ok. (resized.done ok).size;
      recorded = λ ok. logged None (resized.recorded ok);
      live_after = resized.live;
      size_after = resized.size;
      recorded_after = λ direct. logged answer (resized.logs direct);
      unrecorded = λ some uninjected. untouched (resized.unrecorded some uninjected);
      injected = λ fault. ⊎_elim (λ k. inl (untouched k)) (λ logs. inr (logged (Some Injected) logs)) (resized.injected fault);
      reached = λ fault. ⊎_elim (λ k. inl (untouched k)) (λ done. inr done) (reached fault);
    })
  where
    numbers : KeepsNumbers w w'
    numbers = record { next_write = kept.numbers.next_write; next_marker = kept.numbers.next_marker; config = kept.numbers.config }

    logged : (a : Option Refusal) → Logs (view_of store handle b (record w { rng = rng })) (view_of store handle c w') (recorded_resize fate len a) → AddsToLog store handle b w w' (recorded_resize fate len a)
    logged a logs = adds_of store handle b c w w' rng (recorded_resize fate len a) (recorded_resize fate len a) resized.directory refl logs

    untouched : SameRecords (view_of store handle b (record w { rng = rng })) (view_of store handle c w') → Untouched store b w c w'
    untouched k = record { records = record { pending = k.pending; numbers = numbers }; size = k.size }
