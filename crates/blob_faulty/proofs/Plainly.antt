-- What a write leaves that isn't recorded, is refused, or is recorded after capacity for its entry was reserved.
use Rattle.std.proofs.Common.{◌≡◌, ℕ, ◌+◌, max, Bool, true, false, List, [], ◌∷◌, length, Option, Some, None, refl, sym, ◌∙◌, ap, ap₂, subst, ◌<◌, ◌++◌, ◌⊎◌, inl, inr, ◌-◌, ◌^◌}
use Rattle.std.specs.Prelude.{IsSome, is_some, ◌==◌}
use Rattle.blob_base.specs.HandleCalls as call
use Rattle.blob_base.specs.declared.storage.Durable as stores
use Rattle.blob_base.specs.declared.storage.Blob as handles
use Rattle.blob_header.specs.Refusals.{Refusal, Memory, OffsetOverflow}
use Rattle.blob_model.specs.Directory.{is_current}
use Rattle.blob_model.specs.Live.{live_after}
use Rattle.blob_model.specs.Durable.{with_at}
use Rattle.blob_model.specs.Log.{Entry, Loose, Write, need_of}
use Rattle.blob_model.specs.Order.{held_at}
use Rattle.blob_model.specs.declared.mode.PartialWriteMode.{PartialWriteMode}
use Rattle.blob_model.specs.Rates.{Rate}
use Rattle.blob_model.specs.Pending.{Waiting}
use Rattle.blob_model.specs.Places.{Place}
use Rattle.blob_model.specs.Runs.{Run}
use Rattle.blob_draws.specs.declared.config.WriteConfig.{WriteConfig}
use Rattle.blob_draws.specs.Changes.{lacks_number, loose}
use Rattle.blob_draws.specs.Answers.{Allowed, exhausted_or, or_memory}
use Rattle.blob_draws.specs.Faults.{new_write, retention}
use Rattle.blob_pending.specs.Lists.{IsAt, SameLists, lists_of, list_of}
use Rattle.blob_faulty.specs.declared.blob.Blob.{Blob}
use Rattle.blob_faulty.specs.declared.storage.Storage.{Storage}
use Rattle.blob_faulty.specs.Allowed.{MayWritePlain}
use Rattle.blob_faulty.specs.Asked.{Asks}
use Rattle.blob_faulty.specs.Wrapper.{GainsWrite, pending_of}
use Rattle.blob_faulty.specs.Writes.{View, Effect, HasBytes, Logs, Recorded, SameRecords, Unchanged, Wrote, laid_runs, live_of_runs, plain, view_of, unrecorded_write}
use Rattle.blob_faulty.proofs.Adding.{loose_some}
use Rattle.blob_faulty.proofs.RoomSteps.{pushed_at}
use Rattle.blob_faulty.proofs.Writing.{loose_logs}

-- all that is seen except the inner store and the size stayed
pub record SameRest {R : Type 0} (old new : View R) : Type 0 where
  pub pending : (o : Place) → held_at new.held o ≡ held_at old.held o
  pub next_write : new.next_write ≡ old.next_write
  pub next_marker : new.next_marker ≡ old.next_marker
  pub config : new.config ≡ old.config
  pub rng : new.rng ≡ old.rng

module _ {S R O B : Type 0} (store : stores.Ghosts S O) (handle : handles.Ghosts B S O) (b c : Blob B) (w w' : Storage S R O) where
  -- the inner store alone is another
  pub same_rest : w' ≡ record w { inner = w'.inner } → SameRest (view_of store handle b w) (view_of store handle c w')
  same_rest e = record {
    pending = λ o. ap (λ (x : Storage S R O). held_at (view_of store handle c x).held o) e;
    next_write = ap (λ (x : Storage S R O). x.next_write) e;
    next_marker = ap (λ (x : Storage S R O). x.next_marker) e;
    config = ap (λ (x : Storage S R O). x.config) e;
    rng = ap (λ (x : Storage S R O). x.rng) e;
  }

  -- the lists alone are others, which hold the same
  pub relisted : c.inner ≡ b.inner → c.size ≡ b.size → w' ≡ record w { lists = w'.lists } → SameLists store.place w.lists.all.lists.items w'.lists.all.lists.items → Unchanged (view_of store handle b w) (view_of store handle c w')
  relisted inside size e same = record {
    bytes = record { live = ap handle.live inside; durable = ap (λ (x : Storage S R O). store.durable x.inner) e; size = size };
    records = record { size = size; pending = same; next_write = ap (λ (x : Storage S R O). x.next_write) e; next_marker = ap (λ (x : Storage S R O). x.next_marker) e };
    directory = ap (λ (x : Storage S R O). store.directory x.inner) e;
    place = ap handle.place inside;
    config = ap (λ (x : Storage S R O). x.config) e;
    rng = ap (λ (x : Storage S R O). x.rng) e;
  }

pub same_view : {R : Type 0} (old : View R) → Unchanged old old
same_view old = record {
  bytes = record { live = refl; durable = refl; size = refl };
  records = record { size = refl; pending = λ o. refl; next_write = refl; next_marker = refl };
  directory = refl;
  place = refl;
  config = refl;
  rng = refl;
}

-- refused before the inner store was asked
pub unasked : {R : Type 0} (direct whole : Bool) (old new : View R) (effect : View R → Effect) (answer : Option Refusal) → IsSome answer → (effect old).live answer ≡ old.live → Unchanged old new → Recorded direct whole old new effect answer
unasked direct whole old new effect None some same u = absurd (cc)
unasked direct whole old new effect (Some refusal) some same u = record {
  wrote = record {
    done = λ ok. absurd (cc);
    refused = λ d r. record { live = u.bytes.live ∙ sym same; durable = u.bytes.durable; size = u.bytes.size };
    memory = λ m. u.bytes;
    stale = λ gone. u.bytes.durable;
    directory = u.directory;
    place = u.place;
  };
  done = λ ok. absurd (cc);
  refused = λ w r. u.records;
  undone = λ r never. u.records;
  config = u.config;
  rng = u.rng;
}

-- a plain write that is refused leaves the live bytes
pub unwritten : (live : List ℕ) (offset : ℕ) (bytes : List ℕ) (answer : Option Refusal) → IsSome answer → live_after false live offset bytes answer ≡ live
unwritten live offset bytes None some = absurd (cc)
unwritten live offset bytes (Some refusal) some = refl

-- the first of some runs was refused
pub first_refused : {R : Type 0} (direct : Bool) (old new : View R) (r : Run) (rs : List Run) (answer : Option Refusal) → IsSome answer → Recorded direct true old new (laid_runs (r ∷ [])) answer → Recorded direct direct old new (laid_runs (r ∷ rs)) answer
first_refused direct old new r rs None some w = absurd (cc)
first_refused direct old new r rs (Some refusal) some w = record {
  wrote = record { done = λ ok. absurd (cc); refused = w.wrote.refused; memory = w.wrote.memory; stale = w.wrote.stale; directory = w.wrote.directory; place = w.wrote.place };
  done = λ ok. absurd (cc);
  refused = λ whole any. w.refused refl any;
  undone = w.undone;
  config = w.config;
  rng = w.rng;
}

memory_is : (refusal : Refusal) → Some refusal ≡ Some Memory → refusal ≡ Memory
memory_is refusal is = cc

-- the reservation for runs was refused, which leaves the live bytes
spared : (live : List ℕ) (rs : List Run) (refusal : Refusal) → (refusal ≡ OffsetOverflow) ⊎ (refusal ≡ Memory) → live_of_runs live rs (Some refusal) ≡ live
spared live [] refusal is = refl
spared live (r ∷ rs) refusal (inl is) = ap (λ (x : Refusal). live_of_runs live (r ∷ rs) (Some x)) is
spared live (r ∷ rs) refusal (inr is) = ap (λ (x : Refusal). live_of_runs live (r ∷ rs) (Some x)) is

pub of_room_refused : {R : Type 0} (direct : Bool) (old new : View R) (rs : List Run) (reserves : Allowed) (answer : Option Refusal) → IsSome answer → ((refusal : Refusal) → reserves (Some refusal) → (refusal ≡ OffsetOverflow) ⊎ (refusal ≡ Memory)) → or_memory reserves answer →
    Unchanged old new → Recorded direct direct old new (laid_runs rs) answer
of_room_refused direct old new rs reserves None some only allowed u = absurd (cc)
of_room_refused direct old new rs reserves (Some refusal) some only (inl is) u = unasked direct direct old new (laid_runs rs) (Some refusal) refl (spared old.live rs refusal (inr (memory_is refusal is))) u
of_room_refused direct old new rs reserves (Some refusal) some only (inr h) u = unasked direct direct old new (laid_runs rs) (Some refusal) refl (spared old.live rs refusal (only refusal h)) u

-- After a reservation for its entry: `m` has that capacity, `d` is `m` after the inner blob's write.
module _ {S R O B : Type 0} (store : stores.Ghosts S O) (handle : handles.Ghosts B S O) (b c : Blob B) (w m d : Storage S R O) (offset : ℕ) (bytes : List ℕ) where
  -- refused by the inner blob
  pub refused_behind : (sync : Bool) (answer : Option Refusal) → sync ≡ false → IsSome answer → Unchanged (view_of store handle b w) (view_of store handle b m) → SameRest (view_of store handle b m) (view_of store handle c d) → c.size ≡ b.size →
      Wrote handle.is_direct (view_of store handle b m) (view_of store handle c d) (unrecorded_write sync offset bytes) answer → Recorded handle.is_direct true (view_of store handle b w) (view_of store handle c d) (plain offset bytes) answer
  refused_behind sync None is some u rest size wrote = absurd (cc)
  refused_behind true (Some refusal) is some u rest size wrote = absurd (cc)
  refused_behind false (Some refusal) is some u rest size wrote = record {
    wrote = record {
      done = λ ok. absurd (cc);
      refused = λ direct r. let x = wrote.refused direct r in record { live = x.live; durable = x.durable ∙ u.bytes.durable; size = x.size };
      memory = λ is. let x = wrote.memory is in record { live = x.live; durable = x.durable ∙ u.bytes.durable; size = x.size };
      stale = λ gone. wrote.stale (ap₂ is_current u.directory u.place ∙ gone) ∙ u.bytes.durable;
      directory = wrote.directory ∙ u.directory;
      place = wrote.place;
    };
    done = λ ok. absurd (cc);
    refused = λ whole r. same;
    undone = λ r never. same;
    config = rest.config ∙ u.config;
    rng = rest.rng ∙ u.rng;
  }
    where
      same : SameRecords (view_of store handle b w) (view_of store handle c d)
      same = record { size = size; pending = λ o. rest.pending o ∙ u.records.pending o; next_write = rest.next_write ∙ u.records.next_write; next_marker = rest.next_marker ∙ u.records.next_marker }

  -- done, and recorded in that capacity
  pub pushed : (n : Storage S R O) (sync : Bool) (list : ℕ) (config : WriteConfig) → sync ≡ false → 0 < length bytes → retention w.config.write_rate ≡ Some (config.mode, config.retention_rate) →
      m ≡ record w { lists = m.lists } → SameLists store.place w.lists.all.lists.items m.lists.all.lists.items → IsAt (lists_of store.place m.lists.all.lists.items) list (handle.place b.inner) →
      d ≡ record m { inner = d.inner } → Wrote handle.is_direct (view_of store handle b m) (view_of store handle c d) (unrecorded_write sync offset bytes) None →
      GainsWrite store.place d n list offset bytes config → n ≡ record d { lists = n.lists; next_write = d.next_write + 1 } → Recorded handle.is_direct true (view_of store handle b w) (view_of store handle c n) (plain offset bytes) None
  pushed n true list config is some retained room same at rest wrote gains last = absurd (cc)
  pushed n false list config is some retained room same at rest wrote gains last = record {
    wrote = record {
      done = λ ok. record { live = x.live; durable = durable; size = x.size };
      refused = λ direct r. absurd (cc);
      memory = λ memory. absurd (cc);
      stale = λ gone. durable;
      directory = directory;
      place = wrote.place;
    };
    done = λ ok. subst (λ (es : List Entry). Logs (view_of store handle b w) (view_of store handle c n) es) (sym entries)
        (loose_logs (view_of store handle b w) (view_of store handle c n) write some refl directory durable lists
        (ap (λ (s : Storage S R O). s.next_write) last ∙ ap (λ (k : ℕ). k + 1) number)
        (ap (λ (s : Storage S R O). s.next_marker) last ∙ ap (λ (s : Storage S R O). s.next_marker) rest ∙ ap (λ (s : Storage S R O). s.next_marker) room));
    refused = λ whole r. absurd (cc);
    undone = λ r. absurd (cc);
    config = ap (λ (s : Storage S R O). s.config) last ∙ ap (λ (s : Storage S R O). s.config) rest ∙ ap (λ (s : Storage S R O). s.config) room;
    rng = ap (λ (s : Storage S R O). s.rng) last ∙ ap (λ (s : Storage S R O). s.rng) rest ∙ ap (λ (s : Storage S R O). s.rng) room;
  }
    where
      x : HasBytes (view_of store handle c d) (live_after false (handle.live b.inner) offset bytes None) (store.durable m.inner) (max b.size (offset + length bytes))
      x = wrote.done refl

      durable : store.durable n.inner ≡ store.durable w.inner
      durable = ap (λ (s : Storage S R O). store.durable s.inner) last ∙ x.durable ∙ ap (λ (s : Storage S R O). store.durable s.inner) room

      directory : store.directory n.inner ≡ store.directory w.inner
      directory = ap (λ (s : Storage S R O). store.directory s.inner) last ∙ wrote.directory ∙ ap (λ (s : Storage S R O). store.directory s.inner) room

      number : d.next_write ≡ w.next_write
      number = ap (λ (s : Storage S R O). s.next_write) rest ∙ ap (λ (s : Storage S R O). s.next_write) room

      write : Write
      write = new_write w.next_write offset bytes config

      entries : loose (retention w.config.write_rate) w.next_write offset bytes ≡ Loose write ∷ []
      entries = ap (λ (k : Option (PartialWriteMode × Rate)). loose k w.next_write offset bytes) retained ∙ loose_some (config.mode, config.retention_rate) w.next_write offset bytes some

      lists : (a : Place) → list_of store.place n.lists.all.lists.items a ≡ with_at (pending_of store.place w) (handle.place b.inner) (pending_of store.place w (handle.place b.inner) ++ Waiting (need_of write []) ∷ []) a
      lists = subst (λ (k : ℕ). (a : Place) → list_of store.place n.lists.all.lists.items a ≡ with_at (pending_of store.place w) (handle.place b.inner) (pending_of store.place w (handle.place b.inner) ++ Waiting (need_of (new_write k offset bytes config) []) ∷ []) a) number
          (pushed_at store.place w m d d.inner n.lists list (handle.place b.inner) (Waiting (need_of (new_write d.next_write offset bytes config) [])) same at rest gains)

-- What it may return.

pub has_number : (retained : Bool) (next : ℕ) (bytes : List ℕ) → (next == 2 ^ 64 - 1) ≡ false → lacks_number retained next bytes ≡ false
has_number retained next [] left = refl
has_number false next (x ∷ bytes) left = refl
has_number true next (x ∷ bytes) left = left

pub with_number : (lacks : Bool) (inner : Allowed) (answer : Option Refusal) → lacks ≡ false → inner answer → or_memory (exhausted_or lacks inner) answer
with_number true inner answer is h = absurd (cc)
with_number false inner answer is h = inr h

module _ {S R O B : Type 0} (handle : handles.Ghosts B S O) (b : Blob B) (w m : Storage S R O) (offset : ℕ) (bytes : List ℕ) (sync : Bool) (answer : Option Refusal) where
  -- by the inner blob, which the reservation didn't change
  pub allowed_behind : sync ≡ false → m ≡ record w { lists = m.lists } → (w.next_write == 2 ^ 64 - 1) ≡ false → handle.allows_write b.inner m.inner offset bytes sync answer → MayWritePlain handle b w offset bytes answer
  allowed_behind is room left h =
      with_number (lacks_number (is_some (retention w.config.write_rate)) w.next_write bytes) (handle.allows_write b.inner w.inner offset bytes false) answer (has_number (is_some (retention w.config.write_rate)) w.next_write bytes left)
      (subst (λ (t : Bool). handle.allows_write b.inner w.inner offset bytes t answer) is (subst (λ (s : S). handle.allows_write b.inner s offset bytes sync answer) (ap (λ (s : Storage S R O). s.inner) room) h))

  -- what was asked of it
  pub asked_behind : (c : Blob B) (inner : S) (n : Storage S R O) → sync ≡ false → m ≡ record w { lists = m.lists } → n.inner ≡ inner → handle.leaves (call.Write offset bytes sync) b.inner m.inner answer c.inner inner → Asks handle b w c n (call.Write offset bytes false) answer
  asked_behind c inner n is room last h =
      inr (subst (λ (t : Bool). handle.leaves (call.Write offset bytes t) b.inner w.inner answer c.inner n.inner) is
      (subst (λ (s : S). handle.leaves (call.Write offset bytes sync) b.inner s answer c.inner n.inner) (ap (λ (s : Storage S R O). s.inner) room)
      (subst (λ (s : S). handle.leaves (call.Write offset bytes sync) b.inner m.inner answer c.inner s) (sym last) h)))

-- Nothing is loose without retention, nor of no byte.
