-- The tracked size of a handle and the length of its live bytes, after each call through it.
use Rattle.std.proofs.Common.{◌≡◌, inl, inr, ℕ, ◌+◌, Bool, true, false, not, ◌&&◌, List, [], ◌∷◌, length, Option, Some, None, refl, sym, ap, ◌∙◌, if◌then◌else◌}
use Rattle.std.specs.Prelude.{is_some}
use Rattle.std.proofs.lemmas.Bool.{false≢true}
use Rattle.rand_core.specs.Stream.{Stream}
use Rattle.std.specs.Option.{option_or}
use Rattle.blob_model.specs.Directory.{Directory, is_current}
use Rattle.blob_model.specs.Live.{is_idle}
use Rattle.blob_model.specs.Places.{Place}
use Rattle.blob_header.specs.Refusals.{Refusal, BlobMissing, Injected, OffsetOverflow, GenerationsExhausted}
use Rattle.blob_model.specs.Runs.{Run, runs}
use Rattle.blob_draws.specs.Changes.{lacks_number, size_of_runs}
use Rattle.blob_draws.specs.Faults.{WriteFate, Idle, Uncounted, Done, Unsynced, Failed, write_fate, resize_fate, retention}
use Rattle.blob_draws.proofs.Sizes.{sized_after_write, sized_after_resize}
use Rattle.blob_memory.specs.Answers.{write_refusal, end_refusal, sync_refusal, missing}
use Rattle.blob_memory.specs.Answers as memory
use Rattle.blob_script.specs.declared.reply.Reply.{Reply}
use Rattle.blob_script.specs.Acts.{Ask, Read, Write, Resize, Size, Sync, StartSync}
use Rattle.blob_lab_model.specs.After.{held_after}
use Rattle.blob_lab_model.specs.Answers.{IsAnswer, unless_denied, through}
use Rattle.blob_lab_model.specs.Steps.{write_denial_by, write_denial, or_injected}
use Rattle.blob_lab_model.specs.Denials.{refused_if, runs_denial}
use Rattle.blob_lab_model.specs.States.{State, Held}
use Rattle.blob_script.specs.Told as told
use Rattle.blob_script.specs.Told.{refused_by}
use Rattle.blob_lab_model.proofs.ToldRefusals.{denied}

-- A call through a current handle doesn't return `BlobMissing`.

abbrev is_missing : Option Refusal → Bool
is_missing (Some (BlobMissing p n)) = true
is_missing _ = false

then_there : (first later : Option Refusal) → is_missing first ≡ false → is_missing later ≡ false → is_missing (option_or first later) ≡ false
then_there None later f l = l
then_there (Some r) later f l = f

exhausted_there : (b : Bool) → is_missing (refused_if GenerationsExhausted b) ≡ false
exhausted_there true = refl
exhausted_there false = refl

module _ (d : Directory) (o : Place) (now : is_current d o ≡ true) where
  sync_there : is_missing (sync_refusal d o) ≡ false
  sync_there = ap (λ c. is_missing (if c then None else Some (missing o))) now

  end_there : (end : ℕ) → is_missing (end_refusal o end) ≡ false
  end_there end = go (memory.is_uncounted (end + o.start)) where
    go : (u : Bool) → is_missing (if u then Some OffsetOverflow else None) ≡ false
    go true = refl
    go false = refl

  write_there : (offset : ℕ) (bytes : List ℕ) (sync : Bool) → is_missing (write_refusal d o offset bytes sync) ≡ false
  write_there offset bytes sync = ap (λ c. is_missing (refusal c)) now ∙ go (is_idle sync bytes) (memory.is_uncounted (offset + o.start + length bytes)) sync where
    refusal : Bool → Option Refusal
    refusal c = if is_idle sync bytes then None else if memory.is_uncounted (offset + o.start + length bytes) then Some OffsetOverflow else if sync && not c then Some (missing o) else None

    go : (i u s : Bool) → is_missing (if i then None else if u then Some OffsetOverflow else if s && not true then Some (missing o) else None) ≡ false
    go true u s = refl
    go false true s = refl
    go false false true = refl
    go false false false = refl

  runs_there : (rs : List Run) → is_missing (runs_denial d o rs) ≡ false
  runs_there [] = refl
  runs_there (r ∷ rs) = then_there (option_or (end_refusal o (size_of_runs 0 (r ∷ rs))) (sync_refusal d o)) (Some Injected) (then_there (end_refusal o (size_of_runs 0 (r ∷ rs))) (sync_refusal d o) (end_there (size_of_runs 0 (r ∷ rs))) sync_there) refl

  fate_there : (fate : WriteFate) (retained : Bool) (next : ℕ) (sync : Bool) (offset : ℕ) (bytes : List ℕ) → is_missing (write_denial_by fate d o retained next sync offset bytes) ≡ false
  fate_there Idle retained next sync offset bytes = refl
  fate_there Uncounted retained next sync offset bytes = refl
  fate_there Done retained next true offset bytes = write_there offset bytes true
  fate_there Done retained next false offset bytes = then_there (refused_if GenerationsExhausted (lacks_number retained next bytes)) (write_refusal d o offset bytes false) (exhausted_there (lacks_number retained next bytes)) (write_there offset bytes false)
  fate_there Unsynced retained next sync offset bytes =
      then_there (refused_if GenerationsExhausted (lacks_number retained next bytes)) (or_injected (write_refusal d o offset bytes false)) (exhausted_there (lacks_number retained next bytes))
      (then_there (write_refusal d o offset bytes false) (Some Injected) (write_there offset bytes false) refl)
  fate_there (Failed chosen) retained next sync offset bytes = runs_there (runs offset bytes chosen)

denial_there : (v : State) (h : Held) (offset : ℕ) (bytes : List ℕ) (sync : Bool) → is_current v.files.directory h.place ≡ true → is_missing (write_denial v h offset bytes sync) ≡ false
denial_there v h offset bytes sync now = fate_there v.files.directory h.place now (write_fate v.config sync offset bytes v.stream).0 (is_some (retention v.config.write_rate)) v.files.next_write sync offset bytes

reply_there : (r : Reply) (denial : Option Refusal) (grows : Bool) (left expected : Stream) → is_missing denial ≡ false → IsAnswer grows (unless_denied denial told.Done, expected) r left → is_missing (refused_by r) ≡ false
reply_there r denial grows left expected there (inl m) = ap is_missing m.1
reply_there r denial grows left expected there (inr t) = ap is_missing (denied r denial told.Done refl t.0) ∙ there

-- a result other than `BlobMissing`
found : (answer : Option Refusal) → is_missing answer ≡ false → (p n : List ℕ) → answer ≡ Some (BlobMissing p n) → ⊥
found answer there p n e = absurd (false≢true (sym there ∙ ap is_missing e))

-- a call through a current handle
pub asked_sized : (v : State) (h : Held) (ask : Ask) (r : Reply) (grows : Bool) (left : Stream) → IsAnswer grows (through v (Some h) ask) r left → is_current v.files.directory h.place ≡ true
    → h.size ≡ length h.live → (held_after v h ask (refused_by r)).size ≡ length (held_after v h ask (refused_by r)).live
asked_sized v h (Write offset bytes sync) r grows left a now e =
    sized_after_write v.config v.stream sync h.size h.live offset bytes (refused_by r)
    (found (refused_by r) (reply_there r (write_denial v h offset bytes sync) grows left (through v (Some h) (Write offset bytes sync)).1 (denial_there v h offset bytes sync now) a)) e
asked_sized v h (Resize len) r grows left a now e = sized_after_resize (resize_fate v.config.resize_rate h.size len v.stream).0 h.size h.live len (refused_by r) e
asked_sized v h (Read offset len) r grows left a now e = e
asked_sized v h Size r grows left a now e = e
asked_sized v h Sync r grows left a now e = e
asked_sized v h StartSync r grows left a now e = e
