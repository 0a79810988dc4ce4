-- Rates with certain draws, and what a wrapper may return with them.
use Rattle.std.specs.Prelude.{◌≡◌, ◌<◌, ◌-◌, ◌^◌, ◌↔◌, ℕ, List, Bool, true, false, Option, Some, None, is_some}
use Rattle.blob_model.specs.Live.{is_idle}
use Rattle.blob_model.specs.Rates.{Rate}
use Rattle.blob_header.specs.Refusals.{Refusal, Injected}
use Rattle.blob_base.specs.declared.storage.Blob as handles
use Rattle.blob_draws.specs.declared.config.ResizeConfig.{ResizeConfig}
use Rattle.blob_draws.specs.Fates.{write_failure, has_uncounted_end}
use Rattle.blob_draws.specs.Faults.{retention}
use Rattle.blob_faulty.specs.declared.blob.Blob.{Blob}
use Rattle.blob_faulty.specs.declared.storage.Storage.{Storage}
use Rattle.blob_draws.specs.Changes.{lacks_number}
use Rattle.blob_draws.specs.Answers.{or_memory}
use Rattle.blob_faulty.specs.Wrapper.{inner_of, config_of, next_write_of, next_marker_of, inside}

-- not set, or zero
abbrev pub IsNever : Option Rate → Type 0
IsNever None = Unit {0}
IsNever (Some rate) = rate.numerator ≡ 0

-- one
abbrev pub IsAlways : Option Rate → Type 0
IsAlways None = ⊥
IsAlways (Some rate) = (0 < rate.numerator) × (rate.numerator ≡ rate.denominator)

abbrev pub resize_failure : Option ResizeConfig → Option Rate
resize_failure None = None
resize_failure (Some c) = Some c.failure_rate

abbrev pub partial_resizes : Option ResizeConfig → Option Rate
partial_resizes None = None
partial_resizes (Some c) = Some c.partial_rate

-- What a wrapper's handle may return if its draws are certain, compared to the inner handle.

module _ {S R O B : Type 0} (wrapped : handles.Ghosts (Blob B) (Storage S R O) O) (inner : handles.Ghosts B S O) where
  -- if no rate that a call draws is above zero, what the inner handle may return, or `Memory`
  abbrev pub QuietReads : Type 0
  QuietReads = (b : Blob B) (s : Storage S R O) (offset len : ℕ) (answer : Option Refusal) → IsNever (config_of s).read_rate →
      wrapped.allows_read b s offset len answer ↔ inner.allows_read (inside b) (inner_of s) offset len answer

  abbrev pub QuietWrites : Type 0
  QuietWrites = (b : Blob B) (s : Storage S R O) (offset : ℕ) (bytes : List ℕ) (sync : Bool) (answer : Option Refusal) →
      IsNever (write_failure (config_of s).write_rate) → (sync ≡ true → IsNever (config_of s).sync_rate) →
      is_idle sync bytes ≡ false → has_uncounted_end offset bytes ≡ false → lacks_number (is_some (retention (config_of s).write_rate)) (next_write_of s) bytes ≡ false →
      wrapped.allows_write b s offset bytes sync answer ↔ or_memory (inner.allows_write (inside b) (inner_of s) offset bytes sync) answer

  abbrev pub QuietResizes : Type 0
  QuietResizes = (b : Blob B) (s : Storage S R O) (len : ℕ) (answer : Option Refusal) → IsNever (resize_failure (config_of s).resize_rate) →
      wrapped.allows_resize b s len answer ↔ or_memory (inner.allows_resize (inside b) (inner_of s) len) answer

  abbrev pub QuietSyncs : Type 0
  QuietSyncs = (b : Blob B) (s : Storage S R O) (answer : Option Refusal) → IsNever (config_of s).sync_rate →
      wrapped.allows_sync b s answer ↔ inner.allows_sync (inside b) (inner_of s) answer

  abbrev pub QuietStarts : Type 0
  QuietStarts = (b : Blob B) (s : Storage S R O) (answer : Option Refusal) → IsNever (config_of s).sync_rate → next_marker_of s < 2 ^ 64 - 1 →
      wrapped.allows_start_sync b s answer ↔ or_memory (inner.allows_start_sync (inside b) (inner_of s)) answer

  -- there a fault is one of the store inside
  abbrev pub DrawnReads : Type 0
  DrawnReads = (b : Blob B) (s : Storage S R O) (offset len : ℕ) → IsNever (config_of s).read_rate →
      wrapped.allows_read b s offset len (Some Injected) → inner.allows_read (inside b) (inner_of s) offset len (Some Injected)

  abbrev pub DrawnWrites : Type 0
  DrawnWrites = (b : Blob B) (s : Storage S R O) (offset : ℕ) (bytes : List ℕ) (sync : Bool) →
      IsNever (write_failure (config_of s).write_rate) → (sync ≡ true → IsNever (config_of s).sync_rate) →
      wrapped.allows_write b s offset bytes sync (Some Injected) → inner.allows_write (inside b) (inner_of s) offset bytes sync (Some Injected)

  abbrev pub DrawnResizes : Type 0
  DrawnResizes = (b : Blob B) (s : Storage S R O) (len : ℕ) → IsNever (resize_failure (config_of s).resize_rate) →
      wrapped.allows_resize b s len (Some Injected) → inner.allows_resize (inside b) (inner_of s) len (Some Injected)

  abbrev pub DrawnSyncs : Type 0
  DrawnSyncs = (b : Blob B) (s : Storage S R O) → IsNever (config_of s).sync_rate → wrapped.allows_sync b s (Some Injected) → inner.allows_sync (inside b) (inner_of s) (Some Injected)

  abbrev pub DrawnStarts : Type 0
  DrawnStarts = (b : Blob B) (s : Storage S R O) → IsNever (config_of s).sync_rate →
      wrapped.allows_start_sync b s (Some Injected) → inner.allows_start_sync (inside b) (inner_of s) (Some Injected)

-- Of all calls of a handle.

pub record IsQuiet {S R O B : Type 0} (wrapped : handles.Ghosts (Blob B) (Storage S R O) O) (inner : handles.Ghosts B S O) : Type 0 where
  pub reads : QuietReads wrapped inner
  pub writes : QuietWrites wrapped inner
  pub resizes : QuietResizes wrapped inner
  pub syncs : QuietSyncs wrapped inner
  pub started : QuietStarts wrapped inner

pub record DrawsFaults {S R O B : Type 0} (wrapped : handles.Ghosts (Blob B) (Storage S R O) O) (inner : handles.Ghosts B S O) : Type 0 where
  pub reads : DrawnReads wrapped inner
  pub writes : DrawnWrites wrapped inner
  pub resizes : DrawnResizes wrapped inner
  pub syncs : DrawnSyncs wrapped inner
  pub started : DrawnStarts wrapped inner

-- if a rate is one, a call that reaches its draw doesn't return Ok
module _ {S R O B : Type 0} (wrapped : handles.Ghosts (Blob B) (Storage S R O) O) where
  abbrev pub ReadsFail : Type 0
  ReadsFail = (b : Blob B) (s : Storage S R O) (offset len : ℕ) → IsAlways (config_of s).read_rate → wrapped.allows_read b s offset len None → ⊥

  abbrev pub WritesFail : Type 0
  WritesFail = (b : Blob B) (s : Storage S R O) (offset : ℕ) (bytes : List ℕ) (sync : Bool) → IsAlways (write_failure (config_of s).write_rate) → is_idle sync bytes ≡ false →
      wrapped.allows_write b s offset bytes sync None → ⊥

  abbrev pub SyncedWritesFail : Type 0
  SyncedWritesFail = (b : Blob B) (s : Storage S R O) (offset : ℕ) (bytes : List ℕ) → IsAlways (config_of s).sync_rate → is_idle true bytes ≡ false →
      wrapped.allows_write b s offset bytes true None → ⊥

  abbrev pub ResizesFail : Type 0
  ResizesFail = (b : Blob B) (s : Storage S R O) (len : ℕ) → IsAlways (resize_failure (config_of s).resize_rate) → wrapped.allows_resize b s len None → ⊥

  abbrev pub SyncsFail : Type 0
  SyncsFail = (b : Blob B) (s : Storage S R O) → IsAlways (config_of s).sync_rate → wrapped.allows_sync b s None → ⊥

  abbrev pub StartsFail : Type 0
  StartsFail = (b : Blob B) (s : Storage S R O) → IsAlways (config_of s).sync_rate → wrapped.allows_start_sync b s None → ⊥

pub record FailsCertainly {S R O B : Type 0} (wrapped : handles.Ghosts (Blob B) (Storage S R O) O) : Type 0 where
  pub reads : ReadsFail wrapped
  pub writes : WritesFail wrapped
  pub synced_writes : SyncedWritesFail wrapped
  pub resizes : ResizesFail wrapped
  pub syncs : SyncsFail wrapped
  pub started : StartsFail wrapped

-- The same of opens, removals and scans, by what the wrapper and the store inside allow.

abbrev pub QuietOpens : {S R O : Type 0} → (Storage S R O → List ℕ → List ℕ → ℕ → ℕ → Option Refusal → Type 0) → (S → List ℕ → List ℕ → ℕ → ℕ → Option Refusal → Type 0) → Type 0
QuietOpens {S} {R} {O} wrapped inner = (s : Storage S R O) (p n : List ℕ) (first last : ℕ) (answer : Option Refusal) → IsNever (config_of s).open_rate →
    wrapped s p n first last answer ↔ inner (inner_of s) p n first last answer

abbrev pub QuietRemovals : {S R O : Type 0} → (Storage S R O → List ℕ → Option (List ℕ) → Option Refusal → Type 0) → (S → List ℕ → Option (List ℕ) → Option Refusal → Type 0) → Type 0
QuietRemovals {S} {R} {O} wrapped inner = (s : Storage S R O) (p : List ℕ) (n : Option (List ℕ)) (answer : Option Refusal) → IsNever (config_of s).remove_rate →
    wrapped s p n answer ↔ inner (inner_of s) p n answer

abbrev pub QuietScans : {S R O : Type 0} → (Storage S R O → List ℕ → Option Refusal → Type 0) → (S → List ℕ → Option Refusal → Type 0) → Type 0
QuietScans {S} {R} {O} wrapped inner = (s : Storage S R O) (p : List ℕ) (answer : Option Refusal) → IsNever (config_of s).scan_rate → wrapped s p answer ↔ inner (inner_of s) p answer

abbrev pub OpensFail : {S R O : Type 0} → (Storage S R O → List ℕ → List ℕ → ℕ → ℕ → Option Refusal → Type 0) → Type 0
OpensFail {S} {R} {O} wrapped = (s : Storage S R O) (p n : List ℕ) (first last : ℕ) → IsAlways (config_of s).open_rate → wrapped s p n first last None → ⊥

abbrev pub RemovalsFail : {S R O : Type 0} → (Storage S R O → List ℕ → Option (List ℕ) → Option Refusal → Type 0) → Type 0
RemovalsFail {S} {R} {O} wrapped = (s : Storage S R O) (p : List ℕ) (n : Option (List ℕ)) → IsAlways (config_of s).remove_rate → wrapped s p n None → ⊥

abbrev pub ScansFail : {S R O : Type 0} → (Storage S R O → List ℕ → Option Refusal → Type 0) → Type 0
ScansFail {S} {R} {O} wrapped = (s : Storage S R O) (p : List ℕ) → IsAlways (config_of s).scan_rate → wrapped s p None → ⊥
