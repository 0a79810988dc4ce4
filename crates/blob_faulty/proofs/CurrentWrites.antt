-- A current handle's write doesn't find its blob missing.
use Rattle.std.proofs.Common.{◌≡◌, inl, inr, ℕ, ◌+◌, Bool, true, false, not, ◌&&◌, List, [], ◌∷◌, length, Option, Some, None, subst, if◌then◌else◌}
use Rattle.std.specs.Prelude.{MatchBool}
use Rattle.rand_core.specs.Stream.{Stream}
use Rattle.blob_model.specs.Live.{is_idle}
use Rattle.blob_model.specs.Directory.{Directory, is_current}
use Rattle.blob_model.specs.Places.{Place}
use Rattle.blob_header.specs.Refusals.{Refusal, BlobMissing, OffsetOverflow}
use Rattle.blob_model.specs.Runs.{Run, runs}
use Rattle.blob_draws.specs.declared.config.Config.{Config}
use Rattle.blob_draws.specs.Answers.{Allowed, or_memory, injected_for, exhausted_or, one_then, allows_laid, allows_runs, allows_fate, allows_write}
use Rattle.blob_draws.specs.Fates.{has_uncounted_end}
use Rattle.blob_draws.specs.Faults.{WriteFate, Done, Unsynced, Failed, drawn_fate}
use Rattle.blob_memory.specs.Answers as memory
use Rattle.blob_memory.specs.Answers.{AllowsWrite, OrMemory, write_refusal, end_refusal, missing}

-- an answer isn't allowed
abbrev IsNot : Allowed → Option Refusal → Type 0
IsNot inner answer = inner answer → ⊥

module _ (p n : List ℕ) where
  abbrev gone : Option Refusal
  gone = Some (BlobMissing p n)

  not_memory : (inner : Allowed) → IsNot inner gone → or_memory inner gone → ⊥
  not_memory inner never (inl e) = cc
  not_memory inner never (inr h) = never h

  not_numbered : (lacks : Bool) (inner : Allowed) → IsNot inner gone → exhausted_or lacks inner gone → ⊥
  not_numbered true inner never e = cc
  not_numbered false inner never h = never h

  not_injected : (inner : Allowed) → IsNot inner gone → injected_for inner gone → ⊥
  not_injected inner never (inl h) = let e = h.0 in cc
  not_injected inner never (inr h) = never h.1

  not_then : (first second : Allowed) → IsNot first gone → IsNot second gone → one_then first second gone → ⊥
  not_then first second f s (inl h) = f h.1
  not_then first second f s (inr h) = s h.1

  not_beyond : (b : Bool) (r : Option Refusal) (P : Type 0) → (gone ≡ r → ⊥) → (P → ⊥) → MatchBool b (gone ≡ r) P → ⊥
  not_beyond true r P first never h = first h
  not_beyond false r P first never h = never h

  -- if no write of the inner store may return this error, and no reservation
  module _ (writes : ℕ → List ℕ → Bool → Allowed) (reserves : ℕ → Allowed) (found : (offset : ℕ) (bytes : List ℕ) (sync : Bool) → writes offset bytes sync gone → ⊥) (room : (end : ℕ) → reserves end gone → ⊥) where
    not_laid : (direct : Bool) (rs : List Run) → allows_laid writes direct rs gone → ⊥
    not_laid direct [] e = cc
    not_laid direct (r ∷ rs) (inl h) = found r.0 r.1 true h
    not_laid direct (r ∷ rs) (inr h) = let e = h.0 in cc

    not_runs : (direct : Bool) (rs : List Run) → allows_runs writes reserves direct rs gone → ⊥
    not_runs direct [] e = cc
    not_runs direct (r ∷ rs) h = not_then (reserves _) (allows_laid writes direct (r ∷ rs)) (room _) (not_laid direct (r ∷ rs)) h

    not_by_fate : (fate : WriteFate) (direct retained : Bool) (next : ℕ) (sync : Bool) (offset : ℕ) (bytes : List ℕ) → allows_fate fate writes reserves direct retained next sync offset bytes gone → ⊥
    not_by_fate Done direct retained next true offset bytes h = found offset bytes true h
    not_by_fate Done direct retained next false offset bytes h = not_numbered _ (writes offset bytes false) (found offset bytes false) h
    not_by_fate Unsynced direct retained next sync offset bytes h = not_numbered _ (injected_for (writes offset bytes false)) (not_injected (writes offset bytes false) (found offset bytes false)) h
    not_by_fate (Failed chosen) direct retained next sync offset bytes h = not_injected (allows_runs writes reserves direct (runs offset bytes chosen)) (not_runs direct (runs offset bytes chosen)) h
    not_by_fate fate direct retained next sync offset bytes h = h

    not_missing : (direct : Bool) (config : Config) (next : ℕ) (stream : Stream) (offset : ℕ) (bytes : List ℕ) (sync : Bool) → allows_write writes reserves direct config next stream offset bytes sync gone → ⊥
    unfolding allows_write
    not_missing direct config next stream offset bytes sync h =
        not_beyond (is_idle sync bytes) None _ (λ e. cc) (λ k.
        not_beyond (has_uncounted_end offset bytes) (Some OffsetOverflow) _ (λ e. cc) (λ m.
        not_memory (allows_fate (drawn_fate config sync offset (length bytes) stream).0 writes reserves direct _ next sync offset bytes) (not_by_fate (drawn_fate config sync offset (length bytes) stream).0 direct _ next sync offset bytes) m) k) h

  -- the memory store's
  no_end : (o : Place) (end : ℕ) → OrMemory (end_refusal o end) gone → ⊥
  no_end o end (inl e) = cc
  no_end o end (inr e) = go (memory.is_uncounted (end + o.start)) e
    where
      go : (b : Bool) → gone ≡ (if b then Some OffsetOverflow else None) → ⊥
      go true e = cc
      go false e = cc

  not_refused : (i u s c : Bool) (o : Place) → c ≡ true → gone ≡ (if i then None else if u then Some OffsetOverflow else if s && not c then Some (missing o) else None) → ⊥
  not_refused true u s c o now e = cc
  not_refused false true s c o now e = cc
  not_refused false false s false o now e = cc
  not_refused false false true true o now e = cc
  not_refused false false false true o now e = cc

  current_write : (d : Directory) (o : Place) (room : Bool → ℕ) (offset : ℕ) (bytes : List ℕ) (sync : Bool) → is_current d o ≡ true → AllowsWrite d o room offset bytes sync gone → ⊥
  current_write d o room offset bytes sync now (inl h) = let e = h.0 in cc
  current_write d o room offset bytes sync now (inr e) = not_refused (is_idle sync bytes) (memory.is_uncounted (offset + o.start + length bytes)) sync (is_current d o) o now e

pub current_found : (d : Directory) (o : Place) (room : Bool → ℕ) (direct : Bool) (config : Config) (next : ℕ) (stream : Stream) (offset : ℕ) (bytes : List ℕ) (sync : Bool) (answer : Option Refusal) → is_current d o ≡ true →
    allows_write (λ at b s. AllowsWrite d o room at b s) (λ end. OrMemory (end_refusal o end)) direct config next stream offset bytes sync answer → (p n : List ℕ) → answer ≡ Some (BlobMissing p n) → ⊥
current_found d o room direct config next stream offset bytes sync answer now h p n e =
    not_missing p n (λ at b s. AllowsWrite d o room at b s) (λ end. OrMemory (end_refusal o end)) (λ at b s. current_write p n d o room at b s now) (no_end p n o) direct config next stream offset bytes sync
    (subst (λ (a : Option Refusal). allows_write (λ at b s. AllowsWrite d o room at b s) (λ end. OrMemory (end_refusal o end)) direct config next stream offset bytes sync a) e h)
