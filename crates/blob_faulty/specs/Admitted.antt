-- Opens with `admit` over the memory store: what they retire, what they leave of a wrapper, and what they find.
use Rattle.std.specs.Prelude.{◌≡◌, ℕ, List, length, Option, None, Some, IsSome, MatchBool}
use Rattle.std.specs.declared.ops.RangeInclusive.{RangeInclusive}
use Rattle.rand_core.specs.Stream.{Stream}
use Rattle.blob_header.specs.Fronts.{BeginsWith}
use Rattle.blob_header.specs.Refusals.{Refusal}
use Rattle.blob_header.specs.Versions.{lower, upper}
use Rattle.blob_header.specs.declared.version.BlobVersion.{BlobVersion}
use Rattle.blob_model.specs.Directory.{Directory, current}
use Rattle.blob_model.specs.Files.{Files, after_open, admit}
use Rattle.blob_model.specs.Opened.{IsNamed}
use Rattle.blob_model.specs.Opening.{IsOpened}
use Rattle.blob_model.specs.Places.{Place}
use Rattle.blob_model.specs.Stands.{retire}
use Rattle.blob_memory.specs.Answers.{OrMemory, open_refusal}
use Rattle.blob_memory.specs.Store.{directory, durable, place, live}
use Rattle.blob_memory.specs.declared.blob.Blob as memory_blob
use Rattle.blob_draws.specs.Answers.{injected_or}
use Rattle.blob_draws.specs.Faults.{draw}
use Rattle.blob_faulty.specs.declared.blob.Blob.{Blob}
use Rattle.blob_faulty.specs.declared.storage.Storage.{Storage}
use Rattle.blob_faulty.specs.Keeps.{OverMemory, IsFor, Keeps, LosesNothing}
use Rattle.blob_faulty.specs.Names.{Steps}
use Rattle.blob_faulty.specs.Wrapper.{inner_of, rng_of, config_of, pending_of, KeepsNumbers, inside, size_of}

-- what is pending of a name's current incarnation is retired
pub record Admits {R : Type 0} (before after : OverMemory R) (p n : List ℕ) : Type 0 where
  pub pending : (o : Place) → pending_of (λ o. o) after o ≡ retire (pending_of (λ o. o) before) (current (directory (inner_of before)) p n) o
  pub stands : (files : Files) → IsFor before files → IsFor after (admit files p n)
  pub keeps : LosesNothing before after
  -- nothing is drawn, and the inner store isn't asked
  pub rng : rng_of after ≡ rng_of before
  pub inner : inner_of after ≡ inner_of before
  pub numbers : KeepsNumbers before after

-- by its answer and what its open may leave of the inner store
pub record AdmittedOpenLeaves {S R O : Type 0} (place : O → Place) (names : S → Directory) (stream : R → Stream) (asked : S → Type 0) (p n : List ℕ) (answer : Option Refusal) (before after : Storage S R O) : Type 0 where
  -- one draw of the open rate is taken
  pub drawn : stream (rng_of after) ≡ (draw (config_of before).open_rate (stream (rng_of before))).1
  -- if it is true, the inner store isn't called
  pub inner : MatchBool (draw (config_of before).open_rate (stream (rng_of before))).0 (inner_of after ≡ inner_of before) (asked (inner_of after))
  -- after Ok, the pending list of the name's current incarnation is retired, and no other
  pub retired : answer ≡ None → (o : Place) → pending_of place after o ≡ retire (pending_of place before) (current (names (inner_of after)) p n) o
  -- after a refusal the same is pending
  pub kept : IsSome answer → (o : Place) → pending_of place after o ≡ pending_of place before o
  pub numbers : KeepsNumbers before after

-- the wrapper represents the same files
abbrev pub StaysSame : {R : Type 0} → OverMemory R → OverMemory R → Type 0
StaysSame before after = Steps (λ o. o) directory durable before after (λ files. files)

-- an open that was refused leaves the files
pub record RefusesOpen {R : Type 0} (before after : OverMemory R) : Type 0 where
  pub directory : directory (inner_of after) ≡ directory (inner_of before)
  pub durable : durable (inner_of after) ≡ durable (inner_of before)
  pub same_files : StaysSame before after

module _ {R : Type 0} (before after : OverMemory R) (p n : List ℕ) (first last : ℕ) where
  -- it represents the files after the store's own open, and these with the name admitted
  abbrev pub OpensAlone : Type 0
  OpensAlone = Steps (λ o. o) directory durable before after (λ files. after_open files p n first last)

  abbrev pub OpensAdmitted : Type 0
  OpensAdmitted = Steps (λ o. o) directory durable before after (λ files. admit (after_open files p n first last) p n)

  -- what the store's own open may answer
  abbrev pub MayOpen : (R → Stream) → Option Refusal → Type 0
  MayOpen stream answer = injected_or (draw (config_of before).open_rate (stream (rng_of before))).0 (OrMemory (open_refusal (directory (inner_of before)) p n first last)) answer

  -- what is drawn, retired and numbered; the inner store says itself what an open leaves of it
  abbrev pub LeavesAdmitted : (R → Stream) → Option Refusal → Type 0
  LeavesAdmitted stream answer = AdmittedOpenLeaves (λ o. o) directory stream (λ _. Unit {0}) p n answer before after

-- an open that admits the name if it is accepted
pub record AdmitsOpen {R : Type 0} (before after : OverMemory R) (p n : List ℕ) (first last : ℕ) (stream : R → Stream) (answer : Option Refusal) : Type 0 where
  pub allowed : MayOpen before after p n first last stream answer
  pub leaves : LeavesAdmitted before after p n first last stream answer
  pub err : IsSome answer → RefusesOpen before after
  pub keeps : LosesNothing before after

-- what an accepted one finds: a handle, the returned size and the blob's version
pub record FindsKept {R : Type 0} (before after : OverMemory R) (p n : List ℕ) (first last : ℕ) (b : Blob memory_blob.Blob) (len version : ℕ) : Type 0 where
  pub opened : IsOpened (directory (inner_of before)) (durable (inner_of before)) (directory (inner_of after)) (durable (inner_of after)) p n first last (place (inside b)) (live (inside b)) version
  pub size : len ≡ length (live (inside b))
  pub tracked : size_of b ≡ len
  pub files : OpensAdmitted before after p n first last
  -- all that it finds is kept, and begins with what was kept
  pub fixed : (f : Files) → IsFor before f → Keeps after (place (inside b)) (live (inside b))
  pub found : (o : Place) (bytes : List ℕ) → IsNamed o p n → Keeps before o bytes → (place (inside b) ≡ o) × BeginsWith bytes (live (inside b))

-- the same for a range of versions
module _ {R : Type 0} (before after : OverMemory R) (p n : List ℕ) (versions : RangeInclusive BlobVersion) where
  abbrev pub AdmitsVersions : (R → Stream) → Option Refusal → Type 0
  AdmitsVersions stream answer = AdmitsOpen before after p n (lower versions) (upper versions) stream answer

  abbrev pub FindsVersions : Blob memory_blob.Blob → ℕ → ℕ → Type 0
  FindsVersions b len version = FindsKept before after p n (lower versions) (upper versions) b len version
