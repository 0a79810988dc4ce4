-- What opens and removals leave of a wrapper, and the files that it then represents.
use Rattle.std.specs.Prelude.{◌≡◌, ℕ, ◌≤◌, Bool, false, List, [], cond, Option, Some, None, IsSome, MatchBool, Result, option_copied}
use Rattle.std.specs.Borrow.{Bor}
use Rattle.std.specs.Range.{range_inclusive_exhausted}
use Rattle.std.specs.declared.ops.RangeInclusive.{RangeInclusive}
use Rattle.rand_core.specs.Stream.{Stream}
use Rattle.blob_base.specs.declared.storage.Durable as stores
use Rattle.blob_model.specs.Directory.{Directory, directory_without}
use Rattle.blob_model.specs.Durable.{Durable, durable_without}
use Rattle.blob_model.specs.Files.{Files, after_open, after_remove, is_removed_by}
use Rattle.blob_model.specs.Opening.{IsOpened}
use Rattle.blob_model.specs.Pending.{Pending}
use Rattle.blob_model.specs.Places.{Place}
use Rattle.blob_header.specs.Refusals.{Refusal, error_of}
use Rattle.blob_header.specs.declared.error.Error.{Error}
use Rattle.blob_header.specs.Versions.{lower, upper}
use Rattle.blob_header.specs.declared.version.BlobVersion.{BlobVersion}
use Rattle.blob_pending.specs.Lists.{RetiresRemoved}
use Rattle.blob_pending.specs.Shown.{Shown}
use Rattle.blob_faulty.specs.declared.storage.Storage.{Storage}
use Rattle.blob_draws.specs.Answers.{Allowed, injected_or}
use Rattle.blob_draws.specs.Faults.{draw}
use Rattle.blob_faulty.specs.Wrapper.{inner_of, rng_of, config_of, pending_of, finished_by, KeepsNumbers, KeepsRecords, Stands}

-- a range of some versions, not iterated to its end
pub record AreVersions (versions : RangeInclusive BlobVersion) : Type 0 where
  pub fresh : range_inclusive_exhausted versions ≡ false
  pub some : lower versions ≤ upper versions

-- pending lists, where those of some incarnations are retired
abbrev pub retire_where : (Place → Bool) → (Place → List Pending) → Place → List Pending
retire_where gone lists o = cond (gone o) [] (lists o)

-- the lists of the incarnations that a removal of this name ends, or with None of this partition, are retired, and no others
abbrev pub EndsLists : {S O : Type 0} → stores.Ghosts S O → S → List ℕ → Option (List ℕ) → Shown O → Shown O → Type 0
EndsLists store s p n old new = RetiresRemoved store.place (store.directory s) p n old.all.lists.items new.all.lists.items

-- the same for the code's name
abbrev pub EndsNamed : {S O : Type 0} → stores.Ghosts S O → S → List ℕ → Option (Bor (List ℕ)) → Shown O → Shown O → Type 0
EndsNamed store s p name old new = EndsLists store s p (option_copied name) old new

-- an open, by what it may leave of the inner store
pub record OpenLeaves {S R O : Type 0} (place : O → Place) (stream : R → Stream) (asked : S → Type 0) (before after : Storage S R O) : Type 0 where
  -- one draw of the open rate is taken
  pub drawn : stream (rng_of after) ≡ (draw (config_of before).open_rate (stream (rng_of before))).1
  -- if it is true, the inner store isn't called
  pub inner : MatchBool (draw (config_of before).open_rate (stream (rng_of before))).0 (inner_of after ≡ inner_of before) (asked (inner_of after))
  -- nothing is recorded and nothing retired
  pub records : KeepsRecords place before after

-- a removal, by what it may leave of the inner store, its result and the incarnations that it ends if that is Ok
pub record RemoveLeaves {S R O : Type 0} (place : O → Place) (stream : R → Stream) (asked : S → Type 0) (answer : Option Refusal) (ends : Place → Bool) (before after : Storage S R O) : Type 0 where
  -- one draw of the removal rate is taken
  pub drawn : stream (rng_of after) ≡ (draw (config_of before).remove_rate (stream (rng_of before))).1
  -- if it is true, the inner store isn't called
  pub inner : MatchBool (draw (config_of before).remove_rate (stream (rng_of before))).0 (inner_of after ≡ inner_of before) (asked (inner_of after))
  -- after Ok, the pending lists of the incarnations that end are retired, and no others
  pub retired : answer ≡ None → (o : Place) → pending_of place after o ≡ retire_where ends (pending_of place before) o
  -- after a refusal the same is pending
  pub kept : IsSome answer → (o : Place) → pending_of place after o ≡ pending_of place before o
  pub numbers : KeepsNumbers before after

-- a removal through a wrapper over any store, by what that store's own may answer and leave
abbrev pub MayRemove : {S R O : Type 0} → (R → Stream) → (S → List ℕ → Option (List ℕ) → Allowed) → Storage S R O → List ℕ → Option (List ℕ) → Allowed
MayRemove stream allows w p n = injected_or (draw (config_of w).remove_rate (stream (rng_of w))).0 (allows (inner_of w) p n)

abbrev pub Removes : {S R O : Type 0} → stores.Ghosts S O → (R → Stream) → (S → List ℕ → Option (List ℕ) → Option Refusal → S → Type 0) → Storage S R O → List ℕ → Option (List ℕ) → Option Refusal → Storage S R O → Type 0
Removes store stream asked before p n answer after = RemoveLeaves store.place stream (asked (inner_of before) p n answer) answer (is_removed_by (store.directory (inner_of before)) p n) before after

-- the same for the code's name and result
abbrev pub MayRemoveNamed : {S R O : Type 0} → (R → Stream) → (S → List ℕ → Option (List ℕ) → Allowed) → Storage S R O → List ℕ → Option (Bor (List ℕ)) → Allowed
MayRemoveNamed stream allows w p name = MayRemove stream allows w p (option_copied name)

abbrev pub RemovesNamed : {S R O T : Type 0} → stores.Ghosts S O → (R → Stream) → (S → List ℕ → Option (List ℕ) → Option Refusal → S → Type 0) → Storage S R O → List ℕ → Option (Bor (List ℕ)) → Result T Error → Storage S R O → Type 0
RemovesNamed store stream asked before p name result after = Removes store stream asked before p (option_copied name) (error_of result) after

-- the store inside shows the same directory and durable bytes
abbrev pub SameStore : {S R O : Type 0} → stores.Ghosts S O → Storage S R O → Storage S R O → Type 0
SameStore store before after = (store.directory (inner_of after) ≡ store.directory (inner_of before)) × (store.durable (inner_of after) ≡ store.durable (inner_of before))

-- if a wrapper represented files, it now represents them after this step
abbrev pub Steps : {S R O : Type 0} → (O → Place) → (S → Directory) → (S → Durable) → Storage S R O → Storage S R O → (Files → Files) → Type 0
Steps place directory durable before after step = (files : Files) →
    Stands place (directory (inner_of before)) (durable (inner_of before)) before files → Stands place (directory (inner_of after)) (durable (inner_of after)) after (step files)

-- the directory, the durable bytes and the files without what a removal takes away
abbrev pub RemovesNames : {S R O : Type 0} → stores.Ghosts S O → Storage S R O → Storage S R O → List ℕ → Option (List ℕ) → Type 0
RemovesNames store before after p n = store.directory (inner_of after) ≡ directory_without (store.directory (inner_of before)) p n

abbrev pub RemovesBytes : {S R O : Type 0} → stores.Ghosts S O → Storage S R O → Storage S R O → List ℕ → Option (List ℕ) → Type 0
RemovesBytes store before after p n = store.durable (inner_of after) ≡ durable_without (store.durable (inner_of before)) p n

abbrev pub RemovesFiles : {S R O : Type 0} → stores.Ghosts S O → Storage S R O → Storage S R O → List ℕ → Option (List ℕ) → Type 0
RemovesFiles store before after p n = Steps store.place store.directory store.durable before after (λ files. after_remove files p n)

-- a scan, by what it may leave of the inner store
pub record ScanLeaves {S R O : Type 0} (store : stores.Ghosts S O) (stream : R → Stream) (asked : S → Type 0) (before after : Storage S R O) : Type 0 where
  -- one draw of the scan rate is taken
  pub drawn : stream (rng_of after) ≡ (draw (config_of before).scan_rate (stream (rng_of before))).1
  -- if it is true, the inner store isn't called
  pub inner : MatchBool (draw (config_of before).scan_rate (stream (rng_of before))).0 (inner_of after ≡ inner_of before) (asked (inner_of after))
  -- nothing is recorded and nothing retired
  pub unrecorded : KeepsRecords store.place before after
  pub files : Steps store.place store.directory store.durable before after (λ files. files)

-- a started sync that is finished, by the marker that its handle carries
pub record FinishLeaves {S R O : Type 0} (place : O → Place) (marker : Option ℕ) (before after : Storage S R O) : Type 0 where
  -- it goes with what stands before it
  pub finished : (o : Place) → pending_of place after o ≡ finished_by marker (pending_of place before o)
  pub numbers : KeepsNumbers before after
  -- nothing is drawn, and the inner store isn't asked
  pub rng : rng_of after ≡ rng_of before
  pub inner : inner_of after ≡ inner_of before

-- The files after an open and after a removal, for a caller that knows them by the traits only; `asked` is what they may leave
-- of the inner store.

module _ {S R O : Type 0} (store : stores.Ghosts S O) (stream : R → Stream) where
  abbrev pub AcceptedOpens : (S → List ℕ → List ℕ → ℕ → ℕ → Option Refusal → S → Type 0) → Type 0
  AcceptedOpens asked = (before after : Storage S R O) (p n : List ℕ) (first last : ℕ) (o : Place) (live : List ℕ) (version : ℕ) →
      IsOpened (store.directory (inner_of before)) (store.durable (inner_of before)) (store.directory (inner_of after)) (store.durable (inner_of after)) p n first last o live version →
      OpenLeaves store.place stream (asked (inner_of before) p n first last None) before after →
      Steps store.place store.directory store.durable before after (λ files. after_open files p n first last)

  abbrev pub RefusedOpens : (S → List ℕ → List ℕ → ℕ → ℕ → Option Refusal → S → Type 0) → Type 0
  RefusedOpens asked = (before after : Storage S R O) (p n : List ℕ) (first last : ℕ) (r : Refusal) →
      store.directory (inner_of after) ≡ store.directory (inner_of before) → store.durable (inner_of after) ≡ store.durable (inner_of before) →
      OpenLeaves store.place stream (asked (inner_of before) p n first last (Some r)) before after →
      Steps store.place store.directory store.durable before after (λ files. files)

  abbrev pub DoneRemovals : (S → List ℕ → Option (List ℕ) → Option Refusal → S → Type 0) → Type 0
  DoneRemovals asked = (before after : Storage S R O) (p : List ℕ) (n : Option (List ℕ)) →
      store.directory (inner_of after) ≡ directory_without (store.directory (inner_of before)) p n → store.durable (inner_of after) ≡ durable_without (store.durable (inner_of before)) p n →
      RemoveLeaves store.place stream (asked (inner_of before) p n None) None (is_removed_by (store.directory (inner_of before)) p n) before after →
      Steps store.place store.directory store.durable before after (λ files. after_remove files p n)

  abbrev pub RefusedRemovals : (S → List ℕ → Option (List ℕ) → Option Refusal → S → Type 0) → Type 0
  RefusedRemovals asked = (before after : Storage S R O) (p : List ℕ) (n : Option (List ℕ)) (r : Refusal) →
      store.directory (inner_of after) ≡ store.directory (inner_of before) → store.durable (inner_of after) ≡ store.durable (inner_of before) →
      RemoveLeaves store.place stream (asked (inner_of before) p n (Some r)) (Some r) (is_removed_by (store.directory (inner_of before)) p n) before after →
      Steps store.place store.directory store.durable before after (λ files. files)
