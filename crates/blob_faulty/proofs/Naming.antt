-- How opens, removals and finished syncs change the files that a wrapper represents.
use Rattle.std.proofs.Common.{◌≡◌, ℕ, List, Option, Some, None, sym, subst, refl}
use Rattle.std.specs.Prelude.{is_some}
use Rattle.blob_model.specs.Places.{Place}
use Rattle.blob_model.specs.Directory.{Directory, is_current, directory_without}
use Rattle.blob_model.specs.Durable.{Durable, durable_without}
use Rattle.blob_model.specs.Files.{after_open, after_remove, is_removed_by}
use Rattle.blob_model.specs.Opening.{IsOpened}
use Rattle.blob_model.specs.Stands.{StandsFor}
use Rattle.blob_model.proofs.FileSteps.{stands_same, stands_done}
use Rattle.blob_model.proofs.NameSteps.{stands_opened, stands_removed}
use Rattle.blob_faulty.specs.declared.storage.Storage.{Storage}
use Rattle.blob_faulty.specs.Names.{Steps, retire_where}
use Rattle.blob_faulty.specs.Wrapper.{inner_of, pending_of, next_write_of, next_marker_of, KeepsNumbers, KeepsRecords, finished_by}
use Rattle.blob_faulty.proofs.Adding.{numbered_so, at_each, keeps_stands}

-- a call that changes nothing of them
pub same_steps : {S R O : Type 0} (place : O → Place) (directory : S → Directory) (durable : S → Durable) (before after : Storage S R O) →
    directory (inner_of after) ≡ directory (inner_of before) → durable (inner_of after) ≡ durable (inner_of before) → KeepsRecords place before after → Steps place directory durable before after (λ files. files)
same_steps place directory durable before after named kept k files s =
    keeps_stands place (directory (inner_of before)) (directory (inner_of after)) (durable (inner_of before)) (durable (inner_of after)) before after files named kept k s

-- an accepted open
pub opened_steps : {S R O : Type 0} (place : O → Place) (directory : S → Directory) (durable : S → Durable) (before after : Storage S R O) (p n : List ℕ) (first last : ℕ) (o : Place) (live : List ℕ) (version : ℕ) →
    IsOpened (directory (inner_of before)) (durable (inner_of before)) (directory (inner_of after)) (durable (inner_of after)) p n first last o live version → KeepsRecords place before after →
    Steps place directory durable before after (λ files. after_open files p n first last)
opened_steps place directory durable before after p n first last o live version is k files s =
    keeps_stands place (directory (inner_of after)) (directory (inner_of after)) (durable (inner_of after)) (durable (inner_of after)) before after (after_open files p n first last) refl refl k
    (stands_opened (directory (inner_of before)) (directory (inner_of after)) (durable (inner_of before)) (durable (inner_of after)) (pending_of place before) _ _ files p n first last o live version is s)

-- a removal that returned Ok
pub removed_steps : {S R O : Type 0} (place : O → Place) (directory : S → Directory) (durable : S → Durable) (before after : Storage S R O) (p : List ℕ) (n : Option (List ℕ)) →
    ((o : Place) → is_some (durable (inner_of before) o) ≡ is_current (directory (inner_of before)) o) →
    directory (inner_of after) ≡ directory_without (directory (inner_of before)) p n → durable (inner_of after) ≡ durable_without (durable (inner_of before)) p n →
    ((o : Place) → pending_of place after o ≡ retire_where (is_removed_by (directory (inner_of before)) p n) (pending_of place before) o) → KeepsNumbers before after →
    Steps place directory durable before after (λ files. after_remove files p n)
removed_steps place directory durable before after p n currents named kept retired numbers files s =
    numbered_so _ _ (pending_of place after) _ _ _ _ (after_remove files p n) numbers.next_write numbers.next_marker
    (stands_removed (directory (inner_of before)) (directory (inner_of after)) (durable (inner_of before)) (durable (inner_of after)) (pending_of place before) (pending_of place after) _ _ files p n currents named (at_each kept) retired s)

-- a started sync that is finished
pub finished_steps : {S R O : Type 0} (place : O → Place) (directory : S → Directory) (durable : S → Durable) (before after : Storage S R O) (marker : Option ℕ) →
    inner_of after ≡ inner_of before → ((o : Place) → pending_of place after o ≡ finished_by marker (pending_of place before o)) → KeepsNumbers before after →
    Steps place directory durable before after (λ files. files)
finished_steps {S} {R} {O} place directory durable before after marker same finished numbers files s =
    subst (λ (i : S). StandsFor (directory i) (durable i) (pending_of place after) (next_write_of after) (next_marker_of after) files) (sym same)
    (numbered_so _ _ (pending_of place after) _ _ _ _ files numbers.next_write numbers.next_marker (by marker finished))
  where
    by : (m : Option ℕ) → ((o : Place) → pending_of place after o ≡ finished_by m (pending_of place before o)) →
        StandsFor (directory (inner_of before)) (durable (inner_of before)) (pending_of place after) (next_write_of before) (next_marker_of before) files
    by None new = stands_same _ _ _ _ (pending_of place before) (pending_of place after) _ _ files refl (λ _. refl) new s
    by (Some k) new = stands_done _ _ (pending_of place before) (pending_of place after) _ _ k files new s

-- a draw, and another inner store, record nothing
pub records_after : {S R O : Type 0} (place : O → Place) (w : Storage S R O) (inner : S) (rng : R) → KeepsRecords place w (record w { inner = inner; rng = rng })
records_after place w inner rng = record { pending = λ o. refl; numbers = record { next_write = refl; next_marker = refl; config = refl } }
