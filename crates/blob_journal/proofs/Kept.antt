-- Calls that keep the journal, one after another, and with a sync.
use Rattle.std.proofs.Common.{◌≡◌, List, ℕ, map, true, ap₂, subst, ◌∙◌}
use Rattle.blob_model.specs.Directory.{is_current}
use Rattle.blob_model.specs.Places.{Place}
use Rattle.blob_memory.specs.Store.{directory, durable}
use Rattle.blob_faulty.specs.Wrapper.{inner_of}
use Rattle.blob_directory.specs.declared.unsettled.Unsettled.{Unsettled}
use Rattle.blob_directory.specs.Records.{Found}
use Rattle.blob_directory.specs.Syncs.{Wants, marked}
use Rattle.blob_journal.specs.declared.journaled.Journaled.{Journaled}
use Rattle.blob_journal.specs.Currents.{pending_at}
use Rattle.blob_journal.specs.Journals.{store_of}
use Rattle.blob_journal.specs.Settling.{Changes, KeepsJournal, KeptTwice, SettledAfter, SettledBefore, all_settled, place_of}
use Rattle.blob_journal.specs.Told.{is_marked_in, settled_in}
use Rattle.blob_journal.proofs.Settling.{changes_before, changes_then}

-- the durable bytes of an incarnation, and what is pending of it, stay
record KeepsAt {R : Type 0} (b c : Journaled R) (o : Place) : Type 0 where
  durable : durable (inner_of (store_of c)) o ≡ durable (inner_of (store_of b)) o
  pending : pending_at (store_of c) o ≡ pending_at (store_of b) o

-- at the place of the journal before
here : {R : Type 0} (a b c : Journaled R) (o : Place) → place_of b ≡ o → KeepsJournal b c → KeepsAt b c o
here a b c o same h = subst (λ (p : Place). KeepsAt b c p) same (record { durable = h.durable; pending = h.pending })

pub kept_twice : (R : Type 0) → KeptTwice R
kept_twice R a b c h k =
    let x = here a b c (place_of a) h.place k in
    record {
      place = k.place ∙ h.place;
      durable = x.durable ∙ h.durable;
      pending = x.pending ∙ h.pending;
      files = λ r. k.files (h.files r);
      unsettled = k.unsettled ∙ h.unsettled;
      told = k.told ∙ h.told;
    }

pub settled_after : (R : Type 0) → SettledAfter R
settled_after R settles synced a b c h s =
    let o : Place = place_of a in
    let now : is_current (directory (inner_of (store_of b))) o ≡ true = subst (λ (p : Place). is_current (directory (inner_of (store_of b))) p ≡ true) h.place b.current in
    let change : List Unsettled → List ℕ → List ℕ = λ l. all_settled (map (marked s.wants) l) in
    record {
      place = s.place ∙ h.place;
      wants = s.wants;
      exactly = subst (λ (l : List Unsettled). Wants settles synced l s.wants) h.unsettled s.exactly;
      journal = subst (λ (l : List Unsettled). Changes (store_of a) (store_of c) o (change l)) h.unsettled
          (changes_before (store_of a) (store_of b) (store_of c) o (change b.unsettled.edits.items) h.durable h.pending h.files now
          (subst (λ (p : Place). Changes (store_of b) (store_of c) p (change b.unsettled.edits.items)) h.place s.journal));
      told = s.told ∙ ap₂ (λ (l : List Unsettled) (told : List Found). settled_in (is_marked_in (map (marked s.wants) l)) 0 told) h.unsettled h.told;
    }

pub settled_before : (R : Type 0) → SettledBefore R
settled_before R settles synced a b c s k =
    let x = here a b c (place_of a) s.place k in
    record {
      place = k.place ∙ s.place;
      wants = s.wants;
      exactly = s.exactly;
      journal = changes_then (store_of a) (store_of b) (store_of c) (place_of a) (all_settled (map (marked s.wants) a.unsettled.edits.items)) x.durable x.pending k.files s.journal;
      told = k.told ∙ s.told;
    }
