-- Opens that the wrapper isn't asked for, and what is known of an accepted exclusive one.
use Rattle.std.proofs.Common.{◌≡◌, ℕ, ◌<◌, ◌-◌, ◌^◌, inl, inr, List, Option, Some, None, refl, sym, ap, subst}
use Rattle.blob_header.specs.Refusals.{Refusal, Memory, refusal_of}
use Rattle.blob_header.specs.declared.error.Error.{Error}
use Rattle.blob_lab_store.specs.declared.lab.Lab.{Lab}
use Rattle.blob_script.specs.declared.reply.Reply.{Reply}
use Rattle.blob_script.specs.declared.reply.Reply.TheVariants as reply
use Rattle.blob_script.specs.Acts.{AcceptedVersions, Open, OpenLoose}
use Rattle.blob_faulty.specs.Wrapper.{config_of}
use Rattle.blob_lab_store.specs.LabStands.{Performs, Wrapper}
use Rattle.blob_faulty.specs.Keeps.{IsFor}
use Rattle.blob_opens.specs.OpenNames as names
use Rattle.blob_opens.specs.OpenNames.{OpenNames, OpenAnswer}
use Rattle.blob_opens.specs.Opens.{names_of}
use Rattle.blob_lab_store.specs.Tables.{handles_of, syncs_of}
use Rattle.blob_lab_store.proofs.ExclusiveOpens.{exclusive_memory}
use Rattle.blob_lab_store.proofs.Performing.{performs, stands_same}

module _ (lab : Lab) (p n : List ℕ) (versions : Option AcceptedVersions) (empty : versions ≡ None) where
  -- an empty range of versions
  pub open_empty : Performs lab (Open p n versions) reply.EmptyRange lab
  open_empty = subst (λ (x : Option AcceptedVersions). Performs lab (Open p n x) reply.EmptyRange lab) (sym empty)
      (performs lab lab (Open p n None) reply.EmptyRange (λ f s. inr (tt, refl)) (λ f s. stands_same lab lab f refl refl refl refl s))

  pub loose_empty : Performs lab (OpenLoose p n versions) reply.EmptyRange lab
  loose_empty = subst (λ (x : Option AcceptedVersions). Performs lab (OpenLoose p n x) reply.EmptyRange lab) (sym empty)
      (performs lab lab (OpenLoose p n None) reply.EmptyRange (λ f s. inr (tt, refl)) (λ f s. stands_same lab lab f refl refl refl refl s))

module _ (lab lab' : Lab) (p n : List ℕ) (versions : Option AcceptedVersions) (first last : ℕ) (some : versions ≡ Some (first, last)) (e : Error) (memory : Some (refusal_of e) ≡ Some Memory)
    (wrapper : lab'.wrapper ≡ lab.wrapper) (names : names_of lab'.opens ≡ names_of lab.opens) (handles : handles_of lab'.handles ≡ handles_of lab.handles) (syncs : syncs_of lab'.syncs ≡ syncs_of lab.syncs) where
  -- there is no memory for one more handle
  pub loose_unasked : Performs lab (OpenLoose p n versions) (reply.Failed e) lab'
  loose_unasked = subst (λ (x : Option AcceptedVersions). Performs lab (OpenLoose p n x) (reply.Failed e) lab') (sym some)
      (performs lab lab' (OpenLoose p n (Some (first, last))) (reply.Failed e) (λ f s. inl (refl, memory)) (λ f s. stands_same lab lab' f wrapper names handles syncs s))

-- what is known of an accepted exclusive open
pub record Taken (s : OpenNames) (p n : List ℕ) (asks : Option Refusal → Type 0) : Type 0 where
  pub free : s.registered p n ≡ None
  pub left : s.next < 2 ^ 64 - 1
  pub asked : asks None

pub taken : (s : OpenNames) (p n : List ℕ) (asks : Option Refusal → Type 0) (made kept untouched : Type 0) (answer : Option Refusal) → OpenAnswer s p n asks made kept untouched answer → answer ≡ None → Taken s p n asks
taken s p n asks made kept untouched answer (names.Accepted free left a m) e = record { free = free; left = left; asked = a }
taken s p n asks made kept untouched answer (names.Held number here a m) e = cc
taken s p n asks made kept untouched answer (names.Declined refusal some a k) e = cc
taken s p n asks made kept untouched answer (names.NoMemory u) e = cc
taken s p n asks made kept untouched answer (names.NoNumber out u) e = cc

module _ (lab lab' : Lab) (p n : List ℕ) (versions : Option AcceptedVersions) (first last : ℕ) (some : versions ≡ Some (first, last)) (e : Error) (memory : refusal_of e ≡ Memory)
    (wrapper : lab'.wrapper ≡ lab.wrapper) (names : names_of lab'.opens ≡ names_of lab.opens) (handles : handles_of lab'.handles ≡ handles_of lab.handles) (syncs : syncs_of lab'.syncs ≡ syncs_of lab.syncs) where
  pub open_unasked : Performs lab (Open p n versions) (reply.Failed e) lab'
  open_unasked = subst (λ (x : Option AcceptedVersions). Performs lab (Open p n x) (reply.Failed e) lab') (sym some)
      (exclusive_memory lab lab' p n first last e syncs handles names (ap config_of wrapper) (λ f s. subst (λ (w : Wrapper). IsFor w f) (sym wrapper) s) memory)

-- the versions of a call are those that it asks the store for
pub loose_for : (lab lab' : Lab) (p n : List ℕ) (versions : Option AcceptedVersions) (first last : ℕ) (r : Reply) → versions ≡ Some (first, last) → Performs lab (OpenLoose p n (Some (first, last))) r lab' → Performs lab (OpenLoose p n versions) r lab'
loose_for lab lab' p n versions first last r e done = subst (λ (x : Option AcceptedVersions). Performs lab (OpenLoose p n x) r lab') (sym e) done

pub open_for : (lab lab' : Lab) (p n : List ℕ) (versions : Option AcceptedVersions) (first last : ℕ) (r : Reply) → versions ≡ Some (first, last) → Performs lab (Open p n (Some (first, last))) r lab' → Performs lab (Open p n versions) r lab'
open_for lab lab' p n versions first last r e done = subst (λ (x : Option AcceptedVersions). Performs lab (Open p n x) r lab') (sym e) done
