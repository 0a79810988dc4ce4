-- What the registry of open names returns from an exclusive open, as a wrapper over the memory store leaves it.
use Rattle.std.proofs.Common.{◌≡◌, ℕ, List, Option, None, sym, subst}
use Rattle.std.proofs.lemmas.Bool.{false≢true}
use Rattle.std.specs.Prelude.{IsSome}
use Rattle.rand_core.specs.Stream.{Stream}
use Rattle.blob_header.specs.Refusals.{Refusal}
use Rattle.blob_model.specs.Opening.{IsOpened}
use Rattle.blob_model.specs.Places.{Place}
use Rattle.blob_opens.specs.OpenNames.{OpenNames, OpenAnswer, Accepted, Held, Declined, NoMemory, NoNumber}
use Rattle.blob_opens.specs.Opens.{IsMade}
use Rattle.blob_draws.specs.Answers.{injected_or}
use Rattle.blob_draws.specs.Faults.{draw}
use Rattle.blob_faulty.specs.Admitted.{AdmittedOpenLeaves, OpensAdmitted, OpensAlone, StaysSame}
use Rattle.blob_faulty.specs.Exclusive.{ExclusiveAnswer}
use Rattle.blob_faulty.specs.Keeps.{OverMemory, Keeps, LosesNothing}
use Rattle.blob_faulty.specs.Names.{OpenLeaves}
use Rattle.blob_faulty.specs.Wrapper.{inner_of, rng_of, config_of}
use Rattle.blob_memory.specs.Answers.{OrMemory, open_refusal}
use Rattle.blob_memory.specs.Store.{directory, durable}
use Rattle.blob_memory.specs.declared.storage.Storage as memory
use Rattle.blob_faulty.proofs.AdmittedOpens.{leaves_alone}
use Rattle.blob_faulty.proofs.Keeping.{keeps_same, keeps_open}

-- What the wrapper's own open returned to the registry.

module _ {R : Type 0} (stream : R → Stream) (s : OpenNames) (p n : List ℕ) (first last : ℕ) (before mid : OverMemory R) where
  abbrev Leaves : Type 0
  Leaves = OpenLeaves (λ o. o) stream (λ _. Unit {0}) before mid

  -- the wrapper's own open, with this answer
  abbrev pub Open : Option Refusal → Type 0
  Open asked = injected_or (draw (config_of before).open_rate (stream (rng_of before))).0 (OrMemory (open_refusal (directory (inner_of before)) p n first last)) asked × Leaves

  abbrev MadeBy : OverMemory R → Type 0
  MadeBy w = IsMade (directory (inner_of before)) (durable (inner_of before)) (directory (inner_of w)) (durable (inner_of w)) p n first last

  abbrev pub Told : Option Refusal → Type 0
  Told answer = OpenAnswer s p n Open (MadeBy mid) ((directory (inner_of mid) ≡ directory (inner_of before)) × (durable (inner_of mid) ≡ durable (inner_of before))) (mid ≡ before) answer

  pub asked : (answer : Option Refusal) → Told answer → answer ≡ None → Open None
  asked answer (Accepted free left a m) e = a
  asked answer (Held number here a m) e = cc
  asked answer (Declined refusal some a k) e = cc
  asked answer (NoMemory u) e = cc
  asked answer (NoNumber out u) e = cc

  -- accepted, and then admitted
  pub told_admitted : (after : OverMemory R) (answer : Option Refusal) → Told answer → answer ≡ None → (Leaves → AdmittedOpenLeaves (λ o. o) directory stream (λ _. Unit {0}) p n None before after) →
      inner_of after ≡ inner_of mid → OpensAdmitted before after p n first last → ExclusiveAnswer before after p n first last stream s None
  told_admitted after answer (Accepted free left a m) e leaves inner files =
      Accepted free left (a.0, leaves a.1) (subst (λ (i : memory.Storage). IsMade (directory (inner_of before)) (durable (inner_of before)) (directory i) (durable i) p n first last) (sym inner) m, files)
  told_admitted after answer (Held number here a m) e leaves inner files = cc
  told_admitted after answer (Declined refusal some a k) e leaves inner files = cc
  told_admitted after answer (NoMemory u) e leaves inner files = cc
  told_admitted after answer (NoNumber out u) e leaves inner files = cc

  -- refused: the laws say what the files are then
  module _ (accepts : (o : Place) (live : List ℕ) (version : ℕ) → IsOpened (directory (inner_of before)) (durable (inner_of before)) (directory (inner_of mid)) (durable (inner_of mid)) p n first last o live version →
      Leaves → OpensAlone before mid p n first last)
      (declines : (r : Refusal) → directory (inner_of mid) ≡ directory (inner_of before) → durable (inner_of mid) ≡ durable (inner_of before) → Leaves → StaysSame before mid) where
    pub told_refused : (answer : Option Refusal) → Told answer → IsSome answer → ExclusiveAnswer before mid p n first last stream s answer
    told_refused answer (Accepted free left a m) some = absurd (false≢true some)
    told_refused answer (Held number here a m) some = Held number here (a.0, leaves_alone stream p n before mid _ a.1) (m, accepts m.place m.live m.version m.is a.1)
    told_refused answer (Declined refusal more a k) some = Declined refusal more (a.0, leaves_alone stream p n before mid _ a.1) (record { directory = k.0; durable = k.1; same_files = declines refusal k.0 k.1 a.1 })
    told_refused answer (NoMemory u) some = NoMemory u
    told_refused answer (NoNumber out u) some = NoNumber out u

-- bytes that were kept
pub keeps_refused : {R : Type 0} (stream : R → Stream) (s : OpenNames) (p n : List ℕ) (first last : ℕ) (before after : OverMemory R) (answer : Option Refusal) →
    ExclusiveAnswer before after p n first last stream s answer → IsSome answer → LosesNothing before after
keeps_refused stream s p n first last before after answer (Accepted free left a m) some o bytes k = absurd (false≢true some)
keeps_refused stream s p n first last before after answer (Held number here a m) some o bytes k =
    keeps_open (λ o. o) directory durable before after p n first last m.1 o bytes k m.0.place m.0.live m.0.version m.0.is
keeps_refused stream s p n first last before after answer (Declined refusal more a u) some o bytes k = keeps_same (λ o. o) directory durable before after o bytes u.directory k u.same_files
keeps_refused stream s p n first last before after answer (NoMemory u) some o bytes k = subst (λ w. Keeps w o bytes) (sym u) k
keeps_refused stream s p n first last before after answer (NoNumber out u) some o bytes k = subst (λ w. Keeps w o bytes) (sym u) k
