-- Refused exclusive opens, by what the registry of open names says of them.
use Rattle.std.proofs.Common.{◌≡◌, ℕ, List, Option, Some, sym, ap, subst}
use Rattle.blob_header.specs.Refusals.{Refusal, refusal_of, Memory, BlobAlreadyOpen, GenerationsExhausted}
use Rattle.blob_header.specs.declared.error.Error.{Error}
use Rattle.hex.specs.Hex.{encode_lower}
use Rattle.blob_faulty.specs.Exclusive.{ExclusiveAnswer}
use Rattle.blob_faulty.specs.Wrapper.{config_of, inner_of as store_of}
use Rattle.blob_memory.specs.Store.{directory, durable}
use Rattle.blob_lab_store.specs.declared.lab.Lab.{Lab}
use Rattle.blob_script.specs.declared.reply.Reply.TheVariants as reply
use Rattle.blob_script.specs.Acts.{Open}
use Rattle.blob_lab_store.specs.LabStands.{Performs, Wrapper, stream_of}
use Rattle.blob_faulty.specs.Keeps.{IsFor}
use Rattle.blob_opens.specs.OpenNames as names
use Rattle.blob_opens.specs.Opens.{names_of}
use Rattle.blob_lab_model.specs.Scripted.{scripted_stream}
use Rattle.blob_lab_model.specs.States.{AreGiven}
use Rattle.blob_lab_store.specs.Tables.{handles_of, syncs_of}
use Rattle.blob_lab_store.proofs.ExclusiveOpens.{exclusive_held, exclusive_declined, exclusive_memory, exclusive_exhausted}
use Rattle.blob_lab_store.proofs.LooseOpens.{IsOpenAllowed}
use Rattle.blob_lab_store.proofs.OpenSteps.{given_kept}

module _ (lab lab' : Lab) (p n : List ℕ) (first last : ℕ) (e : Error) (syncs : syncs_of lab'.syncs ≡ syncs_of lab.syncs) (handles : handles_of lab'.handles ≡ handles_of lab.handles) (held : names_of lab'.opens ≡ names_of lab.opens) where
  abbrev IsAnswered : Option Refusal → Type 0
  IsAnswered answer = ExclusiveAnswer lab.wrapper lab'.wrapper p n first last scripted_stream (names_of lab.opens) answer

  pub exclusive_failed : (answer : Option Refusal) → IsAnswered answer → answer ≡ Some (refusal_of e) → Performs lab (Open p n (Some (first, last))) (reply.Failed e) lab'
  exclusive_failed answer (names.Accepted free left a m) same = cc
  exclusive_failed answer (names.Held k here a m) same =
      let is : refusal_of e ≡ BlobAlreadyOpen p (encode_lower n) = cc in
      let made = m.0 in
      exclusive_held lab lab' p n first last e syncs handles held a.1.numbers.config k here is a.0 a.1.drawn
      (λ next eq g. given_kept (directory (store_of lab.wrapper)) (directory (store_of lab'.wrapper)) (durable (store_of lab.wrapper)) (durable (store_of lab'.wrapper)) p n first last made.place made.live made.version (handles_of lab.handles) made.is (subst (λ (k : ℕ). AreGiven k (handles_of lab.handles)) eq g))
      m.1
  exclusive_failed answer (names.Declined r some a u) same =
      let is : r ≡ refusal_of e = cc in
      exclusive_declined lab lab' p n first last e syncs handles held a.1.numbers.config u.same_files some (subst (λ (x : Refusal). IsOpenAllowed lab.wrapper p n first last (Some x)) is a.0) a.1.drawn
  exclusive_failed answer (names.NoMemory u) same =
      let is : refusal_of e ≡ Memory = cc in
      exclusive_memory lab lab' p n first last e syncs handles held (ap config_of u) (λ f s. subst (λ (w : Wrapper). IsFor w f) (sym u) s) is
  exclusive_failed answer (names.NoNumber out u) same =
      let is : refusal_of e ≡ GenerationsExhausted = cc in
      exclusive_exhausted lab lab' p n first last e syncs handles held (ap config_of u) (λ f s. subst (λ (w : Wrapper). IsFor w f) (sym u) s) is out (ap stream_of u)
