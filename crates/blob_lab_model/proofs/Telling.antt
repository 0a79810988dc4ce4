-- Replies that match an expected one.
use Rattle.std.proofs.Common.{◌≡◌, ◌≢◌, ◌⊎◌, inl, inr, true, Option, Some, None, refl, subst, ⊎_elim}
use Rattle.rand_core.specs.Stream.{Stream}
use Rattle.blob_header.specs.declared.error.Error.{Error}
use Rattle.blob_header.specs.Refusals.{Refusal, Memory, refusal_of}
use Rattle.blob_memory.specs.Answers.{OrMemory}
use Rattle.blob_script.specs.declared.reply.Reply.{Reply}
use Rattle.blob_script.specs.declared.reply.Reply.TheVariants.{Failed}
use Rattle.blob_lab_model.specs.Answers.{IsAnswer, unless_denied}
use Rattle.blob_script.specs.Told.{Told, Tells}

-- whether an error is `Memory`
pub memory_or_not : (answer : Option Refusal) → (answer ≡ Some Memory) ⊎ (answer ≢ Some Memory)
memory_or_not None = inr (λ e. cc)
memory_or_not (Some Memory) = inl refl
memory_or_not (Some r) = inr (λ e. cc)

-- a call that succeeded
pub done_answers : (reply : Reply) (denial : Option Refusal) (done : Told) (left expected : Stream) → Tells reply done → None ≡ denial → left ≡ expected → IsAnswer true (unless_denied denial done, expected) reply left
done_answers reply denial done left expected tells free same = inr (subst (λ (x : Option Refusal). Tells reply (unless_denied x done)) free tells, same)

-- a call that failed
pub failed_answers : (e : Error) (denial : Option Refusal) (done : Told) (left expected : Stream) → OrMemory denial (Some (refusal_of e)) → (Some (refusal_of e) ≢ Some Memory → left ≡ expected) → IsAnswer true (unless_denied denial done, expected) (Failed e) left
failed_answers e denial done left expected told same =
    ⊎_elim
    (λ (m : Some (refusal_of e) ≡ Some Memory). inl (refl, m))
    (λ (no : Some (refusal_of e) ≢ Some Memory).
    ⊎_elim
    (λ (m : Some (refusal_of e) ≡ Some Memory). absurd (no m))
    (λ (is : Some (refusal_of e) ≡ denial). inr (subst (λ (x : Option Refusal). Tells (Failed e) (unless_denied x done)) is refl, same no))
    told)
    (memory_or_not (Some (refusal_of e)))
