-- If the store did an open, the partition has a valid name.
use Rattle.std.proofs.Common.{◌≡◌, inl, inr, ⊎_elim, ℕ, Bool, true, false, not, List, Option, Some, None, refl, sym, ap, ◌∙◌, subst, if◌then◌else◌}
use Rattle.std.proofs.lemmas.Bool.{cases_Bool, false≢true}
use Rattle.rand_core.specs.Stream.{Stream}
use Rattle.std.specs.Option.{option_or}
use Rattle.blob_model.specs.Opening.{opening}
use Rattle.blob_header.specs.PartitionName.{is_partition_name}
use Rattle.blob_header.specs.Refusals.{Refusal, BlobAlreadyOpen, PartitionNameInvalid, GenerationsExhausted, Injected}
use Rattle.blob_draws.specs.Faults.{draw}
use Rattle.blob_memory.specs.Answers.{opening_refusal}
use Rattle.blob_script.specs.declared.reply.Reply.{Reply}
use Rattle.blob_script.specs.Acts.{Open, OpenLoose}
use Rattle.blob_lab_model.specs.Answers as answers
use Rattle.blob_lab_model.specs.Answers.{Answers}
use Rattle.blob_lab_model.specs.Steps.{open_denial, loose_denial, is_unnumbered, open_already}
use Rattle.blob_lab_model.specs.Denials.{refused_if}
use Rattle.blob_lab_model.specs.States.{State}
use Rattle.blob_script.specs.Told.{Told, Tells, refused_by}
use Rattle.blob_lab_model.proofs.ToldOpens.{exclusive_answer}
use Rattle.blob_lab_model.proofs.ToldRefusals.{denied}

-- the store did the open: it was accepted, or failed because the name is open
abbrev pub made : Option Refusal → Bool
made None = true
made (Some (BlobAlreadyOpen p n)) = true
made _ = false

invalid_store : (p : List ℕ) (later : Option Refusal) → is_partition_name p ≡ false → (if not (is_partition_name p) then Some (PartitionNameInvalid p) else later) ≡ Some (PartitionNameInvalid p)
invalid_store p later invalid = ap (λ b. if not b then Some (PartitionNameInvalid p) else later) invalid

unmade : (p : List ℕ) (unnumbered drawn : Bool) (already : Option Refusal) → made (option_or (refused_if GenerationsExhausted unnumbered) (option_or (option_or (refused_if Injected drawn) (Some (PartitionNameInvalid p))) already)) ≡ false
unmade p true drawn already = refl
unmade p false true already = refl
unmade p false false already = refl

unmade_loosely : (p : List ℕ) (drawn : Bool) → made (option_or (refused_if Injected drawn) (Some (PartitionNameInvalid p))) ≡ false
unmade_loosely p true = refl
unmade_loosely p false = refl

valid_or : (p : List ℕ) (refusal : Option Refusal) → (is_partition_name p ≡ false → made refusal ≡ false) → made refusal ≡ true → is_partition_name p ≡ true
valid_or p refusal unless so = ⊎_elim (λ valid. valid) (λ invalid. absurd (false≢true (sym (unless invalid) ∙ so))) (cases_Bool (is_partition_name p))

pub exclusive_valid : (v : State) (p n : List ℕ) (versions : ℕ × ℕ) (reply : Reply) (left : Stream) → Answers v (Open p n (Some versions)) reply left → made (refused_by reply) ≡ true → is_partition_name p ≡ true
exclusive_valid v p n versions reply left (inl m) so = absurd (false≢true (sym (ap made m.1) ∙ so))
exclusive_valid v p n versions reply left (inr t) so =
    let denial : Option Refusal = open_denial v p n versions.0 versions.1 in
    let told = subst (λ (x : Told × Stream). Tells reply x.0) (exclusive_answer v p n versions) t.0 in
    let is : refused_by reply ≡ denial = denied reply denial (answers.told_opened v p n versions) refl told in
    valid_or p denial
    (λ invalid.
    ap (λ store. made (option_or (refused_if GenerationsExhausted (is_unnumbered v.names p n)) (option_or (option_or (refused_if Injected (draw v.config.open_rate v.stream).0) store) (open_already v.names p n))))
    (invalid_store p (opening_refusal (opening p n (v.files.directory.file p n) versions.0 versions.1) v.files.directory.next) invalid)
    ∙ unmade p (is_unnumbered v.names p n) (draw v.config.open_rate v.stream).0 (open_already v.names p n))
    (sym (ap made is) ∙ so)

pub loose_valid : (v : State) (p n : List ℕ) (versions : ℕ × ℕ) (reply : Reply) (left : Stream) → Answers v (OpenLoose p n (Some versions)) reply left → made (refused_by reply) ≡ true → is_partition_name p ≡ true
loose_valid v p n versions reply left (inl m) so = absurd (false≢true (sym (ap made m.1) ∙ so))
loose_valid v p n versions reply left (inr t) so =
    let denial : Option Refusal = loose_denial v p n versions.0 versions.1 in
    let is : refused_by reply ≡ denial = denied reply denial (answers.told_opened v p n versions) refl t.0 in
    valid_or p denial
    (λ invalid.
    ap (λ store. made (option_or (refused_if Injected (draw v.config.open_rate v.stream).0) store))
    (invalid_store p (opening_refusal (opening p n (v.files.directory.file p n) versions.0 versions.1) v.files.directory.next) invalid)
    ∙ unmade_loosely p (draw v.config.open_rate v.stream).0)
    (sym (ap made is) ∙ so)
