-- The reply to an exclusive open, by its error and the rest of the stream.
use Rattle.std.proofs.Common.{◌≡◌, ℕ, List, Bool, true, false, Option, Some, refl, sym, subst, if◌then◌else◌}
use Rattle.std.specs.Option.{option_or}
use Rattle.rand_core.specs.Stream.{Stream}
use Rattle.blob_header.specs.Refusals.{Refusal, Injected, GenerationsExhausted}
use Rattle.blob_draws.specs.Faults.{draw}
use Rattle.blob_memory.specs.Answers.{open_refusal}
use Rattle.blob_script.specs.Acts.{AcceptedVersions, Open}
use Rattle.blob_script.specs.declared.reply.Reply.{Reply}
use Rattle.blob_script.specs.Told as told
use Rattle.blob_script.specs.Told.{Told}
use Rattle.blob_lab_model.specs.Answers.{Answers, IsAnswer, answer, told_opened, unless_denied}
use Rattle.blob_lab_model.specs.Denials.{refused_if}
use Rattle.blob_lab_model.specs.States.{State}
use Rattle.blob_lab_model.specs.Steps.{is_unnumbered, open_already, open_denial}

abbrev pub left_of_open : State → List ℕ → List ℕ → Stream
left_of_open v p n = if is_unnumbered v.names p n then v.stream else (draw v.config.open_rate v.stream).1

by_tests : (unnumbered drawn : Bool) (store already : Option Refusal) (opened : Told) (old left : Stream)
    → ◌≡◌ {A = Told × Stream} (if unnumbered then (told.Failed GenerationsExhausted, old) else (unless_denied (option_or (refused_if Injected drawn) (option_or store already)) opened, left))
    (unless_denied (option_or (refused_if GenerationsExhausted unnumbered) (option_or (option_or (refused_if Injected drawn) store) already)) opened, if unnumbered then old else left)
by_tests true drawn store already opened old left = refl
by_tests false true store already opened old left = refl
by_tests false false store already opened old left = refl

pub exclusive_answer : (v : State) (p n : List ℕ) (versions : AcceptedVersions) → answer v (Open p n (Some versions)) ≡ (unless_denied (open_denial v p n versions.0 versions.1) (told_opened v p n versions), left_of_open v p n)
exclusive_answer v p n versions =
    by_tests (is_unnumbered v.names p n) (draw v.config.open_rate v.stream).0 (open_refusal v.files.directory p n versions.0 versions.1) (open_already v.names p n) (told_opened v p n versions) v.stream
    (draw v.config.open_rate v.stream).1

module _ (v : State) (p n : List ℕ) (versions : AcceptedVersions) (reply : Reply) (left : Stream) where
  abbrev pub IsTold : Type 0
  IsTold = IsAnswer true (unless_denied (open_denial v p n versions.0 versions.1) (told_opened v p n versions), left_of_open v p n) reply left

  pub exclusive_told : Answers v (Open p n (Some versions)) reply left → IsTold
  exclusive_told a = subst (λ (x : Told × Stream). IsAnswer true x reply left) (exclusive_answer v p n versions) a

  pub exclusive_answers : IsTold → Answers v (Open p n (Some versions)) reply left
  exclusive_answers a = subst (λ (x : Told × Stream). IsAnswer true x reply left) (sym (exclusive_answer v p n versions)) a
