-- Which streams of a run failed, step by step.
use Rattle.std.proofs.Common.{◌≡◌, ◌≢◌, ◌⊎◌, ◌==◌, ℕ, List, true, false, inl, inr, Option, None, Some, is_none, Result, Ok, Err, IfErr, refl, sym, ap, subst, ◌∙◌}
use Rattle.std.proofs.lemmas.List.Folds.{list_any_at}
use Rattle.memchr.specs.Find.{IsFirstByte, is_byte}
use Rattle.blob_lab.specs.declared.ending.Ending.{Ending}
use Rattle.blob_lab.specs.declared.ending.Ending.TheVariants.{Done, InputFailed, OutputFailed, BadCall, BadImage, Usage, NoMemory}
use Rattle.blob_lab.specs.declared.streams.Input.{Input}
use Rattle.blob_lab.specs.declared.streams.Output.{Output}
use Rattle.blob_lab.specs.Endings.{is_cut, is_of_stream}
use Rattle.blob_lab.specs.Streams.{has_line, write_failed, StaySound, NamesFailed, ToldEnding, ToldOutput}

module _ {R W : Type 0} (i m i' : Input R) (o p o' : Output W) (sound : StaySound i m o p) where
  pub tells_behind : (ending : Ending) → NamesFailed ending m i' p o' → NamesFailed ending i i' o o'
  tells_behind InputFailed (r, w) = (r, w ∙ sound.1)
  tells_behind OutputFailed (r, w) = (r ∙ sound.0, w)
  tells_behind Done (r, w) = (r ∙ sound.0, w ∙ sound.1)
  tells_behind (BadCall number) (r, w) = (r ∙ sound.0, w ∙ sound.1)
  tells_behind BadImage (r, w) = (r ∙ sound.0, w ∙ sound.1)
  tells_behind Usage (r, w) = (r ∙ sound.0, w ∙ sound.1)
  tells_behind NoMemory (r, w) = (r ∙ sound.0, w ∙ sound.1)

  -- neither stream had failed before
  pub told_behind : {T : Type 0} (result : Result T Ending) → ToldEnding result m i' p o' → ToldEnding result i i' o o'
  told_behind (Ok x) (r, w) = (r ∙ sound.0, w ∙ sound.1)
  told_behind (Err ending) tells = tells_behind ending tells

-- a call has no reply, after steps that didn't fail
pub unanswered_told : {R W : Type 0} (ending : Ending) (i m : Input R) (o p p' : Output W) → StaySound i m o p → (ending ≡ OutputFailed) ⊎ (ending ≡ NoMemory)
    → (ending ≢ NoMemory → write_failed p' ≡ true) → (ending ≡ NoMemory → p' ≡ p) → NamesFailed ending i m o p'
unanswered_told OutputFailed i m o p p' sound cut told same = (sound.0, told (λ e. cc))
unanswered_told NoMemory i m o p p' sound cut told same = (sound.0, ap write_failed (same refl) ∙ sound.1)
unanswered_told InputFailed i m o p p' sound cut told same = elim cut [ inl e ↦ cc | inr e ↦ cc ]
unanswered_told (BadCall number) i m o p p' sound cut told same = elim cut [ inl e ↦ cc | inr e ↦ cc ]
unanswered_told Done i m o p p' sound cut told same = elim cut [ inl e ↦ cc | inr e ↦ cc ]
unanswered_told BadImage i m o p p' sound cut told same = elim cut [ inl e ↦ cc | inr e ↦ cc ]
unanswered_told Usage i m o p p' sound cut told same = elim cut [ inl e ↦ cc | inr e ↦ cc ]

-- a write or a flush, after steps that didn't fail
module _ {R W : Type 0} (i m : Input R) (o p p' : Output W) (sound : StaySound i m o p) where
  output_tells : (ending : Ending) → ending ≡ OutputFailed → write_failed p' ≡ true → NamesFailed ending i m o p'
  output_tells ending e failed = subst (λ (x : Ending). NamesFailed x i m o p') (sym e) (sound.0, failed)

  pub output_told : {T : Type 0} (result : Result T Ending) → IfErr result (λ ending. ending ≡ OutputFailed) → ToldOutput result p p' → ToldEnding result i m o p'
  output_told (Ok x) e told = (sound.0, told ∙ sound.1)
  output_told (Err ending) e told = output_tells ending e told

-- an ending that names neither stream
pub image_tells : {R W : Type 0} (ending : Ending) (i m : Input R) (o p : Output W) (P : Type 0) → StaySound i m o p → (ending ≡ NoMemory) ⊎ ((ending ≡ BadImage) × P) → NamesFailed ending i m o p
image_tells ending i m o p P sound (inl e) = subst (λ (x : Ending). NamesFailed x i m o p) (sym e) sound
image_tells ending i m o p P sound (inr (e, h)) = subst (λ (x : Ending). NamesFailed x i m o p) (sym e) sound

pub any_error : {T E : Type 0} (r : Result T E) (P : Type 0) → P → IfErr r (λ _. P)
any_error (Ok x) P p = tt
any_error (Err e) P p = p

-- a line feed was found
pub line_ready : (bytes : List ℕ) (found : Option ℕ) → IsFirstByte (is_byte 10) bytes found → is_none found ≡ false → has_line bytes ≡ true
line_ready bytes None first some = cc some
line_ready bytes (Some place) (first, is) some = list_any_at (λ b. b == 10) bytes place 0 first.high is

-- a read or a write that failed has no bad line, and cuts a run short

pub no_bad_line : (ending : Ending) (number : ℕ) → is_of_stream ending ≡ true → ending ≡ BadCall number → ⊥
no_bad_line ending number stream e = let t : is_of_stream (BadCall number) ≡ true = subst (λ (x : Ending). is_of_stream x ≡ true) e stream in cc

pub stream_cut : (ending : Ending) → is_of_stream ending ≡ true → is_cut ending ≡ true
stream_cut InputFailed h = refl
stream_cut OutputFailed h = refl
stream_cut NoMemory h = refl
stream_cut Done h = cc
stream_cut (BadCall number) h = cc
stream_cut BadImage h = cc
stream_cut Usage h = cc
