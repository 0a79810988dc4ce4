-- Why an open in a store that is empty is refused.
use Rattle.std.proofs.Common.{◌≡◌, ◌∙◌, refl, ap, sym, inl, inr, ℕ, List, Ok, Err, Some, None, Result, Option, OnErr}
use Rattle.std.proofs.lemmas.Option.{none-some}
use Rattle.std.specs.Prelude.{codes, true, false, is_none}
use Rattle.blob_header.specs.Refusals.{Refusal, IsMemory}
use Rattle.blob_header.specs.declared.error.Error.{Error}
use Rattle.blob_memory.specs.Answers.{OrMemory, open_refusal, opening_refusal}
use Rattle.blob_model.specs.Directory.{Directory}
use Rattle.blob_model.specs.Durable.{Durable}
use Rattle.blob_model.specs.Opening.{IsOpened, Opening}
use Rattle.blob_model.specs.Opening.IsOpened.{Continued, Begun}
use Rattle.blob_model.specs.Places.{Place}

abbrev pub empty : Directory
empty = record { has_partition = λ _. false; file = λ _ _. None; next = 0 }

abbrev pub answers : Directory → Option Refusal → Type 0
answers d = OrMemory (open_refusal d (codes "disk") (codes "0") 0 0)

none_refused : open_refusal empty (codes "disk") (codes "0") 0 0 ≡ None
none_refused = refl

pub memory_alone : (d : Directory) (r : Refusal) → d ≡ empty → answers d (Some r) → Some r ≡ Some Refusal.Memory
memory_alone d r e (inl memory) = memory
memory_alone d r e (inr same) = absurd (none-some r (sym (same ∙ ap (λ (x : Directory). open_refusal x (codes "disk") (codes "0") 0 0) e ∙ none_refused)))

pub refused_alone : {T : Type 0} (result : Result T Error) → IsMemory result → OnErr result (IsMemory result)
refused_alone (Ok x) memory = tt
refused_alone (Err e) memory = memory

-- a name that was opened for the one version can be opened again
pub opens_again : (d d' : Directory) (bytes bytes' : Durable) (o : Place) (live : List ℕ) → IsOpened d bytes d' bytes' (codes "disk") (codes "0") 0 0 o live 0 →
    is_none (open_refusal d' (codes "disk") (codes "0") 0 0) ≡ true
opens_again d d' bytes bytes' o live (Continued number layout finds is there same kept) =
    ap (λ (x : Directory). is_none (open_refusal x (codes "disk") (codes "0") 0 0)) same ∙ ap (λ (x : Opening). is_none (opening_refusal x d.next)) finds
opens_again d d' bytes bytes' o live (Begun layout finds is made with) =
    ap (λ (x : Directory). is_none (open_refusal x (codes "disk") (codes "0") 0 0)) made
