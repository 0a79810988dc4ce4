-- What a typed call does to a session.
use Rattle.std.specs.Prelude.{◌≡◌, ◌==◌, ℕ, List, Some}
use Rattle.blob_script.specs.Acts.{Act, Size, Through}
use Rattle.blob_script.specs.declared.reply.Reply.{Reply}
use Rattle.blob_lab_store.specs.LabStands.{Performs}
use Rattle.blob_sessions.specs.Effects.{kind_effect}
use Rattle.blob_sessions.specs.Supplies.{Supplied}
use Rattle.blob_sessions.specs.Sessions.{Makes, OnHeld, kept_of, settings_of}
use Rattle.blob_sessions.specs.Typed.{IsNoTypedCall, typed_act, typed_reply, without_reply}
use Rattle.blob_sessions.specs.declared.kept.Kept.{Kept}
use Rattle.blob_statuses.specs.declared.ran.TheConstants.{BAD_CALL, CLOSED, DONE, POWER_LOSS}
use Rattle.blob_sessions.specs.declared.session.Session.{Session}
use Rattle.blob_sessions.specs.declared.typed.TypedCall.{TypedCall}
use Rattle.blob_sessions.specs.declared.typed.TypedReply.{TypedReply}

-- a typed call: if it was made, its reply is kept; otherwise nothing changed
pub record Applies (k k' : Kept) (asked : TypedCall) (partition name : List ℕ) (reply : TypedReply) : Type 0 where
  pub made : (reply.status ≡ BAD_CALL → ⊥) → (act : Act) × (last : Reply) × (typed_act asked partition name ≡ Some act) × Makes k act last k' × (reply ≡ typed_reply last)
  pub bad : reply.status ≡ BAD_CALL → IsNoTypedCall asked partition name × (k' ≡ k) × (reply ≡ without_reply BAD_CALL)
  pub settings : settings_of k' ≡ settings_of k

-- the same under the supply of power
abbrev pub AppliesSupplied : Kept → Kept → TypedCall → List ℕ → List ℕ → TypedReply → Type 0
AppliesSupplied k k' asked partition name reply =
    Supplied (kind_effect asked.kind) (reply.status == DONE) (λ made. Applies k made asked partition name reply) (reply ≡ without_reply POWER_LOSS) k k'

abbrev pub AppliesTo : Session → Session → TypedCall → List ℕ → List ℕ → TypedReply → Type 0
AppliesTo before after asked partition name reply =
    OnHeld (kept_of before) (kept_of after) (λ k k'. AppliesSupplied k k' asked partition name reply) (reply ≡ without_reply CLOSED)

-- the size that a handle tracks, as its call `size` returns it, without the call
abbrev pub HasSize : Kept → ℕ → TypedReply → Type 0
HasSize k handle size = (reply : Reply) × Performs k.lab (Through handle Size) reply k.lab × (size ≡ typed_reply reply)
