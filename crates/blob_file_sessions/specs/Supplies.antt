-- Calls on files under the supply of power.
use Rattle.std.specs.Prelude.{◌≡◌, ◌==◌, ℕ, List, Bool, MatchBool, length}
use Rattle.blob_sessions.specs.Sessions.{stopped}
use Rattle.blob_statuses.specs.Powers.{after_call, counting_down, permits}
use Rattle.blob_statuses.specs.declared.effect.Effect.{Effect}
use Rattle.blob_statuses.specs.declared.ran.Ran.{Ran}
use Rattle.blob_statuses.specs.declared.ran.TheConstants.{DONE, POWER_LOSS}
use Rattle.blob_file_sessions.specs.Calls.{Answers, Reads, Writes}
use Rattle.blob_file_sessions.specs.Effects.{kind_effect}
use Rattle.blob_file_sessions.specs.Replies.{no_reply}
use Rattle.blob_file_sessions.specs.declared.call.FileCall.{FileCall}
use Rattle.blob_file_sessions.specs.declared.call.FileReply.{FileReply}
use Rattle.blob_file_sessions.specs.declared.kinds.TheConstants.{READ, WRITE}
use Rattle.blob_file_sessions.specs.declared.kept.KeptFiles.{KeptFiles}

-- A call with this effect: if the power permits it, it is made, and the power follows it. Otherwise it is refused, and nothing changes.
abbrev pub Supplied : Effect → Bool → (KeptFiles → Type 0) → Type 0 → KeptFiles → KeptFiles → Type 0
Supplied e done Made Refused k k' =
    MatchBool (permits k.power e)
    ((made : KeptFiles) × Made made × (made.power ≡ k.power) × (k' ≡ record made { power = after_call k.power e done }))
    (Refused × (k' ≡ k))

-- a call by its kind, numbers and paths
abbrev pub AnswersSupplied : KeptFiles → FileCall → List ℕ → List ℕ → KeptFiles → FileReply → Type 0
AnswersSupplied k asked path to k' reply =
    Supplied (kind_effect asked.kind) (reply.status == DONE) (λ made. Answers k asked path to made reply) (reply ≡ no_reply POWER_LOSS) k k'

-- a write
abbrev pub WritesSupplied : KeptFiles → ℕ → ℕ → List ℕ → KeptFiles → ℕ → Type 0
WritesSupplied k n offset bytes k' status =
    Supplied (kind_effect WRITE) (status == DONE) (λ made. Writes k n offset bytes made status) (status ≡ POWER_LOSS) k k'

-- a read into a buffer
abbrev pub ReadsSupplied : KeptFiles → ℕ → ℕ → List ℕ → List ℕ → KeptFiles → Ran → Type 0
ReadsSupplied k n offset old new k' ran =
    Supplied (kind_effect READ) (ran.status == DONE) (λ made. Reads k n offset (length old) made ran)
    ((ran ≡ stopped POWER_LOSS) × (new ≡ old)) k k'

-- the power goes off after this number of changing calls, if it is on
abbrev pub CutsPower : KeptFiles → KeptFiles → ℕ → ℕ → Type 0
CutsPower k k' calls status =
    MatchBool k.power.is_off ((status ≡ POWER_LOSS) × (k' ≡ k)) ((status ≡ DONE) × (k' ≡ record k { power = counting_down k.power calls }))
