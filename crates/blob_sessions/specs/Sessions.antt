-- What a session holds, and what its calls do to that.
use Rattle.std.specs.Prelude.{◌≡◌, ◌≢◌, ◌==◌, ◌⊎◌, ◌<◌, ◌≤◌, ◌^◌, ℕ, List, [], Bool, length, take, drop, Option, Some, None, IfSome, MatchBool, MatchOption}
use Rattle.blob_draws.specs.declared.config.Config.{Config}
use Rattle.blob_script.specs.declared.reply.Reply.{Reply}
use Rattle.blob_script.specs.declared.reply.Reply.TheVariants as replies
use Rattle.blob_script.specs.Acts.{Act, Through, Read, Write}
use Rattle.blob_lab_store.specs.LabStands.{Performs}
use Rattle.blob_script.specs.Lines.{Blank, line_of}
use Rattle.blob_script.specs.Readers.{SaysCall, config_of}
use Rattle.blob_script.specs.Replies.{reply_line}
use Rattle.blob_lab.specs.Scripts.{Script, with_line}
use Rattle.blob_sessions.specs.Debts.{MakesDebtCall, no_debt}
use Rattle.blob_statuses.specs.Powers.{permits}
use Rattle.blob_sessions.specs.Effects.{effect_of}
use Rattle.blob_sessions.specs.Supplies.{FollowsCall, IsOffFor, Supplied, after_last}
use Rattle.blob_sessions.specs.declared.debts.DebtCall.{DebtCall}
use Rattle.blob_sessions.specs.declared.debts.DebtReply.{DebtReply}
use Rattle.blob_sessions.specs.declared.kept.Kept.{Kept}
use Rattle.blob_sessions.specs.declared.session.Session.{Session}
use Rattle.blob_statuses.specs.declared.ran.Ran.{Ran}
use Rattle.blob_statuses.specs.declared.ran.TheConstants.{DONE, BAD_LINE, NO_MEMORY, NO_ROOM, CLOSED, POWER_LOSS, UNPRINTED}
use Rattle.blob_statuses.specs.Statuses.{refused_status}

-- A laboratory with its settings, the last reply and the registry.

-- a call was made, and its reply is kept
pub record Makes (k : Kept) (act : Act) (reply : Reply) (k' : Kept) : Type 0 where
  pub performs : Performs k.lab act reply k'.lab
  pub last : k'.last ≡ Some reply
  -- the registry isn't asked
  pub debts : k'.debts ≡ k.debts

-- the settings so far
abbrev pub settings_of : Kept → Config
settings_of k = config_of k.reader

-- the call of a line was made, with a reply of which this holds
abbrev pub Calls : Kept → List ℕ → Kept → (Reply → Type 0) → Type 0
Calls k line k' P = (act : Act) × (reply : Reply) × SaysCall (settings_of k) (line_of line) act (settings_of k') × Makes k act reply k' × FollowsCall k act reply k' × P reply

-- the call of a line was not made, since the power is off
abbrev pub IsPowerLoss : Kept → List ℕ → Kept → Type 0
IsPowerLoss k line k' = (act : Act) × SaysCall (settings_of k) (line_of line) act (settings_of k') × IsOffFor k act k'

-- the call of a line was made and its reply is printed; or the line says nothing, and nothing was done
abbrev pub PrintsReply : Kept → List ℕ → Kept → List ℕ → Type 0
PrintsReply k line k' printed = Calls k line k' (λ reply. printed ≡ reply_line reply) ⊎ ((line_of line ≡ Some Blank) × (k' ≡ k) × (printed ≡ []))

-- the length of this reply's line doesn't fit in 64 bits
abbrev pub IsTooLong : Reply → Type 0
IsTooLong reply = 2 ^ 64 ≤ length (reply_line reply)

-- no script that has calls can continue with this line
abbrev pub IsNoCall : List ℕ → Type 0
IsNoCall line = (s : Script) → s.calls ≢ [] → with_line s line ≡ None

-- Each call, by the status that it returns. If no call was made, nothing has changed.

-- a line
pub record RunsLine (k k' : Kept) (line : List ℕ) (ran : Ran) (old new : List ℕ) : Type 0 where
  pub done : ran.status ≡ DONE → PrintsReply k line k' (take ran.len new)
  pub no_room : ran.status ≡ NO_ROOM → Calls k line k' (λ reply. (ran.len ≡ length (reply_line reply)) × (length old < ran.len))
  pub unprinted : ran.status ≡ UNPRINTED → Calls k line k' IsTooLong
  pub bad_line : ran.status ≡ BAD_LINE → IsNoCall line × (k' ≡ k)
  pub no_memory : ran.status ≡ NO_MEMORY → k' ≡ k
  pub off : ran.status ≡ POWER_LOSS → IsPowerLoss k line k'
  pub status : (ran.status ≡ DONE) ⊎ (ran.status ≡ NO_ROOM) ⊎ (ran.status ≡ UNPRINTED) ⊎ (ran.status ≡ BAD_LINE) ⊎ (ran.status ≡ NO_MEMORY) ⊎ (ran.status ≡ POWER_LOSS)
  pub no_reply : (ran.status ≡ DONE) ⊎ (ran.status ≡ NO_ROOM) ⊎ (ran.len ≡ 0)
  -- `len` is larger than the buffer only with `NO_ROOM`
  pub within : (ran.status ≡ NO_ROOM) ⊎ (ran.len ≤ length old)
  pub unwritten : (ran.status ≡ DONE) ⊎ (new ≡ old)
  -- the bytes of the buffer after the reply don't change
  pub behind : drop ran.len new ≡ drop ran.len old

-- the last reply once more; of no call yet it has no bytes
pub record TellsAgain (k k' : Kept) (ran : Ran) (old new : List ℕ) : Type 0 where
  pub done : ran.status ≡ DONE → MatchOption k.last (ran.len ≡ 0) (λ reply. take ran.len new ≡ reply_line reply)
  pub no_room : ran.status ≡ NO_ROOM → IfSome k.last (λ reply. (ran.len ≡ length (reply_line reply)) × (length old < ran.len))
  pub unprinted : ran.status ≡ UNPRINTED → IfSome k.last IsTooLong
  pub status : (ran.status ≡ DONE) ⊎ (ran.status ≡ NO_ROOM) ⊎ (ran.status ≡ UNPRINTED)
  pub no_reply : (ran.status ≡ DONE) ⊎ (ran.status ≡ NO_ROOM) ⊎ (ran.len ≡ 0)
  -- `len` is larger than the buffer only with `NO_ROOM`
  pub within : (ran.status ≡ NO_ROOM) ⊎ (ran.len ≤ length old)
  pub unwritten : (ran.status ≡ DONE) ⊎ (new ≡ old)
  -- the bytes of the buffer after the reply don't change
  pub behind : drop ran.len new ≡ drop ran.len old
  pub same : k' ≡ k

-- a call was made, the power has followed it, and its reply is printed
pub record CallsAndTells (k : Kept) (act : Act) (k' : Kept) (ran : Ran) (old new : List ℕ) : Type 0 where
  pub made : Kept
  pub followed : Kept
  pub reply : Reply
  pub makes : Makes k act reply made
  pub reader : made.reader ≡ k.reader
  pub power : made.power ≡ k.power
  pub follows : followed ≡ record made { power = after_last made (effect_of act) }
  pub tells : TellsAgain followed k' ran old new

-- a call under the supply of power
abbrev pub RunsCall : Kept → Act → Kept → Ran → List ℕ → List ℕ → Type 0
RunsCall k act k' ran old new =
    MatchBool (permits k.power (effect_of act)) (CallsAndTells k act k' ran old new)
    ((ran ≡ record { status = POWER_LOSS; len = 0 }) × (k' ≡ k) × (new ≡ old))

-- a write, which asks to be done
pub record AnswersWrite (k k' : Kept) (handle offset : ℕ) (bytes : List ℕ) (sync : Bool) (status : ℕ) : Type 0 where
  pub done : status ≡ DONE → Makes k (Through handle (Write offset bytes sync)) replies.Done k'
  pub refused : status ≢ DONE
      → (reply : Reply) × Makes k (Through handle (Write offset bytes sync)) reply k' × (reply ≢ replies.Done) × (status ≡ refused_status reply)
  pub settings : settings_of k' ≡ settings_of k

-- a reply with these bytes, or with this number of bytes
abbrev pub RepliesBytes : Reply → List ℕ → Type 0
RepliesBytes (replies.Bytes found) bytes = found.items ≡ bytes
RepliesBytes reply bytes = ⊥

abbrev pub HasLength : Reply → ℕ → Type 0
HasLength (replies.Bytes found) len = length found.items ≡ len
HasLength reply len = ⊥

-- a read of as many bytes as the buffer has
pub record AnswersRead (k k' : Kept) (handle offset : ℕ) (status : ℕ) (old new : List ℕ) : Type 0 where
  pub done : status ≡ DONE → (reply : Reply) × Makes k (Through handle (Read offset (length old))) reply k' × RepliesBytes reply new
  pub refused : status ≢ DONE → (reply : Reply) × Makes k (Through handle (Read offset (length old))) reply k'
      × (HasLength reply (length old) → ⊥) × (status ≡ refused_status reply)
  pub unwritten : status ≢ DONE → new ≡ old
  pub settings : settings_of k' ≡ settings_of k

-- a write and a read under the supply of power
abbrev pub WritesSupplied : Kept → Kept → ℕ → ℕ → List ℕ → Bool → ℕ → Type 0
WritesSupplied k k' handle offset bytes sync status =
    Supplied (effect_of (Through handle (Write offset bytes sync))) (status == DONE) (λ made. AnswersWrite k made handle offset bytes sync status)
    (status ≡ POWER_LOSS) k k'

abbrev pub ReadsSupplied : Kept → Kept → ℕ → ℕ → ℕ → List ℕ → List ℕ → Type 0
ReadsSupplied k k' handle offset status old new =
    Supplied (effect_of (Through handle (Read offset (length old)))) (status == DONE) (λ made. AnswersRead k made handle offset status old new)
    ((status ≡ POWER_LOSS) × (new ≡ old)) k k'

-- without a reply
abbrev pub stopped : ℕ → Ran
stopped status = record { status = status; len = 0 }

-- a session that isn't open was asked
pub record IsClosed (ran : Ran) (old new : List ℕ) : Type 0 where
  pub status : ran.status ≡ CLOSED
  pub len : ran.len ≡ 0
  pub unwritten : new ≡ old

-- A session.

abbrev pub kept_of : Session → Option Kept
kept_of session = session.loose.value

-- what was held and is: an open session stays open, and a closed one closed
abbrev pub OnHeld : Option Kept → Option Kept → (Kept → Kept → Type 0) → Type 0 → Type 0
OnHeld None None Open Closed = Closed
OnHeld (Some k) (Some k') Open Closed = Open k k'
OnHeld old new Open Closed = ⊥

-- a read through a session; if the session is closed, the status says so and the buffer doesn't change
abbrev pub ReadsInto : Session → Session → ℕ → ℕ → ℕ → List ℕ → List ℕ → Type 0
ReadsInto before after handle offset status old new =
    OnHeld (kept_of before) (kept_of after) (λ k k'. ReadsSupplied k k' handle offset status old new) ((status ≡ CLOSED) × (new ≡ old))

-- the call of a line
abbrev pub RunsLineIn : Session → Session → List ℕ → Ran → List ℕ → List ℕ → Type 0
RunsLineIn before after line ran old new = OnHeld (kept_of before) (kept_of after) (λ k k'. RunsLine k k' line ran old new) (IsClosed ran old new)

-- the last reply once more
abbrev pub RepeatsReply : Session → Session → Ran → List ℕ → List ℕ → Type 0
RepeatsReply before after ran old new = OnHeld (kept_of before) (kept_of after) (λ k k'. TellsAgain k k' ran old new) (IsClosed ran old new)

-- a write
abbrev pub WritesBytes : Session → Session → ℕ → ℕ → List ℕ → Bool → ℕ → Type 0
WritesBytes before after handle offset bytes sync status =
    OnHeld (kept_of before) (kept_of after) (λ k k'. WritesSupplied k k' handle offset bytes sync status) (status ≡ CLOSED)

-- a call of the registry of durability debt, which changes no other part of the session
abbrev pub MakesDebt : Session → Session → DebtCall → List ℕ → List ℕ → DebtReply → Type 0
MakesDebt before after asked partition name reply =
    OnHeld (kept_of before) (kept_of after)
    (λ k k'. MakesDebtCall k.debts k'.debts asked partition name reply × (k' ≡ record k { debts = k'.debts }))
    (reply ≡ no_debt CLOSED)

-- a session that is only read: what holds of what it holds, and of a closed one
abbrev pub Inspects : Session → Session → (Kept → Type 0) → Type 0 → Type 0
Inspects before after Open Closed = OnHeld (kept_of before) (kept_of after) (λ k k'. (k' ≡ k) × Open k) Closed
