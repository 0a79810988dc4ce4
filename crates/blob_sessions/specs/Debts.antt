-- The registry of durability debt of a session.
use Rattle.std.specs.Prelude.{◌≡◌, ◌==◌, ◌∷◌, ◌++◌, ◌⊎◌, [], ℕ, List, Bool, true, false, if◌then◌else◌, slice_get, slice_set, length, is_some, not, option_map, option_and_then, option_to_list, IsErr, IsUtf8, MatchOption, Option, Some, None, Result, Ok, Err, IfNone, IfSome, OnErr}
use Rattle.blob_debt.specs.Debts.{AnswersOpen, AnswersOrMemory, IsUnchanged, Represents, after_admit, after_release, by_open}
use Rattle.blob_debt.specs.History as history
use Rattle.blob_debt.specs.History.{AdmittedOpen, Call, History, Operation, To, debt_for, events, is_outstanding, latest, release_result}
use Rattle.blob_header.specs.Refusals as refusals
use Rattle.blob_header.specs.Refusals.{IsMemory, Refusal, refusal_of}
use Rattle.blob_header.specs.declared.error.Error.{Error}
use Rattle.blob_statuses.specs.Statuses.{refusal_status}
use Rattle.blob_sessions.specs.Typed.{by_kind}
use Rattle.blob_sessions.specs.declared.debts.Debts.{Debts}
use Rattle.blob_sessions.specs.declared.debts.DebtCall.{DebtCall}
use Rattle.blob_sessions.specs.declared.debts.DebtReply.{DebtReply}
use Rattle.blob_sessions.specs.declared.debts.TheConstants.{ADMIT, RELEASE, SETTLE, DEBT, CLEAR, FAIL, CLOSE_OPEN, FORGET, FORGET_PARTITION, IS_SETTLED, KEEPS}
use Rattle.blob_statuses.specs.declared.ran.TheConstants.{BAD_CALL, DONE}
use Rattle.blob_statuses.specs.declared.refusals.TheConstants.{OFFSET_OVERFLOW, BLOB_INSUFFICIENT_LENGTH, BLOB_CLOSED, READ_FAILED, WRITE_FAILED, INJECTED, MEMORY, GENERATIONS_EXHAUSTED, NO_HANDLE}

-- what a slot of a table has
abbrev pub kept_at : {T : Type 0} → List (Option T) → ℕ → Option T
kept_at slots number = elim (slice_get slots number) [ None ↦ None | Some slot ↦ slot ]

-- a reply that has nothing but a status
abbrev pub no_debt : ℕ → DebtReply
no_debt status = record { status = status; flag = false; has_predecessor = false; number = 0; predecessor = 0 }

-- a call was added to any history that the registry had
abbrev pub RecordsCall : Debts → Debts → Call → Type 0
RecordsCall d d' call = (h : History) → Represents d.pending h → Represents d'.pending (call ∷ h)

-- an operation of an open was added to any history that the registry had
abbrev pub Steps : Debts → Debts → AdmittedOpen → Operation → Type 0
Steps d d' o operation = RecordsCall d d' (by_open o operation)

-- the same of the open in a slot, if there is one; an operation takes the number of its open
abbrev pub OpenSteps : Debts → Debts → ℕ → (ℕ → Operation) → Type 0
OpenSteps d d' slot operation = IfSome (kept_at d.opens.items slot) (λ o. Steps d d' o (operation o.number))

-- the statuses that a call may pass on, with the outcome of each
abbrev pub outcomes : List (ℕ × Option Refusal)
outcomes =
    (DONE, None)
    ∷ (OFFSET_OVERFLOW, Some refusals.OffsetOverflow)
    ∷ (BLOB_INSUFFICIENT_LENGTH, Some refusals.BlobInsufficientLength)
    ∷ (BLOB_CLOSED, Some refusals.Closed)
    ∷ (READ_FAILED, Some refusals.ReadFailed)
    ∷ (WRITE_FAILED, Some refusals.WriteFailed)
    ∷ (INJECTED, Some refusals.Injected)
    ∷ (MEMORY, Some refusals.Memory)
    ∷ (GENERATIONS_EXHAUSTED, Some refusals.GenerationsExhausted)
    ∷ []

-- the outcome in the row of this status
abbrev pub with_status : List (ℕ × Option Refusal) → ℕ → Option (Option Refusal)
with_status [] status = None
with_status (row ∷ rows) status = if status == row.0 then Some row.1 else with_status rows status

-- the outcome with this status, if it has no texts
abbrev pub plain_refusal : ℕ → Option (Option Refusal)
plain_refusal status = with_status outcomes status

-- Which call of the registry is asked for.

-- a call of the registry, with the numbers under which a session keeps opens, tokens and predecessors
pub data DebtAct : Type 0 where
  -- partition, name, and whether the blob existed
  Admit : List ℕ → List ℕ → Bool → DebtAct
  Release : ℕ → DebtAct
  -- partition, name, token, whether it leaves debt, and the failure that it leaves
  Settle : List ℕ → List ℕ → ℕ → Bool → Option Refusal → DebtAct
  Debt : ℕ → DebtAct
  Clear : ℕ → Option Refusal → DebtAct
  Fail : ℕ → Refusal → DebtAct
  Close : ℕ → DebtAct
  -- partition, and a name or every name
  Forget : List ℕ → Option (List ℕ) → DebtAct
  IsSettled : ℕ → DebtAct
  Keeps : List ℕ → List ℕ → DebtAct

-- a settlement that leaves this error
abbrev pub settle_act : List ℕ → List ℕ → ℕ → Bool → Option Error → DebtAct
settle_act partition name number dirty failure = Settle partition name number dirty (option_map refusal_of failure)

-- the kinds, with the call of each. `FAIL` needs a failure
abbrev pub debt_acts : DebtCall → Option Refusal → List ℕ → List ℕ → List (ℕ × Option DebtAct)
debt_acts asked outcome partition name =
    (ADMIT, Some (Admit partition name asked.flag))
    ∷ (RELEASE, Some (Release asked.number))
    ∷ (SETTLE, Some (Settle partition name asked.number asked.flag outcome))
    ∷ (DEBT, Some (Debt asked.number))
    ∷ (CLEAR, Some (Clear asked.number outcome))
    ∷ (FAIL, option_map (Fail asked.number) outcome)
    ∷ (CLOSE_OPEN, Some (Close asked.number))
    ∷ (FORGET, Some (Forget partition (Some name)))
    ∷ (FORGET_PARTITION, Some (Forget partition None))
    ∷ (IS_SETTLED, Some (IsSettled asked.number))
    ∷ (KEEPS, Some (Keeps partition name))
    ∷ []

-- the call of this kind, with the outcome that it passes on
abbrev pub act_with : DebtCall → Option Refusal → List ℕ → List ℕ → Option DebtAct
act_with asked outcome partition name = by_kind asked.kind (debt_acts asked outcome partition name)

-- the call that is asked for. None if the kind or the failure is unknown
abbrev pub debt_act : DebtCall → List ℕ → List ℕ → Option DebtAct
debt_act asked partition name = option_and_then (λ outcome. act_with asked outcome partition name) (plain_refusal asked.failure)

-- Replies.

-- a reply that has nothing but a flag
abbrev pub flag_reply : Bool → DebtReply
flag_reply flag = record (no_debt DONE) { flag = flag }

-- the reply to what the registry returned: that of the value, or the status of the error
abbrev pub reply_with : {T : Type 0} → (T → DebtReply) → Result T Error → DebtReply
reply_with of_value (Ok value) = of_value value
reply_with of_value (Err e) = no_debt (refusal_status (refusal_of e))

-- a reply, or the status of an error
abbrev pub reply_of : Result DebtReply Error → DebtReply
reply_of result = reply_with (λ reply. reply) result

-- `NO_HANDLE` if nothing is kept under the number
abbrev pub found_reply : Bool → DebtReply
found_reply is_there = no_debt (if is_there then DONE else NO_HANDLE)

-- nothing is kept under the number
abbrev pub no_handle : DebtReply
no_handle = no_debt NO_HANDLE

-- what the registry returns for an accepted open: the open, the token of its predecessor, and whether it owes
abbrev pub Admission : Type 0
Admission = AdmittedOpen × Option ℕ × Bool

-- an open gets the next number, and its predecessor the next one of the predecessors
abbrev pub admitted_reply : Debts → Admission → DebtReply
admitted_reply d (o, None, owes) = record (flag_reply owes) { number = length d.opens.items }
admitted_reply d (o, Some token, owes) =
    record (flag_reply owes) { number = length d.opens.items; has_predecessor = true; predecessor = length d.predecessors.items }

-- a token gets the next number
abbrev pub released_reply : Debts → Option ℕ → DebtReply
released_reply d None = flag_reply false
released_reply d (Some token) = record (flag_reply true) { number = length d.tokens.items }

-- What each call does, and its reply.

-- a registry of which no call was made yet
pub record IsNew (d : Debts) : Type 0 where
  pub registry : Represents d.pending []
  pub opens : d.opens.items ≡ []
  pub tokens : d.tokens.items ≡ []
  pub predecessors : d.predecessors.items ≡ []

-- the registry and what is kept by number are unchanged
pub record IsSame (d d' : Debts) : Type 0 where
  pub registry : IsUnchanged d.pending d'.pending
  pub opens : d'.opens.items ≡ d.opens.items
  pub tokens : d'.tokens.items ≡ d.tokens.items
  pub predecessors : d'.predecessors.items ≡ d.predecessors.items

-- the flag is the answer by any history that the registry represents
pub record ReturnsFlag (d : Debts) (answer : History → Bool) (reply : DebtReply) : Type 0 where
  pub done : reply ≡ flag_reply reply.flag
  pub flag : (h : History) → Represents d.pending h → reply.flag ≡ answer h

-- the debt of an open, for which the registry returned `found`
pub record ReturnsDebt (d : Debts) (o : AdmittedOpen) (found : Result Bool Error) (reply : DebtReply) : Type 0 where
  pub answer : (h : History) → Represents d.pending h → AnswersOrMemory found (debt_for (events h o.partition o.name) o.number)
  pub memory : (h : History) → Represents d.pending h → IsMemory found → IsErr (debt_for (events h o.partition o.name) o.number)
  pub replies : reply ≡ reply_with flag_reply found

-- the debt of the open under the number, if there is one
abbrev pub ReturnsDebtAt : Debts → ℕ → DebtReply → Type 0
ReturnsDebtAt d number reply =
    MatchOption (kept_at d.opens.items number) (reply ≡ no_handle) (λ o. (found : Result Bool Error) × ReturnsDebt d o found reply)

-- whether the predecessor under the number has settled, if there is one
abbrev pub ReturnsIsSettled : Debts → ℕ → DebtReply → Type 0
ReturnsIsSettled d number reply =
    MatchOption (slice_get d.predecessors.items number) (reply ≡ no_handle)
    (λ token. ReturnsFlag d (λ h. not (is_outstanding h token)) reply)

-- whether anything is kept of a name
abbrev pub ReturnsKeeps : Debts → List ℕ → List ℕ → DebtReply → Type 0
ReturnsKeeps d partition name reply = ReturnsFlag d (λ h. is_some (latest (events h partition name))) reply

-- an operation was added for the open under the number, if there is one. Otherwise nothing changed
pub record ChangesOpen (d d' : Debts) (number : ℕ) (operation : ℕ → Operation) (reply : DebtReply) : Type 0 where
  pub steps : OpenSteps d d' number operation
  pub none : IfNone (kept_at d.opens.items number) (d'.pending ≡ d.pending)
  pub kept : d' ≡ record d { pending = d'.pending }
  pub replies : reply ≡ found_reply (is_some (kept_at d.opens.items number))

-- the open under the number was closed, if there is one, and is no longer kept. Otherwise nothing changed
pub record ClosesOpen (d d' : Debts) (number : ℕ) (reply : DebtReply) : Type 0 where
  pub steps : OpenSteps d d' number history.Close
  pub none : IfNone (kept_at d.opens.items number) (d'.pending ≡ d.pending)
  pub opens : d'.opens.items ≡ slice_set d.opens.items number None
  pub kept : d' ≡ record d { pending = d'.pending; opens = d'.opens }
  pub replies : reply ≡ found_reply (is_some (kept_at d.opens.items number))

-- a name or a partition was forgotten
pub record Forgets (d d' : Debts) (partition : List ℕ) (name : Option (List ℕ)) (reply : DebtReply) : Type 0 where
  pub recorded : RecordsCall d d' (history.Forget partition name)
  pub kept : d' ≡ record d { pending = d'.pending }
  pub replies : reply ≡ no_debt DONE

-- the opens that an accepted open adds
abbrev pub opens_of : Result Admission Error → List (Option AdmittedOpen)
opens_of (Ok answer) = Some answer.0 ∷ []
opens_of (Err e) = []

-- the predecessors that it adds
abbrev pub predecessors_of : Result Admission Error → List ℕ
predecessors_of (Ok answer) = option_to_list answer.1
predecessors_of (Err e) = []

-- an open, for which the registry returned `found`
pub record AdmitsOpen (d d' : Debts) (p n : List ℕ) (existing : Bool) (found : Result Admission Error) (reply : DebtReply) : Type 0 where
  pub answer : AnswersOpen d.pending p n existing found
  pub stands : (h : History) → Represents d.pending h → Represents d'.pending (after_admit h existing found)
  pub refused : OnErr found (IsUnchanged d.pending d'.pending)
  pub opens : d'.opens.items ≡ d.opens.items ++ opens_of found
  pub predecessors : d'.predecessors.items ≡ d.predecessors.items ++ predecessors_of found
  pub tokens : d'.tokens ≡ d.tokens
  pub replies : reply ≡ reply_with (admitted_reply d) found

-- the tokens that a release adds
abbrev pub tokens_of : Result (Option ℕ) Error → List (Option ℕ)
tokens_of (Ok (Some token)) = Some token ∷ []
tokens_of (Ok None) = []
tokens_of (Err e) = []

-- a release of an open's name, for which the registry returned `found`
pub record ReleasesName (d d' : Debts) (o : AdmittedOpen) (found : Result (Option ℕ) Error) (reply : DebtReply) : Type 0 where
  pub answer : (h : History) → Represents d.pending h → AnswersOrMemory found (release_result h o)
  pub stands : (h : History) → Represents d.pending h → Represents d'.pending (after_release h o found)
  pub refused : OnErr found (IsUnchanged d.pending d'.pending)
  pub nothing : found ≡ Ok None → IsUnchanged d.pending d'.pending
  pub tokens : d'.tokens.items ≡ d.tokens.items ++ tokens_of found
  pub kept : d' ≡ record d { pending = d'.pending; tokens = d'.tokens }
  pub replies : reply ≡ reply_with (released_reply d) found

-- the token under the number was settled, if there is one, and is no longer kept. Otherwise nothing changed
pub record SettlesToken (d d' : Debts) (partition name : List ℕ) (number : ℕ) (operation : ℕ → Operation) (reply : DebtReply) : Type 0 where
  pub steps : IfSome (kept_at d.tokens.items number) (λ token. RecordsCall d d' (To partition name (operation token)))
  pub none : IfNone (kept_at d.tokens.items number) (d'.pending ≡ d.pending)
  pub tokens : d'.tokens.items ≡ slice_set d.tokens.items number None
  pub kept : d' ≡ record d { pending = d'.pending; tokens = d'.tokens }
  pub replies : reply ≡ found_reply (is_some (kept_at d.tokens.items number))

-- `MEMORY`, and nothing changed
abbrev pub HasNoMemory : Debts → Debts → DebtReply → Type 0
HasNoMemory d d' reply = IsSame d d' × (reply ≡ no_debt MEMORY)

-- an open of a name
abbrev pub AdmitsName : Debts → Debts → List ℕ → List ℕ → Bool → DebtReply → Type 0
AdmitsName d d' partition name existing reply =
    (found : Result Admission Error) × AdmitsOpen d d' partition name existing found reply

-- the name of the open under the number was released, if there is one
abbrev pub ReleasesAt : Debts → Debts → ℕ → DebtReply → Type 0
ReleasesAt d d' number reply =
    MatchOption (kept_at d.opens.items number) (IsSame d d' × (reply ≡ no_handle))
    (λ o. (found : Result (Option ℕ) Error) × ReleasesName d d' o found reply)

-- the call was made of the registry, and the reply is what the registry returned
abbrev pub Performs : Debts → Debts → DebtAct → DebtReply → Type 0
Performs d d' (Admit partition name existing) reply = AdmitsName d d' partition name existing reply
Performs d d' (Release number) reply = HasNoMemory d d' reply ⊎ ReleasesAt d d' number reply
Performs d d' (Settle partition name number dirty failed) reply =
    HasNoMemory d d' reply ⊎ SettlesToken d d' partition name number (λ token. history.Settle token dirty failed) reply
Performs d d' (Debt number) reply = (d' ≡ d) × ReturnsDebtAt d number reply
Performs d d' (Clear number outcome) reply = ChangesOpen d d' number (λ generation. history.Clear generation outcome) reply
Performs d d' (Fail number failed) reply = ChangesOpen d d' number (λ generation. history.Fail generation failed) reply
Performs d d' (Close number) reply = ClosesOpen d d' number reply
Performs d d' (Forget partition name) reply = Forgets d d' partition name reply
Performs d d' (IsSettled number) reply = (d' ≡ d) × ReturnsIsSettled d number reply
Performs d d' (Keeps partition name) reply = (d' ≡ d) × ReturnsKeeps d partition name reply

-- `BAD_CALL`, and nothing changed
pub record MakesNoCall (d d' : Debts) (reply : DebtReply) : Type 0 where
  pub same : d' ≡ d
  pub replies : reply ≡ no_debt BAD_CALL

-- a call, by its kind, numbers and outcome
abbrev pub MakesCall : Debts → Debts → DebtCall → Option Refusal → List ℕ → List ℕ → DebtReply → Type 0
MakesCall d d' asked outcome partition name reply =
    MatchOption (act_with asked outcome partition name) (MakesNoCall d d' reply) (λ act. Performs d d' act reply)

-- a call, by its kind and numbers. It is made if there is such a call and the partition is UTF-8
pub record MakesDebtCall (d d' : Debts) (asked : DebtCall) (partition name : List ℕ) (reply : DebtReply) : Type 0 where
  pub made : IsUtf8 partition → IfSome (debt_act asked partition name) (λ act. Performs d d' act reply)
  pub unknown : IfNone (debt_act asked partition name) (MakesNoCall d d' reply)
  pub text : ¬ (IsUtf8 partition) → MakesNoCall d d' reply
