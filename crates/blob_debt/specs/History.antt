-- The calls that a registry of durability debt accepted, and what they say of each name. All lists have the newest first.
use Rattle.std.specs.Prelude.{ℕ, ◌+◌, ◌-◌, ◌^◌, List, [], ◌∷◌, Bool, true, false, not, ◌&&◌, ◌||◌, ◌==◌, if◌then◌else◌, Option, Some, None, is_some, is_none, Result, Ok, Err}
use Rattle.hex.specs.Hex.{encode_lower}
use Rattle.blob_header.specs.Refusals.{Refusal, BlobAlreadyOpen, GenerationsExhausted}
use Rattle.blob_names.specs.Names.{with_name, with_all_names}

-- what is done to a name. A generation or a token is a number
pub data Operation : Type 0 where
  -- an accepted open: whether the blob existed, and its generation
  Admit : Bool → ℕ → Operation
  -- a release by a generation that was given a token
  Release : ℕ → ℕ → Operation
  -- a settlement of a token: whether it leaves debt, and the failure that it leaves
  Settle : ℕ → Bool → Option Refusal → Operation
  -- the outcome of establishing debt, by a generation: nothing, or the failure
  Clear : ℕ → Option Refusal → Operation
  Fail : ℕ → Refusal → Operation
  Close : ℕ → Operation

pub data Call : Type 0 where
  -- partition and name
  To : List ℕ → List ℕ → Operation → Call
  -- a name, or a whole partition
  Forget : List ℕ → Option (List ℕ) → Call
  -- how many generations and how many tokens are never given
  Skip : ℕ → ℕ → Call

-- the accepted calls, without those that were refused, gave nothing or only asked
abbrev pub History : Type 0
History = List Call

-- an operation that counted, since the name was last forgotten
pub data Event : Type 0 where
  Admitted : ℕ → Event
  Released : ℕ → Event
  Settled : Bool → Option Refusal → Event
  Cleared : Event
  Failed : Refusal → Event
  Closed : Event

-- the token from a release until its settlement
abbrev pub settling : List Event → Option ℕ
settling [] = None
settling (Released token ∷ es) = Some token
settling (Settled dirty failed ∷ es) = None
settling (e ∷ es) = settling es

-- debt from a dirty settlement until it is clear_event
abbrev pub debt : List Event → Bool
debt [] = false
debt (Settled dirty failed ∷ es) = dirty || debt es
debt (Cleared ∷ es) = false
debt (e ∷ es) = debt es

-- the last failure, which is permanent
abbrev pub failure : List Event → Option Refusal
failure [] = None
failure (Settled dirty (Some e) ∷ es) = Some e
failure (Settled dirty None ∷ es) = failure es
failure (Failed e ∷ es) = Some e
failure (e ∷ es) = failure es

-- whether an open isn't closed yet
abbrev pub is_live : List Event → Bool
is_live [] = false
is_live (Admitted g ∷ es) = true
is_live (Closed ∷ es) = false
is_live (e ∷ es) = is_live es

-- a closed name about which later opens need not learn anything
abbrev pub needs_no_entry : Bool → Option ℕ → Bool → Option Refusal → Bool
needs_no_entry live settling debt failure = not live && is_none settling && not debt && is_none failure

abbrev pub is_over : List Event → Bool
is_over es = needs_no_entry (is_live es) (settling es) (debt es) (failure es)

-- the latest open. A close or a settlement that leaves nothing to tell ends it; a clear never does
abbrev pub latest : List Event → Option ℕ
latest [] = None
latest (Admitted g ∷ es) = Some g
latest (Closed ∷ es) = if is_over (Closed ∷ es) then None else latest es
latest (Settled dirty failed ∷ es) = if is_over (Settled dirty failed ∷ es) then None else latest es
latest (e ∷ es) = latest es

-- whether there is a number, and it is this one
abbrev pub is_this_number : Option ℕ → ℕ → Bool
is_this_number None n = false
is_this_number (Some m) n = m == n

abbrev pub clear_event : Option Refusal → Event
clear_event None = Cleared
clear_event (Some e) = Failed e

-- a name's events after an operation, which counts only by the latest generation or the settling token
abbrev pub with_operation : Operation → List Event → List Event
with_operation (Admit existing g) es = Admitted g ∷ (if existing then es else [])
with_operation (Release g token) es = if is_this_number (latest es) g && is_none (settling es) then Released token ∷ es else es
with_operation (Settle token dirty failed) es = if is_this_number (settling es) token then Settled dirty failed ∷ es else es
with_operation (Clear g outcome) es = if is_this_number (latest es) g then clear_event outcome ∷ es else es
with_operation (Fail g e) es = if is_this_number (latest es) g then Failed e ∷ es else es
with_operation (Close g) es = if is_this_number (latest es) g then Closed ∷ es else es

-- a name's events since it was last forgotten, by that call or by an open that creates the blob
abbrev pub events : History → List ℕ → List ℕ → List Event
events [] p n = []
events (To q m operation ∷ h) p n = with_name (events h) q m (with_operation operation (events h q m)) p n
events (Forget q (Some m) ∷ h) p n = with_name (events h) q m [] p n
events (Forget q None ∷ h) p n = with_all_names (events h) [] q p n
events (Skip gs ts ∷ h) p n = events h p n

-- the next generation: those that were given or skipped, from 0 on
abbrev pub generations : History → ℕ
generations [] = 0
generations (To p n (Admit existing g) ∷ h) = generations h + 1
generations (Skip gs ts ∷ h) = generations h + gs
generations (c ∷ h) = generations h

-- the next token: those that were given or skipped, from 0 on
abbrev pub tokens_given : History → ℕ
tokens_given [] = 0
tokens_given (To p n (Release g token) ∷ h) = tokens_given h + 1
tokens_given (Skip gs ts ∷ h) = tokens_given h + ts
tokens_given (c ∷ h) = tokens_given h

-- whether a token was given and not settled since, under whichever name
abbrev pub is_outstanding : History → ℕ → Bool
is_outstanding [] t = false
is_outstanding (To p n (Release g token) ∷ h) t = if token == t then true else is_outstanding h t
is_outstanding (To p n (Settle token dirty failed) ∷ h) t = if token == t then false else is_outstanding h t
is_outstanding (c ∷ h) t = is_outstanding h t

-- the greatest number is never given
abbrev pub is_last : ℕ → Bool
is_last n = n == 2 ^ 64 - 1

-- a failure stands before any answer
abbrev pub unless_failed : {T : Type 0} → Option Refusal → Result T Refusal → Result T Refusal
unless_failed (Some e) answer = Err e
unless_failed None answer = answer

pub record AdmittedOpen : Type 0 where
  pub partition : List ℕ
  pub name : List ℕ
  pub number : ℕ

-- what an open finds: the name's events, or none if it creates the blob
abbrev pub found_by : History → List ℕ → List ℕ → Bool → List Event
found_by h p n existing = if existing then events h p n else []

-- what an open returns: its generation, the token of a predecessor, and whether the name has debt
abbrev pub admission : History → List ℕ → List ℕ → List Event → Result (AdmittedOpen × Option ℕ × Bool) Refusal
admission h p n es =
    if is_live es then Err (BlobAlreadyOpen p (encode_lower n))
    else unless_failed (failure es)
    (if is_last (generations h) then Err GenerationsExhausted
    else Ok (record { partition = p; name = n; number = generations h }, settling es, is_some (settling es) || debt es))

-- what a generation that releases its name gets
abbrev pub release_result : History → AdmittedOpen → Result (Option ℕ) Refusal
release_result h o =
    let es = events h o.partition o.name in
    if is_this_number (latest es) o.number && is_none (settling es)
    then (if is_last (tokens_given h) then Err GenerationsExhausted else Ok (Some (tokens_given h)))
    else Ok None

-- what a generation that asks for the debt gets
abbrev pub debt_for : List Event → ℕ → Result Bool Refusal
debt_for es g = if is_this_number (latest es) g then unless_failed (failure es) (Ok (debt es)) else Ok false
