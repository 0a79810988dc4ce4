-- The entries of a registry of durability debt, and the histories that it represents.
use Rattle.std.specs.Prelude.{◌≡◌, ℕ, List, [], ◌∷◌, Bool, false, if◌then◌else◌, is_some, ◌||◌, Option, Some, None, Result, Ok, Err, option_map, true, ◌⊎◌}
use Rattle.std.specs.Prelude.{Vec, String}
use Rattle.std.specs.Global.{Global}
use Rattle.std.specs.String.{string_bytes}
use Rattle.std.specs.BTreeSet.{contains}
use Rattle.std.specs.Ordering.{nat_cmp}
use Rattle.blob_header.specs.declared.error.Error.{Error}
use Rattle.hex.specs.Hex.{encode_lower}
use Rattle.blob_header.specs.Refusals.{Refusal, refusal_of, error_of, BlobAlreadyOpen, Memory}
use Rattle.blob_names.specs.declared.names.Names.{Names}
use Rattle.blob_debt.specs.declared.pending.Pending.{Pending}
use Rattle.blob_debt.specs.declared.pending.entry.Entry.{Entry}
use Rattle.blob_debt.specs.declared.pending.entry.Change.{Change}
use Rattle.blob_debt.specs.declared.pending.entry.Change.TheVariants as change
use Rattle.blob_names.specs.Names.{at}
use Rattle.blob_debt.specs.History.{Operation, Call, History, Event, To, Admit, Release, Settle, Clear, Close, Admitted, AdmittedOpen, with_operation, settling, debt, failure, is_live, needs_no_entry, latest, events, generations, tokens_given, is_outstanding, found_by, admission}

-- all that is known of a name
pub record Standing : Type 0 where
  pub latest : Option ℕ
  pub live : Bool
  pub settling : Option ℕ
  pub debt : Bool
  pub failure : Option Refusal

-- what a name's events say
abbrev pub standing : List Event → Standing
standing es = record { latest = latest es; live = is_live es; settling = settling es; debt = debt es; failure = failure es }

-- what the registry keeps of a name
abbrev pub standing_of : Option Entry → Standing
standing_of None = record { latest = None; live = false; settling = None; debt = false; failure = None }
standing_of (Some e) = record { latest = Some e.generation; live = e.is_live; settling = e.settling; debt = e.is_dirty; failure = option_map refusal_of e.failure }

abbrev pub is_standing_over : Standing → Bool
is_standing_over s = needs_no_entry s.live s.settling s.debt s.failure

-- what a change of an entry does
abbrev pub operation_of : Change → Operation
operation_of (change.Release g token) = Release g token
operation_of (change.Settle token dirty failed) = Settle token dirty (option_map refusal_of failed)
operation_of (change.Clear g outcome) = Clear g (error_of outcome)
operation_of (change.Close g) = Close g

-- an entry after a change, by the name's events: none if nothing is left to report
abbrev pub FollowsChange : Entry → Change → Option Entry → Type 0
FollowsChange before change after = (es : List Event) → standing_of (Some before) ≡ standing es
    → standing_of after ≡ standing (with_operation (operation_of change) es)

-- an operation on the name of a key
abbrev pub to_key : String Global × Vec ℕ Global → Operation → Call
to_key key operation = To (string_bytes key.0) key.1.items operation

-- the events of the name of a key
abbrev pub key_events : History → String Global × Vec ℕ Global → List Event
key_events h key = events h (string_bytes key.0) key.1.items

-- an operation on the name of an open
abbrev pub by_open : AdmittedOpen → Operation → Call
by_open o operation = To o.partition o.name operation

-- the kept names are those of the history
pub record HoldsNames (names : Names Entry) (h : History) : Type 0 where
  pub standing : (p n : List ℕ) → standing_of (at names p n) ≡ standing (events h p n)

-- each number in the history is the next one
abbrev pub IsNumbered : History → Type 0
IsNumbered [] = Unit {0}
IsNumbered (To p n (Admit existing g) ∷ h) = (g ≡ generations h) × IsNumbered h
IsNumbered (To p n (Release g token) ∷ h) = (token ≡ tokens_given h) × IsNumbered h
IsNumbered (c ∷ h) = IsNumbered h

pub record Represents (r : Pending) (h : History) : Type 0 where
  pub names : HoldsNames r.names h
  pub outstanding : (t : ℕ) → contains nat_cmp r.outstanding t ≡ is_outstanding h t
  pub generations : r.next_generation ≡ generations h
  pub tokens : r.next_token ≡ tokens_given h
  pub numbered : IsNumbered h

-- the registry now represents each history that it represented before, with this call added
abbrev pub RecordsCall : Pending → Pending → Call → Type 0
RecordsCall old new call = (h : History) → Represents old h → Represents new (call ∷ h)

pub record IsUnchanged (r s : Pending) : Type 0 where
  pub names : at s.names ≡ at r.names
  pub outstanding : s.outstanding.keys ≡ r.outstanding.keys
  pub generations : s.next_generation ≡ r.next_generation
  pub tokens : s.next_token ≡ r.next_token

-- a result is this one, or Memory
abbrev pub AnswersOrMemory : {T : Type 0} → Result T Error → Result T Refusal → Type 0
AnswersOrMemory (Ok x) answer = Ok x ≡ answer
AnswersOrMemory (Err e) answer = (refusal_of e ≡ Memory) ⊎ (Err (refusal_of e) ≡ answer)

-- the entry of an open that has just been accepted, without debt
abbrev pub new_entry : ℕ → Entry
new_entry generation = record { generation = generation; is_live = true; settling = None; is_dirty = false; failure = None }

-- what an entry reports to its open
abbrev pub entry_report : List ℕ → List ℕ → Result Entry Error → Result (AdmittedOpen × Option ℕ × Bool) Error
entry_report p n (Ok e) = Ok (record { partition = p; name = n; number = e.generation }, e.settling, is_some e.settling || e.is_dirty)
entry_report p n (Err e) = Err e

-- an open returns what follows from any history that the registry represents, or Memory
abbrev pub AnswersOpen : Pending → List ℕ → List ℕ → Bool → Result (AdmittedOpen × Option ℕ × Bool) Error → Type 0
AnswersOpen r p n existing result = (h : History) → Represents r h → AnswersOrMemory result (admission h p n (found_by h p n existing))

-- an entry is what such a history says of the name once it is opened
abbrev pub IsOpenedEntry : Pending → List ℕ → List ℕ → Bool → Entry → Type 0
IsOpenedEntry r p n existing entry = (h : History) → Represents r h
    → standing_of (Some entry) ≡ standing (Admitted entry.generation ∷ found_by h p n existing)

-- why an entry bars an open of its name: an open that isn't closed, or a failure
abbrev pub entry_denial : Entry → List ℕ → List ℕ → Option Refusal
entry_denial entry p n = if entry.is_live then Some (BlobAlreadyOpen p (encode_lower n)) else option_map refusal_of entry.failure

-- the history after an open
abbrev pub after_admit : History → Bool → Result (AdmittedOpen × Option ℕ × Bool) Error → History
after_admit h existing (Ok r) = To r.0.partition r.0.name (Admit existing r.0.number) ∷ h
after_admit h existing (Err e) = h

-- the history after a release
abbrev pub after_release : History → AdmittedOpen → Result (Option ℕ) Error → History
after_release h o (Ok (Some token)) = To o.partition o.name (Release o.number token) ∷ h
after_release h o (Ok None) = h
after_release h o (Err e) = h
