-- A second session in the same state.
use Rattle.std.specs.Prelude.{◌≡◌, ℕ, List, Vec, map, Option, Some, None}
use Rattle.std.specs.Global.{Global}
use Rattle.blob_draws.specs.Rows.{table_of}
use Rattle.blob_header.specs.Refusals.{refusal_of}
use Rattle.blob_lab_store.specs.Generators.{generator_of}
use Rattle.blob_lab_store.specs.LabRuns.{IsFork}
use Rattle.blob_script.specs.declared.reply.Reply.{Reply}
use Rattle.blob_script.specs.declared.reply.Reply.TheVariants.{Bytes, Crashed, Failed, Names}
use Rattle.blob_sessions.specs.Debts.{IsNew}
use Rattle.blob_sessions.specs.Sessions.{OnHeld, kept_of, settings_of}
use Rattle.blob_sessions.specs.declared.kept.Kept.{Kept}
use Rattle.blob_sessions.specs.declared.session.Session.{Session}

-- the bytes of each name
abbrev pub bytes_of : Vec (Vec ℕ Global) Global → List (List ℕ)
bytes_of names = map (λ name. name.items) names.items

-- a reply with the same contents
abbrev pub IsCopy : Reply → Reply → Type 0
IsCopy (Bytes bytes) (Bytes copy) = copy.items ≡ bytes.items
IsCopy (Names names) (Names copy) = bytes_of copy ≡ bytes_of names
IsCopy (Crashed selections) (Crashed copy) = table_of copy ≡ table_of selections
IsCopy (Failed error) (Failed copy) = refusal_of copy ≡ refusal_of error
IsCopy reply copy = copy ≡ reply

-- a copy of the last reply, if there was a call
abbrev pub IsLastCopy : Option Reply → Option Reply → Type 0
IsLastCopy None None = Unit {0}
IsLastCopy (Some reply) (Some copy) = IsCopy reply copy
IsLastCopy last copy = ⊥

-- the same laboratory, generator, settings, last reply and supply of power, and a registry in which nothing happened
pub record IsKeptFork (k fork : Kept) : Type 0 where
  pub lab : IsFork k.lab fork.lab
  pub generator : generator_of fork.lab ≡ generator_of k.lab
  pub settings : settings_of fork ≡ settings_of k
  pub last : IsLastCopy k.last fork.last
  pub power : fork.power ≡ k.power
  pub debts : IsNew fork.debts

-- an open session has a fork in the other one, which is open then
abbrev pub HasForkIn : Session → Session → Type 0
HasForkIn session fork = OnHeld (kept_of session) (kept_of fork) IsKeptFork ⊥
