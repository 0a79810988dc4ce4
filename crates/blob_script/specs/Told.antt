-- Replies as data of the definitions.
use Rattle.std.specs.Prelude.{◌≡◌, ℕ, List, Bool, Option, Some, None, map}
use Rattle.blob_model.specs.Draws.{Row}
use Rattle.blob_base.specs.Names.{AreNames}
use Rattle.blob_header.specs.Refusals.{Refusal, refusal_of}
use Rattle.blob_draws.specs.Rows.{table_of}
use Rattle.blob_script.specs.declared.reply.Reply.{Reply}
use Rattle.blob_script.specs.declared.reply.Reply.TheVariants as reply

pub data Told : Type 0 where
  Done : Told
  Opened : ℕ → ℕ → ℕ → Told  -- a handle's number, its size and its version
  Bytes : List ℕ → Told
  Size : ℕ → Told
  Names : (List ℕ → Bool) → Told  -- the existing names
  Started : ℕ → Told
  Crashed : List Row → Told
  Failed : Refusal → Told
  NoHandle EmptyRange : Told

-- whether a reply has this meaning; names are listed once each, sorted by bytes
abbrev pub Tells : Reply → Told → Type 0
Tells reply.Done Done = Unit {0}
Tells (reply.Opened handle size version) (Opened number length v) = (handle ≡ number) × (size ≡ length) × (version.0 ≡ v)
Tells (reply.Bytes bytes) (Bytes read) = bytes.items ≡ read
Tells (reply.Size size) (Size tracked) = size ≡ tracked
Tells (reply.Names names) (Names is_there) = AreNames (map (λ name. name.items) names.items) is_there
Tells (reply.Started sync) (Started number) = sync ≡ number
Tells (reply.Crashed selections) (Crashed rows) = table_of selections ≡ rows
Tells (reply.Failed e) (Failed refusal) = refusal_of e ≡ refusal
Tells reply.NoHandle NoHandle = Unit {0}
Tells reply.EmptyRange EmptyRange = Unit {0}
Tells reply told = ⊥

-- the error of a reply, or None if the call succeeded
abbrev pub refused_by : Reply → Option Refusal
refused_by (reply.Failed e) = Some (refusal_of e)
refused_by reply = None
