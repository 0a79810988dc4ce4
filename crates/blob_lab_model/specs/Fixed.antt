-- Fixed bytes: what fixes one, what touches it, and that it keeps its value until then.
use Rattle.std.specs.Prelude.{◌≡◌, ◌≤◌, ◌-◌, ℕ, List, [], ◌∷◌, ◌++◌, Bool, true, false, ◌&&◌, Option, Some, None, length, nat_le}
use Rattle.std.specs.Str.{bytes_eq}
use Rattle.rand_core.specs.Stream.{Stream}
use Rattle.blob_header.specs.declared.layout.Layout.{Layout}
use Rattle.blob_model.specs.Bytes.{lies}
use Rattle.blob_model.specs.Directory.{Directory, File, Raw, Incarnation, is_current}
use Rattle.blob_model.specs.Files.{Files, durable_at}
use Rattle.blob_header.specs.Header.{region}
use Rattle.blob_model.specs.Opening.{place_of}
use Rattle.blob_model.specs.Persistence.{HasByte}
use Rattle.blob_header.specs.Refusals.{Refusal}
use Rattle.blob_script.specs.declared.call.Call.{Call}
use Rattle.blob_script.specs.declared.reply.Reply.{Reply}
use Rattle.blob_script.specs.declared.reply.Reply.TheVariants.{Opened}
use Rattle.blob_script.specs.Acts.{Ask, Write, Resize, Sync, StartSync, Act, Open, Through, Remove, act_of}
use Rattle.blob_lab_model.specs.After.{after_act, exclusively_opened}
use Rattle.blob_lab_model.specs.Answers.{Answers, kept_at}
use Rattle.blob_lab_model.specs.Denials.{start_denial}
use Rattle.blob_lab_model.specs.States.{State, Held}
use Rattle.blob_script.specs.Told.{refused_by}

-- a byte of a blob: partition, name, logical position and value
pub record Byte : Type 0 where
  pub partition : List ℕ
  pub name : List ℕ
  pub position : ℕ
  pub value : ℕ

-- whether this name, or with None this whole partition, includes the byte's blob
abbrev pub is_of : List ℕ → Option (List ℕ) → Byte → Bool
is_of p None b = bytes_eq p b.partition
is_of p (Some n) b = bytes_eq p b.partition && bytes_eq n b.name

-- whether a handle is on the current incarnation of its blob
abbrev pub is_on : Directory → Held → Byte → Bool
is_on d h b = is_of h.place.partition (Some h.place.name) b && is_current d h.place

-- What touches a byte.

-- a write with a range that includes it, and a resize to its position or below
abbrev pub asks_for : Ask → Byte → Bool
asks_for (Write offset bytes sync) b = lies offset (length bytes) b.position
asks_for (Resize len) b = nat_le len b.position
asks_for ask b = false

-- such a call through a handle on its blob, with any result; or a removal that returns Ok
abbrev pub reaches : State → Act → Option Refusal → Byte → Bool
reaches v (Through number ask) refusal b = elim (kept_at v.handles number) [ None ↦ false | Some h ↦ is_on v.files.directory h b && asks_for ask b ]
reaches v (Remove p n) None b = is_of p n b
reaches v act refusal b = false

-- The copies of a byte.

-- a file has it durably: after the header of a raw file, or in an incarnation's durable bytes
abbrev pub HasIn : Files → Option File → Byte → Type 0
HasIn f None b = ⊥
HasIn f (Some (Raw raw)) b = (layout : Layout) × (version : ℕ) × (bytes : List ℕ) × (raw ≡ region layout version ++ bytes) × HasByte b.position b.value bytes
HasIn f (Some (Incarnation number layout version)) b = HasByte b.position b.value (durable_at f (place_of b.partition b.name number layout))

abbrev pub HasDurably : Files → Byte → Type 0
HasDurably f b = HasIn f (f.directory.file b.partition b.name) b

-- it is durable, and in the live bytes of each handle on its blob
pub record Has (v : State) (b : Byte) : Type 0 where
  pub durable : HasDurably v.files b
  pub live : (i : ℕ) (h : Held) → kept_at v.handles i ≡ Some h → is_on v.files.directory h b ≡ true → HasByte b.position b.value h.live

-- What fixes a byte.

-- a sync, and a started sync with outcome Ok, if the live bytes have it; a SYNC write if its bytes include it
abbrev pub FixesThrough : State → Option Held → Ask → Byte → Type 0
FixesThrough v (Some h) Sync b = (is_on v.files.directory h b ≡ true) × HasByte b.position b.value h.live
FixesThrough v (Some h) StartSync b = (is_on v.files.directory h b ≡ true) × (start_denial v h ≡ None) × HasByte b.position b.value h.live
FixesThrough v (Some h) (Write offset bytes true) b = (is_on v.files.directory h b ≡ true) × (offset ≤ b.position) × HasByte (b.position - offset) b.value bytes
FixesThrough v slot ask b = ⊥

-- such a call if it returns Ok; an open if it finds the byte durable
abbrev pub Fixes : State → Act → Option Refusal → Byte → Type 0
Fixes v (Through number ask) None b = FixesThrough v (kept_at v.handles number) ask b
Fixes v (Open p n (Some versions)) None b = (is_of p (Some n) b ≡ true) × HasDurably (exclusively_opened v p n versions None).files b
Fixes v act refusal b = ⊥

-- What a fixed byte guarantees.

-- if a call opened its blob, the new handle's live bytes have it
abbrev pub Opens : State → Act → Reply → Byte → Type 0
Opens v (Open p n versions) (Opened handle size version) b =
    is_of p (Some n) b ≡ true → (h : Held) × (kept_at v.handles handle ≡ Some h) × HasByte b.position b.value h.live
Opens v act reply b = Unit {0}

-- the byte has its value now, and after each call until one touches it
abbrev pub Lasts : State → Byte → List Call → List Reply → Type 0
Lasts v b [] [] = Has v b
Lasts v b (call ∷ calls) (reply ∷ replies) = Has v b × ((left : Stream) → Answers v (act_of call) reply left →
    reaches v (act_of call) (refused_by reply) b ≡ false →
    let w = after_act v (act_of call) (refused_by reply) left in Opens w (act_of call) reply b × Lasts w b calls replies)
Lasts v b calls replies = ⊥

-- each byte that one of the calls fixes lasts through the calls after it
abbrev pub Persists : State → List Call → List Reply → Type 0
Persists v [] [] = Unit {0}
Persists v (call ∷ calls) (reply ∷ replies) = (left : Stream) → Answers v (act_of call) reply left →
    let w = after_act v (act_of call) (refused_by reply) left in
    ((b : Byte) → Fixes v (act_of call) (refused_by reply) b → Lasts w b calls replies) × Persists w calls replies
Persists v calls replies = ⊥
