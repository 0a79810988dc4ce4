-- Names that an open accepted and no call removed since, and opening them again, also in a rebuilt store.
use Rattle.std.specs.Prelude.{◌≡◌, ◌≢◌, ℕ, ◌-◌, ◌^◌, ◌<◌, ◌≤◌, ◌&&◌, List, ◌∷◌, ◌++◌, length, Bool, false, Option, Some, None}
use Rattle.std.specs.List.{AllZip}
use Rattle.std.specs.Str.{bytes_eq}
use Rattle.rand_core.specs.Stream.{Stream}
use Rattle.blob_header.specs.declared.layout.Layout.{Layout}
use Rattle.blob_header.specs.declared.version.BlobVersion.{BlobVersion}
use Rattle.blob_model.specs.Directory.{Raw, Incarnation}
use Rattle.blob_model.specs.Files.{Files, durable_at}
use Rattle.blob_header.specs.Header.{region}
use Rattle.blob_model.specs.Opening.{place_of}
use Rattle.blob_header.specs.Refusals.{Refusal}
use Rattle.blob_draws.specs.Faults.{draw}
use Rattle.blob_script.specs.declared.call.Call.{Call}
use Rattle.blob_script.specs.declared.reply.Reply.{Reply}
use Rattle.blob_script.specs.declared.reply.Reply.TheVariants as reply
use Rattle.blob_script.specs.Acts.{Act, Open, OpenLoose, Remove, act_of}
use Rattle.blob_lab_model.specs.Answers.{answer}
use Rattle.blob_lab_model.specs.Runs.{LeadsTo}
use Rattle.blob_lab_model.specs.States.{State}
use Rattle.blob_script.specs.Told.{Told, Opened, refused_by}

-- the partition and name that a call opens
abbrev pub opened_name : Act → Option (List ℕ × List ℕ)
opened_name (Open p n versions) = Some (p, n)
opened_name (OpenLoose p n versions) = Some (p, n)
opened_name act = None

-- whether a call removes a name or its whole partition, which only a removal that returns Ok does
abbrev pub removes : Act → Option Refusal → List ℕ → List ℕ → Bool
removes (Remove q (Some m)) None p n = bytes_eq q p && bytes_eq m n
removes (Remove q None) None p n = bytes_eq q p
removes act refusal p n = false

-- calls from one state to another: an open of a name that returned this version, then none that removes the name
pub record IsKept (v : State) (p n : List ℕ) (version : BlobVersion) (w : State) : Type 0 where
  pub opening : Call
  pub handle : ℕ
  pub size : ℕ
  pub calls : List Call
  pub replies : List Reply
  pub opens : opened_name (act_of opening) ≡ Some (p, n)
  pub run : LeadsTo v (opening ∷ calls) (reply.Opened handle size version ∷ replies) w
  pub keeps : AllZip (λ call reply. removes (act_of call) (refused_by reply) p n ≡ false) calls replies

-- in a state with this stream, an open for versions from `first` to `last` accepts this version: no fault is injected,
-- and numbers are left for the incarnation and the open
pub record Accepts (v : State) (rest : Stream) (first last version : ℕ) : Type 0 where
  pub fits : version < 2 ^ 16
  pub least : first ≤ version
  pub greatest : version ≤ last
  pub uninjected : (draw v.config.open_rate rest).0 ≡ false
  pub incarnation : v.files.directory.next ≢ 2 ^ 64 - 1
  pub registration : v.names.next ≢ 2 ^ 64 - 1

-- a name has a file of this version with `size` bytes
pub data HasFileOf (f : Files) (p n : List ℕ) (version size : ℕ) : Type 0 where
  -- a current incarnation, with its durable bytes
  IsCurrent : (number : ℕ) (layout : Layout) → f.directory.file p n ≡ Some (Incarnation number layout version) → size ≡ length (durable_at f (place_of p n number layout)) → HasFileOf f p n version size
  -- a raw file, with the bytes after a whole header
  IsRaw : (layout : Layout) (behind : List ℕ) → f.directory.file p n ≡ Some (Raw (region layout version ++ behind)) → size ≡ length behind → HasFileOf f p n version size

-- an open of a name returns the version and the number of bytes of its file
pub record OpensAs (v : State) (p n : List ℕ) (first last version : ℕ) : Type 0 where
  pub size : ℕ
  pub file : HasFileOf v.files p n version size
  pub told : (answer v (Open p n (Some (first, last)))).0 ≡ Opened (length v.handles) size version

-- the reply to an open of a raw file: the version in its header, and the number of bytes after it
pub record IsToldOf (v : State) (p n : List ℕ) (version : ℕ) (answer : Told) : Type 0 where
  pub layout : Layout
  pub behind : List ℕ
  pub file : v.files.directory.file p n ≡ Some (Raw (region layout version ++ behind))
  pub told : answer ≡ Opened (length v.handles) (length behind) version
