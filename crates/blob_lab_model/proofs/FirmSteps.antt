-- Each call that doesn't touch a fixed byte keeps it fixed.
use Rattle.std.proofs.Common.{◌≡◌, ℕ, ◌<◌, ◌≤◌, List, [], false, Option, Some, None, refl}
use Rattle.rand_core.specs.Stream.{Stream}
use Rattle.blob_model.specs.Draws.{chosen_by, draw_rows}
use Rattle.blob_model.specs.Files.{log_of, all_needs, after_open, admit}
use Rattle.blob_model.specs.Places.{Place}
use Rattle.blob_header.specs.Refusals.{Refusal, BlobAlreadyOpen}
use Rattle.blob_script.specs.Acts.{Ask, AcceptedVersions, Act, Configure, Open, OpenLoose, Admit, Close, Through, Finish, Remove, Scan, Crash, Reopen}
use Rattle.blob_lab_model.specs.After.{after_act, after_ask, exclusively_opened}
use Rattle.blob_lab_model.specs.Steps.{reaches_through, loosely_opened, removal_step, crash_step}
use Rattle.blob_lab_model.specs.Answers.{kept_at}
use Rattle.blob_lab_model.specs.Fixed.{Byte, reaches}
use Rattle.blob_lab_model.specs.States.{State, Held}
use Rattle.blob_lab_model.proofs.Firm.{IsFirm, firm_held, firm_closed}
use Rattle.blob_lab_model.proofs.FirmAsks.{firm_asked}
use Rattle.blob_lab_model.proofs.FirmFiles.{firm_admitted, firm_crashed, firm_reopened, firm_removed}
use Rattle.blob_lab_model.proofs.FirmOpens.{firm_opened}

-- no handle is on an incarnation that doesn't exist yet, and such an incarnation has no log
pub record IsSound (v : State) : Type 0 where
  pub given : (i : ℕ) (h : Held) → kept_at v.handles i ≡ Some h → h.place.number < v.files.directory.next
  pub fresh : (o : Place) → v.files.directory.next ≤ o.number → log_of v.files.log o ≡ []

-- the same for the files and handles of a state
abbrev pub HasFirm : State → Byte → Type 0
HasFirm v b = IsFirm v.files v.handles b

module _ (v : State) (b : Byte) (sound : IsSound v) (firm : HasFirm v b) where
  opens : (p n : List ℕ) (versions : AcceptedVersions) → IsFirm (after_open v.files p n versions.0 versions.1) v.handles b
  opens p n versions = firm_opened v.files v.handles b sound.given sound.fresh p n versions.0 versions.1 firm

  exclusive : (p n : List ℕ) (versions : AcceptedVersions) (refusal : Option Refusal) → HasFirm (exclusively_opened v p n versions refusal) b
  exclusive p n versions None =
      let f = after_open v.files p n versions.0 versions.1 in
      firm_held (admit f p n) v.handles p n (Some (record { partition = p; name = n; number = v.names.next })) b (firm_admitted f v.handles p n b (opens p n versions))
  exclusive p n versions (Some (BlobAlreadyOpen q m)) = opens p n versions
  exclusive p n versions (Some refusal) = firm

  loosely : (p n : List ℕ) (versions : AcceptedVersions) (refusal : Option Refusal) → HasFirm (loosely_opened v p n versions refusal) b
  loosely p n versions None = firm_held (after_open v.files p n versions.0 versions.1) v.handles p n None b (opens p n versions)
  loosely p n versions (Some refusal) = firm

  asks : (number : ℕ) (slot : Option Held) (ask : Ask) (refusal : Option Refusal) → kept_at v.handles number ≡ slot → reaches_through v slot ask b ≡ false → HasFirm (after_ask v number slot ask refusal) b
  asks number None ask refusal here out = firm
  asks number (Some h) ask refusal here out = firm_asked v number h ask refusal b here out firm

  removes : (p : List ℕ) (n : Option (List ℕ)) (refusal : Option Refusal) → reaches v (Remove p n) refusal b ≡ false → HasFirm (removal_step v p n refusal) b
  removes p n None out = firm_removed v.files v.handles p n b out firm
  removes p n (Some refusal) out = firm

  crashes : (refusal : Option Refusal) → HasFirm (crash_step v refusal) b
  crashes None = firm_crashed v.files v.handles (chosen_by (draw_rows v.stream (all_needs v.files.log)).0) b firm
  crashes (Some refusal) = firm

  pub firm_after : (act : Act) (refusal : Option Refusal) (left : Stream) → reaches v act refusal b ≡ false → HasFirm (after_act v act refusal left) b
  firm_after (Configure config) refusal left out = firm
  firm_after (Open p n None) refusal left out = firm
  firm_after (Open p n (Some versions)) refusal left out = exclusive p n versions refusal
  firm_after (OpenLoose p n None) refusal left out = firm
  firm_after (OpenLoose p n (Some versions)) refusal left out = loosely p n versions refusal
  firm_after (Admit p n) refusal left out = firm_admitted v.files v.handles p n b firm
  firm_after (Close number) refusal left out = firm_closed v.files v.handles number b firm
  firm_after (Through number ask) refusal left out = asks number (kept_at v.handles number) ask refusal refl out
  firm_after (Finish number) refusal left out = firm
  firm_after (Remove p n) refusal left out = removes p n refusal out
  firm_after (Scan p) refusal left out = firm
  firm_after Crash refusal left out = crashes refusal
  firm_after Reopen refusal left out = firm_reopened v.files v.handles b firm
