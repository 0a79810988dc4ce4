-- A version that an open accepted is accepted again: its header stays, in an incarnation or in the bytes of a raw file.
use Rattle.std.proofs.Common.{◌≡◌, ℕ, ◌^◌, ◌<◌, Bool, true, false, ◌&&◌, cond, if◌then◌else◌, List, [], ◌∷◌, ◌++◌, Option, Some, None, refl, sym, ap, ◌∙◌, subst}
use Rattle.std.specs.List.{AllZip}
use Rattle.std.specs.Str.{bytes_eq}
use Rattle.std.specs.Cmp.Lexicographic.{bytes_decides}
use Rattle.std.proofs.lemmas.Bool.{cond_both, cond-false, false≢true}
use Rattle.rand_core.specs.Stream.{Stream}
use Rattle.blob_header.specs.declared.layout.Layout.{Layout}
use Rattle.blob_model.specs.Directory.{Directory, File, Raw, Incarnation, directory_without}
use Rattle.blob_model.specs.Files.{Files, with_opening, after_open, raw_again, durable_at}
use Rattle.blob_header.specs.Header.{region}
use Rattle.blob_model.specs.Opening.{Opening, Continues, Begins, Declines, opening, place_of}
use Rattle.blob_model.specs.Places.{Place}
use Rattle.blob_header.specs.Refusals.{Refusal, BlobAlreadyOpen, BlobVersionMismatch}
use Rattle.blob_header.specs.Versions.{is_in_range}
use Rattle.blob_model.proofs.RawFiles.{raw_opens}
use Rattle.blob_script.specs.declared.call.Call.{Call}
use Rattle.blob_script.specs.declared.reply.Reply.{Reply}
use Rattle.blob_lab_model.specs.Accepted.{removes}
use Rattle.blob_script.specs.Acts.{Ask, Act, Configure, Open, OpenLoose, Admit, Close, Through, Finish, Remove, Scan, Crash, Reopen, act_of}
use Rattle.blob_lab_model.specs.After.{after_act, after_ask, exclusively_opened}
use Rattle.blob_lab_model.specs.Steps.{found_at, removal_step as removal, crash_step, loosely_opened}
use Rattle.blob_lab_model.specs.Answers.{kept_at, opened_version}
use Rattle.blob_lab_model.specs.Runs.{LeadsTo}
use Rattle.blob_lab_model.specs.States.{State, Held}
use Rattle.blob_script.specs.Told.{refused_by}
use Rattle.blob_lab_model.proofs.Stale.{asked_directory, admitted_directory}

-- Files of a version.

-- an incarnation of this version, or a raw file with a whole header of it
abbrev pub IsOf : Option File → ℕ → Type 0
IsOf None version = ⊥
IsOf (Some (Raw bytes)) version = (layout : Layout) × (data_bytes : List ℕ) × (bytes ≡ region layout version ++ data_bytes)
IsOf (Some (Incarnation number layout found_at)) version = found_at ≡ version

-- an incarnation that is created from such a file has this version
begins_of : (p n : List ℕ) (file : Option File) (first last : ℕ) (layout : Layout) (begun : ℕ) (live : List ℕ) (version : ℕ) → version < 2 ^ 16 → IsOf file version
    → opening p n file first last ≡ Begins layout begun live → begun ≡ version
begins_of p n None first last layout begun live version fits is e = absurd is
begins_of p n (Some (Raw bytes)) first last layout begun live version fits (l, data_bytes, same) e =
    by_range (is_in_range first last version) (sym (raw_opens p n l version data_bytes first last fits) ∙ ap (λ x. opening p n (Some (Raw x)) first last) (sym same) ∙ e)
  where
    by_range : (b : Bool) → (if b then Begins l version data_bytes else Declines (BlobVersionMismatch first last version)) ≡ Begins layout begun live → begun ≡ version
    by_range true e' = sym (ap opened_version e')
    by_range false e' = absurd cc
begins_of p n (Some (Incarnation k l v)) first last layout begun live version fits is e = absurd (by_range (is_in_range first last v) e) where
  by_range : (b : Bool) → (if b then Continues k l v else Declines (BlobVersionMismatch first last v)) ≡ Begins layout begun live → ⊥
  by_range true e' = cc
  by_range false e' = cc

-- an open of any name keeps it
of_opened : (f : Files) (p n q m : List ℕ) (first last version : ℕ) → version < 2 ^ 16 → IsOf (f.directory.file q m) version → IsOf ((after_open f p n first last).directory.file q m) version
of_opened f p n q m first last version fits is = by_found (opening p n (f.directory.file p n) first last) refl where
  old : Option File
  old = f.directory.file q m

  at_name : p ≡ q → n ≡ m → IsOf (f.directory.file p n) version
  at_name e g = subst (λ (x : List ℕ). IsOf (f.directory.file x n) version) (sym e) (subst (λ (x : List ℕ). IsOf (f.directory.file q x) version) (sym g) is)

  by_found : (o : Opening) → opening p n (f.directory.file p n) first last ≡ o → IsOf ((with_opening f p n o).directory.file q m) version
  by_found (Continues number layout found_at) e = is
  by_found (Declines refusal) e = is
  by_found (Begins layout begun live) e =
      let new : Option File = Some (Incarnation f.directory.next layout begun) in
      cond_both (bytes_eq p q) (cond (bytes_eq n m) new old) old (λ x. IsOf x version)
      (λ same_p. cond_both (bytes_eq n m) new old (λ x. IsOf x version)
      (λ same_n. begins_of p n (f.directory.file p n) first last layout begun live version fits (at_name ((bytes_decides p q).0 same_p) ((bytes_decides n m).0 same_n)) e)
      (λ _. is))
      (λ _. is)

-- in a rebuilt store it is a raw file
pub of_again : (bytes : Place → List ℕ) (p n : List ℕ) (file : Option File) (version : ℕ) → IsOf file version → (layout : Layout) × (data_bytes : List ℕ) × (raw_again bytes p n file ≡ Some (Raw (region layout version ++ data_bytes)))
of_again bytes p n None version is = absurd is
of_again bytes p n (Some (Raw x)) version (layout, data_bytes, same) = (layout, data_bytes, ap (λ y. Some (Raw y)) same)
of_again bytes p n (Some (Incarnation number layout v)) version is =
    (layout, bytes (place_of p n number layout), ap (λ y. Some (Raw (region layout y ++ bytes (place_of p n number layout)))) is)

raw_of : (file : Option File) (version : ℕ) → ((layout : Layout) × (data_bytes : List ℕ) × (file ≡ Some (Raw (region layout version ++ data_bytes)))) → IsOf file version
raw_of file version (layout, data_bytes, same) = subst (λ (x : Option File). IsOf x version) (sym same) (layout, data_bytes, refl)

of_removed : (d : Directory) (q : List ℕ) (m : Option (List ℕ)) (p n : List ℕ) (version : ℕ) → removes (Remove q m) None p n ≡ false → IsOf (d.file p n) version → IsOf ((directory_without d q m).file p n) version
of_removed d q None p n version stays is = subst (λ (x : Option File). IsOf x version) (sym (cond-false (bytes_eq q p) None (d.file p n) stays)) is
of_removed d q (Some m) p n version stays is = by_tests (bytes_eq q p) (bytes_eq m n) stays where
  by_tests : (b c : Bool) → (b && c) ≡ false → IsOf (cond b (cond c None (d.file p n)) (d.file p n)) version
  by_tests true true e = absurd (false≢true (sym e))
  by_tests true false e = is
  by_tests false c e = is

-- Calls.

module _ (v : State) (rest : Stream) (p n : List ℕ) (version : ℕ) (fits : version < 2 ^ 16) (is : IsOf (v.files.directory.file p n) version) where
  abbrev Still : State → Type 0
  Still w = IsOf (w.files.directory.file p n) version

  by_same : (w : State) → w.files.directory ≡ v.files.directory → Still w
  by_same w same = subst (λ (d : Directory). IsOf (d.file p n) version) (sym same) is

  exclusive_still : (q m : List ℕ) (versions : ℕ × ℕ) (refusal : Option Refusal) → Still (exclusively_opened v q m versions refusal)
  exclusive_still q m versions None =
      let f : Files = after_open v.files q m versions.0 versions.1 in
      subst (λ (d : Directory). IsOf (d.file p n) version) (sym (admitted_directory f q m)) (of_opened v.files q m p n versions.0 versions.1 version fits is)
  exclusive_still q m versions (Some (BlobAlreadyOpen a b)) = of_opened v.files q m p n versions.0 versions.1 version fits is
  exclusive_still q m versions (Some refusal) = is

  loose_still : (q m : List ℕ) (versions : ℕ × ℕ) (refusal : Option Refusal) → Still (loosely_opened v q m versions refusal)
  loose_still q m versions None = of_opened v.files q m p n versions.0 versions.1 version fits is
  loose_still q m versions (Some refusal) = is

  asked_still : (number : ℕ) (slot : Option Held) (ask : Ask) (refusal : Option Refusal) → Still (after_ask v number slot ask refusal)
  asked_still number None ask refusal = is
  asked_still number (Some h) ask refusal = by_same (after_ask v number (Some h) ask refusal) (asked_directory v h ask refusal)

  removal_still : (q : List ℕ) (m : Option (List ℕ)) (refusal : Option Refusal) → removes (Remove q m) refusal p n ≡ false → Still (removal v q m refusal)
  removal_still q m None stays = of_removed v.files.directory q m p n version stays is
  removal_still q m (Some refusal) stays = is

  crashed_still : (refusal : Option Refusal) → Still (crash_step v refusal)
  crashed_still None = is
  crashed_still (Some refusal) = is

  still_after : (act : Act) (refusal : Option Refusal) → removes act refusal p n ≡ false → Still (after_act v act refusal rest)
  still_after (Configure config) refusal stays = is
  still_after (Open q m None) refusal stays = is
  still_after (Open q m (Some versions)) refusal stays = exclusive_still q m versions refusal
  still_after (OpenLoose q m None) refusal stays = is
  still_after (OpenLoose q m (Some versions)) refusal stays = loose_still q m versions refusal
  still_after (Admit q m) refusal stays = subst (λ (d : Directory). IsOf (d.file p n) version) (sym (admitted_directory v.files q m)) is
  still_after (Close number) refusal stays = is
  still_after (Through number ask) refusal stays = asked_still number (kept_at v.handles number) ask refusal
  still_after (Finish number) refusal stays = is
  still_after (Remove q m) refusal stays = removal_still q m refusal stays
  still_after (Scan q) refusal stays = is
  still_after Crash refusal stays = crashed_still refusal
  still_after Reopen refusal stays = raw_of (raw_again (durable_at v.files) p n (v.files.directory.file p n)) version (of_again (durable_at v.files) p n (v.files.directory.file p n) version is)

pub still_run : (v : State) (calls : List Call) (replies : List Reply) (w : State) (p n : List ℕ) (version : ℕ) → version < 2 ^ 16 → AllZip (λ call reply. removes (act_of call) (refused_by reply) p n ≡ false) calls replies → LeadsTo v calls replies w
    → IsOf (v.files.directory.file p n) version → IsOf (w.files.directory.file p n) version
still_run v [] [] w p n version fits keeps run is = subst (λ (x : State). IsOf (x.files.directory.file p n) version) run is
still_run v [] (r ∷ replies) w p n version fits keeps run is = absurd run
still_run v (call ∷ calls) [] w p n version fits keeps run is = absurd run
still_run v (call ∷ calls) (r ∷ replies) w p n version fits (stays, keeps) (left, a, run) is =
    still_run (after_act v (act_of call) (refused_by r) left) calls replies w p n version fits keeps run (still_after v left p n version fits is (act_of call) (refused_by r) stays)
