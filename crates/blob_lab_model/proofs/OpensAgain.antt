-- An accepted open, and an open of the same name in a rebuilt store.
use Rattle.std.proofs.Common.{◌≡◌, inl, inr, ℕ, ◌-◌, ◌^◌, ◌<◌, ◌≤◌, ◌==◌, Bool, true, false, not, ◌&&◌, if◌then◌else◌, List, ◌++◌, length, Option, Some, None, is_some, is_none, refl, sym, ap, ◌∙◌, subst, ne_eqb}
use Rattle.hex.specs.Hex.{encode_lower}
use Rattle.std.proofs.lemmas.Bool.{false≢true, and_from, le-leb}
use Rattle.std.proofs.lemmas.Option.{none-some}
use Rattle.rand_core.specs.Stream.{Stream}
use Rattle.std.specs.Option.{option_or}
use Rattle.blob_header.specs.declared.layout.Layout.{Layout}
use Rattle.blob_header.specs.declared.version.BlobVersion.{BlobVersion}
use Rattle.blob_model.specs.Directory.{Directory, File, Raw, Incarnation}
use Rattle.blob_model.specs.Files.{Files, with_opening, after_open, raw_again, durable_at}
use Rattle.blob_header.specs.Header.{region}
use Rattle.blob_model.specs.Opening.{Opening, Continues, Begins, Declines, opening, place_of}
use Rattle.blob_header.specs.Parse.{every_layout}
use Rattle.blob_header.specs.PartitionName.{is_partition_name}
use Rattle.blob_header.specs.Refusals.{Refusal, BlobAlreadyOpen, BlobVersionMismatch, PartitionNameInvalid, GenerationsExhausted, Injected}
use Rattle.blob_header.specs.Resolve.{resolution}
use Rattle.blob_header.specs.Versions.{is_in_range}
use Rattle.blob_model.proofs.RawFiles.{raw_opens, raw_not_continues}
use Rattle.blob_draws.specs.Faults.{draw}
use Rattle.blob_memory.specs.Answers.{opening_refusal, open_refusal}
use Rattle.blob_script.specs.declared.reply.Reply.TheVariants as reply
use Rattle.blob_lab_model.specs.Accepted.{opened_name, IsKept, Accepts, HasFileOf, IsCurrent, IsRaw, OpensAs, IsToldOf}
use Rattle.blob_script.specs.Acts.{Act, Configure, Open, OpenLoose, Admit, Close, Through, Finish, Remove, Scan, Crash, Reopen, act_of}
use Rattle.blob_lab_model.specs.After.{after_act}
use Rattle.blob_lab_model.specs.Answers.{Answers, answer, opened_size, unless_denied, opened_version}
use Rattle.blob_lab_model.specs.Answers as answers
use Rattle.blob_lab_model.specs.Steps.{found_at, open_denial, loose_denial, is_unnumbered, open_already}
use Rattle.blob_lab_model.specs.Denials.{refused_if}
use Rattle.blob_lab_model.specs.States.{State}
use Rattle.blob_script.specs.Told as told
use Rattle.blob_script.specs.Told.{Told, Tells}
use Rattle.blob_lab_model.proofs.ToldOpens.{exclusive_answer}
use Rattle.blob_lab_model.proofs.Accepting.{IsOf, of_again, still_run}
use Rattle.blob_lab_model.proofs.Exclusive.{or_then_none}
use Rattle.blob_model.proofs.Opened.{with_file_here}
use Rattle.blob_lab_model.proofs.Stale.{admitted_directory}

-- An accepted open.

tells_opened : (denial : Option Refusal) (handle size : ℕ) (version : BlobVersion) (number len found : ℕ) → Tells (reply.Opened handle size version) (unless_denied denial (told.Opened number len found)) → (denial ≡ None) × (version.0 ≡ found)
tells_opened None handle size version number len found t = (refl, t.2)
tells_opened (Some r) handle size version number len found t = absurd t

-- an incarnation that continues keeps its version
of_continued : (p n : List ℕ) (file : Option File) (first last number : ℕ) (layout : Layout) (version : ℕ) → opening p n file first last ≡ Continues number layout version → IsOf file version
of_continued p n None first last number layout version e = absurd cc
of_continued p n (Some (Raw raw)) first last number layout version e = absurd (raw_not_continues p n raw last (resolution raw (every_layout first last)) number layout version e)
of_continued p n (Some (Incarnation k l v)) first last number layout version e = by_range (is_in_range first last v) e where
  by_range : (b : Bool) → (if b then Continues k l v else Declines (BlobVersionMismatch first last v)) ≡ Continues number layout version → v ≡ version
  by_range true same = ap opened_version same
  by_range false same = absurd cc

-- after an open without an error, the file has the returned version
of_found : (f : Files) (p n : List ℕ) (first last : ℕ) → opening_refusal (opening p n (f.directory.file p n) first last) f.directory.next ≡ None
    → IsOf ((after_open f p n first last).directory.file p n) (opened_version (opening p n (f.directory.file p n) first last))
of_found f p n first last free = by_found (opening p n (f.directory.file p n) first last) refl free where
  by_found : (o : Opening) → opening p n (f.directory.file p n) first last ≡ o → opening_refusal o f.directory.next ≡ None → IsOf ((with_opening f p n o).directory.file p n) (opened_version o)
  by_found (Continues number layout version) e free' = of_continued p n (f.directory.file p n) first last number layout version e
  by_found (Begins layout version live) e free' = subst (λ (x : Option File). IsOf x version) (sym (with_file_here f.directory.file p n (Some (Incarnation f.directory.next layout version)))) refl
  by_found (Declines refusal) e free' = absurd (none-some _ (sym free'))

-- the store's own open
pub valid_open : (p : List ℕ) (later : Option Refusal) → (if not (is_partition_name p) then Some (PartitionNameInvalid p) else later) ≡ None → (is_partition_name p ≡ true) × (later ≡ None)
valid_open p later e = by_name (is_partition_name p) refl e where
  by_name : (b : Bool) → is_partition_name p ≡ b → (if not b then Some (PartitionNameInvalid p) else later) ≡ None → (is_partition_name p ≡ true) × (later ≡ None)
  by_name true is e' = (is, e')
  by_name false is e' = absurd (none-some _ (sym e'))

-- a name that was opened with a version
pub record IsOpened (d : Directory) (p n : List ℕ) (version : ℕ) : Type 0 where
  pub valid : is_partition_name p ≡ true
  pub file : IsOf (d.file p n) version

loosely : (v : State) (p n : List ℕ) (first last : ℕ) → loose_denial v p n first last ≡ None → IsOpened (after_open v.files p n first last).directory p n (opened_version (found_at v p n first last))
loosely v p n first last free =
    let store : open_refusal v.files.directory p n first last ≡ None = (or_then_none (refused_if Injected (draw v.config.open_rate v.stream).0) (open_refusal v.files.directory p n first last) free).1 in
    let parts = valid_open p (opening_refusal (found_at v p n first last) v.files.directory.next) store in
    record { valid = parts.0; file = of_found v.files p n first last parts.1 }

exclusively : (v : State) (p n : List ℕ) (first last : ℕ) → open_denial v p n first last ≡ None → loose_denial v p n first last ≡ None
exclusively v p n first last free =
    let later = or_then_none (refused_if GenerationsExhausted (is_unnumbered v.names p n)) (option_or (loose_denial v p n first last) (open_already v.names p n)) free in
    (or_then_none (loose_denial v p n first last) (open_already v.names p n) later.1).0

-- the first call of a run
module _ (v : State) (handle size : ℕ) (version : BlobVersion) (left : Stream) where
  abbrev Accepted : Act → List ℕ × List ℕ → Type 0
  Accepted act name = IsOpened (after_act v act None left).files.directory name.0 name.1 version.0

  as_told : (act : Act) (p n : List ℕ) (told : ℕ) → version.0 ≡ told → IsOpened (after_act v act None left).files.directory p n told → Accepted act (p, n)
  as_told act p n told same opened = subst (IsOpened (after_act v act None left).files.directory p n) (sym same) opened

  accepted_exclusive : (p n : List ℕ) (versions : Option (ℕ × ℕ)) → Answers v (Open p n versions) (reply.Opened handle size version) left → Accepted (Open p n versions) (p, n)
  accepted_exclusive p n None (inl m) = absurd (false≢true m.0)
  accepted_exclusive p n None (inr t) = absurd t.0
  accepted_exclusive p n (Some versions) (inl m) = absurd (none-some _ m.1)
  accepted_exclusive p n (Some versions) (inr t) =
      let told = subst (λ (x : Told × Stream). Tells (reply.Opened handle size version) x.0) (exclusive_answer v p n versions) t.0 in
      let parts = tells_opened (open_denial v p n versions.0 versions.1) handle size version (length v.handles) (opened_size v.files p n (found_at v p n versions.0 versions.1)) (opened_version (found_at v p n versions.0 versions.1)) told in
      let f : Files = after_open v.files p n versions.0 versions.1 in
      as_told (Open p n (Some versions)) p n (opened_version (found_at v p n versions.0 versions.1)) parts.1
      (subst (λ (d : Directory). IsOpened d p n (opened_version (found_at v p n versions.0 versions.1))) (sym (admitted_directory f p n))
      (loosely v p n versions.0 versions.1 (exclusively v p n versions.0 versions.1 parts.0)))

  accepted_loose : (p n : List ℕ) (versions : Option (ℕ × ℕ)) → Answers v (OpenLoose p n versions) (reply.Opened handle size version) left → Accepted (OpenLoose p n versions) (p, n)
  accepted_loose p n None (inl m) = absurd (false≢true m.0)
  accepted_loose p n None (inr t) = absurd t.0
  accepted_loose p n (Some versions) (inl m) = absurd (none-some _ m.1)
  accepted_loose p n (Some versions) (inr t) =
      let parts = tells_opened (loose_denial v p n versions.0 versions.1) handle size version (length v.handles) (opened_size v.files p n (found_at v p n versions.0 versions.1)) (opened_version (found_at v p n versions.0 versions.1)) t.0 in
      as_told (OpenLoose p n (Some versions)) p n (opened_version (found_at v p n versions.0 versions.1)) parts.1 (loosely v p n versions.0 versions.1 parts.0)

  accepted : (act : Act) (p n : List ℕ) → opened_name act ≡ Some (p, n) → Answers v act (reply.Opened handle size version) left → Accepted act (p, n)
  accepted (Open q m versions) p n same a = let e : (q, m) ≡ (p, n) = cc in subst (Accepted (Open q m versions)) e (accepted_exclusive q m versions a)
  accepted (OpenLoose q m versions) p n same a = let e : (q, m) ≡ (p, n) = cc in subst (Accepted (OpenLoose q m versions)) e (accepted_loose q m versions a)
  accepted (Configure config) p n same a = absurd (none-some _ same)
  accepted (Admit q m) p n same a = absurd (none-some _ same)
  accepted (Close number) p n same a = absurd (none-some _ same)
  accepted (Through number ask) p n same a = absurd (none-some _ same)
  accepted (Finish number) p n same a = absurd (none-some _ same)
  accepted (Remove q m) p n same a = absurd (none-some _ same)
  accepted (Scan q) p n same a = absurd (none-some _ same)
  accepted Crash p n same a = absurd (none-some _ same)
  accepted Reopen p n same a = absurd (none-some _ same)

-- Opening a name that isn't open.

in_range : (first last version : ℕ) → first ≤ version → version ≤ last → is_in_range first last version ≡ true
in_range first last version least greatest = and_from _ _ (le-leb first version least) (le-leb version last greatest)

module _ (v : State) (p n : List ℕ) (first last version : ℕ) (accepts : Accepts v v.stream first last version) (free : v.names.registered p n ≡ None) where
  abbrev Told_as : ℕ → Type 0
  Told_as size = (answer v (Open p n (Some (first, last)))).0 ≡ told.Opened (length v.handles) size version

  undenied : open_refusal v.files.directory p n first last ≡ None → open_denial v p n first last ≡ None
  undenied store =
      ap (λ b. option_or (refused_if GenerationsExhausted b) (option_or (loose_denial v p n first last) (open_already v.names p n)))
      (ap (λ (o : Option ℕ). is_none o && (v.names.next == 2 ^ 64 - 1)) free ∙ ne_eqb v.names.next (2 ^ 64 - 1) accepts.registration)
      ∙ ap (λ b. option_or (option_or (refused_if Injected b) (open_refusal v.files.directory p n first last)) (open_already v.names p n)) accepts.uninjected
      ∙ ap (λ r. option_or r (open_already v.names p n)) store
      ∙ ap (λ (o : Option ℕ). refused_if (BlobAlreadyOpen p (encode_lower n)) (is_some o)) free

  told_by : (o : Opening) → found_at v p n first last ≡ o → is_partition_name p ≡ true → opening_refusal o v.files.directory.next ≡ None → (answer v (Open p n (Some (first, last)))).0 ≡ told.Opened (length v.handles) (opened_size v.files p n o) (opened_version o)
  told_by o finds valid later =
      ap (λ (x : Told × Stream). x.0) (exclusive_answer v p n (first, last))
      ∙ ap (λ r. unless_denied r (answers.told_opened v p n (first, last)))
      (undenied (ap (λ b. if not b then Some (PartitionNameInvalid p) else opening_refusal (found_at v p n first last) v.files.directory.next) valid ∙ ap (λ x. opening_refusal x v.files.directory.next) finds ∙ later))
      ∙ ap (λ x. told.Opened (length v.handles) (opened_size v.files p n x) (opened_version x)) finds

  -- a raw file with a whole header
  module _ (layout : Layout) (data_bytes : List ℕ) (raw : v.files.directory.file p n ≡ Some (Raw (region layout version ++ data_bytes))) where
    finds : found_at v p n first last ≡ Begins layout version data_bytes
    finds =
        ap (λ (file : Option File). opening p n file first last) raw
        ∙ raw_opens p n layout version data_bytes first last accepts.fits
        ∙ ap (λ b. if b then Begins layout version data_bytes else Declines (BlobVersionMismatch first last version)) (in_range first last version accepts.least accepts.greatest)

    opens_raw : is_partition_name p ≡ true → Told_as (length data_bytes)
    opens_raw valid = told_by (Begins layout version data_bytes) finds valid (ap (λ b. if b then Some GenerationsExhausted else None) (ne_eqb v.files.directory.next (2 ^ 64 - 1) accepts.incarnation))

  -- a current incarnation
  module _ (number : ℕ) (layout : Layout) (held : v.files.directory.file p n ≡ Some (Incarnation number layout version)) where
    continues : found_at v p n first last ≡ Continues number layout version
    continues =
        ap (λ (file : Option File). opening p n file first last) held
        ∙ ap (λ b. if b then Continues number layout version else Declines (BlobVersionMismatch first last version)) (in_range first last version accepts.least accepts.greatest)

    opens_current : is_partition_name p ≡ true → Told_as (length (durable_at v.files (place_of p n number layout)))
    opens_current valid = told_by (Continues number layout version) continues valid refl

  -- any file of the version
  pub opens_file : (size : ℕ) → is_partition_name p ≡ true → HasFileOf v.files p n version size → Told_as size
  opens_file size valid (IsCurrent number layout held same) = opens_current number layout held valid ∙ ap (λ k. told.Opened (length v.handles) k version) (sym same)
  opens_file size valid (IsRaw layout data_bytes raw same) = opens_raw layout data_bytes raw valid ∙ ap (λ k. told.Opened (length v.handles) k version) (sym same)

  opens_as : (file : Option File) → is_partition_name p ≡ true → v.files.directory.file p n ≡ file → IsOf file version → OpensAs v p n first last version
  opens_as None valid e is = absurd is
  opens_as (Some (Raw bytes)) valid e (layout, data_bytes, same) =
      let raw : v.files.directory.file p n ≡ Some (Raw (region layout version ++ data_bytes)) = e ∙ ap (λ x. Some (Raw x)) same in
      record { size = length data_bytes; file = IsRaw layout data_bytes raw refl; told = opens_raw layout data_bytes raw valid }
  opens_as (Some (Incarnation number layout of)) valid e is =
      let held : v.files.directory.file p n ≡ Some (Incarnation number layout version) = e ∙ ap (λ x. Some (Incarnation number layout x)) is in
      record { size = length (durable_at v.files (place_of p n number layout)); file = IsCurrent number layout held refl; told = opens_current number layout held valid }

-- An open in a rebuilt store.

module _ (v : State) (rest : Stream) (p n : List ℕ) (first last version : ℕ) (accepts : Accepts v rest first last version) where
  abbrev again : State
  again = after_act v Reopen None rest

  accepts_again : Accepts again again.stream first last version
  accepts_again = record { fits = accepts.fits; least = accepts.least; greatest = accepts.greatest; uninjected = accepts.uninjected; incarnation = accepts.incarnation; registration = accepts.registration }

  -- any file of the version
  opens_of : is_partition_name p ≡ true → IsOf (v.files.directory.file p n) version → IsToldOf again p n version (answer again (Open p n (Some (first, last)))).0
  opens_of valid is =
      let (layout, data_bytes, raw) = of_again (durable_at v.files) p n (v.files.directory.file p n) version is in
      record { layout = layout; behind = data_bytes; file = raw; told = opens_raw again p n first last version accepts_again refl layout data_bytes raw valid }

  -- an incarnation
  module _ (number : ℕ) (layout : Layout) (held : v.files.directory.file p n ≡ Some (Incarnation number layout version)) where
    raw_held : again.files.directory.file p n ≡ Some (Raw (region layout version ++ durable_at v.files (place_of p n number layout)))
    raw_held = ap (λ (file : Option File). raw_again (durable_at v.files) p n file) held

    pub finds_held : found_at again p n first last ≡ Begins layout version (durable_at v.files (place_of p n number layout))
    finds_held = finds again p n first last version accepts_again refl layout (durable_at v.files (place_of p n number layout)) raw_held

    pub opens_held : is_partition_name p ≡ true → (answer again (Open p n (Some (first, last)))).0 ≡ told.Opened (length v.handles) (length (durable_at v.files (place_of p n number layout))) version
    opens_held valid = opens_raw again p n first last version accepts_again refl layout (durable_at v.files (place_of p n number layout)) raw_held valid

-- A name that was opened and not removed.

record StillOf (w : State) (p n : List ℕ) (version : ℕ) : Type 0 where
  pub valid : is_partition_name p ≡ true
  pub file : IsOf (w.files.directory.file p n) version

kept_still : (v w : State) (p n : List ℕ) (version : BlobVersion) → version.0 < 2 ^ 16 → IsKept v p n version w → StillOf w p n version.0
kept_still v w p n version fits kept =
    let (left, a, run) = kept.run in
    let first_open : IsOpened (after_act v (act_of kept.opening) None left).files.directory p n version.0 = accepted v kept.handle kept.size version left (act_of kept.opening) p n kept.opens a in
    record { valid = first_open.valid; file = still_run (after_act v (act_of kept.opening) None left) kept.calls kept.replies w p n version.0 fits kept.keeps run first_open.file }

-- it opens again
pub opens_kept : (v w : State) (p n : List ℕ) (version : BlobVersion) (first last : ℕ) → IsKept v p n version w → Accepts w w.stream first last version.0 → w.names.registered p n ≡ None → OpensAs w p n first last version.0
opens_kept v w p n version first last kept accepts free =
    let still = kept_still v w p n version accepts.fits kept in
    opens_as w p n first last version.0 accepts free (w.files.directory.file p n) still.valid refl still.file

-- and in a rebuilt store
pub opens_rebuilt : (v w : State) (p n : List ℕ) (version : BlobVersion) (first last : ℕ) (rest : Stream) → IsKept v p n version w → Accepts w rest first last version.0
    → IsToldOf (after_act w Reopen None rest) p n version.0 (answer (after_act w Reopen None rest) (Open p n (Some (first, last)))).0
opens_rebuilt v w p n version first last rest kept accepts =
    let still = kept_still v w p n version accepts.fits kept in
    opens_of w rest p n first last version.0 accepts still.valid still.file
