-- Exclusive opens, by what the registry of open names returns.
use Rattle.std.proofs.Common.{◌≡◌, ◌≢◌, ℕ, ◌<◌, ◌-◌, ◌^◌, ◌==◌, ◌&&◌, ◌++◌, inl, inr, List, [], ◌∷◌, Bool, true, false, Option, Some, None, refl, sym, ap, ◌∙◌, subst, length, if◌then◌else◌, arith, ⊎_elim}
use Rattle.std.specs.Prelude.{is_none, is_some, not}
use Rattle.std.proofs.lemmas.Bool.Decides.{nat_tests}
use Rattle.hex.specs.Hex.{encode_lower}
use Rattle.rand_core.specs.Stream.{Stream}
use Rattle.std.specs.Option.{option_or}
use Rattle.blob_model.specs.Directory.{Directory, File, Raw, Incarnation}
use Rattle.blob_model.specs.Files.{Files, after_open, admit}
use Rattle.blob_model.specs.Opening.{Continues, Declines, IsOpened, opening, opening_raw}
use Rattle.blob_header.specs.Parse.{Failure, InvalidMagic, UnsupportedLayoutVersion, LayoutMismatch, VersionMismatch, InvalidChecksum, InvalidPadding, Truncated, every_layout}
use Rattle.blob_header.specs.PartitionName.{is_partition_name}
use Rattle.blob_model.specs.Places.{Place}
use Rattle.blob_header.specs.Refusals.{Refusal, refusal_of, BlobAlreadyOpen, GenerationsExhausted, Memory, PartitionNameInvalid, BlobVersionMismatch, Injected}
use Rattle.blob_header.specs.Resolve.{resolution, refusal_for}
use Rattle.blob_header.specs.Versions.{is_in_range}
use Rattle.blob_header.specs.declared.error.Error.{Error}
use Rattle.blob_header.specs.declared.version.BlobVersion.{BlobVersion}
use Rattle.std.specs.Prelude.{Result, Ok, Err}
use Rattle.blob_draws.specs.Faults.{draw}
use Rattle.blob_faulty.specs.Wrapper.{config_of, inner_of as store_of}
use Rattle.blob_memory.specs.Answers.{OrMemory, open_refusal, opening_refusal}
use Rattle.blob_memory.specs.Store.{directory, durable}
use Rattle.blob_lab_store.specs.declared.lab.Lab.{Lab}
use Rattle.blob_script.specs.declared.reply.Reply.TheVariants as reply
use Rattle.blob_script.specs.Acts.{Open}
use Rattle.blob_lab_model.specs.After.{exclusively_opened}
use Rattle.blob_lab_model.specs.Answers.{told_opened, IsAnswer, unless_denied}
use Rattle.blob_lab_model.specs.Steps.{is_unnumbered, open_denial}
use Rattle.blob_lab_model.specs.Denials.{refused_if}
use Rattle.blob_lab_store.specs.LabStands.{LabStandsFor, Performs, Wrapper, stream_of}
use Rattle.blob_faulty.specs.Keeps.{IsFor}
use Rattle.blob_opens.specs.OpenNames as names
use Rattle.blob_opens.specs.OpenNames.{OpenNames, OpenAnswer, Accepted, Held, Declined, NoMemory, NoNumber, IsExhausted}
use Rattle.blob_opens.specs.Opens.{names_of}
use Rattle.blob_lab_model.specs.States as states
use Rattle.blob_lab_model.specs.States.{State, AreGiven}
use Rattle.blob_lab_store.specs.Tables.{handles_of, syncs_of}
use Rattle.blob_lab_model.proofs.Denying.{not_memory}
use Rattle.blob_lab_store.proofs.LooseOpens.{IsOpenAllowed, open_denied_by, open_denied, open_tells, open_adds, open_given}
use Rattle.blob_lab_store.proofs.Performing.{state_of, performs}
use Rattle.blob_lab_model.proofs.Telling.{done_answers, failed_answers}
use Rattle.blob_lab_model.proofs.ToldOpens.{left_of_open, exclusive_answers}

-- A store's open isn't refused as open already.

for_other : (p n : List ℕ) (failure : Failure) (q m : List ℕ) → refusal_for p n failure ≢ BlobAlreadyOpen q m
for_other p n (InvalidMagic found) q m e = cc
for_other p n (UnsupportedLayoutVersion expected found) q m e = cc
for_other p n (LayoutMismatch first last found) q m e = cc
for_other p n (VersionMismatch first last found) q m e = cc
for_other p n InvalidChecksum q m e = cc
for_other p n InvalidPadding q m e = cc
for_other p n (Truncated required raw) q m e = cc

raw_other : (p n raw : List ℕ) (last : ℕ) (r : Result (Option (ℕ × BlobVersion × ℕ)) Failure) (next : ℕ) (q m : List ℕ) → opening_refusal (opening_raw p n raw last r) next ≢ Some (BlobAlreadyOpen q m)
raw_other p n raw last (Ok None) next q m e = by_test (next == 2 ^ 64 - 1) e where
  by_test : (b : Bool) → (if b then Some GenerationsExhausted else None) ≡ Some (BlobAlreadyOpen q m) → ⊥
  by_test true f = cc
  by_test false f = cc
raw_other p n raw last (Ok (Some (size, version, offset))) next q m e = by_test (next == 2 ^ 64 - 1) e where
  by_test : (b : Bool) → (if b then Some GenerationsExhausted else None) ≡ Some (BlobAlreadyOpen q m) → ⊥
  by_test true f = cc
  by_test false f = cc
raw_other p n raw last (Err failure) next q m e = some_other e where
  some_other : Some (refusal_for p n failure) ≡ Some (BlobAlreadyOpen q m) → ⊥
  some_other f = let g : refusal_for p n failure ≡ BlobAlreadyOpen q m = cc in for_other p n failure q m g

file_other : (p n : List ℕ) (file : Option File) (first last next : ℕ) (q m : List ℕ) → opening_refusal (opening p n file first last) next ≢ Some (BlobAlreadyOpen q m)
file_other p n None first last next q m e = by_test (next == 2 ^ 64 - 1) e where
  by_test : (b : Bool) → (if b then Some GenerationsExhausted else None) ≡ Some (BlobAlreadyOpen q m) → ⊥
  by_test true f = cc
  by_test false f = cc
file_other p n (Some (Raw raw)) first last next q m e = raw_other p n raw last (resolution raw (every_layout first last)) next q m e
file_other p n (Some (Incarnation k l w)) first last next q m e = by_test (is_in_range first last w) e where
  by_test : (b : Bool) → opening_refusal (if b then Continues k l w else Declines (BlobVersionMismatch first last w)) next ≡ Some (BlobAlreadyOpen q m) → ⊥
  by_test true f = cc
  by_test false f = cc

store_other : (d : Directory) (p n : List ℕ) (first last : ℕ) (q m : List ℕ) → open_refusal d p n first last ≢ Some (BlobAlreadyOpen q m)
store_other d p n first last q m e = by_test (is_partition_name p) e where
  by_test : (b : Bool) → (if not b then Some (PartitionNameInvalid p) else opening_refusal (opening p n (d.file p n) first last) d.next) ≡ Some (BlobAlreadyOpen q m) → ⊥
  by_test true f = file_other p n (d.file p n) first last d.next q m f
  by_test false f = cc

drawn_other : (b : Bool) (d : Directory) (p n : List ℕ) (first last : ℕ) (q m : List ℕ) → option_or (refused_if Injected b) (open_refusal d p n first last) ≢ Some (BlobAlreadyOpen q m)
drawn_other true d p n first last q m e = cc
drawn_other false d p n first last q m e = store_other d p n first last q m e

-- another refusal leaves all as it was
unopened : (v : State) (p n : List ℕ) (first last : ℕ) (r : Refusal) → ((q m : List ℕ) → r ≢ BlobAlreadyOpen q m) → exclusively_opened v p n (first, last) (Some r) ≡ v
unopened v p n first last (BlobAlreadyOpen q m) other = absurd (other q m refl)
unopened v p n first last r other = refl

-- Numbers of opens.

numbered_false : (s : OpenNames) (p n : List ℕ) → s.next < 2 ^ 64 - 1 → is_unnumbered s p n ≡ false
numbered_false s p n left =
    let other : (s.next == 2 ^ 64 - 1) ≡ false = grind (arith, nat_tests) in
    ap (λ (b : Bool). is_none (s.registered p n) && b) other ∙ and_false (is_none (s.registered p n))
  where
    and_false : (b : Bool) → (b && false) ≡ false
    and_false true = refl
    and_false false = refl

held_false : (s : OpenNames) (p n : List ℕ) (k : ℕ) → s.registered p n ≡ Some k → is_unnumbered s p n ≡ false
held_false s p n k here = ap (λ (o : Option ℕ). is_none o && (s.next == 2 ^ 64 - 1)) here

exhausted_true : (s : OpenNames) (p n : List ℕ) → IsExhausted s p n → is_unnumbered s p n ≡ true
exhausted_true s p n e = ap (λ (o : Option ℕ). is_none o && (s.next == 2 ^ 64 - 1)) e.free ∙ ap (λ (k : ℕ). k == 2 ^ 64 - 1) e.last

unexhausted : (s : OpenNames) (p n : List ℕ) → (IsExhausted s p n → ⊥) → is_unnumbered s p n ≡ false
unexhausted s p n some = by_held (s.registered p n) refl where
  by_number : (b : Bool) → (s.next == 2 ^ 64 - 1) ≡ b → s.registered p n ≡ None → b ≡ false
  by_number false e free = refl
  by_number true e free =
      let last : s.next ≡ 2 ^ 64 - 1 = grind (arith, nat_tests) in
      absurd (some (record { free = free; last = last }))

  by_held : (o : Option ℕ) → s.registered p n ≡ o → (is_none o && (s.next == 2 ^ 64 - 1)) ≡ false
  by_held None e = by_number (s.next == 2 ^ 64 - 1) refl e
  by_held (Some k) e = refl

-- The reply to an exclusive open.

module _ (lab lab' : Lab) (p n : List ℕ) (first last : ℕ) where
  abbrev drawn_left : Stream
  drawn_left = (draw (config_of lab.wrapper).open_rate (stream_of lab.wrapper)).1

  abbrev denial : Bool → Directory → Option ℕ → Option Refusal
  denial unnumbered d held = option_or (refused_if GenerationsExhausted unnumbered) (option_or (open_denied_by lab.wrapper p n first last d) (refused_if (BlobAlreadyOpen p (encode_lower n)) (is_some held)))

  denial_seen : (f : Files) → LabStandsFor lab (state_of lab f) → (unnumbered : Bool) → is_unnumbered (names_of lab.opens) p n ≡ unnumbered → (held : Option ℕ) → (names_of lab.opens).registered p n ≡ held
      → denial unnumbered (directory (store_of lab.wrapper)) held ≡ open_denial (state_of lab f) p n first last
  denial_seen f s unnumbered number held here i = denial (sym number i) (s.wrapper.files.directory i) (sym here i)

  left_seen : (f : Files) (unnumbered : Bool) → is_unnumbered (names_of lab.opens) p n ≡ unnumbered → (if unnumbered then stream_of lab.wrapper else drawn_left) ≡ left_of_open (state_of lab f) p n
  left_seen f unnumbered number i = if sym number i then stream_of lab.wrapper else drawn_left

  -- a name that isn't open, which the store opened
  pub exclusive_done : (w : Wrapper) (o : Place) (live : List ℕ) (version : ℕ) (h : states.Held) (number size : ℕ) (ver : BlobVersion)
      → IsOpened (directory (store_of lab.wrapper)) (durable (store_of lab.wrapper)) (directory (store_of w)) (durable (store_of w)) p n first last o live version
      → number ≡ length (handles_of lab.handles) → size ≡ length live → ver.0 ≡ version → h.place ≡ o → h.live ≡ live → h.size ≡ length live
      → h.registration ≡ Some (record { partition = p; name = n; number = (names_of lab.opens).next }) → handles_of lab'.handles ≡ handles_of lab.handles ++ Some h ∷ []
      → directory (store_of lab'.wrapper) ≡ directory (store_of w) → durable (store_of lab'.wrapper) ≡ durable (store_of w)
      → (names_of lab.opens).registered p n ≡ None → (names_of lab.opens).next < 2 ^ 64 - 1 → IsOpenAllowed lab.wrapper p n first last None
      → names_of lab'.opens ≡ names.open_name (names_of lab.opens) p n → syncs_of lab'.syncs ≡ syncs_of lab.syncs → config_of lab'.wrapper ≡ config_of lab.wrapper → stream_of lab'.wrapper ≡ drawn_left
      → ((f : Files) → IsFor lab.wrapper f → IsFor lab'.wrapper (admit (after_open f p n first last) p n)) → Performs lab (Open p n (Some (first, last))) (reply.Opened number size ver) lab'
  exclusive_done w o live version h number size ver opens count long is place bytes tracked registered table same-names same-bytes free left a names syncs config stream stands = performs lab lab' (Open p n (Some (first, last))) (reply.Opened number size ver)
      (λ f s.
      let numbered : is_unnumbered (names_of lab.opens) p n ≡ false = numbered_false (names_of lab.opens) p n left in
      let store : None ≡ open_denied_by lab.wrapper p n first last (directory (store_of lab.wrapper)) = not_memory (open_denied_by lab.wrapper p n first last (directory (store_of lab.wrapper))) (open_denied lab.wrapper p n first last None a) in
      exclusive_answers (state_of lab f) p n (first, last) (reply.Opened number size ver) (stream_of lab'.wrapper)
      (done_answers (reply.Opened number size ver) (open_denial (state_of lab f) p n first last) (told_opened (state_of lab f) p n (first, last)) (stream_of lab'.wrapper) (left_of_open (state_of lab f) p n)
      (open_tells lab lab' w p n first last o live version h number size ver opens count long is place bytes tracked table same-names same-bytes f s)
      (ap (λ (x : Option Refusal). option_or x None) store ∙ denial_seen f s false numbered None free)
      (stream ∙ left_seen f false numbered)))
      (λ f s.
      let f' = admit (after_open f p n first last) p n in
      let s' = stands f s.wrapper.files in
      let handles = open_adds lab lab' w p n first last o live version h number size ver opens count long is place bytes tracked table same-names same-bytes f' (Some (record { partition = p; name = n; number = (names_of lab.opens).next })) registered s' in
      record {
        wrapper = record { files = s'; config = config; stream = refl };
        names = names;
        handles = handles;
        syncs = syncs;
        given = subst (AreGiven f'.directory.next) handles (open_given lab lab' w p n first last o live version h number size ver opens count long is place bytes tracked table same-names same-bytes f f' s s');
      })

  -- Refusals.

  refused_as : (e : Error) (denial : Option Refusal) → OrMemory denial (Some (refusal_of e)) → (left expected : Stream) → left ≡ expected → (v : State) → IsAnswer true (unless_denied denial (told_opened v p n (first, last)), expected) (reply.Failed e) left
  refused_as e denied told left expected same v = failed_answers e denied (told_opened v p n (first, last)) left expected told (λ no. same)

  module _ (e : Error) (syncs : syncs_of lab'.syncs ≡ syncs_of lab.syncs) (handles : handles_of lab'.handles ≡ handles_of lab.handles) (names : names_of lab'.opens ≡ names_of lab.opens) (config : config_of lab'.wrapper ≡ config_of lab.wrapper) where
    -- a name that is open, which the store opened; what that made stays
    pub exclusive_held : (k : ℕ) → (names_of lab.opens).registered p n ≡ Some k → refusal_of e ≡ BlobAlreadyOpen p (encode_lower n) → IsOpenAllowed lab.wrapper p n first last None → stream_of lab'.wrapper ≡ drawn_left
        → ((next : ℕ) → next ≡ (directory (store_of lab.wrapper)).next → AreGiven next (handles_of lab.handles) → AreGiven (directory (store_of lab'.wrapper)).next (handles_of lab.handles))
        → ((f : Files) → IsFor lab.wrapper f → IsFor lab'.wrapper (after_open f p n first last)) → Performs lab (Open p n (Some (first, last))) (reply.Failed e) lab'
    exclusive_held k here is a stream given stands = performs lab lab' (Open p n (Some (first, last))) (reply.Failed e)
        (λ f s.
        let numbered : is_unnumbered (names_of lab.opens) p n ≡ false = held_false (names_of lab.opens) p n k here in
        let store : None ≡ open_denied_by lab.wrapper p n first last (directory (store_of lab.wrapper)) = not_memory (open_denied_by lab.wrapper p n first last (directory (store_of lab.wrapper))) (open_denied lab.wrapper p n first last None a) in
        let already : Some (BlobAlreadyOpen p (encode_lower n)) ≡ open_denial (state_of lab f) p n first last = ap (λ (x : Option Refusal). option_or x (Some (BlobAlreadyOpen p (encode_lower n)))) store ∙ denial_seen f s false numbered (Some k) here in
        exclusive_answers (state_of lab f) p n (first, last) (reply.Failed e) (stream_of lab'.wrapper)
        (refused_as e (open_denial (state_of lab f) p n first last) (inr (ap Some is ∙ already)) (stream_of lab'.wrapper) (left_of_open (state_of lab f) p n) (stream ∙ left_seen f false numbered) (state_of lab f)))
        (λ f s.
        let s' = stands f s.wrapper.files in
        subst (λ (r : Refusal). LabStandsFor lab' (record (exclusively_opened (state_of lab f) p n (first, last) (Some r)) { stream = stream_of lab'.wrapper })) (sym is)
        (record {
          wrapper = record { files = s'; config = config; stream = refl };
          names = names;
          handles = handles;
          syncs = syncs;
          given = subst (λ (d : Directory). AreGiven d.next (handles_of lab.handles)) s'.directory (given f.directory.next (sym (ap (λ (d : Directory). d.next) s.wrapper.files.directory)) s.given);
        }))

    module _ (stands : (f : Files) → IsFor lab.wrapper f → IsFor lab'.wrapper f) where
      -- all stays as it was
      stays : (r : Refusal) → ((q m : List ℕ) → r ≢ BlobAlreadyOpen q m) → refusal_of e ≡ r → (f : Files) → LabStandsFor lab (state_of lab f) → LabStandsFor lab' (record (exclusively_opened (state_of lab f) p n (first, last) (Some (refusal_of e))) { stream = stream_of lab'.wrapper })
      stays r other is f s =
          let same : exclusively_opened (state_of lab f) p n (first, last) (Some (refusal_of e)) ≡ state_of lab f = ap (λ (x : Refusal). exclusively_opened (state_of lab f) p n (first, last) (Some x)) is ∙ unopened (state_of lab f) p n first last r other in
          subst (λ (x : State). LabStandsFor lab' (record x { stream = stream_of lab'.wrapper })) (sym same)
          (record { wrapper = record { files = stands f s.wrapper.files; config = config; stream = refl }; names = names; handles = handles; syncs = syncs; given = s.given })

      memory_other : (q m : List ℕ) → Memory ≢ BlobAlreadyOpen q m
      memory_other q m x = cc

      exhausted_other : (q m : List ℕ) → GenerationsExhausted ≢ BlobAlreadyOpen q m
      exhausted_other q m x = cc

      pub exclusive_memory : refusal_of e ≡ Memory → Performs lab (Open p n (Some (first, last))) (reply.Failed e) lab'
      exclusive_memory is = performs lab lab' (Open p n (Some (first, last))) (reply.Failed e) (λ f s. inl (refl, ap Some is)) (λ f s. stays Memory memory_other is f s)

      -- no number is left, and the store wasn't asked
      pub exclusive_exhausted : refusal_of e ≡ GenerationsExhausted → IsExhausted (names_of lab.opens) p n → stream_of lab'.wrapper ≡ stream_of lab.wrapper → Performs lab (Open p n (Some (first, last))) (reply.Failed e) lab'
      exclusive_exhausted is out stream = performs lab lab' (Open p n (Some (first, last))) (reply.Failed e)
          (λ f s.
          let none : is_unnumbered (names_of lab.opens) p n ≡ true = exhausted_true (names_of lab.opens) p n out in
          exclusive_answers (state_of lab f) p n (first, last) (reply.Failed e) (stream_of lab'.wrapper)
          (refused_as e (open_denial (state_of lab f) p n first last) (inr (ap Some is ∙ denial_seen f s true none None out.free)) (stream_of lab'.wrapper) (left_of_open (state_of lab f) p n) (stream ∙ left_seen f true none) (state_of lab f)))
          (λ f s. stays GenerationsExhausted exhausted_other is f s)

      -- the store refused
      pub exclusive_declined : (IsExhausted (names_of lab.opens) p n → ⊥) → IsOpenAllowed lab.wrapper p n first last (Some (refusal_of e)) → stream_of lab'.wrapper ≡ drawn_left → Performs lab (Open p n (Some (first, last))) (reply.Failed e) lab'
      exclusive_declined some a stream =
          let numbered : is_unnumbered (names_of lab.opens) p n ≡ false = unexhausted (names_of lab.opens) p n some in
          ⊎_elim
          (λ (m : Some (refusal_of e) ≡ Some Memory). let is : refusal_of e ≡ Memory = cc in exclusive_memory is)
          (λ (is : Some (refusal_of e) ≡ open_denied_by lab.wrapper p n first last (directory (store_of lab.wrapper))).
          let other : (q m : List ℕ) → refusal_of e ≢ BlobAlreadyOpen q m = λ q m x. drawn_other (draw (config_of lab.wrapper).open_rate (stream_of lab.wrapper)).0 (directory (store_of lab.wrapper)) p n first last q m (sym is ∙ ap Some x) in
          performs lab lab' (Open p n (Some (first, last))) (reply.Failed e)
          (λ f s.
          let held = (names_of lab.opens).registered p n in
          let told : Some (refusal_of e) ≡ denial false (directory (store_of lab.wrapper)) held = subst (λ (x : Option Refusal). Some (refusal_of e) ≡ option_or x (refused_if (BlobAlreadyOpen p (encode_lower n)) (is_some held))) is refl in
          exclusive_answers (state_of lab f) p n (first, last) (reply.Failed e) (stream_of lab'.wrapper)
          (refused_as e (open_denial (state_of lab f) p n first last) (inr (told ∙ denial_seen f s false numbered held refl)) (stream_of lab'.wrapper) (left_of_open (state_of lab f) p n) (stream ∙ left_seen f false numbered) (state_of lab f)))
          (λ f s. stays (refusal_of e) other refl f s))
          (open_denied lab.wrapper p n first last (Some (refusal_of e)) a)
