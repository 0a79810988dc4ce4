-- In each reached state, incarnations have numbers below the next one and partitions with valid names, and current
-- handles track the length of their live bytes.
use Rattle.std.proofs.Common.{◌≡◌, ⊎_elim, ℕ, ◌<◌, Bool, true, false, cond, List, [], ◌∷◌, ◌++◌, set, length, Option, Some, None, IfSome, refl, sym, ap, ◌∙◌, subst, arith}
use Rattle.std.specs.Prelude.{All, option_map, option_and_then, slice_get}
use Rattle.std.specs.Str.{bytes_eq}
use Rattle.std.specs.Cmp.Lexicographic.{bytes_decides}
use Rattle.std.proofs.lemmas.Bool.{cond_both, cases_Bool, false≢true}
use Rattle.std.proofs.lemmas.Option.{IfSome_then, get_or_from_slice_get, slice_get_within}
use Rattle.std.proofs.lemmas.List.Elements.{All-nil, All-push, All-set, All-weaker}
use Rattle.rand_core.specs.Stream.{Stream}
use Rattle.blob_header.specs.declared.layout.Layout.{Layout}
use Rattle.blob_model.specs.Directory.{Directory, File, Raw, Incarnation, current, is_current, with_file, directory_without}
use Rattle.blob_model.specs.Files.{Files, with_opening, after_open, admit, raw_again, durable_at}
use Rattle.blob_model.specs.Opening.{Opening, Continues, Begins, Declines, opening}
use Rattle.blob_header.specs.PartitionName.{is_partition_name}
use Rattle.blob_model.specs.Places.{Place}
use Rattle.blob_header.specs.Refusals.{Refusal, BlobAlreadyOpen}
use Rattle.blob_draws.specs.declared.config.Config.{Config}
use Rattle.blob_script.specs.declared.call.Call.{Call}
use Rattle.blob_script.specs.declared.reply.Reply.{Reply}
use Rattle.blob_script.specs.Acts.{Ask, Size, Act, Configure, Open, OpenLoose, Admit, Close, Through, Finish, Remove, Scan, Crash, Reopen, act_of}
use Rattle.blob_lab_model.specs.After.{after_act, after_ask, files_after, held_after}
use Rattle.blob_lab_model.specs.Steps.{with_images}
use Rattle.blob_lab_model.specs.Answers.{Answers, IsAnswer, answer, through, may_grow, kept_at}
use Rattle.blob_opens.specs.OpenNames.{Registration}
use Rattle.blob_lab_model.specs.Reached.{Reached}
use Rattle.blob_lab_model.specs.Runs.{LeadsTo}
use Rattle.blob_lab_model.specs.Scripted.{Words}
use Rattle.blob_lab_model.specs.States.{State, Held, Image, empty_directory, with_image, start, held_on}
use Rattle.blob_script.specs.Told as told
use Rattle.blob_script.specs.Told.{refused_by}
use Rattle.blob_lab_model.proofs.Exclusive.{current_of, exclusive_start}
use Rattle.blob_lab_model.proofs.Sizes.{asked_sized}
use Rattle.blob_lab_model.proofs.Stale.{AreCurrentGiven, Ages, ages, asked_directory, admitted_directory, place_after}
use Rattle.blob_lab_model.proofs.ValidOpens.{made, exclusive_valid, loose_valid}

-- Files.

-- the partition of an incarnation has a valid name
abbrev IsValid : List ℕ → Option File → Type 0
IsValid p None = Unit {0}
IsValid p (Some (Raw bytes)) = Unit {0}
IsValid p (Some (Incarnation number layout version)) = is_partition_name p ≡ true

abbrev AreValid : Directory → Type 0
AreValid d = (p n : List ℕ) → IsValid p (d.file p n)

valid_with : (f : List ℕ → List ℕ → Option File) (p n q m : List ℕ) (x : Option File) → IsValid p x → IsValid q (f q m) → IsValid q (with_file f p n x q m)
valid_with f p n q m x new old = cond_both (bytes_eq p q) (cond (bytes_eq n m) x (f q m)) (f q m) (IsValid q)
    (λ same. cond_both (bytes_eq n m) x (f q m) (IsValid q) (λ _. subst (λ (r : List ℕ). IsValid r x) ((bytes_decides p q).0 same) new) (λ _. old))
    (λ _. old)

-- an open that creates an incarnation has a valid name
abbrev begins : Opening → Bool
begins (Begins layout version live) = true
begins (Continues number layout version) = false
begins (Declines refusal) = false

valid_opened : (f : Files) (p n : List ℕ) (found : Opening) → (begins found ≡ true → is_partition_name p ≡ true) → AreValid f.directory → AreValid (with_opening f p n found).directory
valid_opened f p n (Continues number layout version) name valid = valid
valid_opened f p n (Begins layout version live) name valid = λ q m. valid_with f.directory.file p n q m (Some (Incarnation f.directory.next layout version)) (name refl) (valid q m)
valid_opened f p n (Declines refusal) name valid = valid

valid_removed : (d : Directory) (p : List ℕ) (n : Option (List ℕ)) → AreValid d → AreValid (directory_without d p n)
valid_removed d p (Some n) valid = λ q m. valid_with d.file p n q m None tt (valid q m)
valid_removed d p None valid = λ q m. cond_both (bytes_eq p q) None (d.file q m) (IsValid q) (λ _. tt) (λ _. valid q m)

-- a rebuilt store has raw files only
valid_again : (bytes : Place → List ℕ) (p n : List ℕ) (file : Option File) → IsValid p (raw_again bytes p n file)
valid_again bytes p n None = tt
valid_again bytes p n (Some (Raw x)) = tt
valid_again bytes p n (Some (Incarnation number layout version)) = tt

valid_by : (d e : Directory) → e ≡ d → AreValid d → AreValid e
valid_by d e same valid = subst AreValid (sym same) valid

-- images are raw
valid_images : (d : Directory) (images : List Image) → AreValid d → AreValid (with_images d images)
valid_images d [] valid = valid
valid_images d (i ∷ is) valid = valid_images (with_image d i) is (λ q m. valid_with d.file i.0 i.1 q m (Some (Raw i.2)) tt (valid q m))

-- Handles.

-- the incarnation of a handle has a number below the next one, and the handle tracks its length while it is current
pub record IsTracked (d : Directory) (h : Held) : Type 0 where
  pub given : h.place.number < d.next
  pub sized : is_current d h.place ≡ true → h.size ≡ length h.live

abbrev Slot : Directory → Option Held → Type 0
Slot d slot = IfSome slot (IsTracked d)

abbrev AreTracked : Directory → List (Option Held) → Type 0
AreTracked d handles = All (Slot d) handles

-- a handle that isn't current doesn't become current
tracked_later : (d e : Directory) → Ages d e → (h : Held) → IsTracked d h → IsTracked e h
tracked_later d e aged h t = record {
  given = omega (arith, t.given, aged.next);
  sized = λ now. ⊎_elim
      (λ was. t.sized was)
      (λ stale. absurd (false≢true (sym (aged.stale h.place t.given stale) ∙ now)))
      (cases_Bool (is_current d h.place));
}

all_later : (d e : Directory) (handles : List (Option Held)) → Ages d e → AreTracked d handles → AreTracked e handles
all_later d e handles aged all = All-weaker (Slot d) (Slot e) (λ slot t. IfSome_then slot t (tracked_later d e aged)) handles all

-- a new handle
tracked_on : (d : Directory) (f : Files) (registration : Option Registration) (p n : List ℕ) → AreCurrentGiven d → Slot d (option_map (held_on f registration) (current d p n))
tracked_on d f registration p n given = go (current d p n) (λ o here. given o (current_of d p n o here).current) where
  go : (slot : Option Place) → ((o : Place) → slot ≡ Some o → o.number < d.next) → Slot d (option_map (held_on f registration) slot)
  go None below = tt
  go (Some o) below = record { given = below o refl; sized = λ now. refl }

-- the handle with this number
kept_tracked : (d : Directory) (handles : List (Option Held)) (number : ℕ) → AreTracked d handles → IfSome (kept_at handles number) (IsTracked d)
kept_tracked d handles number all = go (slice_get handles number) refl where
  go : (slot : Option (Option Held)) → slice_get handles number ≡ slot → IfSome (option_and_then (λ s. s) slot) (IsTracked d)
  go None e = tt
  go (Some s) e = subst (Slot d) (get_or_from_slice_get handles number s None e) (all number None (slice_get_within handles number s e))

-- States.

pub record Holds (v : State) : Type 0 where
  pub valid : AreValid v.files.directory
  pub given : AreCurrentGiven v.files.directory
  pub handles : AreTracked v.files.directory v.handles

-- a call that doesn't change the handles
holds_same : (v w : State) → Holds v → Ages v.files.directory w.files.directory → AreValid w.files.directory → w.handles ≡ v.handles → Holds w
holds_same v w h aged valid same = record {
  valid = valid;
  given = aged.given h.given;
  handles = subst (AreTracked w.files.directory) (sym same) (all_later v.files.directory w.files.directory v.handles aged h.handles);
}

opened_valid : (v : State) (p n : List ℕ) (first last : ℕ) → Holds v → is_partition_name p ≡ true → AreValid (after_open v.files p n first last).directory
opened_valid v p n first last h name = valid_opened v.files p n (opening p n (v.files.directory.file p n) first last) (λ _. name) h.valid

-- a new handle
holds_more : (v w : State) (p n : List ℕ) (registration : Option Registration) → Holds v → Ages v.files.directory w.files.directory → AreValid w.files.directory
    → w.handles ≡ v.handles ++ option_map (held_on w.files registration) (current w.files.directory p n) ∷ [] → Holds w
holds_more v w p n registration h aged valid more = record {
  valid = valid;
  given = aged.given h.given;
  handles = subst (AreTracked w.files.directory) (sym more)
      (All-push (Slot w.files.directory) v.handles (option_map (held_on w.files registration) (current w.files.directory p n))
      (all_later v.files.directory w.files.directory v.handles aged h.handles)
      (tracked_on w.files.directory w.files registration p n (aged.given h.given)));
}

module _ (v : State) (rest : Stream) (h : Holds v) where
  abbrev d : Directory
  d = v.files.directory

  holds_exclusive : (p n : List ℕ) (versions : ℕ × ℕ) (refusal : Option Refusal) → (made refusal ≡ true → is_partition_name p ≡ true) → Holds (after_act v (Open p n (Some versions)) refusal rest)
  holds_exclusive p n versions None valid =
      holds_more v (after_act v (Open p n (Some versions)) None rest) p n (Some (record { partition = p; name = n; number = v.names.next })) h
      (ages v (Open p n (Some versions)) None rest)
      (valid_by (after_open v.files p n versions.0 versions.1).directory (admit (after_open v.files p n versions.0 versions.1) p n).directory
      (admitted_directory (after_open v.files p n versions.0 versions.1) p n) (opened_valid v p n versions.0 versions.1 h (valid refl)))
      refl
  holds_exclusive p n versions (Some (BlobAlreadyOpen q m)) valid =
      holds_same v (after_act v (Open p n (Some versions)) (Some (BlobAlreadyOpen q m)) rest) h (ages v (Open p n (Some versions)) (Some (BlobAlreadyOpen q m)) rest)
      (opened_valid v p n versions.0 versions.1 h (valid refl)) refl
  holds_exclusive p n versions (Some refusal) valid =
      holds_same v (after_act v (Open p n (Some versions)) (Some refusal) rest) h (ages v (Open p n (Some versions)) (Some refusal) rest) h.valid refl

  holds_loose : (p n : List ℕ) (versions : ℕ × ℕ) (refusal : Option Refusal) → (made refusal ≡ true → is_partition_name p ≡ true) → Holds (after_act v (OpenLoose p n (Some versions)) refusal rest)
  holds_loose p n versions None valid =
      holds_more v (after_act v (OpenLoose p n (Some versions)) None rest) p n None h (ages v (OpenLoose p n (Some versions)) None rest) (opened_valid v p n versions.0 versions.1 h (valid refl)) refl
  holds_loose p n versions (Some refusal) valid =
      holds_same v (after_act v (OpenLoose p n (Some versions)) (Some refusal) rest) h (ages v (OpenLoose p n (Some versions)) (Some refusal) rest) h.valid refl

  holds_removed : (p : List ℕ) (n : Option (List ℕ)) (refusal : Option Refusal) → Holds (after_act v (Remove p n) refusal rest)
  holds_removed p n None = holds_same v (after_act v (Remove p n) None rest) h (ages v (Remove p n) None rest) (valid_removed d p n h.valid) refl
  holds_removed p n (Some refusal) = holds_same v (after_act v (Remove p n) (Some refusal) rest) h (ages v (Remove p n) (Some refusal) rest) h.valid refl

  holds_crashed : (refusal : Option Refusal) → Holds (after_act v Crash refusal rest)
  holds_crashed None = holds_same v (after_act v Crash None rest) h (ages v Crash None rest) h.valid refl
  holds_crashed (Some refusal) = holds_same v (after_act v Crash (Some refusal) rest) h (ages v Crash (Some refusal) rest) h.valid refl

  closed_at : (number : ℕ) (refusal : Option Refusal) → Holds (after_act v (Close number) refusal rest)
  closed_at number refusal = record { valid = h.valid; given = h.given; handles = All-set (Slot d) v.handles number None tt h.handles }

  finished_at : (number : ℕ) (refusal : Option Refusal) → Holds (after_act v (Finish number) refusal rest)
  finished_at number refusal = record { valid = h.valid; given = h.given; handles = h.handles }

  -- a call through a handle changes only that handle
  asked_at : (number : ℕ) (slot : Option Held) (ask : Ask) (grows : Bool) (reply : Reply) (left : Stream) → IfSome slot (IsTracked d) → IsAnswer grows (through v slot ask) reply left
      → Holds (record (after_ask v number slot ask (refused_by reply)) { stream = rest })
  asked_at number None ask grows reply left tracked a = record { valid = h.valid; given = h.given; handles = h.handles }
  asked_at number (Some held) ask grows reply left tracked a =
      let held' = held_after v held ask (refused_by reply) in
      let now : IsTracked d held' = record {
        given = subst (λ (o : Place). o.number < d.next) (sym (place_after v held ask (refused_by reply))) tracked.given;
        sized = λ current. asked_sized v held ask reply grows left a (sym (ap (is_current d) (place_after v held ask (refused_by reply))) ∙ current) (tracked.sized (sym (ap (is_current d) (place_after v held ask (refused_by reply))) ∙ current));
      } in
      let same : (files_after v held ask (refused_by reply)).directory ≡ d = asked_directory v held ask (refused_by reply) in
      record {
        valid = valid_by d (files_after v held ask (refused_by reply)).directory same h.valid;
        given = subst AreCurrentGiven (sym same) h.given;
        handles = subst (λ (e : Directory). AreTracked e (set v.handles number (Some held'))) (sym same) (All-set (Slot d) v.handles number (Some held') now h.handles);
      }

-- a call with a possible reply
pub holds_after : (v : State) (act : Act) (reply : Reply) (left : Stream) → Holds v → Answers v act reply left → Holds (after_act v act (refused_by reply) left)
holds_after v (Configure config) reply left h a = holds_same v (after_act v (Configure config) (refused_by reply) left) h (ages v (Configure config) (refused_by reply) left) h.valid refl
holds_after v (Open p n None) reply left h a = holds_same v (after_act v (Open p n None) (refused_by reply) left) h (ages v (Open p n None) (refused_by reply) left) h.valid refl
holds_after v (Open p n (Some versions)) reply left h a = holds_exclusive v left h p n versions (refused_by reply) (exclusive_valid v p n versions reply left a)
holds_after v (OpenLoose p n None) reply left h a = holds_same v (after_act v (OpenLoose p n None) (refused_by reply) left) h (ages v (OpenLoose p n None) (refused_by reply) left) h.valid refl
holds_after v (OpenLoose p n (Some versions)) reply left h a = holds_loose v left h p n versions (refused_by reply) (loose_valid v p n versions reply left a)
holds_after v (Admit p n) reply left h a =
    holds_same v (after_act v (Admit p n) (refused_by reply) left) h (ages v (Admit p n) (refused_by reply) left)
    (valid_by v.files.directory (admit v.files p n).directory (admitted_directory v.files p n) h.valid) refl
holds_after v (Close number) reply left h a = closed_at v left h number (refused_by reply)
holds_after v (Through number ask) reply left h a =
    asked_at v left h number (kept_at v.handles number) ask (may_grow v (Through number ask)) reply left (kept_tracked v.files.directory v.handles number h.handles) a
holds_after v (Finish number) reply left h a = finished_at v left h number (refused_by reply)
holds_after v (Remove p n) reply left h a = holds_removed v left h p n (refused_by reply)
holds_after v (Scan p) reply left h a = holds_same v (after_act v (Scan p) (refused_by reply) left) h (ages v (Scan p) (refused_by reply) left) h.valid refl
holds_after v Crash reply left h a = holds_crashed v left h (refused_by reply)
holds_after v Reopen reply left h a =
    holds_same v (after_act v Reopen (refused_by reply) left) h (ages v Reopen (refused_by reply) left)
    (λ p n. valid_again (durable_at v.files) p n (v.files.directory.file p n)) refl

-- calls one after another
pub holds_run : (v : State) (calls : List Call) (replies : List Reply) (w : State) → Holds v → LeadsTo v calls replies w → Holds w
holds_run v [] [] w h run = subst Holds run h
holds_run v [] (reply ∷ replies) w h run = absurd run
holds_run v (call ∷ calls) [] w h run = absurd run
holds_run v (call ∷ calls) (reply ∷ replies) w h (left, a, run) =
    holds_run (after_act v (act_of call) (refused_by reply) left) calls replies w (holds_after v (act_of call) reply left h a) run

holds_start : (images : List Image) (words : Words) (config : Config) → Holds (start images words config)
holds_start images words config = record {
  valid = valid_images empty_directory images (λ p n. tt);
  given = (exclusive_start images words config).current;
  handles = All-nil (Slot (with_images empty_directory images));
}

pub holds_reached : (v : State) → Reached v → Holds v
holds_reached v (images, words, config, calls, replies, run) = holds_run (start images words config) calls replies v (holds_start images words config) run

-- a current handle's size is the length of its live bytes
pub current_sized : (v : State) (number : ℕ) (h : Held) → Reached v → kept_at v.handles number ≡ Some h → is_current v.files.directory h.place ≡ true → h.size ≡ length h.live
current_sized v number h reached here =
    let tracked : IfSome (Some h) (IsTracked v.files.directory) = subst (Slot v.files.directory) here (kept_tracked v.files.directory v.handles number (holds_reached v reached).handles) in
    tracked.sized

-- and `Size` returns it
pub current_told : (v : State) (number : ℕ) (h : Held) → Reached v → kept_at v.handles number ≡ Some h → is_current v.files.directory h.place ≡ true → (answer v (Through number Size)).0 ≡ told.Size (length h.live)
current_told v number h reached here now =
    ap (λ (slot : Option Held). (through v slot Size).0) here ∙ ap told.Size (current_sized v number h reached here now)

-- an incarnation's partition has a valid name
pub reached_valid : (v : State) (p n : List ℕ) (number : ℕ) (layout : Layout) (version : ℕ) → Reached v → v.files.directory.file p n ≡ Some (Incarnation number layout version) → is_partition_name p ≡ true
reached_valid v p n number layout version reached held = subst (IsValid p) held ((holds_reached v reached).valid p n)
