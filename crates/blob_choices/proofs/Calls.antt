-- The reply to a call and the state after it are decided by the least and the greatest word.
use Rattle.std.proofs.Common.{◌≡◌, ℕ, ◌-◌, ◌^◌, ◌++◌, Bool, List, [], ◌∷◌, length, take, drop, set, Option, Some, None, is_some, is_none, refl, ap}
use Rattle.std.specs.Prelude.{◌&&◌, ◌==◌}
use Rattle.std.specs.Option.{option_or}
use Rattle.hex.specs.Hex.{encode_lower}
use Rattle.rand_core.specs.Stream.{Stream}
use Rattle.blob_model.specs.Draws.{Row, chosen_by, draw_rows}
use Rattle.blob_model.specs.Files.{after_crash, all_logged, all_needs, start_sync}
use Rattle.blob_model.specs.Rates.{Rate}
use Rattle.blob_header.specs.Refusals.{Refusal, Injected, GenerationsExhausted, BlobAlreadyOpen}
use Rattle.blob_memory.specs.Answers.{read_refusal, sync_refusal, open_refusal, partition_refusal, remove_refusal}
use Rattle.blob_draws.specs.Changes.{Changes, lacks_number, resize_changes, write_changes}
use Rattle.blob_draws.specs.Faults.{WriteFate, ResizeFate, draw, retention, write_fate, resize_fate}
use Rattle.blob_script.specs.Acts.{Ask, Read, Write, Resize, Size, Sync, StartSync, Act, Configure, Open, OpenLoose, Admit, Close, Through, Finish, Remove, Scan, Crash, Reopen}
use Rattle.blob_script.specs.Told as told
use Rattle.blob_script.specs.Told.{Told}
use Rattle.blob_lab_model.specs.After.{after_act, after_ask, held_after}
use Rattle.blob_lab_model.specs.Answers.{answer, kept_at, through, told_opened, unless_denied, unless_drawn}
use Rattle.blob_lab_model.specs.Denials.{fate_denial, reaching_denial, refused_if}
use Rattle.blob_lab_model.specs.States.{State, Held}
use Rattle.blob_choices.specs.Decided.{IsDecided}
use Rattle.blob_choices.specs.Outcomes.{HasNoPartialResize, Outcome, outcome, with_stream}
use Rattle.blob_choices.proofs.Deciding.{decided_none, decided_same, decided_map, decided_if}
use Rattle.blob_choices.proofs.Draws.{decided_drawn}
use Rattle.blob_choices.proofs.Fates.{decided_draw, decided_write, decided_resize}

decided_unless : (v : State) (rate : Option Rate) (refusal : Option Refusal) (otherwise : Told) → IsDecided (λ s. unless_drawn (with_stream v s) rate refusal otherwise)
decided_unless v rate refusal otherwise = decided_map (draw rate) (λ b. unless_denied (option_or (refused_if Injected b) refusal) otherwise) (decided_draw rate)

-- Through a handle.

abbrev asked_outcome : State → ℕ → Option Held → Ask → Stream → Outcome × Stream
asked_outcome v number slot ask s =
    let a = through (with_stream v s) slot ask in
    ((a.0, λ refusal left. record (after_ask (with_stream v s) number slot ask refusal) { stream = left }), a.1)

-- the state after these changes of a handle and its blob
abbrev after_changes : State → ℕ → Held → Changes → Stream → State
after_changes v number h changes left =
    record v {
      files = all_logged v.files h.place (changes.entries v.files.next_write);
      handles = set v.handles number (Some (record h { live = changes.live h.live; size = changes.size h.size }));
      stream = left;
    }

abbrev written : State → ℕ → Held → ℕ → List ℕ → Bool → WriteFate → Outcome
written v number h offset bytes sync fate =
    let unnumbered = refused_if GenerationsExhausted (lacks_number (is_some (retention v.config.write_rate)) v.files.next_write bytes) in (
      unless_denied (fate_denial fate v.files.directory h.place unnumbered sync offset bytes) told.Done,
      λ refusal left. after_changes v number h (write_changes fate (retention v.config.write_rate) sync offset bytes refusal) left,
    )

abbrev resized : State → ℕ → Held → ℕ → ResizeFate → Outcome
resized v number h len fate = (unless_denied (reaching_denial fate h.place len) told.Done, λ refusal left. after_changes v number h (resize_changes fate len refusal) left)

abbrev denied_by : State → Held → Bool → Option Refusal
denied_by v h fails =
    let unnumbered = refused_if GenerationsExhausted (v.files.next_marker == 2 ^ 64 - 1) in
    option_or (refused_if Injected fails) (option_or unnumbered (sync_refusal v.files.directory h.place))

abbrev begun_by : State → ℕ → Held → Bool → Option Refusal → Stream → State
begun_by v number h fails None left =
    record v {
      files = elim (denied_by v h fails) [ None ↦ start_sync v.files h.place h.live | Some refusal ↦ v.files ];
      handles = set v.handles number (Some (held_after v h StartSync None));
      syncs = v.syncs ++ Some (record { outcome = denied_by v h fails }) ∷ [];
      stream = left;
    }
begun_by v number h fails (Some refusal) left = record (after_ask v number (Some h) StartSync (Some refusal)) { stream = left }

begins : (v : State) (number : ℕ) (h : Held) (s : Stream) (refusal : Option Refusal) (left : Stream)
    → begun_by v number h (draw v.config.sync_rate s).0 refusal left ≡ record (after_ask (with_stream v s) number (Some h) StartSync refusal) { stream = left }
begins v number h s None left = refl
begins v number h s (Some refusal) left = refl

decided_asked : (v : State) (number : ℕ) (slot : Option Held) (ask : Ask) → HasNoPartialResize v.config → IsDecided (asked_outcome v number slot ask)
decided_asked v number None ask none = decided_none (told.NoHandle, λ refusal left. with_stream v left)
decided_asked v number (Some h) (Read offset len) none =
    decided_map (λ s. unless_drawn (with_stream v s) v.config.read_rate (read_refusal h.place h.live offset len) (told.Bytes (take len (drop offset h.live))))
    (λ t. (t, λ refusal left. record (after_ask v number (Some h) (Read offset len) refusal) { stream = left }))
    (decided_unless v v.config.read_rate (read_refusal h.place h.live offset len) (told.Bytes (take len (drop offset h.live))))
decided_asked v number (Some h) (Write offset bytes sync) none =
    decided_map (write_fate v.config sync offset bytes) (written v number h offset bytes sync) (decided_write v.config sync offset bytes)
decided_asked v number (Some h) (Resize len) none =
    decided_map (resize_fate v.config.resize_rate h.size len) (resized v number h len) (decided_resize v.config.resize_rate h.size len none)
decided_asked v number (Some h) Size none = decided_none (told.Size h.size, λ refusal left. record (after_ask v number (Some h) Size refusal) { stream = left })
decided_asked v number (Some h) Sync none =
    decided_map (λ s. unless_drawn (with_stream v s) v.config.sync_rate (sync_refusal v.files.directory h.place) told.Done)
    (λ t. (t, λ refusal left. record (after_ask v number (Some h) Sync refusal) { stream = left }))
    (decided_unless v v.config.sync_rate (sync_refusal v.files.directory h.place) told.Done)
decided_asked v number (Some h) StartSync none =
    decided_same
    (λ s. let d = draw v.config.sync_rate s in ((told.Started (length v.syncs), begun_by v number h d.0), d.1))
    (asked_outcome v number (Some h) StartSync)
    (λ s. ap (λ (next : Option Refusal → Stream → State). ((told.Started (length v.syncs), next), (draw v.config.sync_rate s).1)) (λ i refusal left. begins v number h s refusal left i))
    (decided_map (draw v.config.sync_rate) (λ fails. (told.Started (length v.syncs), begun_by v number h fails)) (decided_draw v.config.sync_rate))

-- A crash.

abbrev crashed_by : State → List Row → Option Refusal → Stream → State
crashed_by v rows None left = record v { files = after_crash v.files (chosen_by rows); stream = left }
crashed_by v rows (Some refusal) left = with_stream v left

crashes : (v : State) (s : Stream) (refusal : Option Refusal) (left : Stream) → crashed_by v (draw_rows s (all_needs v.files.log)).0 refusal left ≡ after_act (with_stream v s) Crash refusal left
crashes v s None left = refl
crashes v s (Some refusal) left = refl

decided_crash : (v : State) → IsDecided (outcome v Crash)
decided_crash v =
    decided_same
    (λ s. let d = draw_rows s (all_needs v.files.log) in ((told.Crashed d.0, crashed_by v d.0), d.1))
    (outcome v Crash)
    (λ s. ap (λ (next : Option Refusal → Stream → State). ((told.Crashed (draw_rows s (all_needs v.files.log)).0, next), (draw_rows s (all_needs v.files.log)).1)) (λ i refusal left. crashes v s refusal left i))
    (decided_map (λ s. draw_rows s (all_needs v.files.log)) (λ rows. (told.Crashed rows, crashed_by v rows)) (decided_drawn (all_needs v.files.log)))

-- The other calls.

-- the state after them needs no draw
decided_still : (v : State) (act : Act) → IsDecided (λ s. answer (with_stream v s) act)
    → ((s : Stream) (refusal : Option Refusal) (left : Stream) → after_act v act refusal left ≡ after_act (with_stream v s) act refusal left) → IsDecided (outcome v act)
decided_still v act answers same =
    decided_same (λ s. let a = answer (with_stream v s) act in ((a.0, after_act v act), a.1)) (outcome v act)
    (λ s. ap (λ (next : Option Refusal → Stream → State). (((answer (with_stream v s) act).0, next), (answer (with_stream v s) act).1)) (λ i refusal left. same s refusal left i))
    (decided_map (λ s. answer (with_stream v s) act) (λ t. (t, after_act v act)) answers)

open_stays : (v : State) (p n : List ℕ) (versions : ℕ × ℕ) (s : Stream) (refusal : Option Refusal) (left : Stream)
    → after_act v (Open p n (Some versions)) refusal left ≡ after_act (with_stream v s) (Open p n (Some versions)) refusal left
open_stays v p n versions s None left = refl
open_stays v p n versions s (Some (BlobAlreadyOpen q m)) left = refl
open_stays v p n versions s (Some refusal) left = refl

loose_stays : (v : State) (p n : List ℕ) (versions : ℕ × ℕ) (s : Stream) (refusal : Option Refusal) (left : Stream)
    → after_act v (OpenLoose p n (Some versions)) refusal left ≡ after_act (with_stream v s) (OpenLoose p n (Some versions)) refusal left
loose_stays v p n versions s None left = refl
loose_stays v p n versions s (Some refusal) left = refl

removal_stays : (v : State) (p : List ℕ) (n : Option (List ℕ)) (s : Stream) (refusal : Option Refusal) (left : Stream)
    → after_act v (Remove p n) refusal left ≡ after_act (with_stream v s) (Remove p n) refusal left
removal_stays v p n s None left = refl
removal_stays v p n s (Some refusal) left = refl

decided_open : (v : State) (p n : List ℕ) (versions : ℕ × ℕ) → IsDecided (λ s. answer (with_stream v s) (Open p n (Some versions)))
decided_open v p n versions =
    let already = refused_if (BlobAlreadyOpen p (encode_lower n)) (is_some (v.names.registered p n)) in
    let refusal = option_or (open_refusal v.files.directory p n versions.0 versions.1) already in
    let gone = is_none (v.names.registered p n) && (v.names.next == 2 ^ 64 - 1) in
    decided_if gone (λ s. (told.Failed GenerationsExhausted, s)) (λ s. unless_drawn (with_stream v s) v.config.open_rate refusal (told_opened v p n versions))
    (λ _. decided_none (told.Failed GenerationsExhausted)) (λ _. decided_unless v v.config.open_rate refusal (told_opened v p n versions))

pub decided_call : (v : State) (act : Act) → HasNoPartialResize v.config → IsDecided (outcome v act)
decided_call v (Configure config) none = decided_none (told.Done, after_act v (Configure config))
decided_call v (Open p n None) none = decided_none (told.EmptyRange, after_act v (Open p n None))
decided_call v (Open p n (Some versions)) none = decided_still v (Open p n (Some versions)) (decided_open v p n versions) (open_stays v p n versions)
decided_call v (OpenLoose p n None) none = decided_none (told.EmptyRange, after_act v (OpenLoose p n None))
decided_call v (OpenLoose p n (Some versions)) none =
    decided_still v (OpenLoose p n (Some versions)) (decided_unless v v.config.open_rate (open_refusal v.files.directory p n versions.0 versions.1) (told_opened v p n versions)) (loose_stays v p n versions)
decided_call v (Admit p n) none = decided_none (told.Done, after_act v (Admit p n))
decided_call v (Close number) none = decided_none ((answer v (Close number)).0, after_act v (Close number))
decided_call v (Through number ask) none = decided_asked v number (kept_at v.handles number) ask none
decided_call v (Finish number) none = decided_none ((answer v (Finish number)).0, after_act v (Finish number))
decided_call v (Remove p n) none = decided_still v (Remove p n) (decided_unless v v.config.remove_rate (remove_refusal v.files.directory p n) told.Done) (removal_stays v p n)
decided_call v (Scan p) none =
    decided_still v (Scan p) (decided_unless v v.config.scan_rate (partition_refusal v.files.directory p) (told.Names (λ n. is_some (v.files.directory.file p n)))) (λ s refusal left. refl)
decided_call v Crash none = decided_crash v
decided_call v Reopen none = decided_none (told.Done, after_act v Reopen)
