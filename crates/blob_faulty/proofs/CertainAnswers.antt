-- What a wrapper may return if its draws are certain.
use Rattle.std.proofs.Common.{◌≡◌, inl, inr, ℕ, ◌-◌, ◌^◌, ◌<◌, Bool, true, false, ◌==◌, ◌&&◌, min, max, nat_lt, List, length, cond, Option, Some, None, refl, sym, ◌∙◌, ap, subst, arith}
use Rattle.std.specs.Prelude.{is_some, MatchBool, ◌↔◌, if◌then◌else◌}
use Rattle.std.proofs.lemmas.Bool.{cond-true, cond-false}
use Rattle.std.proofs.lemmas.Bool.Decides.{nat_tests}
use Rattle.rand_core.specs.Stream.{Stream}
use Rattle.blob_model.specs.Live.{is_idle}
use Rattle.blob_model.specs.declared.mode.PartialWriteMode.{PartialWriteMode}
use Rattle.blob_model.specs.Rates.{Rate, sample}
use Rattle.blob_header.specs.Refusals.{Refusal, OffsetOverflow, Injected}
use Rattle.blob_model.specs.Runs.{runs}
use Rattle.blob_draws.specs.declared.config.Config.{Config}
use Rattle.blob_draws.specs.declared.config.ResizeConfig.{ResizeConfig}
use Rattle.blob_faulty.specs.AnswerLaws.{injected_none, numbered_none, memory_none, uncounted_none}
use Rattle.blob_draws.specs.Changes.{lacks_number}
use Rattle.blob_draws.specs.Answers.{Allowed, injected_or, injected_for, or_memory, exhausted_or, allows_runs, allows_done, allows_fate, allows_write, allows_resize, allows_start}
use Rattle.blob_faulty.specs.Certain.{IsNever, IsAlways, resize_failure}
use Rattle.blob_draws.specs.Fates.{write_failure, has_uncounted_end}
use Rattle.blob_draws.specs.Faults.{draw, retention, WriteFate, Done, Unsynced, Failed, failure, drawn_fate, ResizeFate, Resizes, Stays, Reaches, partly, resize_fate, size_between}

-- The draws.

is_zero : (n : ℕ) → n ≡ 0 → (n == 0) ≡ true
is_zero n h = ap (λ (k : ℕ). k == 0) h

isnt_zero : (n : ℕ) → 0 < n → (n == 0) ≡ false
isnt_zero n h = grind (arith, nat_tests)

is_same : (n m : ℕ) → n ≡ m → (n == m) ≡ true
is_same n m h = grind (arith, nat_tests)

pub never_drawn : (rate : Option Rate) (stream : Stream) → IsNever rate → draw rate stream ≡ (false, stream)
unfolding sample
never_drawn None stream never = refl
never_drawn (Some rate) stream never = cond-true (rate.numerator == 0) _ _ (is_zero rate.numerator never)

pub always_drawn : (rate : Option Rate) (stream : Stream) → IsAlways rate → draw rate stream ≡ (true, stream)
unfolding sample
always_drawn None stream always = absurd always
always_drawn (Some rate) stream always = cond-false (rate.numerator == 0) _ _ (isnt_zero rate.numerator always.0) ∙ cond-true (rate.numerator == rate.denominator) _ _ (is_same rate.numerator rate.denominator always.1)

never_resized : (config : Option ResizeConfig) (size len : ℕ) (stream : Stream) → IsNever (resize_failure config) → (resize_fate config size len stream).0 ≡ Resizes false
never_resized None size len stream never = refl
never_resized (Some c) size len stream never =
    let drawn : sample c.failure_rate stream ≡ (false, stream) = never_drawn (Some c.failure_rate) stream never in
    ap (λ (d : Bool × Stream). (cond d.0 (partly size len (sample c.partial_rate d.1)) (Resizes (sample c.failure_rate d.1).0, (sample c.failure_rate d.1).1)).0) drawn ∙ ap (λ (d : Bool × Stream). Resizes d.0) drawn

abbrev is_resized : ResizeFate → Bool
is_resized (Resizes survives) = true
is_resized Stays = false
is_resized (Reaches size) = false

either_fails : (b : Bool) (r : ℕ × Stream) (s : Stream) → is_resized (cond {A = ResizeFate × Stream} b (Reaches r.0, r.1) (Stays, s)).0 ≡ false
either_fails true r s = refl
either_fails false r s = refl

always_unresized : (config : Option ResizeConfig) (size len : ℕ) (stream : Stream) → IsAlways (resize_failure config) → is_resized (resize_fate config size len stream).0 ≡ false
always_unresized None size len stream always = absurd always
always_unresized (Some c) size len stream always =
    let d = sample c.partial_rate stream in
    ap (λ (d : Bool × Stream). is_resized (cond d.0 (partly size len (sample c.partial_rate d.1)) (Resizes (sample c.failure_rate d.1).0, (sample c.failure_rate d.1).1)).0) (always_drawn (Some c.failure_rate) stream always)
    ∙ either_fails (d.0 && nat_lt 1 (max size len - min size len)) (size_between (min size len) (max size len) d.1) d.1

-- the outcome and the rest of the stream after the draws of a write that doesn't fail
abbrev synced_or_not : Bool × Stream → WriteFate × Stream
synced_or_not d = (if d.0 then Unsynced else Done, d.1)

abbrev not_failed : Config → Bool → Stream → WriteFate × Stream
not_failed config sync stream = if sync then synced_or_not (draw config.sync_rate stream) else (Done, stream)

never_failed : (config : Config) (sync : Bool) (offset len : ℕ) (stream : Stream) → IsNever (write_failure config.write_rate) → (sync ≡ true → IsNever config.sync_rate) → (drawn_fate config sync offset len stream).0 ≡ Done
never_failed config sync offset len stream no_write no_sync =
    ap (λ (d : Bool × Stream). (cond d.0 (failure (retention config.write_rate) offset len d.1) (not_failed config sync d.1)).0) (never_drawn (write_failure config.write_rate) stream no_write) ∙ done sync no_sync
  where
    done : (s : Bool) → (s ≡ true → IsNever config.sync_rate) → (not_failed config s stream).0 ≡ Done
    done true never = ap (λ (d : Bool × Stream). (synced_or_not d).0) (never_drawn config.sync_rate stream (never refl))
    done false never = refl

abbrev is_done : WriteFate → Bool
is_done Done = true
is_done fate = false

failed_not : (kept : Option (PartialWriteMode × Rate)) (offset len : ℕ) (stream : Stream) → is_done (failure kept offset len stream).0 ≡ false
failed_not None offset len stream = refl
failed_not (Some kept) offset len stream = refl

always_failed : (config : Config) (sync : Bool) (offset len : ℕ) (stream : Stream) → IsAlways (write_failure config.write_rate) → is_done (drawn_fate config sync offset len stream).0 ≡ false
always_failed config sync offset len stream always =
    ap (λ (d : Bool × Stream). is_done (cond d.0 (failure (retention config.write_rate) offset len d.1) (not_failed config sync d.1)).0) (always_drawn (write_failure config.write_rate) stream always)
    ∙ failed_not (retention config.write_rate) offset len stream

always_unsynced : (config : Config) (offset len : ℕ) (stream : Stream) → IsAlways config.sync_rate → is_done (drawn_fate config true offset len stream).0 ≡ false
always_unsynced config offset len stream always = go (draw (write_failure config.write_rate) stream).0 (draw (write_failure config.write_rate) stream).1
  where
    go : (b : Bool) (s : Stream) → is_done (cond b (failure (retention config.write_rate) offset len s) (not_failed config true s)).0 ≡ false
    go true s = failed_not (retention config.write_rate) offset len s
    go false s = ap (λ (d : Bool × Stream). is_done (synced_or_not d).0) (always_drawn config.sync_rate s always)

-- What is allowed without faults.

pub quiet_draw : (rate : Option Rate) (stream : Stream) (inner : Allowed) (answer : Option Refusal) → IsNever rate → injected_or (draw rate stream).0 inner answer ↔ inner answer
quiet_draw rate stream inner answer never = subst (λ (d : Bool × Stream). injected_or d.0 inner answer ↔ inner answer) (sym (never_drawn rate stream never)) (λ h. h, λ h. h)

numbered_same : (lacks : Bool) (inner : Allowed) (answer : Option Refusal) → lacks ≡ false → exhausted_or lacks inner answer ↔ inner answer
numbered_same lacks inner answer none = subst (λ (b : Bool). exhausted_or b inner answer ↔ inner answer) (sym none) (λ h. h, λ h. h)

pub quiet_start : (rate : Option Rate) (stream : Stream) (next : ℕ) (inner : Allowed) (answer : Option Refusal) → IsNever rate → next < 2 ^ 64 - 1 → allows_start (draw rate stream).0 next inner answer ↔ or_memory inner answer
quiet_start rate stream next inner answer never left =
    let some : (next == 2 ^ 64 - 1) ≡ false = grind (arith, nat_tests) in
    subst (λ (d : Bool × Stream). allows_start d.0 next inner answer ↔ or_memory inner answer) (sym (never_drawn rate stream never)) (numbered_same (next == 2 ^ 64 - 1) (or_memory inner) answer some)

pub quiet_resize : (config : Option ResizeConfig) (size len : ℕ) (stream : Stream) (resizes : ℕ → Allowed) (answer : Option Refusal) → IsNever (resize_failure config) →
    allows_resize resizes (resize_fate config size len stream).0 len answer ↔ or_memory (resizes len) answer
quiet_resize config size len stream resizes answer never = subst (λ (fate : ResizeFate). allows_resize resizes fate len answer ↔ or_memory (resizes len) answer) (sym (never_resized config size len stream never)) (λ h. h, λ h. h)

either_memory : (less more : Allowed) (answer : Option Refusal) → less answer ↔ more answer → or_memory less answer ↔ or_memory more answer
either_memory less more answer same = (there, back)
  where
    there : or_memory less answer → or_memory more answer
    there (inl h) = inl h
    there (inr h) = inr (same.0 h)

    back : or_memory more answer → or_memory less answer
    back (inl h) = inl h
    back (inr h) = inr (same.1 h)

done_same : (writes : ℕ → List ℕ → Bool → Allowed) (retained : Bool) (next : ℕ) (sync : Bool) (offset : ℕ) (bytes : List ℕ) (answer : Option Refusal) → lacks_number retained next bytes ≡ false →
    allows_done writes retained next sync offset bytes answer ↔ writes offset bytes sync answer
done_same writes retained next true offset bytes answer left = (λ h. h, λ h. h)
done_same writes retained next false offset bytes answer left = numbered_same (lacks_number retained next bytes) (writes offset bytes false) answer left

pub quiet_write : (writes : ℕ → List ℕ → Bool → Allowed) (reserves : ℕ → Allowed) (direct : Bool) (config : Config) (next : ℕ) (stream : Stream) (offset : ℕ) (bytes : List ℕ) (sync : Bool) (answer : Option Refusal) →
    IsNever (write_failure config.write_rate) → (sync ≡ true → IsNever config.sync_rate) → is_idle sync bytes ≡ false → has_uncounted_end offset bytes ≡ false → lacks_number (is_some (retention config.write_rate)) next bytes ≡ false →
    allows_write writes reserves direct config next stream offset bytes sync answer ↔ or_memory (writes offset bytes sync) answer
unfolding allows_write
quiet_write writes reserves direct config next stream offset bytes sync answer no_write no_sync some counted left =
    let retained : Bool = is_some (retention config.write_rate) in
    let fate : WriteFate = (drawn_fate config sync offset (length bytes) stream).0 in
    let told : Type 0 = or_memory (writes offset bytes sync) answer in
    subst (λ (b : Bool). MatchBool b (answer ≡ None) (MatchBool (has_uncounted_end offset bytes) (answer ≡ Some OffsetOverflow) (or_memory (allows_fate fate writes reserves direct retained next sync offset bytes) answer)) ↔ told) (sym some)
    (subst (λ (b : Bool). MatchBool b (answer ≡ Some OffsetOverflow) (or_memory (allows_fate fate writes reserves direct retained next sync offset bytes) answer) ↔ told) (sym counted)
    (subst (λ (f : WriteFate). or_memory (allows_fate f writes reserves direct retained next sync offset bytes) answer ↔ told) (sym (never_failed config sync offset (length bytes) stream no_write no_sync))
    (either_memory (allows_done writes retained next sync offset bytes) (writes offset bytes sync) answer (done_same writes retained next sync offset bytes answer left))))

-- A call without faults returns Injected only if the inner one may return it.

memory_injected : (inner : Allowed) → or_memory inner (Some Injected) → inner (Some Injected)
memory_injected inner (inl e) = cc
memory_injected inner (inr h) = h

numbered_injected : (lacks : Bool) (inner : Allowed) → exhausted_or lacks inner (Some Injected) → inner (Some Injected)
numbered_injected true inner e = cc
numbered_injected false inner h = h

pub draw_injected : (rate : Option Rate) (stream : Stream) (inner : Allowed) → IsNever rate → injected_or (draw rate stream).0 inner (Some Injected) → inner (Some Injected)
draw_injected rate stream inner never = (quiet_draw rate stream inner (Some Injected) never).0

pub start_injected : (rate : Option Rate) (stream : Stream) (next : ℕ) (inner : Allowed) → IsNever rate → allows_start (draw rate stream).0 next inner (Some Injected) → inner (Some Injected)
start_injected rate stream next inner never h = memory_injected inner (numbered_injected (next == 2 ^ 64 - 1) (or_memory inner) (subst (λ (d : Bool × Stream). allows_start d.0 next inner (Some Injected)) (never_drawn rate stream never) h))

pub resize_injected : (config : Option ResizeConfig) (size len : ℕ) (stream : Stream) (resizes : ℕ → Allowed) → IsNever (resize_failure config) → allows_resize resizes (resize_fate config size len stream).0 len (Some Injected) → resizes len (Some Injected)
resize_injected config size len stream resizes never h = memory_injected (resizes len) ((quiet_resize config size len stream resizes (Some Injected) never).0 h)

done_injected : (writes : ℕ → List ℕ → Bool → Allowed) (retained : Bool) (next : ℕ) (sync : Bool) (offset : ℕ) (bytes : List ℕ) → allows_done writes retained next sync offset bytes (Some Injected) → writes offset bytes sync (Some Injected)
done_injected writes retained next true offset bytes h = h
done_injected writes retained next false offset bytes h = numbered_injected (lacks_number retained next bytes) (writes offset bytes false) h

beyond_nothing : (b : Bool) (P : Type 0) → MatchBool b (◌≡◌ {A = Option Refusal} (Some Injected) None) P → P
beyond_nothing true P e = cc
beyond_nothing false P h = h

beyond_overflow : (b : Bool) (P : Type 0) → MatchBool b (◌≡◌ {A = Option Refusal} (Some Injected) (Some OffsetOverflow)) P → P
beyond_overflow true P e = cc
beyond_overflow false P h = h

pub write_injected : (writes : ℕ → List ℕ → Bool → Allowed) (reserves : ℕ → Allowed) (direct : Bool) (config : Config) (next : ℕ) (stream : Stream) (offset : ℕ) (bytes : List ℕ) (sync : Bool) →
    IsNever (write_failure config.write_rate) → (sync ≡ true → IsNever config.sync_rate) → allows_write writes reserves direct config next stream offset bytes sync (Some Injected) → writes offset bytes sync (Some Injected)
unfolding allows_write
write_injected writes reserves direct config next stream offset bytes sync no_write no_sync h =
    let retained : Bool = is_some (retention config.write_rate) in
    let allowed = beyond_overflow (has_uncounted_end offset bytes) _ (beyond_nothing (is_idle sync bytes) _ h) in
    done_injected writes retained next sync offset bytes (memory_injected (allows_done writes retained next sync offset bytes)
    (subst (λ (f : WriteFate). or_memory (allows_fate f writes reserves direct retained next sync offset bytes) (Some Injected)) (never_failed config sync offset (length bytes) stream no_write no_sync) allowed))

-- No call returns Ok if its draw is certain to fail.

pub draw_fails : (rate : Option Rate) (stream : Stream) (inner : Allowed) → IsAlways rate → injected_or (draw rate stream).0 inner None → ⊥
draw_fails rate stream inner always h = never (subst (λ (d : Bool × Stream). injected_or d.0 inner None) (always_drawn rate stream always) h)
  where
    never : ◌≡◌ {A = Option Refusal} None (Some Injected) → ⊥
    never e = cc

pub start_fails : (rate : Option Rate) (stream : Stream) (next : ℕ) (inner : Allowed) → IsAlways rate → allows_start (draw rate stream).0 next inner None → ⊥
start_fails rate stream next inner always h = never (subst (λ (d : Bool × Stream). allows_start d.0 next inner None) (always_drawn rate stream always) h)
  where
    never : ◌≡◌ {A = Option Refusal} None (Some Injected) → ⊥
    never e = cc

unresized_none : (fate : ResizeFate) (resizes : ℕ → Allowed) (len : ℕ) → is_resized fate ≡ false → allows_resize resizes fate len None → ⊥
unresized_none (Resizes survives) resizes len e h = cc
unresized_none Stays resizes len e h = cc
unresized_none (Reaches size) resizes len e h = memory_none (injected_for (resizes size)) (injected_none (resizes size)) h

pub resize_fails : (config : Option ResizeConfig) (size len : ℕ) (stream : Stream) (resizes : ℕ → Allowed) → IsAlways (resize_failure config) → allows_resize resizes (resize_fate config size len stream).0 len None → ⊥
resize_fails config size len stream resizes always h = unresized_none (resize_fate config size len stream).0 resizes len (always_unresized config size len stream always) h

undone_none : (fate : WriteFate) (writes : ℕ → List ℕ → Bool → Allowed) (reserves : ℕ → Allowed) (direct retained : Bool) (next : ℕ) (sync : Bool) (offset : ℕ) (bytes : List ℕ) → is_done fate ≡ false →
    allows_fate fate writes reserves direct retained next sync offset bytes None → ⊥
undone_none Done writes reserves direct retained next sync offset bytes e h = cc
undone_none Unsynced writes reserves direct retained next sync offset bytes e h = numbered_none (lacks_number retained next bytes) (injected_for (writes offset bytes false)) (injected_none (writes offset bytes false)) h
undone_none (Failed kept) writes reserves direct retained next sync offset bytes e h = injected_none (allows_runs writes reserves direct (runs offset bytes kept)) h
undone_none fate writes reserves direct retained next sync offset bytes e h = h

undone_write : (writes : ℕ → List ℕ → Bool → Allowed) (reserves : ℕ → Allowed) (direct : Bool) (config : Config) (next : ℕ) (stream : Stream) (offset : ℕ) (bytes : List ℕ) (sync : Bool) →
    is_done (drawn_fate config sync offset (length bytes) stream).0 ≡ false → is_idle sync bytes ≡ false → allows_write writes reserves direct config next stream offset bytes sync None → ⊥
unfolding allows_write
undone_write writes reserves direct config next stream offset bytes sync undone some h =
    let retained : Bool = is_some (retention config.write_rate) in
    let fate : WriteFate = (drawn_fate config sync offset (length bytes) stream).0 in
    uncounted_none (has_uncounted_end offset bytes) (or_memory (allows_fate fate writes reserves direct retained next sync offset bytes))
    (memory_none (allows_fate fate writes reserves direct retained next sync offset bytes) (undone_none fate writes reserves direct retained next sync offset bytes undone))
    (subst (λ (b : Bool). MatchBool b (◌≡◌ {A = Option Refusal} None None) (MatchBool (has_uncounted_end offset bytes) (◌≡◌ {A = Option Refusal} None (Some OffsetOverflow)) (or_memory (allows_fate fate writes reserves direct retained next sync offset bytes) None))) some h)

pub write_fails : (writes : ℕ → List ℕ → Bool → Allowed) (reserves : ℕ → Allowed) (direct : Bool) (config : Config) (next : ℕ) (stream : Stream) (offset : ℕ) (bytes : List ℕ) (sync : Bool) →
    IsAlways (write_failure config.write_rate) → is_idle sync bytes ≡ false → allows_write writes reserves direct config next stream offset bytes sync None → ⊥
write_fails writes reserves direct config next stream offset bytes sync always = undone_write writes reserves direct config next stream offset bytes sync (always_failed config sync offset (length bytes) stream always)

pub synced_fails : (writes : ℕ → List ℕ → Bool → Allowed) (reserves : ℕ → Allowed) (direct : Bool) (config : Config) (next : ℕ) (stream : Stream) (offset : ℕ) (bytes : List ℕ) →
    IsAlways config.sync_rate → is_idle true bytes ≡ false → allows_write writes reserves direct config next stream offset bytes true None → ⊥
synced_fails writes reserves direct config next stream offset bytes always = undone_write writes reserves direct config next stream offset bytes true (always_unsynced config offset (length bytes) stream always)
