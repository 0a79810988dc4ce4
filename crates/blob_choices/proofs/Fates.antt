-- The outcomes of writes and resizes are decided by the least and the greatest word, if no size is drawn.
use Rattle.std.proofs.Common.{◌≡◌, ℕ, ◌+◌, ◌-◌, ◌^◌, Bool, false, cond, nat_lt, eqb, List, [], length, Option, Some, None, IfSome, sym, ap}
use Rattle.std.specs.Prelude.{option_map}
use Rattle.std.proofs.lemmas.Bool.{cond-true, eq-eqb}
use Rattle.rand_core.specs.Stream.{Stream}
use Rattle.blob_model.specs.Draws.{positions}
use Rattle.blob_model.specs.Live.{is_idle}
use Rattle.blob_model.specs.Rates.{Rate, sample}
use Rattle.blob_model.specs.declared.mode.PartialWriteMode.{PartialWriteMode}
use Rattle.blob_draws.specs.declared.config.Config.{Config}
use Rattle.blob_draws.specs.declared.config.ResizeConfig.{ResizeConfig}
use Rattle.blob_draws.specs.Faults.{WriteFate, Idle, Uncounted, Done, Unsynced, Failed, ResizeFate, Resizes, Stays, draw, retention, failure, drawn_fate, write_fate, partly, resize_fate}
use Rattle.blob_choices.specs.Decided.{IsDecided}
use Rattle.blob_choices.proofs.Deciding.{decided_none, decided_same, decided_then, decided_map, decided_if}
use Rattle.blob_choices.proofs.Draws.{decided_sampled, decided_positions}

pub decided_draw : (rate : Option Rate) → IsDecided (draw rate)
decided_draw None = decided_none false
decided_draw (Some rate) = decided_sampled rate

decided_failed : (kept : Option (PartialWriteMode × Rate)) (offset len : ℕ) → IsDecided (failure kept offset len)
decided_failed None offset len = decided_none (Failed [])
decided_failed (Some kept) offset len = decided_map (positions kept.0 kept.1 offset len) (λ bs. Failed bs) (decided_positions kept.0 kept.1 offset len)

decided_drawn_fate : (config : Config) (sync : Bool) (offset len : ℕ) → IsDecided (drawn_fate config sync offset len)
decided_drawn_fate config sync offset len =
    let d : Stream → Bool × Stream = draw (option_map (λ c. c.failure_rate) config.write_rate) in
    let synced : Stream → WriteFate × Stream = λ s. (let e = draw config.sync_rate s in (cond e.0 Unsynced Done, e.1)) in
    let plain : Stream → WriteFate × Stream = λ s. cond sync (synced s) (Done, s) in
    decided_then d (λ fails s. cond fails (failure (retention config.write_rate) offset len s) (plain s)) (decided_draw (option_map (λ c. c.failure_rate) config.write_rate))
    (λ s. decided_if (d s).0 (failure (retention config.write_rate) offset len) plain
    (λ _. decided_failed (retention config.write_rate) offset len)
    (λ _. decided_if sync synced (λ r. (Done, r)) (λ _. decided_map (draw config.sync_rate) (λ b. cond b Unsynced Done) (decided_draw config.sync_rate)) (λ _. decided_none Done)))

pub decided_write : (config : Config) (sync : Bool) (offset : ℕ) (bytes : List ℕ) → IsDecided (write_fate config sync offset bytes)
decided_write config sync offset bytes =
    decided_if (is_idle sync bytes) (λ s. (Idle, s)) (λ s. cond (nat_lt (2 ^ 64 - 1) (offset + length bytes)) (Uncounted, s) (drawn_fate config sync offset (length bytes) s)) (λ _. decided_none Idle)
    (λ _. decided_if (nat_lt (2 ^ 64 - 1) (offset + length bytes)) (λ s. (Uncounted, s)) (drawn_fate config sync offset (length bytes)) (λ _. decided_none Uncounted) (λ _. decided_drawn_fate config sync offset (length bytes)))

-- a partial rate of zero
never : (rate : Rate) → rate.numerator ≡ 0 → (s : Stream) → sample rate s ≡ (false, s)
unfolding sample
never rate none s = cond-true (eqb rate.numerator 0) (false, s) _ (eq-eqb rate.numerator 0 none)

decided_partly : (rate : Rate) (size len : ℕ) → rate.numerator ≡ 0 → IsDecided (λ s. partly size len (sample rate s))
decided_partly rate size len zero = decided_same (λ s. (Stays, s)) (λ s. partly size len (sample rate s)) (λ s. sym (ap (partly size len) (never rate zero s))) (decided_none Stays)

pub decided_resize : (config : Option ResizeConfig) (size len : ℕ) → IfSome config (λ c. c.partial_rate.numerator ≡ 0) → IsDecided (resize_fate config size len)
decided_resize None size len none = decided_none (Resizes false)
decided_resize (Some c) size len none =
    let survives : Stream → ResizeFate × Stream = λ s. (let e = sample c.failure_rate s in (Resizes e.0, e.1)) in
    decided_then (sample c.failure_rate) (λ fails s. cond fails (partly size len (sample c.partial_rate s)) (survives s)) (decided_sampled c.failure_rate)
    (λ s. decided_if (sample c.failure_rate s).0 (λ r. partly size len (sample c.partial_rate r)) survives
    (λ _. decided_partly c.partial_rate size len none)
    (λ _. decided_map (sample c.failure_rate) (λ b. Resizes b) (decided_sampled c.failure_rate)))
