-- What the writes of a journal record: none fails, and a crash keeps each of them whole or loses it.
use Rattle.std.proofs.Common.{◌≡◌, ◌⊎◌, inl, inr, ⊎_elim, ℕ, ◌+◌, ◌-◌, ◌/◌, ◌^◌, ◌<◌, ◌≤◌, ◌==◌, Bool, true, false, List, [], ◌∷◌, length, Option, Some, None, refl, sym, ◌∙◌, ap, ap₂, subst, arith, option_map}
use Rattle.std.specs.Prelude.{nat_lt, if◌then◌else◌}
use Rattle.std.proofs.lemmas.Bool.{cond-true}
use Rattle.rand_core.specs.Stream.{Stream}
use Rattle.blob_header.specs.Refusals.{Refusal, BlobMissing}
use Rattle.blob_model.specs.declared.mode.PartialWriteMode.{PartialWriteMode}
use Rattle.blob_model.specs.declared.mode.PartialWriteMode.TheVariants.{Sectors}
use Rattle.blob_model.specs.Bytes.{overlay_by}
use Rattle.blob_model.specs.Log.{Choices, Entry, Loose, Write, durable_after, replay_log}
use Rattle.blob_model.specs.Rates.{Rate, sample}
use Rattle.blob_model.proofs.Bytes.{none_chosen}
use Rattle.blob_draws.specs.declared.config.Config.{Config}
use Rattle.blob_draws.specs.declared.config.WriteConfig.{WriteConfig}
use Rattle.blob_draws.specs.Changes.{loose, write_changes}
use Rattle.blob_draws.specs.Faults.{WriteFate, Done, Uncounted, Idle, Unsynced, Failed, draw, drawn_fate, failure, retention, write_fate}
use Rattle.blob_draws.specs.Recorded.{live_of_write, recorded_write}
use Rattle.blob_faulty.specs.Fits.{FitsAll, FitsMode}
use Rattle.blob_faulty.specs.Outcomes.{IsNotMissing}
use Rattle.blob_journal.specs.Draws.{DrawsWhole}

no_failure : (rate : Rate) (stream : Stream) → (rate.numerator == 0) ≡ true → draw (Some rate) stream ≡ (false, stream)
unfolding sample
no_failure rate stream zero = cond-true (rate.numerator == 0) (false, stream) _ zero

-- a write of a journal is done, unless its end overflows
abbrev pub IsCalm : WriteFate → Type 0
IsCalm fate = (fate ≡ Done) ⊎ (fate ≡ Uncounted)

calm_by : (b : Bool) (stream : Stream) (drawn : WriteFate × Stream) → drawn.0 ≡ Done → IsCalm (if b then (Uncounted, stream) else drawn).0
calm_by true stream drawn is = inr refl
calm_by false stream drawn is = inl is

pub calm : (config : Config) (offset : ℕ) (bytes : List ℕ) (stream : Stream) → DrawsWhole config → IsCalm (write_fate config false offset bytes stream).0
calm config offset bytes stream faults =
    let d : draw (option_map (λ (c : WriteConfig). c.failure_rate) config.write_rate) stream ≡ (false, stream) =
    ap (λ (w : Option WriteConfig). draw (option_map (λ (c : WriteConfig). c.failure_rate) w) stream) faults.is ∙ no_failure faults.writes.failure_rate stream faults.never in
    calm_by (nat_lt (2 ^ 64 - 1) (offset + length bytes)) stream (drawn_fate config false offset (length bytes) stream)
    (ap (λ (x : Bool × Stream). (if x.0 then failure (retention config.write_rate) offset (length bytes) x.1 else (Done, x.1)).0) d)

-- after an error nothing is recorded and nothing written

abbrev Retained : Type 0
Retained = Option (PartialWriteMode × Rate)

none_recorded : (fate : WriteFate) (k : Retained) (offset : ℕ) (bytes : List ℕ) (r : Refusal) (number : ℕ) → IsCalm fate → (write_changes fate k false offset bytes (Some r)).entries number ≡ []
none_recorded Done k offset bytes r number is = refl
none_recorded Uncounted k offset bytes r number is = refl
none_recorded Idle k offset bytes r number is = absurd (⊎_elim (λ e. cc) (λ e. cc) is)
none_recorded Unsynced k offset bytes r number is = absurd (⊎_elim (λ e. cc) (λ e. cc) is)
none_recorded (Failed chosen) k offset bytes r number is = absurd (⊎_elim (λ e. cc) (λ e. cc) is)

none_written : (fate : WriteFate) (k : Retained) (offset : ℕ) (bytes live : List ℕ) (r : Refusal) → IsCalm fate → (write_changes fate k false offset bytes (Some r)).live live ≡ live
none_written Done k offset bytes live r is = refl
none_written Uncounted k offset bytes live r is = refl
none_written Idle k offset bytes live r is = absurd (⊎_elim (λ e. cc) (λ e. cc) is)
none_written Unsynced k offset bytes live r is = absurd (⊎_elim (λ e. cc) (λ e. cc) is)
none_written (Failed chosen) k offset bytes live r is = absurd (⊎_elim (λ e. cc) (λ e. cc) is)

pub refused_entries : (config : Config) (number : ℕ) (stream : Stream) (offset : ℕ) (bytes : List ℕ) (r : Refusal) → DrawsWhole config → recorded_write config number stream false offset bytes (Some r) ≡ []
refused_entries config number stream offset bytes r faults =
    none_recorded (write_fate config false offset bytes stream).0 (retention config.write_rate) offset bytes r number (calm config offset bytes stream faults)

pub refused_live : (config : Config) (stream : Stream) (live : List ℕ) (offset : ℕ) (bytes : List ℕ) (r : Refusal) → DrawsWhole config → live_of_write config stream false live offset bytes (Some r) ≡ live
refused_live config stream live offset bytes r faults =
    none_written (write_fate config false offset bytes stream).0 (retention config.write_rate) offset bytes live r (calm config offset bytes stream faults)

-- a write that is done is one that a crash may lose, or isn't recorded
pub data IsLoose (offset : ℕ) (bytes : List ℕ) : List Entry → Type 0 where
  Nothing : IsLoose offset bytes []
  One : (w : Write) → w.offset ≡ offset → w.bytes ≡ bytes → w.mode ≡ Sectors (2 ^ 64 - 1) → IsLoose offset bytes (Loose w ∷ [])

by_retention : (mode : PartialWriteMode) (rate : Rate) (b : Bool) (number offset : ℕ) (bytes : List ℕ) → mode ≡ Sectors (2 ^ 64 - 1) → IsLoose offset bytes (loose (if b then None else Some (mode, rate)) number offset bytes)
by_retention mode rate b number offset [] is = Nothing
by_retention mode rate true number offset (x ∷ bytes) is = Nothing
by_retention mode rate false number offset (x ∷ bytes) is = One (record { number = number; offset = offset; bytes = x ∷ bytes; mode = mode; rate = rate }) refl refl is

by_fate : (fate : WriteFate) (k : Retained) (number offset : ℕ) (bytes : List ℕ) → IsCalm fate → IsLoose offset bytes (loose k number offset bytes) → IsLoose offset bytes ((write_changes fate k false offset bytes None).entries number)
by_fate Done k number offset bytes is one = one
by_fate Uncounted k number offset bytes is one = Nothing
by_fate Idle k number offset bytes is one = Nothing
by_fate Unsynced k number offset bytes is one = Nothing
by_fate (Failed chosen) k number offset bytes is one = Nothing

pub done_entries : (config : Config) (number : ℕ) (stream : Stream) (offset : ℕ) (bytes : List ℕ) → DrawsWhole config → IsLoose offset bytes (recorded_write config number stream false offset bytes None)
done_entries config number stream offset bytes faults =
    by_fate (write_fate config false offset bytes stream).0 (retention config.write_rate) number offset bytes (calm config offset bytes stream faults)
    (subst (λ (w : Option WriteConfig). IsLoose offset bytes (loose (retention w) number offset bytes)) (sym faults.is)
    (by_retention faults.writes.mode faults.writes.retention_rate (faults.writes.retention_rate.numerator == 0) number offset bytes faults.mode))

-- it makes no byte durable
pub loose_lasting : (offset : ℕ) (bytes : List ℕ) (es : List Entry) (x : List ℕ) → IsLoose offset bytes es → durable_after x es ≡ x
loose_lasting offset bytes es x Nothing = refl
loose_lasting offset bytes es x (One w at is mode) = refl

-- all bytes of a write, or none
pub record KeepsWhole (offset : ℕ) (bytes x y : List ℕ) : Type 0 where
  pub chosen : ℕ → Bool
  pub same : (j : ℕ) → j < length bytes → chosen j ≡ chosen 0
  pub is : y ≡ overlay_by x offset bytes chosen

pub loses_whole : (offset : ℕ) (bytes x : List ℕ) → KeepsWhole offset bytes x x
loses_whole offset bytes x = record { chosen = λ _. false; same = λ j low. refl; is = sym (none_chosen x offset bytes) }

-- a write that ends below 2^64 lies in one sector
one_sector : (o n i : ℕ) → o + n ≤ 2 ^ 64 - 1 → i < n → (o + i) / (2 ^ 64 - 1) ≡ 0
one_sector o n i short low = omega (arith, short, low)

pub loose_crash : (offset : ℕ) (bytes : List ℕ) (es : List Entry) (x : List ℕ) (t : Choices) → offset + length bytes ≤ 2 ^ 64 - 1 → IsLoose offset bytes es → FitsAll t es → KeepsWhole offset bytes x (replay_log x es t)
loose_crash offset bytes es x t short Nothing fits = loses_whole offset bytes x
loose_crash offset bytes es x t short (One w at is mode) fits =
    let f : FitsMode (Sectors (2 ^ 64 - 1)) offset (length bytes) (t w.number) =
    subst (λ (m : PartialWriteMode). FitsMode m offset (length bytes) (t w.number)) mode
    (subst (λ (b : List ℕ). FitsMode w.mode offset (length b) (t w.number)) is (subst (λ (o : ℕ). FitsMode w.mode o (length w.bytes) (t w.number)) at fits.0)) in
    record {
      chosen = t w.number;
      same = λ j low. f (omega arith) j 0 low (omega (arith, low)) (one_sector offset (length bytes) j short low ∙ sym (one_sector offset (length bytes) 0 short (omega (arith, low))));
      is = ap₂ (λ (o : ℕ) (b : List ℕ). overlay_by x o b (t w.number)) at is;
    }

-- A SYNC write that draws nothing.

abbrev synced : Option Rate → Stream → WriteFate × Stream
synced rate stream = (if (draw rate stream).0 then Unsynced else Done, (draw rate stream).1)

calm_sync : (config : Config) (offset : ℕ) (bytes : List ℕ) (stream : Stream) → config.write_rate ≡ None → config.sync_rate ≡ None → (bytes ≡ [] → ⊥) → IsCalm (write_fate config true offset bytes stream).0
calm_sync config offset [] stream writes syncs some = absurd (some refl)
calm_sync config offset (b ∷ bytes) stream writes syncs some =
    let d : draw (option_map (λ (c : WriteConfig). c.failure_rate) config.write_rate) stream ≡ (false, stream) =
    ap (λ (w : Option WriteConfig). draw (option_map (λ (c : WriteConfig). c.failure_rate) w) stream) writes in
    calm_by (nat_lt (2 ^ 64 - 1) (offset + length (b ∷ bytes))) stream (drawn_fate config true offset (length (b ∷ bytes)) stream)
    (ap (λ (x : Bool × Stream). (if x.0 then failure (retention config.write_rate) offset (length (b ∷ bytes)) x.1
    else synced config.sync_rate x.1).0) d
    ∙ ap (λ (r : Option Rate). (synced r stream).0) syncs)

none_synced : (fate : WriteFate) (k : Retained) (offset : ℕ) (bytes : List ℕ) (r : Refusal) (number : ℕ) → IsCalm fate → (write_changes fate k true offset bytes (Some r)).entries number ≡ []
none_synced Done k offset bytes r number is = refused_done r k offset bytes number
  where
    refused_done : (r : Refusal) (k : Retained) (offset : ℕ) (bytes : List ℕ) (number : ℕ) → (write_changes Done k true offset bytes (Some r)).entries number ≡ []
    refused_done (BlobMissing p n) k offset bytes number = refl
    refused_done r k offset bytes number = refl
none_synced Uncounted k offset bytes r number is = refl
none_synced Idle k offset bytes r number is = absurd (⊎_elim (λ e. cc) (λ e. cc) is)
none_synced Unsynced k offset bytes r number is = absurd (⊎_elim (λ e. cc) (λ e. cc) is)
none_synced (Failed chosen) k offset bytes r number is = absurd (⊎_elim (λ e. cc) (λ e. cc) is)

same_live : (fate : WriteFate) (k : Retained) (offset : ℕ) (bytes live : List ℕ) (r : Refusal) → IsCalm fate → IsNotMissing (Some r) → (write_changes fate k true offset bytes (Some r)).live live ≡ live
same_live Done k offset bytes live r is there = done r k offset bytes live there
  where
    done : (r : Refusal) (k : Retained) (offset : ℕ) (bytes live : List ℕ) → IsNotMissing (Some r) → (write_changes Done k true offset bytes (Some r)).live live ≡ live
    done (BlobMissing p n) k offset bytes live there = absurd (there p n refl)
    done r k offset bytes live there = refl
same_live Uncounted k offset bytes live r is there = refl
same_live Idle k offset bytes live r is there = absurd (⊎_elim (λ e. cc) (λ e. cc) is)
same_live Unsynced k offset bytes live r is there = absurd (⊎_elim (λ e. cc) (λ e. cc) is)
same_live (Failed chosen) k offset bytes live r is there = absurd (⊎_elim (λ e. cc) (λ e. cc) is)

module _ (config : Config) (stream : Stream) (offset : ℕ) (bytes : List ℕ) (r : Refusal) (writes : config.write_rate ≡ None) (syncs : config.sync_rate ≡ None) (some : bytes ≡ [] → ⊥) where
  pub refused_sync : (number : ℕ) → recorded_write config number stream true offset bytes (Some r) ≡ []
  refused_sync number = none_synced (write_fate config true offset bytes stream).0 (retention config.write_rate) offset bytes r number (calm_sync config offset bytes stream writes syncs some)

  pub refused_sync_live : (live : List ℕ) → IsNotMissing (Some r) → live_of_write config stream true live offset bytes (Some r) ≡ live
  refused_sync_live live there = same_live (write_fate config true offset bytes stream).0 (retention config.write_rate) offset bytes live r (calm_sync config offset bytes stream writes syncs some) there
