-- What a crash applies of a recorded write or resize, and how a write changes live bytes.
use Rattle.std.proofs.Common.{◌≡◌, ◌⊎◌, ⊎_elim, ℕ, ◌+◌, ◌-◌, ◌<◌, ◌≤◌, max, min, nat_lt, ◌&&◌, Bool, true, false, List, [], ◌∷◌, length, get_or, Option, Some, None, cond, refl, sym, ◌∙◌, ap, subst, inl, inr, arith}
use Rattle.std.proofs.lemmas.Bool.{cond_both, cases_lt}
use Rattle.std.proofs.lemmas.List.{get_or_past}
use Rattle.rand_core.specs.Stream.{Stream}
use Rattle.blob_model.specs.Bytes.{overlay_by, overlay, resize, write_live}
use Rattle.blob_model.specs.Live.{all_written}
use Rattle.blob_model.specs.Log.{Choices, Kept, replay_log}
use Rattle.blob_model.specs.declared.mode.PartialWriteMode.{PartialWriteMode}
use Rattle.blob_model.specs.Rates.{Rate, sample}
use Rattle.blob_header.specs.Refusals.{Refusal, BlobMissing, Injected}
use Rattle.blob_model.specs.Runs.{Run, runs, kept_runs, all_laid, is_chosen}
use Rattle.blob_model.proofs.Bytes.{length-overlay_by, length-resized, reach_all, at_other, at_chosen, at_resized, past_resized, same_bytes, none_chosen, picks}
use Rattle.blob_model.proofs.Runs.{AreSome, laid_runs, runs_some}
use Rattle.blob_draws.specs.declared.config.Config.{Config}
use Rattle.blob_draws.specs.declared.config.ResizeConfig.{ResizeConfig}
use Rattle.blob_faulty.specs.Certain.{IsNever, partial_resizes}
use Rattle.blob_draws.specs.Faults.{WriteFate, Done, Unsynced, Failed, ResizeFate, Resizes, Stays, Reaches, write_fate, resize_fate, partly, size_between, retention}
use Rattle.blob_faulty.specs.Outcomes.{LaysSome, WritesSome}
use Rattle.blob_draws.specs.Changes.{loose, write_changes}
use Rattle.blob_draws.specs.Recorded.{recorded_write, recorded_resize, live_of_write, live_of_resize}
use Rattle.blob_draws.proofs.Sizes.{length-written}
use Rattle.blob_faulty.proofs.CertainAnswers.{never_drawn}

-- What a crash applies of a recorded write.

module _ (o : ℕ) (b : List ℕ) (t : Choices) where
  none_laid : LaysSome o b [] t
  none_laid = (λ _. false, λ x. sym (none_chosen x o b))

all_kept : (rs : List Run) (x : List ℕ) (t : Choices) → replay_log x (kept_runs rs) t ≡ all_laid x rs
all_kept [] x t = refl
all_kept (r ∷ rs) x t = all_kept rs (overlay x r.0 r.1) t

loose_laid : (k : Option (PartialWriteMode × Rate)) (n o : ℕ) (b : List ℕ) (t : Choices) → LaysSome o b (loose k n o b) t
loose_laid k n o [] t = none_laid o [] t
loose_laid None n o (x ∷ b) t = none_laid o (x ∷ b) t
loose_laid (Some k) n o (x ∷ b) t = (t n, λ y. refl)

kept_laid : (o : ℕ) (b : List ℕ) (t : Choices) → LaysSome o b (Kept o b ∷ []) t
kept_laid o b t = (λ _. true, λ y. refl)

runs_laid : (o : ℕ) (b : List ℕ) (c : List Bool) (t : Choices) → LaysSome o b (kept_runs (runs o b c)) t
runs_laid o b c t = (is_chosen c, λ x. all_kept (runs o b c) x t ∙ laid_runs o b c x)

changes_laid : (fate : WriteFate) (k : Option (PartialWriteMode × Rate)) (n : ℕ) (sync : Bool) (o : ℕ) (b : List ℕ) (answer : Option Refusal) (t : Choices) → LaysSome o b ((write_changes fate k sync o b answer).entries n) t
changes_laid Done k n true o b None t = kept_laid o b t
changes_laid Done k n false o b None t = loose_laid k n o b t
changes_laid Done k n true o b (Some (BlobMissing p m)) t = none_laid o b t
changes_laid Unsynced k n sync o b (Some Injected) t = loose_laid k n o b t
changes_laid (Failed chosen) k n sync o b (Some Injected) t = runs_laid o b chosen t
changes_laid (Failed chosen) k n sync o b (Some (BlobMissing p m)) t = none_laid o b t
changes_laid fate k n true o b answer t = none_laid o b t
changes_laid fate k n false o b answer t = none_laid o b t

pub write_laid : (config : Config) (n : ℕ) (stream : Stream) (sync : Bool) (o : ℕ) (b : List ℕ) (answer : Option Refusal) (t : Choices) → LaysSome o b (recorded_write config n stream sync o b answer) t
write_laid config n stream sync o b answer t = changes_laid (write_fate config sync o b stream).0 (retention config.write_rate) n sync o b answer t

-- Resizes, where none fails in part.

abbrev IsWhole : ResizeFate → Type 0
IsWhole (Resizes survives) = Unit {0}
IsWhole Stays = Unit {0}
IsWhole (Reaches size) = ⊥

whole_so : (b : Bool) (low : Bool) (r : ℕ × Stream) (s : Stream) → b ≡ false → IsWhole (cond {A = ResizeFate × Stream} (b && low) (Reaches r.0, r.1) (Stays, s)).0
whole_so true low r s e = cc
whole_so false low r s e = tt

whole_fate : (c : Option ResizeConfig) (size len : ℕ) (stream : Stream) → IsNever (partial_resizes c) → IsWhole (resize_fate c size len stream).0
whole_fate None size len stream never = tt
whole_fate (Some c) size len stream never =
    let d = sample c.failure_rate stream in
    let e = sample c.partial_rate d.1 in
    cond_both d.0 (partly size len e) (Resizes (sample c.failure_rate d.1).0, (sample c.failure_rate d.1).1) (λ (x : ResizeFate × Stream). IsWhole x.0)
    (λ _. whole_so e.0 (nat_lt 1 (max size len - min size len)) (size_between (min size len) (max size len) e.1) e.1 (ap (λ (x : Bool × Stream). x.0) (never_drawn (Some c.partial_rate) d.1 never)))
    (λ _. tt)

fate_resizes : (fate : ResizeFate) (len : ℕ) (answer : Option Refusal) (t : Choices) (x : List ℕ) → IsWhole fate →
    (replay_log x (recorded_resize fate len answer) t ≡ x) ⊎ (replay_log x (recorded_resize fate len answer) t ≡ resize x len)
fate_resizes (Resizes true) len None t x whole = inr refl
fate_resizes (Resizes false) len None t x whole = inl refl
fate_resizes (Resizes survives) len (Some r) t x whole = inl refl
fate_resizes Stays len answer t x whole = inl refl
fate_resizes (Reaches size) len answer t x whole = absurd whole

pub resize_laid : (c : Option ResizeConfig) (size len : ℕ) (stream : Stream) (answer : Option Refusal) (t : Choices) → IsNever (partial_resizes c) → (x : List ℕ) →
    (replay_log x (recorded_resize (resize_fate c size len stream).0 len answer) t ≡ x) ⊎ (replay_log x (recorded_resize (resize_fate c size len stream).0 len answer) t ≡ resize x len)
resize_laid c size len stream answer t never x = fate_resizes (resize_fate c size len stream).0 len answer t x (whole_fate c size len stream never)

fate_live : (fate : ResizeFate) (len : ℕ) (answer : Option Refusal) (live : List ℕ) → IsWhole fate → (live_of_resize fate live len answer ≡ live) ⊎ (live_of_resize fate live len answer ≡ resize live len)
fate_live (Resizes survives) len None live whole = inr refl
fate_live (Resizes survives) len (Some r) live whole = inl refl
fate_live Stays len answer live whole = inl refl
fate_live (Reaches size) len answer live whole = absurd whole

pub resize_live : (c : Option ResizeConfig) (size len : ℕ) (stream : Stream) (live : List ℕ) (answer : Option Refusal) → IsNever (partial_resizes c) →
    (live_of_resize (resize_fate c size len stream).0 live len answer ≡ live) ⊎ (live_of_resize (resize_fate c size len stream).0 live len answer ≡ resize live len)
resize_live c size len stream live answer never = fate_live (resize_fate c size len stream).0 len answer live (whole_fate c size len stream never)

-- Live bytes.

abbrev IsFound : Option Refusal → Type 0
IsFound answer = (p n : List ℕ) → answer ≡ Some (BlobMissing p n) → ⊥

grown_bytes : (x : List ℕ) (n p : ℕ) → length x ≤ n → get_or (resize x n) p 0 ≡ get_or x p 0
grown_bytes x n p h = ⊎_elim (λ below. at_resized x n p below) (λ past. past_resized x n p past ∙ sym (get_or_past x p 0 (omega arith))) (cases_lt p n)

resized_self : (x : List ℕ) → resize x (length x) ≡ x
resized_self x = same_bytes _ _ (length-resized x (length x)) (λ p. grown_bytes x (length x) p (omega arith))

written_some : (x : List ℕ) (o : ℕ) (b : List ℕ) → 0 < length b → write_live x o b ≡ overlay x o b
written_some x o b some = same_bytes _ _ len (λ p. at p (picks o (length b) (λ _. true) p))
  where
    grown : List ℕ
    grown = resize x (max (length x) o)

    len : length (write_live x o b) ≡ length (overlay x o b)
    len = length-written x o b ∙ omega (arith, length-overlay_by x o b (λ _. true), reach_all o (length b) some)

    at : (p : ℕ) → ((o ≤ p) × (p < o + length b) × (true ≡ true)) ⊎ (o ≤ p → p < o + length b → true ≡ false) → get_or (write_live x o b) p 0 ≡ get_or (overlay x o b) p 0
    at p (inl (low, high, e)) = at_chosen grown o b (λ _. true) p low high refl ∙ sym (at_chosen x o b (λ _. true) p low high refl)
    at p (inr isnt) = at_other grown o b (λ _. true) p isnt ∙ grown_bytes x (max (length x) o) p (omega arith) ∙ sym (at_other x o b (λ _. true) p isnt)

all_written_some : (rs : List Run) (x : List ℕ) → AreSome rs → all_written x rs ≡ all_laid x rs
all_written_some [] x some = refl
all_written_some (r ∷ rs) x some = ap (λ (y : List ℕ). all_written y rs) (written_some x r.0 r.1 some.0) ∙ all_written_some rs (overlay x r.0 r.1) some.1

module _ (live : List ℕ) (o : ℕ) (b : List ℕ) where
  laid_some : (c : ℕ → Bool) → WritesSome o b live (overlay_by live o b c)
  laid_some c = record { grown = length live; chosen = c; no_shorter = omega arith; no_longer = omega arith; is = ap (λ (x : List ℕ). overlay_by x o b c) (sym (resized_self live)) }

  none_written : WritesSome o b live live
  none_written = subst (λ (x : List ℕ). WritesSome o b live x) (none_chosen live o b) (laid_some (λ _. false))

  all_bytes : WritesSome o b live (write_live live o b)
  all_bytes = record { grown = max (length live) o; chosen = λ _. true; no_shorter = omega arith; no_longer = omega arith; is = refl }

  runs_written : (c : List Bool) → WritesSome o b live (all_written live (runs o b c))
  runs_written c = subst (λ (x : List ℕ). WritesSome o b live x) (sym (all_written_some (runs o b c) live (runs_some o b c) ∙ laid_runs o b c live)) (laid_some (is_chosen c))

changes_written : (fate : WriteFate) (k : Option (PartialWriteMode × Rate)) (sync : Bool) (live : List ℕ) (o : ℕ) (b : List ℕ) (answer : Option Refusal) → IsFound answer → WritesSome o b live ((write_changes fate k sync o b answer).live live)
changes_written Done k true live o b None found = all_bytes live o b
changes_written Done k false live o b None found = all_bytes live o b
changes_written Done k true live o b (Some (BlobMissing p n)) found = absurd (found p n refl)
changes_written Unsynced k sync live o b (Some Injected) found = all_bytes live o b
changes_written (Failed chosen) k sync live o b (Some Injected) found = runs_written live o b chosen
changes_written (Failed chosen) k sync live o b (Some (BlobMissing p n)) found = absurd (found p n refl)
changes_written fate k true live o b answer found = none_written live o b
changes_written fate k false live o b answer found = none_written live o b

pub live_laid : (config : Config) (stream : Stream) (sync : Bool) (live : List ℕ) (o : ℕ) (b : List ℕ) (answer : Option Refusal) → IsFound answer → WritesSome o b live (live_of_write config stream sync live o b answer)
live_laid config stream sync live o b answer found = changes_written (write_fate config sync o b stream).0 (retention config.write_rate) sync live o b answer found
