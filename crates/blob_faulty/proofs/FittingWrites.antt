-- What the entries of a write lay, by the mode in which it is issued.
use Rattle.std.proofs.Common.{◌≡◌, ⊎_elim, ℕ, ◌+◌, Bool, true, false, cond, List, [], ◌∷◌, length, Option, Some, None, refl, sym, ◌∙◌, arith}
use Rattle.std.proofs.lemmas.Bool.{cond_both, cases_lt}
use Rattle.std.specs.Prelude.{◌-◌, ◌^◌, nat_lt, option_map}
use Rattle.rand_core.specs.Stream.{Stream}
use Rattle.blob_header.specs.Refusals.{Refusal, BlobMissing, Injected}
use Rattle.blob_model.specs.declared.mode.PartialWriteMode.{PartialWriteMode}
use Rattle.blob_model.specs.declared.mode.PartialWriteMode.TheVariants.{Prefix, Subset, Sectors}
use Rattle.blob_model.specs.Bytes.{overlay, overlay_by}
use Rattle.blob_model.specs.Draws.{positions}
use Rattle.blob_model.specs.Live.{is_idle}
use Rattle.blob_model.specs.Log.{Choices, Entry, durable_after, replay_log}
use Rattle.blob_model.specs.Rates.{Rate}
use Rattle.blob_model.specs.Runs.{Run, all_laid, is_chosen, kept_runs, runs}
use Rattle.blob_model.proofs.Bytes.{none_chosen}
use Rattle.blob_model.proofs.Runs.{laid_runs}
use Rattle.blob_model.proofs.Selections.{kept_front, whole_sectors}
use Rattle.blob_draws.specs.declared.config.Config.{Config}
use Rattle.blob_draws.specs.Changes.{loose, write_changes}
use Rattle.blob_draws.specs.Faults.{WriteFate, Idle, Uncounted, Done, Unsynced, Failed, draw, drawn_fate, failure, retention, write_fate}
use Rattle.blob_draws.specs.Recorded.{recorded_write}
use Rattle.blob_faulty.specs.Fits.{FitsAll, FitsMode, FitsRetained}

abbrev pub Retained : Type 0
Retained = Option (PartialWriteMode × Rate)

-- any constant choice fits every mode
constant_fits : (k : Retained) (o n : ℕ) (b : Bool) → FitsRetained k o n (λ _. b)
constant_fits None o n b = tt
constant_fits (Some (Prefix, rate)) o n b = λ i j le lt is. is
constant_fits (Some (Subset, rate)) o n b = tt
constant_fits (Some (Sectors size, rate)) o n b = λ some i j li lj same. refl

abbrev pub LaysAs : Retained → ℕ → List ℕ → List ℕ → List ℕ → Type 0
LaysAs k o b x y = (chosen : ℕ → Bool) × FitsRetained k o (length b) chosen × (y ≡ overlay_by x o b chosen)

none_laid : (k : Retained) (o : ℕ) (b x : List ℕ) → LaysAs k o b x x
none_laid k o b x = (λ _. false, constant_fits k o (length b) false, sym (none_chosen x o b))

all_laid_ : (k : Retained) (o : ℕ) (b x : List ℕ) → LaysAs k o b x (overlay x o b)
all_laid_ k o b x = (λ _. true, constant_fits k o (length b) true, refl)

all_kept : (rs : List Run) (x : List ℕ) (t : Choices) → replay_log x (kept_runs rs) t ≡ all_laid x rs
all_kept [] x t = refl
all_kept (r ∷ rs) x t = all_kept rs (overlay x r.0 r.1) t

all_lasting : (rs : List Run) (x : List ℕ) → durable_after x (kept_runs rs) ≡ all_laid x rs
all_lasting [] x = refl
all_lasting (r ∷ rs) x = all_lasting rs (overlay x r.0 r.1)

-- the choices of a failed write fit its mode
abbrev pub FateFits : Retained → ℕ → ℕ → WriteFate → Type 0
FateFits k o n (Failed chosen) = FitsRetained k o n (is_chosen chosen)
FateFits k o n Idle = Unit {0}
FateFits k o n Uncounted = Unit {0}
FateFits k o n Done = Unit {0}
FateFits k o n Unsynced = Unit {0}

abbrev pub Both : Retained → ℕ → List ℕ → List ℕ → List Entry → Choices → Type 0
Both k o b x es t = FitsAll t es → LaysAs k o b x (replay_log x es t) × LaysAs k o b x (durable_after x es)

loose_both : (k : Retained) (n o : ℕ) (b x : List ℕ) (t : Choices) → Both k o b x (loose k n o b) t
loose_both k n o [] x t fits = (none_laid k o [] x, none_laid k o [] x)
loose_both None n o (c ∷ b) x t fits = (none_laid None o (c ∷ b) x, none_laid None o (c ∷ b) x)
loose_both (Some k) n o (c ∷ b) x t fits = ((t n, fits.0, refl), none_laid (Some k) o (c ∷ b) x)

none_both : (k : Retained) (o : ℕ) (b x : List ℕ) (t : Choices) → Both k o b x [] t
none_both k o b x t fits = (none_laid k o b x, none_laid k o b x)

changes_both : (fate : WriteFate) (k : Retained) (n : ℕ) (sync : Bool) (o : ℕ) (b x : List ℕ) (answer : Option Refusal) (t : Choices) → FateFits k o (length b) fate → Both k o b x ((write_changes fate k sync o b answer).entries n) t
changes_both Done k n true o b x None t drawn fits = (all_laid_ k o b x, all_laid_ k o b x)
changes_both Done k n false o b x None t drawn fits = loose_both k n o b x t fits
changes_both Done k n true o b x (Some (BlobMissing p m)) t drawn fits = none_both k o b x t fits
changes_both Unsynced k n sync o b x (Some Injected) t drawn fits = loose_both k n o b x t fits
changes_both (Failed chosen) k n sync o b x (Some Injected) t drawn fits = (
  (is_chosen chosen, drawn, all_kept (runs o b chosen) x t ∙ laid_runs o b chosen x),
  (is_chosen chosen, drawn, all_lasting (runs o b chosen) x ∙ laid_runs o b chosen x),
)
changes_both (Failed chosen) k n sync o b x (Some (BlobMissing p m)) t drawn fits = none_both k o b x t fits
changes_both fate k n true o b x answer t drawn fits = none_both k o b x t tt
changes_both fate k n false o b x answer t drawn fits = none_both k o b x t tt

-- drawn positions fit their mode
pub positions_fit : (mode : PartialWriteMode) (rate : Rate) (o n : ℕ) (s : Stream) → FitsMode mode o n (is_chosen (positions mode rate o n s).0)
positions_fit Prefix rate o n s = λ i j le lt is. kept_front rate n s i j le is
positions_fit Subset rate o n s = tt
positions_fit (Sectors size) rate o n s = λ some i j li lj same. ⊎_elim
    (λ lt. sym (whole_sectors rate size o n s i j some (omega arith) lj same))
    (λ le. whole_sectors rate size o n s j i some le li (sym same))
    (cases_lt i j)

failure_fits : (k : Retained) (o n : ℕ) (s : Stream) → FateFits k o n (failure k o n s).0
failure_fits None o n s = tt
failure_fits (Some (mode, rate)) o n s = positions_fit mode rate o n s

drawn_fits : (config : Config) (sync : Bool) (o n : ℕ) (s : Stream) → FateFits (retention config.write_rate) o n (drawn_fate config sync o n s).0
drawn_fits config sync o n s =
    let k = retention config.write_rate in
    let d = draw (option_map (λ c. c.failure_rate) config.write_rate) s in
    let e = draw config.sync_rate d.1 in
    cond_both d.0 (failure k o n d.1) (cond sync (cond e.0 Unsynced Done, e.1) (Done, d.1)) (λ (r : WriteFate × Stream). FateFits k o n r.0)
    (λ _. failure_fits k o n d.1)
    (λ _. cond_both sync (cond e.0 Unsynced Done, e.1) (Done, d.1) (λ (r : WriteFate × Stream). FateFits k o n r.0)
    (λ _. cond_both e.0 Unsynced Done (λ (f : WriteFate). FateFits k o n f) (λ _. tt) (λ _. tt))
    (λ _. tt))

fate_fits : (config : Config) (sync : Bool) (o : ℕ) (b : List ℕ) (s : Stream) → FateFits (retention config.write_rate) o (length b) (write_fate config sync o b s).0
fate_fits config sync o b s =
    let k = retention config.write_rate in
    let late = cond (nat_lt (2 ^ 64 - 1) (o + length b)) (Uncounted, s) (drawn_fate config sync o (length b) s) in
    cond_both (is_idle sync b) (Idle, s) late (λ (r : WriteFate × Stream). FateFits k o (length b) r.0) (λ _. tt)
    (λ _. cond_both (nat_lt (2 ^ 64 - 1) (o + length b)) (Uncounted, s) (drawn_fate config sync o (length b) s) (λ (r : WriteFate × Stream). FateFits k o (length b) r.0) (λ _. tt)
    (λ _. drawn_fits config sync o (length b) s))

pub write_laid : (config : Config) (n : ℕ) (s : Stream) (sync : Bool) (o : ℕ) (b x : List ℕ) (answer : Option Refusal) (t : Choices) → Both (retention config.write_rate) o b x (recorded_write config n s sync o b answer) t
write_laid config n s sync o b x answer t = changes_both (write_fate config sync o b s).0 (retention config.write_rate) n sync o b x answer t (fate_fits config sync o b s)
