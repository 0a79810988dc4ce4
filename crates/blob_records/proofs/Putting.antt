-- What a put leaves of a record, durably, in a crash and to a read.
use Rattle.std.proofs.Common.{◌≡◌, ⊎_elim, ℕ, ◌+◌, ◌-◌, ◌*◌, ◌<◌, ◌≤◌, max, Bool, true, false, List, [], ◌∷◌, length, get_or, Option, Some, None, refl, sym, ◌∙◌, ap, ap₂, subst, arith}
use Rattle.std.proofs.lemmas.Bool.{cases_eq, cases_lt}
use Rattle.std.proofs.lemmas.List.{get_or_past}
use Rattle.rand_core.specs.Stream.{Stream}
use Rattle.blob_header.specs.Refusals.{Refusal, BlobMissing, Injected}
use Rattle.blob_model.specs.declared.mode.PartialWriteMode.{PartialWriteMode}
use Rattle.blob_model.specs.declared.mode.PartialWriteMode.TheVariants.{Prefix, Subset, Sectors}
use Rattle.blob_model.specs.Bytes.{overlay, overlay_by, resize, write_live}
use Rattle.blob_model.specs.Live.{all_written}
use Rattle.blob_model.specs.Log.{Choices, Entry, durable_after}
use Rattle.blob_model.specs.Rates.{Rate}
use Rattle.blob_model.specs.Runs.{Run, kept_runs, runs}
use Rattle.blob_model.proofs.Agrees.{alike}
use Rattle.blob_model.proofs.Bytes.{at_chosen, at_other, at_resized, past_resized}
use Rattle.blob_draws.specs.declared.config.Config.{Config}
use Rattle.blob_draws.specs.Changes.{write_changes}
use Rattle.blob_draws.specs.Faults.{WriteFate, Done, Unsynced, Failed, retention, write_fate}
use Rattle.blob_draws.specs.Recorded.{live_of_write}
use Rattle.blob_faulty.specs.Fits.{FitsAll, FitsRetained}
use Rattle.blob_faulty.specs.FitLaws.{WritesLayFitting}
use Rattle.blob_faulty.specs.Leaves.{Test}
use Rattle.blob_faulty.specs.Outcomes.{IsNotMissing}
use Rattle.blob_records.specs.Records.{KeepsSlotsWhole, record_in}
use Rattle.blob_records.proofs.Slots.{is_record, one_sector, other_slot, same_record, whole_slot}

abbrev Retained : Type 0
Retained = Option (PartialWriteMode × Rate)

-- fitting choices are the same for each byte of a slot
alike_in_slot : (k : Retained) (len index : ℕ) (c : ℕ → Bool) → KeepsSlotsWhole k len → FitsRetained k (index * len) len c → (j : ℕ) → j < len → c j ≡ c 0
alike_in_slot None len index c whole fits j low = absurd whole
alike_in_slot (Some (Prefix, rate)) len index c whole fits j low = absurd whole
alike_in_slot (Some (Subset, rate)) len index c whole fits j low = absurd whole
alike_in_slot (Some (Sectors size, rate)) len index c whole fits j low =
    fits whole.0 j 0 low (omega (arith, low)) (one_sector len size index j whole.2 low ∙ sym (one_sector len size index 0 whole.2 (omega (arith, low))))

-- a test that passed still does, if it is at another index or the put bytes pass it
pub passes_put : (k : Retained) (len index : ℕ) (b x y : List ℕ) (c : ℕ → Bool) → length b ≡ len → KeepsSlotsWhole k len → FitsRetained k (index * len) (length b) c → y ≡ overlay_by x (index * len) b c →
    (i : ℕ) (test : Test) → (i ≡ index → test b ≡ true) → test (record_in len x i) ≡ true → test (record_in len y i) ≡ true
passes_put k len index b x y c is whole fits laid i test put was =
    let each = alike_in_slot k len index c whole (subst (λ (n : ℕ). FitsRetained k (index * len) n c) is fits) in
    let z : List ℕ = overlay_by x (index * len) b c in
    ap (λ (l : List ℕ). test (record_in len l i)) laid ∙ ⊎_elim
    (λ at. ap (λ (n : ℕ). test (record_in len z n)) at ∙ ⊎_elim
    (λ old. ap test old ∙ ap (λ (n : ℕ). test (record_in len x n)) (sym at) ∙ was)
    (λ new. ap test new ∙ put at)
    (whole_slot len x index b c is each))
    (λ other. ap test (other_slot len x index b c i is other) ∙ was)
    (cases_eq i index)

-- Live bytes after a write. They may have more zeros than durable ones, so they are compared byte by byte.

abbrev Same : List ℕ → List ℕ → Type 0
Same x y = (p : ℕ) → get_or x p 0 ≡ get_or y p 0

grown : (x : List ℕ) (n : ℕ) → length x ≤ n → Same (resize x n) x
grown x n more p = ⊎_elim
    (λ lt. at_resized x n p lt)
    (λ ge. past_resized x n p ge ∙ sym (get_or_past x p 0 (omega (arith, more, ge))))
    (cases_lt p n)

written : (x y : List ℕ) (o : ℕ) (b : List ℕ) → Same x y → Same (write_live x o b) (overlay y o b)
written x y o b same p = alike (resize x (max (length x) o)) y o b (λ _. true) (λ _. true) p (λ _ _. refl) (grown x (max (length x) o) (omega arith) p ∙ same p)

all_runs : (rs : List Run) (x y : List ℕ) → Same x y → Same (all_written x rs) (durable_after y (kept_runs rs))
all_runs [] x y same = same
all_runs (r ∷ rs) x y same = all_runs rs (write_live x r.0 r.1) (overlay y r.0 r.1) (written x y r.0 r.1 same)

fits_runs : (t : Choices) (rs : List Run) → FitsAll t (kept_runs rs)
fits_runs t [] = tt
fits_runs t (r ∷ rs) = (tt, fits_runs t rs)

constant_fits : (k : Retained) (o n : ℕ) (b : Bool) → FitsRetained k o n (λ _. b)
constant_fits None o n b = tt
constant_fits (Some (Prefix, rate)) o n b = λ i j le lt is. is
constant_fits (Some (Subset, rate)) o n b = tt
constant_fits (Some (Sectors size, rate)) o n b = λ some i j li lj same. refl

-- the bytes are those of x with fitting bytes of a write over them
abbrev pub Lays : Retained → ℕ → List ℕ → List ℕ → List ℕ → Type 0
Lays k o b x y = (c : ℕ → Bool) × FitsRetained k o (length b) c × Same y (overlay_by x o b c)

abbrev LaysDurably : Retained → ℕ → List ℕ → List ℕ → List Entry → Type 0
LaysDurably k o b x es = (t : Choices) → FitsAll t es → (c : ℕ → Bool) × FitsRetained k o (length b) c × (durable_after x es ≡ overlay_by x o b c)

lays_none : (k : Retained) (o : ℕ) (b x : List ℕ) → Lays k o b x x
lays_none k o b x = (λ _. false, constant_fits k o (length b) false, λ p. sym (at_other x o b (λ _. false) p (λ _ _. refl)))

lays_all : (k : Retained) (o : ℕ) (b x : List ℕ) → Lays k o b x (write_live x o b)
lays_all k o b x = (λ _. true, constant_fits k o (length b) true, written x x o b (λ _. refl))

by_fate : (fate : WriteFate) (k : Retained) (n o : ℕ) (b x : List ℕ) (answer : Option Refusal) → IsNotMissing answer →
    LaysDurably k o b x ((write_changes fate k false o b answer).entries n) → Lays k o b x ((write_changes fate k false o b answer).live x)
by_fate Done k n o b x None there lays = lays_all k o b x
by_fate Unsynced k n o b x (Some Injected) there lays = lays_all k o b x
by_fate (Failed chosen) k n o b x (Some Injected) there lays =
    let rs = runs o b chosen in
    let l = lays (λ _ _. false) (fits_runs (λ _ _. false) rs) in
    (l.0, l.1, λ p. all_runs rs x x (λ _. refl) p ∙ ap (λ (y : List ℕ). get_or y p 0) l.2)
by_fate (Failed chosen) k n o b x (Some (BlobMissing p m)) there lays = absurd (there p m refl)
by_fate fate k n o b x answer there lays = lays_none k o b x

pub live_laid : WritesLayFitting → (config : Config) (stream : Stream) (x : List ℕ) (o : ℕ) (b : List ℕ) (answer : Option Refusal) → IsNotMissing answer →
    Lays (retention config.write_rate) o b x (live_of_write config stream false x o b answer)
live_laid law config stream x o b answer there = by_fate (write_fate config false o b stream).0 (retention config.write_rate) 0 o b x answer there
    (λ t fits. (law config 0 stream false o b x answer t fits).1)

pub live_put : WritesLayFitting → (config : Config) (stream : Stream) (x y : List ℕ) (o offset : ℕ) (b : List ℕ) (sync : Bool) (answer : Option Refusal) → IsNotMissing answer → o ≡ offset → sync ≡ false →
    y ≡ live_of_write config stream sync x o b answer → Lays (retention config.write_rate) offset b x y
live_put law config stream x y o offset b sync answer there at plain is =
    subst (λ (z : List ℕ). Lays (retention config.write_rate) offset b x z)
    (sym (is ∙ ap₂ (λ (s : Bool) (n : ℕ). live_of_write config stream s x n b answer) plain at)) (live_laid law config stream x offset b answer there)

-- so of the records that are read
pub read_put : (k : Retained) (len index : ℕ) (b x y : List ℕ) → length b ≡ len → KeepsSlotsWhole k len → Lays k (index * len) b x y →
    (i : ℕ) (test : Test) → (i ≡ index → test b ≡ true) → test (record_in len x i) ≡ true → test (record_in len y i) ≡ true
read_put k len index b x y is whole (c, fits, same) i test put was =
    ap test (same_record len y (overlay_by x (index * len) b c) i (λ j low. same (i * len + j))) ∙ passes_put k len index b x (overlay_by x (index * len) b c) c is whole fits refl i test put was

pub read_beside : (k : Retained) (len index : ℕ) (b x y : List ℕ) → length b ≡ len → Lays k (index * len) b x y → (i : ℕ) → (i ≡ index → ⊥) → record_in len y i ≡ record_in len x i
read_beside k len index b x y is (c, fits, same) i other =
    same_record len y (overlay_by x (index * len) b c) i (λ j low. same (i * len + j)) ∙ other_slot len x index b c i is other

pub read_done : (len index : ℕ) (b x : List ℕ) → length b ≡ len → record_in len (write_live x (index * len) b) index ≡ b
read_done len index b x is = is_record len (write_live x (index * len) b) index b is (λ j low.
    let at : index * len + j - index * len ≡ j = omega arith in
    at_chosen _ (index * len) b (λ _. true) (index * len + j) (omega arith) (omega (arith, is, low)) refl ∙ ap (λ (k : ℕ). get_or b k 0) at)
