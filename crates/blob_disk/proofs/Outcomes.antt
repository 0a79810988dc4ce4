-- Steps of the proofs that a file over the wrapper is a disk.
use Rattle.std.proofs.Common.{◌≡◌, ℕ, List, [], Option, Some, None, sym, ◌∙◌, ap, ap₂, subst, inl, inr}
use Rattle.std.proofs.Math.Logic.{∥∥₁_map}
use Rattle.std.proofs.lemmas.Bool.{cond-true}
use Rattle.std.proofs.lemmas.Option.{none-some, same_Some}
use Rattle.std.specs.Prelude.{option_map, is_none, codes}
use Rattle.blob_model.specs.Directory.{Directory, current}
use Rattle.blob_model.specs.Durable.{Durable, with_at, with_changed}
use Rattle.blob_model.specs.Log.{Choices}
use Rattle.blob_model.specs.Pending.{Pending}
use Rattle.blob_model.specs.Places.{Place, same_place}
use Rattle.blob_model.specs.Stands.{replayed_at}
use Rattle.blob_model.specs.SamePlace.{same_self}
use Rattle.blob_faulty.specs.Keeps.{OverMemory}
use Rattle.blob_disk.specs.Outcomes.{MayLeave, Opened, KeepsOutcomes, LeavesDisk, IsTracked, IsCurrent, IsOpenable, IsWhole, outcomes}
use Rattle.blob_draws.specs.declared.config.Config.{Config}
use Rattle.blob_faulty.specs.Certain.{IsNever, partial_resizes}
use Rattle.blob_faulty.specs.Wrapper.{Stands, KeepsRecords, inner_of, config_of, pending_of, inside}
use Rattle.blob_model.specs.Files.{Files, publish}
use Rattle.blob_faulty.specs.Lends.{with_config}
use Rattle.blob_faulty.specs.Syncs.{Publishes}
use Rattle.blob_memory.specs.Answers.{open_refusal}
use Rattle.blob_memory.specs.Store.{directory, durable, live, place}

pub at_place : {bytes bytes' : Durable} → bytes' ≡ bytes → (o : Place) → bytes' o ≡ bytes o
at_place e o = ap (λ (g : Durable). g o) e

-- nothing was recorded
pub same_outcomes : (x x' : List ℕ) (q q' : List Pending) (b b' : Option (List ℕ)) → x' ≡ x → q' ≡ q → b' ≡ b → (c : List ℕ) → MayLeave x' q' b' c → MayLeave x q b c
same_outcomes x x' q q' b b' ex eq eb c (inl e) = inl (e ∙ ex)
same_outcomes x x' q q' b b' ex eq eb c (inr (t, e)) = inr (t, ap₂ (λ (p : List Pending) (d : Option (List ℕ)). replayed_at t p d) (sym eq) (sym eb) ∙ e)

pub keeps_outcomes : {R : Type 0} (b b' : Opened) (w w' : OverMemory R) → live (inside b') ≡ live (inside b) → pending_of (λ o. o) w' (place (inside b')) ≡ pending_of (λ o. o) w (place (inside b)) →
    durable (inner_of w') (place (inside b')) ≡ durable (inner_of w) (place (inside b)) → KeepsOutcomes b w b' w'
keeps_outcomes b b' w w' ex eq eb = record {
  durable = eb;
  no_more = same_outcomes _ _ _ _ _ _ ex eq eb;
  no_fewer = same_outcomes _ _ _ _ _ _ (sym ex) (sym eq) (sym eb);
}

-- after a sync: nothing is pending, and the live bytes are durable
all_live : (x : List ℕ) (b : Option (List ℕ)) (c : List ℕ) (t : Choices) → replayed_at t [] (option_map (λ _. x) b) ≡ Some c → c ≡ x
all_live x None c t e = absurd (none-some c e)
all_live x (Some y) c t e = sym (same_Some x c e)

pub synced_outcomes : (x : List ℕ) (b : Option (List ℕ)) (c : List ℕ) → MayLeave x [] (option_map (λ _. x) b) c → c ≡ x
synced_outcomes x b c (inl e) = e
synced_outcomes x b c (inr (t, e)) = all_live x b c t e

pub here_so : {R : Type 0} (b b' : Opened) (w w' : OverMemory R) → directory (inner_of w') ≡ directory (inner_of w) → place (inside b') ≡ place (inside b) → IsCurrent b w → IsCurrent b' w'
here_so b b' w w' same at h = ap (λ (d : Directory). current d (codes "disk") (codes "0")) same ∙ h ∙ ap Some (sym at)

pub openable_so : {R : Type 0} (w w' : OverMemory R) → directory (inner_of w') ≡ directory (inner_of w) → IsOpenable w → IsOpenable w'
openable_so w w' same h = ap (λ (d : Directory). is_none (open_refusal d (codes "disk") (codes "0") 0 0)) same ∙ h

pub whole_so : {R : Type 0} (w w' : OverMemory R) → config_of w' ≡ config_of w → IsWhole w → IsWhole w'
whole_so w w' config h = subst (λ (c : Config). IsNever (partial_resizes c.resize_rate)) (sym config) h

-- a law of the wrapper: if nothing was recorded, it represents the same files
abbrev pub KeptRecords : Type 0 → Type 0
KeptRecords R = (names names' : Directory) (bytes bytes' : Durable) (old new : OverMemory R) (files : Files) → names' ≡ names → bytes' ≡ bytes → KeepsRecords (λ o. o) old new →
    Stands (λ o. o) names bytes old files → Stands (λ o. o) names' bytes' new files

-- nothing was recorded, as a step of the disk
pub keeps_all : {R : Type 0} (b b' : Opened) (w w' : OverMemory R) → KeptRecords R → directory (inner_of w') ≡ directory (inner_of w) → durable (inner_of w') ≡ durable (inner_of w) →
    KeepsRecords (λ o. o) w w' → place (inside b') ≡ place (inside b) → (IsTracked b → IsTracked b') → LeavesDisk b w b' w'
keeps_all b b' w w' kept named same k at tracked = record {
  standing = λ s. ∥∥₁_map s (λ f. (f.0, kept (directory (inner_of w)) (directory (inner_of w')) (durable (inner_of w)) (durable (inner_of w')) w w' f.0 named same k f.1));
  tracked = tracked;
  directory = named;
  place = at;
  config = k.numbers.config;
  here = here_so b b' w w' named at;
  openable = openable_so w w' named;
  whole = whole_so w w' k.numbers.config;
}

pub synced_at : (x x' : List ℕ) (lists lists' : Place → List Pending) (bytes bytes' : Durable) (o o' : Place) → x' ≡ x → o' ≡ o →
    ((a : Place) → lists' a ≡ with_at lists o [] a) → bytes' ≡ with_changed bytes o (λ _. x) → (c : List ℕ) → MayLeave x' (lists' o') (bytes' o') c → c ≡ x
synced_at x x' lists lists' bytes bytes' o o' ex eo el eb c m =
    synced_outcomes x (bytes o) c (same_outcomes x x' [] (lists' o') (option_map (λ _. x) (bytes o)) (bytes' o') ex
    (ap lists' eo ∙ el o ∙ cond-true (same_place o o) [] (lists o) (same_self o))
    (ap bytes' eo ∙ at_place eb o ∙ cond-true (same_place o o) _ _ (same_self o)) c m)

-- after a sync, as a step of the disk
pub keeps_synced : {R : Type 0} (b b' : Opened) (w w' : OverMemory R) → directory (inner_of w') ≡ directory (inner_of w) →
    Publishes (λ o. o) (directory (inner_of w)) (durable (inner_of w)) (durable (inner_of w')) w w' (place (inside b)) (live (inside b)) →
    place (inside b') ≡ place (inside b) → config_of w' ≡ config_of w → (IsTracked b → IsTracked b') → LeavesDisk b w b' w'
keeps_synced b b' w w' named p at config tracked = record {
  standing = λ s. ∥∥₁_map s (λ f. (publish f.0 (place (inside b)) (live (inside b)), subst (λ d. Stands (λ o. o) d (durable (inner_of w')) w' (publish f.0 (place (inside b)) (live (inside b)))) (sym named) (p f.0 f.1)));
  tracked = tracked;
  directory = named;
  place = at;
  config = config;
  here = here_so b b' w w' named at;
  openable = openable_so w w' named;
  whole = whole_so w w' config;
}

-- another configuration
pub configured_here : {R : Type 0} (b : Opened) (w w' : OverMemory R) (c : Config) → w' ≡ with_config w c → IsCurrent b w → IsCurrent b w'
configured_here b w w' c set h = subst (λ z. IsCurrent b z) (sym set) h

pub configured_whole : {R : Type 0} (w w' : OverMemory R) (c : Config) → w' ≡ with_config w c → IsNever (partial_resizes c.resize_rate) → IsWhole w'
configured_whole w w' c set h = subst (λ z. IsWhole z) (sym set) h

pub configured_outcomes : {R : Type 0} (b : Opened) (w w' : OverMemory R) (c : Config) (x : List ℕ) → w' ≡ with_config w c → outcomes b w' x → outcomes b w x
configured_outcomes b w w' c x set h = subst (λ z. outcomes b z x) set h

pub configured_openable : {R : Type 0} (w w' : OverMemory R) (c : Config) → w' ≡ with_config w c → IsOpenable w → IsOpenable w'
configured_openable w w' c set h = subst (λ z. IsOpenable z) (sym set) h

pub configured_back : {R : Type 0} (b : Opened) (w w' : OverMemory R) (c : Config) (x : List ℕ) → w' ≡ with_config w c → outcomes b w x → outcomes b w' x
configured_back b w w' c x set h = subst (λ z. outcomes b z x) (sym set) h
