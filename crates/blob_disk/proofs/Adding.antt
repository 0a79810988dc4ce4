-- What a mutation that is recorded does to the outcomes of a crash, and to the file.
use Rattle.std.proofs.Common.{◌≡◌, ◌⊎◌, ℕ, List, length, Option, Some, None, true, refl, sym, ◌∙◌, ap, subst, inl, inr}
use Rattle.std.proofs.Math.Logic.{∥∥₁_map, ∥∥₁_elim}
use Rattle.std.proofs.lemmas.Option.{none-some, same_Some}
use Rattle.std.specs.Prelude.{option_map, codes}
use Rattle.blob_model.specs.Directory.{is_current}
use Rattle.blob_model.specs.Files.{Files, all_logged}
use Rattle.blob_model.specs.Log.{Entry, Choices, replay_log}
use Rattle.blob_model.specs.Pending.{Pending}
use Rattle.blob_model.specs.Places.{Place}
use Rattle.blob_model.specs.Stands.{replayed_at}
use Rattle.blob_model.specs.Bytes.{resize}
use Rattle.blob_model.proofs.Opened.{current_is}
use Rattle.blob_faulty.specs.Keeps.{OverMemory}
use Rattle.blob_disk.proofs.Crashes.{one_way}
use Rattle.blob_disk.proofs.Laying.{cut_not, cut_to, mixed_over, mixed_some}
use Rattle.blob_disk.proofs.Outcomes.{here_so, openable_so, whole_so}
use Rattle.blob_disk.specs.Outcomes.{MayLeave, Opened, Leads, LeavesDisk, IsStanding, IsTracked, IsCurrent, outcomes}
use Rattle.blob_faulty.specs.Outcomes.{LaysSome, WritesSome}
use Rattle.blob_faulty.specs.Wrapper.{Stands, inner_of, config_of, pending_of, inside}
use Rattle.blob_memory.specs.Store.{directory, durable, live, place}
use Rattle.sqlite_disk.specs.Disk.{Cut, Follows, Mixed, Torn}

-- the handle is on its name's current incarnation
pub current_now : {R : Type 0} (b : Opened) (w : OverMemory R) → IsCurrent b w → is_current (directory (inner_of w)) (place (inside b)) ≡ true
current_now b w here = current_is (directory (inner_of w)) (codes "disk") (codes "0") (place (inside b)) here

-- an outcome after it is one before it with the mutation done
pub follows : (P : List ℕ → List ℕ → Type 0) (es : List Entry) (x x' : List ℕ) (q q' : List Pending) (v v' : Option (List ℕ)) → P x x' → ((d : List ℕ) (t : Choices) → P d (replay_log d es t)) →
    ((t : Choices) → replayed_at t q' v' ≡ option_map (λ d. replay_log d es t) (replayed_at t q v)) → Follows P (MayLeave x q v) (MayLeave x' q' v')
follows P es x x' q q' v v' seen takes step c (inl e) = (x, inl refl, subst (λ (z : List ℕ). P x z) (sym e) seen)
follows P es x x' q q' v v' seen takes step c (inr (t, e)) = here (replayed_at t q v) refl (sym (step t) ∙ e)
  where
    here : (r : Option (List ℕ)) → replayed_at t q v ≡ r → option_map (λ d. replay_log d es t) r ≡ Some c → (d : List ℕ) × MayLeave x q v d × P d c
    here None is h = absurd (none-some c h)
    here (Some d) is h = (d, inr (t, is), subst (λ (z : List ℕ). P d z) (same_Some (replay_log d es t) c h) (takes d t))

-- and an outcome before it leads to the one after it by the same choices
pub leads : (P : List ℕ → List ℕ → Type 0) (es : List Entry) (x x' : List ℕ) (q q' : List Pending) (v v' : Option (List ℕ)) → P x x' → ((d : List ℕ) (t : Choices) → P d (replay_log d es t)) →
    ((t : Choices) → replayed_at t q' v' ≡ option_map (λ d. replay_log d es t) (replayed_at t q v)) → Leads P (MayLeave x q v) (MayLeave x' q' v')
leads P es x x' q q' v v' seen takes step c (inl e) = (x', inl refl, subst (λ (z : List ℕ). P z x') (sym e) seen)
leads P es x x' q q' v v' seen takes step c (inr (t, e)) =
    (replay_log c es t, inr (t, step t ∙ ap (λ (r : Option (List ℕ)). option_map (λ d. replay_log d es t) r) e), takes c t)

pub file_leads : {R : Type 0} (P : List ℕ → List ℕ → Type 0) (es : List Entry) (b b' : Opened) (w w' : OverMemory R) → IsStanding w → place (inside b') ≡ place (inside b) →
    P (live (inside b)) (live (inside b')) → ((d : List ℕ) (t : Choices) → P d (replay_log d es t)) →
    ((f : Files) (t : Choices) → Stands (λ o. o) (directory (inner_of w)) (durable (inner_of w)) w f →
    replayed_at t (pending_of (λ o. o) w' (place (inside b))) (durable (inner_of w') (place (inside b))) ≡ option_map (λ x. replay_log x es t) (replayed_at t (pending_of (λ o. o) w (place (inside b))) (durable (inner_of w) (place (inside b))))) →
    Leads P (outcomes b w) (outcomes b' w')
file_leads P es b b' w w' standing at seen takes left =
    leads P es (live (inside b)) (live (inside b')) (pending_of (λ (o : Place). o) w (place (inside b))) (pending_of (λ (o : Place). o) w' (place (inside b'))) (durable (inner_of w) (place (inside b))) (durable (inner_of w') (place (inside b'))) seen takes
    (λ t. ap (λ (o : Place). replayed_at t (pending_of (λ (p : Place). p) w' o) (durable (inner_of w') o)) at ∙ ∥∥₁_elim standing (one_way _ _) (λ f. left f.0 t f.1))

-- the same of the file
pub file_follows : {R : Type 0} (P : List ℕ → List ℕ → Type 0) (es : List Entry) (b b' : Opened) (w w' : OverMemory R) → IsStanding w → place (inside b') ≡ place (inside b) →
    P (live (inside b)) (live (inside b')) → ((d : List ℕ) (t : Choices) → P d (replay_log d es t)) →
    ((f : Files) (t : Choices) → Stands (λ o. o) (directory (inner_of w)) (durable (inner_of w)) w f →
    replayed_at t (pending_of (λ o. o) w' (place (inside b))) (durable (inner_of w') (place (inside b))) ≡ option_map (λ x. replay_log x es t) (replayed_at t (pending_of (λ o. o) w (place (inside b))) (durable (inner_of w) (place (inside b))))) →
    Follows P (outcomes b w) (outcomes b' w')
file_follows P es b b' w w' standing at seen takes left =
    follows P es (live (inside b)) (live (inside b')) (pending_of (λ (o : Place). o) w (place (inside b))) (pending_of (λ (o : Place). o) w' (place (inside b'))) (durable (inner_of w) (place (inside b))) (durable (inner_of w') (place (inside b'))) seen takes
    (λ t. ap (λ (o : Place). replayed_at t (pending_of (λ (p : Place). p) w' o) (durable (inner_of w') o)) at ∙ ∥∥₁_elim standing (one_way _ _) (λ f. left f.0 t f.1))

pub keeps_added : {R : Type 0} (es : List Entry) (b b' : Opened) (w w' : OverMemory R) → directory (inner_of w') ≡ directory (inner_of w) → place (inside b') ≡ place (inside b) → config_of w' ≡ config_of w → IsTracked b' →
    ((f : Files) → Stands (λ o. o) (directory (inner_of w)) (durable (inner_of w)) w f → Stands (λ o. o) (directory (inner_of w')) (durable (inner_of w')) w' (all_logged f (place (inside b)) es)) → LeavesDisk b w b' w'
keeps_added es b b' w w' named at config tracked stands = record {
  standing = λ s. ∥∥₁_map s (λ f. (all_logged f.0 (place (inside b)) es, stands f.0 f.1));
  tracked = λ _. tracked;
  directory = named;
  place = at;
  config = config;
  here = here_so b b' w w' named at;
  openable = openable_so w w' named;
  whole = whole_so w w' config;
}

pub torn_follows : (at : ℕ) (bytes : List ℕ) (old new : List ℕ → Type 0) → Follows (Mixed at bytes) old new → Follows (Torn at (length bytes)) old new
torn_follows at bytes old new mixed c may = let m = mixed c may in (m.0, m.1, m.2.torn)

-- a write, by what it records
pub record IsWritten {R : Type 0} (b b' : Opened) (w w' : OverMemory R) (offset : ℕ) (bytes : List ℕ) : Type 0 where
  pub others : Mixed offset bytes (live (inside b)) (live (inside b'))
  pub keeps : LeavesDisk b w b' w'
  pub crash : Follows (Mixed offset bytes) (outcomes b w) (outcomes b' w')
  pub leads : Leads (Mixed offset bytes) (outcomes b w) (outcomes b' w')

pub wrote : {R : Type 0} (b b' : Opened) (w w' : OverMemory R) (es : List Entry) (offset : ℕ) (bytes : List ℕ) → IsStanding w →
    directory (inner_of w') ≡ directory (inner_of w) → place (inside b') ≡ place (inside b) → config_of w' ≡ config_of w → IsTracked b' →
    WritesSome offset bytes (live (inside b)) (live (inside b')) → ((t : Choices) → LaysSome offset bytes es t) →
    ((f : Files) → Stands (λ o. o) (directory (inner_of w)) (durable (inner_of w)) w f → Stands (λ o. o) (directory (inner_of w')) (durable (inner_of w')) w' (all_logged f (place (inside b)) es)) →
    ((f : Files) (t : Choices) → Stands (λ o. o) (directory (inner_of w)) (durable (inner_of w)) w f →
    replayed_at t (pending_of (λ o. o) w' (place (inside b))) (durable (inner_of w') (place (inside b))) ≡ option_map (λ x. replay_log x es t) (replayed_at t (pending_of (λ o. o) w (place (inside b))) (durable (inner_of w) (place (inside b))))) →
    IsWritten b b' w w' offset bytes
wrote b b' w w' es offset bytes standing named at config tracked some laid stands left = record {
  others = mixed_some offset bytes (live (inside b)) (live (inside b')) some;
  keeps = keeps_added es b b' w w' named at config tracked stands;
  crash = file_follows (Mixed offset bytes) es b b' w w' standing at (mixed_some offset bytes (live (inside b)) (live (inside b')) some)
      (λ d t. subst (λ (z : List ℕ). Mixed offset bytes d z) (sym ((laid t).1 d)) (mixed_over offset bytes (laid t).0 d)) left;
  leads = file_leads (Mixed offset bytes) es b b' w w' standing at (mixed_some offset bytes (live (inside b)) (live (inside b')) some)
      (λ d t. subst (λ (z : List ℕ). Mixed offset bytes d z) (sym ((laid t).1 d)) (mixed_over offset bytes (laid t).0 d)) left;
}

-- a resize, by what it records
pub record IsResized {R : Type 0} (b b' : Opened) (w w' : OverMemory R) (len : ℕ) : Type 0 where
  pub others : Cut len (live (inside b)) (live (inside b'))
  pub keeps : LeavesDisk b w b' w'
  pub crash : Follows (Cut len) (outcomes b w) (outcomes b' w')
  pub leads : Leads (Cut len) (outcomes b w) (outcomes b' w')

either_cut : (len : ℕ) (x y : List ℕ) → (y ≡ x) ⊎ (y ≡ resize x len) → Cut len x y
either_cut len x y (inl e) = subst (λ (z : List ℕ). Cut len x z) (sym e) (cut_not len x)
either_cut len x y (inr e) = subst (λ (z : List ℕ). Cut len x z) (sym e) (cut_to len x)

pub cut_so : {R : Type 0} (b b' : Opened) (w w' : OverMemory R) (es : List Entry) (len : ℕ) → IsStanding w →
    directory (inner_of w') ≡ directory (inner_of w) → place (inside b') ≡ place (inside b) → config_of w' ≡ config_of w → IsTracked b' →
    (live (inside b') ≡ live (inside b)) ⊎ (live (inside b') ≡ resize (live (inside b)) len) → ((t : Choices) (x : List ℕ) → (replay_log x es t ≡ x) ⊎ (replay_log x es t ≡ resize x len)) →
    ((f : Files) → Stands (λ o. o) (directory (inner_of w)) (durable (inner_of w)) w f → Stands (λ o. o) (directory (inner_of w')) (durable (inner_of w')) w' (all_logged f (place (inside b)) es)) →
    ((f : Files) (t : Choices) → Stands (λ o. o) (directory (inner_of w)) (durable (inner_of w)) w f →
    replayed_at t (pending_of (λ o. o) w' (place (inside b))) (durable (inner_of w') (place (inside b))) ≡ option_map (λ x. replay_log x es t) (replayed_at t (pending_of (λ o. o) w (place (inside b))) (durable (inner_of w) (place (inside b))))) →
    IsResized b b' w w' len
cut_so b b' w w' es len standing named at config tracked seen cut stands left = record {
  others = either_cut len (live (inside b)) (live (inside b')) seen;
  keeps = keeps_added es b b' w w' named at config tracked stands;
  crash = file_follows (Cut len) es b b' w w' standing at (either_cut len (live (inside b)) (live (inside b')) seen) (λ d t. either_cut len d (replay_log d es t) (cut t d)) left;
  leads = file_leads (Cut len) es b b' w w' standing at (either_cut len (live (inside b)) (live (inside b')) seen) (λ d t. either_cut len d (replay_log d es t) (cut t d)) left;
}
