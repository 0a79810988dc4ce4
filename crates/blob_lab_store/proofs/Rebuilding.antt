-- A store that is rebuilt from a snapshot, and wrapped again.
use Rattle.std.proofs.Common.{◌≡◌, ℕ, List, [], true, Some, None, Option, refl, sym, ◌∙◌, subst}
use Rattle.std.specs.Prelude.{unwrap_or, is_some}
use Rattle.blob_model.specs.Directory.{Directory, is_current}
use Rattle.blob_model.specs.Durable.{Durable}
use Rattle.blob_model.specs.Files.{Files, directory_again, reopen}
use Rattle.blob_model.specs.Pending.{Pending}
use Rattle.blob_model.specs.Places.{Place}
use Rattle.blob_model.specs.Stands.{StandsFor}
use Rattle.blob_faulty.specs.Wrapper.{inner_of as store_of, pending_of, next_write_of, next_marker_of}
use Rattle.blob_memory.specs.Laws.{currents}
use Rattle.blob_memory.specs.Store.{directory, durable}
use Rattle.blob_lab_store.specs.LabStands.{Wrapper}
use Rattle.blob_faulty.specs.Keeps.{IsFor}

filled : (x : Option (List ℕ)) → is_some x ≡ true → x ≡ Some (unwrap_or x [])
filled None e = cc
filled (Some v) e = refl

-- the law of stores that are rebuilt
abbrev pub Snapshots : Type 0
Snapshots = (names names_after : Directory) (bytes bytes_after : Durable) (lists lists_after : Place → List Pending) (write marker : ℕ) (files : Files) (kept : Place → List ℕ) →
    ((a : Place) → is_current names a ≡ true → bytes a ≡ Some (kept a)) →
    names_after ≡ directory_again kept names →
    ((a : Place) → bytes_after a ≡ None) →
    ((a : Place) → lists_after a ≡ []) →
    StandsFor names bytes lists write marker files → StandsFor names_after bytes_after lists_after 0 0 (reopen files)

abbrev Numbers : Type 0
Numbers = ℕ × ℕ

pub rebuilt_for : (w w' : Wrapper) (f : Files) → Snapshots → directory (store_of w') ≡ directory_again (λ o. unwrap_or (durable (store_of w) o) []) (directory (store_of w)) → durable (store_of w') ≡ (λ o. None) → pending_of (λ o. o) w' ≡ (λ o. [])
    → next_write_of w' ≡ 0 → next_marker_of w' ≡ 0 → IsFor w f → IsFor w' (reopen f)
rebuilt_for w w' f law names bytes lists write marker s =
    let now = law (directory (store_of w)) (directory (store_of w')) (durable (store_of w)) (durable (store_of w')) (pending_of (λ o. o) w) (pending_of (λ o. o) w') (next_write_of w) (next_marker_of w) f (λ o. unwrap_or (durable (store_of w) o) [])
    (λ o is. filled (durable (store_of w) o) (currents (store_of w).contents o ∙ is)) names (λ o i. bytes i o) (λ o i. lists i o) s in
    let numbers : (0, 0) ≡ (next_write_of w', next_marker_of w') = λ i. (sym write i, sym marker i) in
    subst (λ (k : Numbers). StandsFor (directory (store_of w')) (durable (store_of w')) (pending_of (λ o. o) w') k.0 k.1 (reopen f)) numbers now
