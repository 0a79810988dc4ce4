use Rattle.std.proofs.Common.{◌≡◌, List, ℕ, nat_eq, ap, Option}
use Rattle.std.specs.List.{each_same}
use Rattle.std.specs.Map.{lookup}
use Rattle.std.proofs.lemmas.Map.Entries.{entries_from_clone}
use Rattle.indexmap.specs.IndexMap.{get}
use Rattle.blob_model.specs.Order.{ListAt, held_at}
use Rattle.blob_pending.proofs.Copying.{held_copied, distinct_copied, found_copied}
use Rattle.blob_pending.proofs.lists.Lists.copy.Goals as goal

pub invariant_of-result : goal.invariant_of-result
invariant_of-result g c =
    let place = g.S.Durable.place in
    let is = c.self.inside.all.lists.items in
    let js = c.in_ok-clone.field-0.items in
    record { distinct = distinct_copied place is js g.met.S.Durable.one_origin (held_copied place g.S.Origin.Clone.is_clone c.requires is js c.in_ok-clone.ensures.cases.0) c.self.inside.all.distinct }

pub invariant_of-result-2 : goal.invariant_of-result-2
invariant_of-result-2 g c =
    let place = g.S.Durable.place in
    let s = c.self.inside in
    let is = s.all.lists.items in
    let js = c.in_ok-clone.field-0.items in
    let keys : c.in_ok-clone-2.field-0.keys ≡ s.numbers.keys = each_same s.numbers.keys c.in_ok-clone-2.field-0.keys c.in_ok-clone-2.ensures.cases in
    let entries : c.in_ok-clone-3.field-0.entries ≡ s.owners.entries = entries_from_clone (λ (x y : ℕ). y ≡ x) (λ (x y : ℕ). y ≡ x) (λ x y e. e) (λ x y e. e) s.owners.entries c.in_ok-clone-3.field-0.entries c.in_ok-clone-3.ensures.cases in
    let owner : List (ℕ × ℕ) → ℕ → Option ℕ = λ es m. lookup (nat_eq m) es in
    found_copied place is js (held_copied place g.S.Origin.Clone.is_clone c.requires is js c.in_ok-clone.ensures.cases.0)
    s.numbers.keys c.in_ok-clone-2.field-0.keys s.searched (get nat_eq s.owners) (get nat_eq c.in_ok-clone-3.field-0) s.unmapped keys
    (ap owner entries) c.self.invariant

pub returns : goal.returns
returns g c =
    let is = c.self.inside.all.lists.items in
    rw (← c.self.view_is) (λ o. ap (λ (hs : List ListAt). held_at hs o) (held_copied g.S.Durable.place g.S.Origin.Clone.is_clone c.requires is c.in_ok-clone.field-0.items c.in_ok-clone.ensures.cases.0))
