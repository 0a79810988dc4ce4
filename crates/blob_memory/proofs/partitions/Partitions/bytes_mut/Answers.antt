use Rattle.std.proofs.Common.{◌≡◌, ◌∙◌, refl, sym, ap, Some}
use Rattle.std.specs.Option.{option_copied_mut}
use Rattle.blob_model.specs.Places.{Place}
use Rattle.blob_memory.specs.declared.item.Item.{Item}
use Rattle.blob_memory.specs.Contents.{vec_in}
use Rattle.blob_memory.specs.Partitions.{item_at, is_there, with_item, with_bytes, HasItems}
use Rattle.blob_memory.proofs.Lent.{where_some, has_at, has_same}
use Rattle.blob_memory.proofs.partitions.Partitions.bytes_mut.Goals as goal

-- the origin's names
abbrev partition_is : (c : goal.After-bytes_mut) → c.deref.result.now ≡ c.args.origin.now.partition
partition_is c = c.deref.ensures ∙ ap (λ (o : Place). o.partition) c.origin.view_is

abbrev name_is : (c : goal.After-bytes_mut) → c.deref-2.result.now ≡ c.args.origin.now.name
name_is c = c.deref-2.ensures.value ∙ ap (λ (o : Place). o.name) c.origin.view_is

-- the existing item, by the origin's names
abbrev here : (c : goal.After-bytes_mut) → item_at c.args.self.now c.args.origin.now.partition c.args.origin.now.name ≡ Some c.in-Some.item.now
here c = sym (λ i. item_at c.args.self.now (partition_is c i) (name_is c i)) ∙ sym c.get_mut.ensures.value ∙ ap option_copied_mut c.in-Some.is

abbrev made : (c : goal.After-bytes_mut) (x : Item) → HasItems (c.get_mut.follows.lender x) (with_item (item_at c.args.self.now) c.args.origin.now.partition c.args.origin.now.name (Some x)) (is_there c.args.self.now)
made c x = has_at c.args.self.now _ (Some x) _ _ _ _ (partition_is c) (name_is c) (where_some _ _ c.in-Some.is (c.get_mut.follows.holds x))

pub returns-in-Some : goal.returns-in-Some
returns-in-Some c =
    let o = c.args.origin.now in
    let s = c.args.self.now in
    let value : option_copied_mut c.bytes_mut.result ≡ vec_in c.args.first (item_at s o.partition o.name) o.number o.start = c.bytes_mut.ensures.value ∙ ap (λ x. vec_in c.args.first x o.number o.start) (sym (here c)) in (
      (
        refl,
        (λ w. rw (here c) (made c (with_bytes c.in-Some.item.now w))),
        has_same s _ (Some c.in-Some.item.now) o.partition o.name (here c) (made c c.in-Some.item.now),
      ),
      record { writes_back = tt; value = value },
    )
