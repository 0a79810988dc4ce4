use Rattle.std.proofs.Common.{rules, ◌≡◌, ◌∙◌, ap, Some, None}
use Rattle.std.specs.String.{string_bytes}
use Rattle.std.proofs.lemmas.List.{nil_from_length}
use Rattle.blob_names.specs.Names.{below, value_at}
use Rattle.blob_names.proofs.Maps.{found_after, found_none, none_below, set_below, emptied_below, twice}
use Rattle.blob_names.proofs.names.Names.remove.Goals as goal

pub returns-in_default : goal.returns-in_default
returns-in_default g c =
    let v = value_at (λ k. k.items) in
    let before = value_at string_bytes c.args.self.now.partitions in
    let none : before c.args.partition.now ≡ None = search rules in
    let same = ap (λ x. value_at string_bytes x) c.get_mut.follows.holds-at-none in
    λ i q m. (ap (λ f. below v (f q) m) same ∙ none_below v before before c.args.partition.now c.args.name.now (ap (λ o. below v o c.args.name.now) none) q m) i

pub returns-then-is_empty : goal.returns-then-is_empty
returns-then-is_empty g c =
    let w = c.get_mut.follows.lender c.remove.new.self in
    λ i q m. emptied_below (value_at (λ k. k.items)) (value_at string_bytes c.args.self.now.partitions) (value_at string_bytes c.remove-then-is_empty.new.self) c.args.partition.now c.args.name.now c.in-Some.names.now c.remove.new.self
    (search rules)
    (twice (value_at string_bytes c.args.self.now.partitions) (value_at string_bytes w) (value_at string_bytes c.remove-then-is_empty.new.self) c.args.partition.now (Some c.remove.new.self) None
    (found_after string_bytes c.args.partition.now c.args.self.now.partitions w (Some c.remove.new.self) ((c.get_mut.follows.holds c.remove.new.self).3 (search rules)))
    (found_after string_bytes c.args.partition.now w c.remove-then-is_empty.new.self None c.remove-then-is_empty.ensures.updates))
    (found_after (λ k. k.items) c.args.name.now c.in-Some.names.now c.remove.new.self None c.remove.ensures.updates)
    (λ cs. found_none (λ k. k.items) c.remove.new.self cs (nil_from_length c.remove.new.self.entries (c.is_empty.ensures.0 c.if-is_empty.true))) q m i

pub returns-else-is_empty : goal.returns-else-is_empty
returns-else-is_empty g c = λ i q m. set_below (value_at (λ k. k.items)) (value_at string_bytes c.args.self.now.partitions) (value_at string_bytes (c.get_mut.follows.lender c.remove.new.self)) c.args.partition.now c.args.name.now c.in-Some.names.now c.remove.new.self None
    (search rules)
    (found_after string_bytes c.args.partition.now c.args.self.now.partitions (c.get_mut.follows.lender c.remove.new.self) (Some c.remove.new.self) ((c.get_mut.follows.holds c.remove.new.self).3 (search rules)))
    (found_after (λ k. k.items) c.args.name.now c.in-Some.names.now c.remove.new.self None c.remove.ensures.updates) q m i
