use Rattle.std.proofs.Common.{rules, refl, Some, ◌≡◌}
use Rattle.std.specs.String.{string_bytes}
use Rattle.blob_names.specs.Names.{value_at}
use Rattle.blob_names.proofs.Maps.{found_after, same_below, set_below}
use Rattle.blob_names.proofs.names.Names.exchange.Goals as goal

pub returns-in_default-get_mut-clause-same : goal.returns-in_default-get_mut-clause-same
returns-in_default-get_mut-clause-same g c = λ i q m. same_below (value_at (λ k. k.items)) (value_at string_bytes c.args.self.now.partitions) (value_at string_bytes (c.get_mut.follows.lender c.get_mut-2.follows.lender-at-none)) c.args.partition.now c.in-Some.names.now c.get_mut-2.follows.lender-at-none
    (search rules)
    (found_after string_bytes c.args.partition.now c.args.self.now.partitions (c.get_mut.follows.lender c.get_mut-2.follows.lender-at-none) (Some c.get_mut-2.follows.lender-at-none) ((c.get_mut.follows.holds c.get_mut-2.follows.lender-at-none).3 (search rules)))
    (λ cs. rw c.get_mut-2.follows.holds-at-none refl) q m i

pub returns-clause-given : goal.returns-clause-given
returns-clause-given g c =
    let x : c.swap.new.x ≡ c.args.value.now = search rules in
    rw (← x) (λ i q m. set_below (value_at (λ k. k.items)) (value_at string_bytes c.args.self.now.partitions) (value_at string_bytes (c.get_mut.follows.lender (c.get_mut-2.follows.lender c.swap.new.x))) c.args.partition.now c.args.name.now c.in-Some.names.now (c.get_mut-2.follows.lender c.swap.new.x) (Some c.swap.new.x)
    (search rules)
    (found_after string_bytes c.args.partition.now c.args.self.now.partitions (c.get_mut.follows.lender (c.get_mut-2.follows.lender c.swap.new.x)) (Some (c.get_mut-2.follows.lender c.swap.new.x)) ((c.get_mut.follows.holds (c.get_mut-2.follows.lender c.swap.new.x)).3 (search rules)))
    (found_after (λ k. k.items) c.args.name.now c.in-Some.names.now (c.get_mut-2.follows.lender c.swap.new.x) (Some c.swap.new.x) ((c.get_mut-2.follows.holds c.swap.new.x).3 (search rules))) q m i)
