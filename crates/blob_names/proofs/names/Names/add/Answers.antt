use Rattle.std.proofs.Common.{rules, refl, Some, ◌≡◌, ◌∙◌}
use Rattle.std.specs.String.{string_bytes}
use Rattle.blob_names.specs.Names.{at, value_at}
use Rattle.blob_names.proofs.Maps.{found_after, on_err, same_below, set_below, new_below}
use Rattle.blob_names.proofs.names.Names.add.Goals as goal

pub returns-in_err-insert-clause-err : goal.returns-in_err-insert-clause-err
returns-in_err-insert-clause-err g c =
    let same : c.insert.new.self.entries ≡ c.in-Some.names.now.entries = c.in_err-insert.ensures.err in
    let kept : at (record { partitions = c.get_mut.follows.lender c.insert.new.self; alloc = c.args.self.now.alloc }) ≡ at c.args.self.now = λ i q m. same_below (value_at (λ k. k.items)) (value_at string_bytes c.args.self.now.partitions) (value_at string_bytes (c.get_mut.follows.lender c.insert.new.self)) c.args.partition.now c.in-Some.names.now c.insert.new.self
    (search rules)
    (found_after string_bytes c.args.partition.now c.args.self.now.partitions (c.get_mut.follows.lender c.insert.new.self) (Some c.insert.new.self) ((c.get_mut.follows.holds c.insert.new.self).3 (search rules)))
    (λ cs. rw same refl) q m i in
    on_err _ kept

pub returns-in-Some-clause-ok : goal.returns-in-Some-clause-ok
returns-in-Some-clause-ok g c =
    rw (← c.in_ok-key.ensures.items) (λ i q m. set_below (value_at (λ k. k.items)) (value_at string_bytes c.args.self.now.partitions) (value_at string_bytes (c.get_mut.follows.lender c.insert.new.self)) c.args.partition.now c.in_ok-key.key.items c.in-Some.names.now c.insert.new.self (Some c.args.value)
    (search rules)
    (found_after string_bytes c.args.partition.now c.args.self.now.partitions (c.get_mut.follows.lender c.insert.new.self) (Some c.insert.new.self) ((c.get_mut.follows.holds c.insert.new.self).3 (search rules)))
    (found_after (λ k. k.items) c.in_ok-key.key.items c.in-Some.names.now c.insert.new.self (Some c.args.value) c.in_ok-insert.ensures.updates) q m i)

pub returns-clause-ok : goal.returns-clause-ok
returns-clause-ok g c =
    rw (← c.in_ok-key.ensures.items) (λ i q m. new_below (value_at (λ k. k.items)) (value_at string_bytes c.args.self.now.partitions) (value_at string_bytes c.insert-3.new.self) c.args.partition.now c.in_ok-key.key.items c.insert-2.new.self (Some c.args.value)
    (search rules)
    (λ cs. let e = c.get_mut.follows.holds-at-none in
    rw (← e, ← c.in_ok-text.ensures.ok) (found_after string_bytes (string_bytes c.in_ok-text.text) c.get_mut.follows.lender-at-none c.insert-3.new.self (Some c.insert-2.new.self) c.in_ok-insert-3.ensures.updates cs))
    (λ cs. found_after (λ k. k.items) c.in_ok-key.key.items c.new-names.result c.insert-2.new.self (Some c.args.value) c.in_ok-insert-2.ensures.updates cs ∙ rw c.new-names.ensures.empty refl) q m i)
