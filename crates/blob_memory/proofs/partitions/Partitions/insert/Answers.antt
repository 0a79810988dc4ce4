use Rattle.std.proofs.Common.{rules, refl, ◌∙◌}
use Rattle.std.specs.String.{string_bytes}
use Rattle.std.specs.Prelude.{Some}
use Rattle.blob_names.specs.Names.{value_at}
use Rattle.blob_memory.proofs.ByBytes.{found_after, below_after, below_new, below_still, there_after, there_still, on_err}
use Rattle.blob_memory.proofs.partitions.Partitions.insert.Goals as goal

pub returns-in_err-insert-in-Some-clause-err : goal.returns-in_err-insert-in-Some-clause-err
returns-in_err-insert-in-Some-clause-err c =
    let made = c.insert.new.self in
    let last = c.get_mut.follows.lender made in
    on_err _ (below_still (value_at (λ k. k.items)) (value_at string_bytes c.args.self.now.names) (value_at string_bytes last) c.args.partition.now c.in-Some.names.now made
    (search rules)
    (found_after string_bytes c.args.partition.now c.args.self.now.names last (Some made) ((c.get_mut.follows.holds made).3 (search rules)))
    (λ cs. rw c.in_err-insert-in-Some.ensures.err refl))

pub returns-in_err-insert-in-Some-clause-unmade : goal.returns-in_err-insert-in-Some-clause-unmade
returns-in_err-insert-in-Some-clause-unmade c =
    let made = c.insert.new.self in
    let last = c.get_mut.follows.lender made in
    on_err _ (there_still (value_at string_bytes c.args.self.now.names) (value_at string_bytes last) c.args.partition.now c.in-Some.names.now made
    (search rules)
    (found_after string_bytes c.args.partition.now c.args.self.now.names last (Some made) ((c.get_mut.follows.holds made).3 (search rules))))

pub returns-in_ok-insert-in-Some-clause-ok : goal.returns-in_ok-insert-in-Some-clause-ok
returns-in_ok-insert-in-Some-clause-ok c =
    let made = c.insert.new.self in
    let last = c.get_mut.follows.lender made in
    rw (← c.in_ok-key.ensures.items) (below_after (value_at (λ k. k.items)) (value_at string_bytes c.args.self.now.names) (value_at string_bytes last) c.args.partition.now c.in_ok-key.key.items c.in-Some.names.now made (Some c.args.item)
    (search rules)
    (found_after string_bytes c.args.partition.now c.args.self.now.names last (Some made) ((c.get_mut.follows.holds made).3 (search rules)))
    (found_after (λ k. k.items) c.in_ok-key.key.items c.in-Some.names.now made (Some c.args.item) c.in_ok-insert-in-Some.ensures.updates))

pub returns-in_ok-insert-in-Some-clause-made : goal.returns-in_ok-insert-in-Some-clause-made
returns-in_ok-insert-in-Some-clause-made c =
    let made = c.insert.new.self in
    let last = c.get_mut.follows.lender made in
    there_after (value_at string_bytes c.args.self.now.names) (value_at string_bytes last) c.args.partition.now (Some made)
    (found_after string_bytes c.args.partition.now c.args.self.now.names last (Some made) ((c.get_mut.follows.holds made).3 (search rules)))

pub returns-in_ok-insert-in-None-2-clause-ok : goal.returns-in_ok-insert-in-None-2-clause-ok
returns-in_ok-insert-in-None-2-clause-ok c =
    let made = c.insert-in-None.new.self in
    rw (← c.in_ok-key.ensures.items) (below_new (value_at (λ k. k.items)) (value_at string_bytes c.args.self.now.names) (value_at string_bytes c.insert-in-None-2.new.self) c.args.partition.now c.in_ok-key.key.items made (Some c.args.item)
    (search rules)
    (λ cs. let e = c.get_mut.follows.holds-at-none in
    rw (← e, ← c.in_ok-text-in-None.ensures.ok) (found_after string_bytes (string_bytes c.in_ok-text-in-None.text) c.get_mut.follows.lender-at-none c.insert-in-None-2.new.self (Some made) c.in_ok-insert-in-None-2.ensures.updates cs))
    (λ cs. found_after (λ k. k.items) c.in_ok-key.key.items c.new-names.result made (Some c.args.item) c.in_ok-insert-in-None.ensures.updates cs ∙ rw c.new-names.ensures.empty refl))

pub returns-in_ok-insert-in-None-2-clause-made : goal.returns-in_ok-insert-in-None-2-clause-made
returns-in_ok-insert-in-None-2-clause-made c =
    let made = c.insert-in-None.new.self in
    there_after (value_at string_bytes c.args.self.now.names) (value_at string_bytes c.insert-in-None-2.new.self) c.args.partition.now (Some made)
    (λ cs. let e = c.get_mut.follows.holds-at-none in
    rw (← e, ← c.in_ok-text-in-None.ensures.ok) (found_after string_bytes (string_bytes c.in_ok-text-in-None.text) c.get_mut.follows.lender-at-none c.insert-in-None-2.new.self (Some made) c.in_ok-insert-in-None-2.ensures.updates cs))
