use Rattle.std.proofs.Common.{rules, ◌≡◌, sym, subst, append-nil, List, ℕ, Contains}
use Rattle.std.specs.BTreeMap.{values}
use Rattle.blob_memory.specs.Numbers.{numbers_held}
use Rattle.blob_memory.proofs.Numbered.{number_found}
use Rattle.blob_memory.proofs.partitions.numbers_in.Goals as goal

pub returns : goal.returns
returns c n k e =
    let all : c.loop-item.numbers.items ≡ numbers_held (values c.args.names.now) = search (rules, append-nil) in
    subst (λ (ns : List ℕ). Contains ns k) (sym all) (number_found _ c.args.names.now.entries k e)
