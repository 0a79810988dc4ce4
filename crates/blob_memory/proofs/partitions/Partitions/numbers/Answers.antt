use Rattle.std.proofs.Common.{rules, ◌≡◌, Contains, Some, ℕ, List, sym, subst}
use Rattle.std.specs.Prelude.{IfOk}
use Rattle.std.specs.String.{string_bytes}
use Rattle.blob_names.specs.Names.{value_at, below}
use Rattle.blob_memory.specs.Numbers.{item_number}
use Rattle.blob_memory.proofs.partitions.Partitions.numbers.Goals as goal

pub returns-in-Some : goal.returns-in-Some
returns-in-Some c =
    let e : value_at string_bytes c.args.self.now.names c.args.partition.now ≡ Some c.in-Some.names.now = search rules in
    subst (λ m. IfOk c.numbers_in.result (λ numbers. (n : List ℕ) (k : ℕ) → item_number (below (value_at (λ k. k.items)) m n) ≡ Some k → Contains numbers.items k)) (sym e) c.numbers_in.ensures
