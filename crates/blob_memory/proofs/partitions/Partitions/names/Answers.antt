use Rattle.std.proofs.Common.{rules, ◌≡◌, None, Some, ap, sym, subst}
use Rattle.std.specs.Prelude.{map, is_some, IfOk}
use Rattle.std.specs.String.{string_bytes}
use Rattle.blob_base.specs.Names.{AreNames}
use Rattle.blob_names.specs.Names.{value_at, below}
use Rattle.blob_memory.proofs.Listings.{no_names}
use Rattle.blob_memory.proofs.partitions.Partitions.names.Goals as goal

pub returns-in-None : goal.returns-in-None
returns-in-None c =
    let e : value_at string_bytes c.args.self.now.names c.args.partition.now ≡ None = search rules in
    no_names _ _ (ap (map (λ n. n.items)) c.new.ensures.items) (λ n. ap (λ m. is_some (below (value_at (λ k. k.items)) m n)) e)

pub returns-in-Some : goal.returns-in-Some
returns-in-Some c =
    let e : value_at string_bytes c.args.self.now.names c.args.partition.now ≡ Some c.in-Some.names.now = search rules in
    subst (λ m. IfOk c.copied_names.result (λ names. AreNames (map (λ n. n.items) names.items) (λ n. is_some (below (value_at (λ k. k.items)) m n)))) (sym e) c.copied_names.ensures
