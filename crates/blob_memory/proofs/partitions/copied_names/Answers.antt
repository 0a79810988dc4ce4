use Rattle.std.proofs.Common.{rules, ◌≡◌, sym, subst, append-nil}
use Rattle.std.specs.Prelude.{map, is_some}
use Rattle.std.specs.BTreeMap.{keys}
use Rattle.blob_base.specs.Names.{AreNames}
use Rattle.blob_names.specs.Names.{value_at}
use Rattle.blob_memory.proofs.Listings.{names_are}
use Rattle.blob_memory.proofs.partitions.copied_names.Goals as goal

pub returns : goal.returns
returns c =
    let e : map (λ n. n.items) c.loop-name.all.items ≡ map (λ k. k.items) (keys c.args.names.now) = search (rules, append-nil) in
    subst (λ ns. AreNames ns (λ n. is_some (value_at (λ k. k.items) c.args.names.now n))) (sym e) (names_are (λ k. k.items) c.args.names.now c.keys-name-items.ensures.ordered)
