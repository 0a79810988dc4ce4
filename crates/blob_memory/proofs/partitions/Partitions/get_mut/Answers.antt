use Rattle.std.proofs.Common.{rules, ◌≡◌, refl, Some}
use Rattle.std.specs.String.{string_bytes}
use Rattle.std.specs.Option.{option_copied_mut}
use Rattle.blob_names.specs.Names.{value_at}
use Rattle.blob_memory.specs.Partitions.{item_at}
use Rattle.blob_memory.proofs.Lent.{on_some, altered, unaltered}
use Rattle.blob_memory.proofs.partitions.Partitions.get_mut.Goals as goal

pub returns-in-Some : goal.returns-in-Some
returns-in-Some c =
    let s = c.args.self.now in
    let outer : value_at string_bytes s.names c.args.partition.now ≡ Some c.in-Some.names.now = search rules in
    let here : option_copied_mut c.get_mut-in-Some.result ≡ item_at s c.args.partition.now c.args.name.now = search rules in (
      (
        refl,
        (λ w. on_some _ (λ is. altered s (record s { names = c.get_mut.follows.lender (c.get_mut-in-Some.follows.lender w) }) c.args.partition.now c.in-Some.names.now _ outer
            ((c.get_mut.follows.holds _).3 (search rules)) c.args.name.now (Some w) ((c.get_mut-in-Some.follows.holds w).3 (search rules)))),
        unaltered s (record s { names = c.get_mut.follows.lender c.get_mut-in-Some.follows.lender-at-none }) c.args.partition.now c.in-Some.names.now _ outer
            ((c.get_mut.follows.holds _).3 (search rules)) c.get_mut-in-Some.follows.holds-at-none,
      ),
      here,
    )
