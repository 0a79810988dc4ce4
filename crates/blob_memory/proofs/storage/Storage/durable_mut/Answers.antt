use Rattle.std.proofs.Common.{refl, ap}
use Rattle.blob_memory.specs.Contents.{bytes_of}
use Rattle.blob_memory.proofs.Kept.{still, kept_none, retakes, lent_room, lent_current}
use Rattle.blob_memory.proofs.storage.Storage.durable_mut.Goals as goal

pub returns : goal.returns
returns c =
    let s = c.args.self.now in
    let o = c.args.origin.now in
    let none = c.bytes_mut.follows.holds-at-none in (
      (
        refl,
        (λ w. retakes s (record s { contents = c.bytes_mut.follows.lender w }) o c.bytes_mut.result w c.bytes_mut.ensures.value (c.bytes_mut.follows.holds w)),
        record { durable = still s.contents _ none; kept = kept_none s (record s { contents = c.bytes_mut.follows.lender-at-none }) none },
      ),
      record { writes_back = tt; value = ap bytes_of c.bytes_mut.ensures.value; current = lent_current s.contents o c.bytes_mut.result c.bytes_mut.ensures.value; room = lent_room s.contents o c.bytes_mut.result c.bytes_mut.ensures.value },
    )
