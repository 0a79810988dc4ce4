use Rattle.std.proofs.Common.{◌≤◌, arith}
use Rattle.blob_memory.proofs.Kept.{lent, stays, kept, kept_none, still, fits_lent, fits_none}
use Rattle.blob_memory.proofs.storage.Storage.reserve_crash.Goals as goal

pub returns-in_err-make_room-clause-durable : goal.returns-in_err-make_room-clause-durable
returns-in_err-make_room-clause-durable c = stays (lent c.args.self.now.contents _ c.args.origin.now _ _ c.make_room.new.bytes c.in-Some.is c.bytes_mut.ensures.value (c.bytes_mut.follows.holds c.make_room.new.bytes))
    c.in_err-make_room.ensures.bytes.err

pub returns-in_err-make_room-clause-kept : goal.returns-in_err-make_room-clause-kept
returns-in_err-make_room-clause-kept c = kept c.args.self.now _ (lent c.args.self.now.contents _ c.args.origin.now _ _ c.make_room.new.bytes c.in-Some.is c.bytes_mut.ensures.value (c.bytes_mut.follows.holds c.make_room.new.bytes))
    c.make_room.ensures.bytes.capacity

pub returns-in_default-clause-ok : goal.returns-in_default-clause-ok
returns-in_default-clause-ok c = fits_none c.args.self.now.contents _ c.bytes_mut.follows.holds-at-none c.args.origin.now _ c.in_default.is c.bytes_mut.ensures.value _

pub returns-in_default-clause-durable : goal.returns-in_default-clause-durable
returns-in_default-clause-durable c = still c.args.self.now.contents _ c.bytes_mut.follows.holds-at-none

pub returns-in_default-clause-kept : goal.returns-in_default-clause-kept
returns-in_default-clause-kept c = kept_none c.args.self.now _ c.bytes_mut.follows.holds-at-none

pub returns-clause-ok : goal.returns-clause-ok
returns-clause-ok c =
    let end : c.args.len ≤ c.make_room.new.bytes.capacity = omega (arith, c.in_ok-len.ensures.end, c.in_ok-make_room.ensures.room) in
    fits_lent (lent c.args.self.now.contents _ c.args.origin.now _ _ c.make_room.new.bytes c.in-Some.is c.bytes_mut.ensures.value (c.bytes_mut.follows.holds c.make_room.new.bytes)) _ end

pub returns-clause-durable : goal.returns-clause-durable
returns-clause-durable c = stays (lent c.args.self.now.contents _ c.args.origin.now _ _ c.make_room.new.bytes c.in-Some.is c.bytes_mut.ensures.value (c.bytes_mut.follows.holds c.make_room.new.bytes))
    c.in_ok-make_room.ensures.bytes.ok

pub returns-clause-kept : goal.returns-clause-kept
returns-clause-kept c = kept c.args.self.now _ (lent c.args.self.now.contents _ c.args.origin.now _ _ c.make_room.new.bytes c.in-Some.is c.bytes_mut.ensures.value (c.bytes_mut.follows.holds c.make_room.new.bytes))
    c.make_room.ensures.bytes.capacity
