use Rattle.std.proofs.Common.{rules, sym, refl, arith}
use Rattle.blob_memory.specs.Store.{place, durable}
use Rattle.blob_memory.proofs.ByBytes.{on_err}
use Rattle.blob_memory.proofs.Kept.{lent, alters, stays, rooms}
use Rattle.blob_overlay.proofs.Overlays.{overlay_empty}
use Rattle.blob_memory.proofs.Rooms.{changed_idle, room_kept}
use Rattle.blob_memory.proofs.blob.Blob.write_sync.Goals as goal

pub returns-then-is_empty-clause-durable : goal.returns-then-is_empty-clause-durable
returns-then-is_empty-clause-durable c = sym (changed_idle (durable c.args.store.now) (place c.args.self.now) _ (λ x. overlay_empty x c.args.offset c.args.run.now _ (search (rules, arith))))

pub returns-in_err-make_room-2-clause-err : goal.returns-in_err-make_room-2-clause-err
returns-in_err-make_room-2-clause-err c = on_err _ (stays (lent c.args.store.now.contents _ (place c.args.self.now) _ _ c.in-Some.durable.now c.in-Some.is c.bytes_mut.ensures.value (c.bytes_mut.follows.holds c.in-Some.durable.now)) refl)

pub returns-in_err-make_room-2-clause-room : goal.returns-in_err-make_room-2-clause-room
returns-in_err-make_room-2-clause-room c =
    let l = (lent c.args.store.now.contents _ (place c.args.self.now) _ _ c.in-Some.durable.now c.in-Some.is c.bytes_mut.ensures.value (c.bytes_mut.follows.holds c.in-Some.durable.now)) in
    room_kept c.args.store.now.contents (c.bytes_mut.follows.lender c.in-Some.durable.now) (place c.args.self.now) _ _ (omega (arith, c.make_room-2.ensures.bytes.capacity)) l.now.directory (rooms l (omega arith))

pub returns-in_err-make_room-2-clause-directory : goal.returns-in_err-make_room-2-clause-directory
returns-in_err-make_room-2-clause-directory c = (lent c.args.store.now.contents _ (place c.args.self.now) _ _ c.in-Some.durable.now c.in-Some.is c.bytes_mut.ensures.value (c.bytes_mut.follows.holds c.in-Some.durable.now)).now.directory

pub returns-in_err-write_slice-clause-err : goal.returns-in_err-write_slice-clause-err
returns-in_err-write_slice-clause-err c = on_err _ (stays (lent c.args.store.now.contents _ (place c.args.self.now) _ _ c.write_slice.new.bytes c.in-Some.is c.bytes_mut.ensures.value (c.bytes_mut.follows.holds c.write_slice.new.bytes)) c.in_err-write_slice.ensures.err)

pub returns-in_err-write_slice-clause-room : goal.returns-in_err-write_slice-clause-room
returns-in_err-write_slice-clause-room c =
    let l = (lent c.args.store.now.contents _ (place c.args.self.now) _ _ c.write_slice.new.bytes c.in-Some.is c.bytes_mut.ensures.value (c.bytes_mut.follows.holds c.write_slice.new.bytes)) in
    room_kept c.args.store.now.contents (c.bytes_mut.follows.lender c.write_slice.new.bytes) (place c.args.self.now) _ _ (omega (arith, c.make_room-2.ensures.bytes.capacity)) l.now.directory (rooms l c.write_slice.ensures.capacity)

pub returns-in_err-write_slice-clause-directory : goal.returns-in_err-write_slice-clause-directory
returns-in_err-write_slice-clause-directory c = (lent c.args.store.now.contents _ (place c.args.self.now) _ _ c.write_slice.new.bytes c.in-Some.is c.bytes_mut.ensures.value (c.bytes_mut.follows.holds c.write_slice.new.bytes)).now.directory

pub returns-clause-durable : goal.returns-clause-durable
returns-clause-durable c = alters (lent c.args.store.now.contents _ (place c.args.self.now) _ _ c.write_slice.new.bytes c.in-Some.is c.bytes_mut.ensures.value (c.bytes_mut.follows.holds c.write_slice.new.bytes)) _ c.in_ok-write_slice.ensures.ok

pub returns-clause-room : goal.returns-clause-room
returns-clause-room c =
    let l = (lent c.args.store.now.contents _ (place c.args.self.now) _ _ c.write_slice.new.bytes c.in-Some.is c.bytes_mut.ensures.value (c.bytes_mut.follows.holds c.write_slice.new.bytes)) in
    room_kept c.args.store.now.contents (c.bytes_mut.follows.lender c.write_slice.new.bytes) (place c.args.self.now) _ _ (omega (arith, c.make_room-2.ensures.bytes.capacity, c.write_live_slice-2.ensures.capacity)) l.now.directory (rooms l c.write_slice.ensures.capacity)

pub returns-clause-directory : goal.returns-clause-directory
returns-clause-directory c = (lent c.args.store.now.contents _ (place c.args.self.now) _ _ c.write_slice.new.bytes c.in-Some.is c.bytes_mut.ensures.value (c.bytes_mut.follows.holds c.write_slice.new.bytes)).now.directory
