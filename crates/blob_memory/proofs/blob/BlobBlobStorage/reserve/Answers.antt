use Rattle.std.proofs.Common.{◌≤◌, arith}
use Rattle.blob_memory.specs.AnswerLaws.{answers_kept, both_rooms}
use Rattle.blob_memory.specs.Store.{place, directory}
use Rattle.blob_memory.proofs.Kept.{lent, stays, rooms, rooms_still, fits_lent}
use Rattle.blob_memory.proofs.Rooms.{room_kept, room_reached}
use Rattle.blob_memory.proofs.blob.BlobBlobStorage.reserve.Goals as goal

pub returns-in_err-make_room-2-clause-kept : goal.returns-in_err-make_room-2-clause-kept
returns-in_err-make_room-2-clause-kept c =
    let l = (lent c.args.store.now.contents _ (place c.args.self.now) _ _ c.make_room-2.new.bytes c.in-Some.is c.bytes_mut.ensures.value (c.bytes_mut.follows.holds c.make_room-2.new.bytes)) in
    room_kept c.args.store.now.contents (c.bytes_mut.follows.lender c.make_room-2.new.bytes) (place c.args.self.now) _ _ (omega (arith, c.make_room.ensures.bytes.capacity)) l.now.directory (rooms l c.make_room-2.ensures.bytes.capacity)

pub returns-in_err-make_room-2-clause-write_answers : goal.returns-in_err-make_room-2-clause-write_answers
returns-in_err-make_room-2-clause-write_answers c = answers_kept (directory c.args.store.now) _ (place c.args.self.now) _ _ (lent c.args.store.now.contents _ (place c.args.self.now) _ _ c.make_room-2.new.bytes c.in-Some.is c.bytes_mut.ensures.value (c.bytes_mut.follows.holds c.make_room-2.new.bytes)).now.directory (both_rooms _ _ (returns-in_err-make_room-2-clause-kept c) (omega (arith, c.make_room.ensures.bytes.capacity)))

pub returns-in_err-make_room-2-clause-durable : goal.returns-in_err-make_room-2-clause-durable
returns-in_err-make_room-2-clause-durable c = stays (lent c.args.store.now.contents _ (place c.args.self.now) _ _ c.make_room-2.new.bytes c.in-Some.is c.bytes_mut.ensures.value (c.bytes_mut.follows.holds c.make_room-2.new.bytes)) c.in_err-make_room-2.ensures.bytes.err

pub returns-in_err-make_room-2-clause-directory : goal.returns-in_err-make_room-2-clause-directory
returns-in_err-make_room-2-clause-directory c = (lent c.args.store.now.contents _ (place c.args.self.now) _ _ c.make_room-2.new.bytes c.in-Some.is c.bytes_mut.ensures.value (c.bytes_mut.follows.holds c.make_room-2.new.bytes)).now.directory

pub returns-in_default-clause-kept : goal.returns-in_default-clause-kept
returns-in_default-clause-kept c =
    let none = c.bytes_mut.follows.holds-at-none in
    room_kept c.args.store.now.contents c.bytes_mut.follows.lender-at-none (place c.args.self.now) _ _ (omega (arith, c.make_room.ensures.bytes.capacity)) none.directory (rooms_still c.args.store.now.contents c.bytes_mut.follows.lender-at-none none)

pub returns-in_default-clause-write_answers : goal.returns-in_default-clause-write_answers
returns-in_default-clause-write_answers c = answers_kept (directory c.args.store.now) _ (place c.args.self.now) _ _ c.bytes_mut.follows.holds-at-none.directory (both_rooms _ _ (returns-in_default-clause-kept c) (omega (arith, c.make_room.ensures.bytes.capacity)))

pub returns-clause-durable : goal.returns-clause-durable
returns-clause-durable c = stays (lent c.args.store.now.contents _ (place c.args.self.now) _ _ c.make_room-2.new.bytes c.in-Some.is c.bytes_mut.ensures.value (c.bytes_mut.follows.holds c.make_room-2.new.bytes)) c.in_ok-make_room-2.ensures.bytes.ok

pub returns-clause-directory : goal.returns-clause-directory
returns-clause-directory c = (lent c.args.store.now.contents _ (place c.args.self.now) _ _ c.make_room-2.new.bytes c.in-Some.is c.bytes_mut.ensures.value (c.bytes_mut.follows.holds c.make_room-2.new.bytes)).now.directory

pub returns-clause-room : goal.returns-clause-room
returns-clause-room c = λ _ now.
    let l = (lent c.args.store.now.contents _ (place c.args.self.now) _ _ c.make_room-2.new.bytes c.in-Some.is c.bytes_mut.ensures.value (c.bytes_mut.follows.holds c.make_room-2.new.bytes)) in
    let end : c.args.end ≤ c.make_room-2.new.bytes.capacity = omega (arith, c.in_ok-end.ensures.end, c.in_ok-make_room-2.ensures.room) in
    room_reached c.args.store.now.contents (c.bytes_mut.follows.lender c.make_room-2.new.bytes) (place c.args.self.now) _ c.args.end l.now.directory now (omega (arith, c.in_ok-make_room.ensures.room, c.in_ok-end.ensures.counted, c.in_ok-end.ensures.end)) (fits_lent l _ end)

pub returns-clause-kept : goal.returns-clause-kept
returns-clause-kept c =
    let l = (lent c.args.store.now.contents _ (place c.args.self.now) _ _ c.make_room-2.new.bytes c.in-Some.is c.bytes_mut.ensures.value (c.bytes_mut.follows.holds c.make_room-2.new.bytes)) in
    room_kept c.args.store.now.contents (c.bytes_mut.follows.lender c.make_room-2.new.bytes) (place c.args.self.now) _ _ (omega (arith, c.make_room.ensures.bytes.capacity)) l.now.directory (rooms l c.make_room-2.ensures.bytes.capacity)

pub returns-clause-write_answers : goal.returns-clause-write_answers
returns-clause-write_answers c = answers_kept (directory c.args.store.now) _ (place c.args.self.now) _ _ (lent c.args.store.now.contents _ (place c.args.self.now) _ _ c.make_room-2.new.bytes c.in-Some.is c.bytes_mut.ensures.value (c.bytes_mut.follows.holds c.make_room-2.new.bytes)).now.directory (both_rooms _ _ (returns-clause-kept c) (omega (arith, c.make_room.ensures.bytes.capacity)))
