use Rattle.std.proofs.Common.{arith}
use Rattle.blob_pages.proofs.Paged.{extends_through}
use Rattle.blob_pages.proofs.Appending.{part_through}
use Rattle.blob_pages.proofs.page_list.take_room_for.Goals as goal

pub append_whole-requires-clause-there : goal.append_whole-requires-clause-there
append_whole-requires-clause-there c = omega (arith, c.in_ok-extend.ensures.count, c.count.ensures.low)

pub returns-in_err-part-clause-extends : goal.returns-in_err-part-clause-extends
returns-in_err-part-clause-extends c = extends_through c.args.pages.now c.extend.new.pages c.append_whole.new.pages c.extend.ensures.extends c.append_whole.ensures.extends

pub returns-in_err-take_room-clause-extends : goal.returns-in_err-take_room-clause-extends
returns-in_err-take_room-clause-extends c =
    extends_through c.args.pages.now c.append_whole.new.pages c.take_room.new.pages (extends_through c.args.pages.now c.extend.new.pages c.append_whole.new.pages c.extend.ensures.extends c.append_whole.ensures.extends) c.take_room.ensures.extends

pub returns-clause-extends : goal.returns-clause-extends
returns-clause-extends c =
    extends_through c.args.pages.now c.append_whole.new.pages c.take_room.new.pages (extends_through c.args.pages.now c.extend.new.pages c.append_whole.new.pages c.extend.ensures.extends c.append_whole.ensures.extends) c.take_room.ensures.extends

pub returns-clause-part : goal.returns-clause-part
returns-clause-part c = part_through c.append_whole.new.pages c.take_room.new.pages c.args.offset c.args.run.now c.in_ok-part.part.0 c.in_ok-part.part.1 c.take_room.ensures.extends c.in_ok-part.ensures.part
