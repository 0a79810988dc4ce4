use Rattle.std.proofs.Common.{◌/◌, arith}
use Rattle.blob_pages.specs.Paged.{page_size}
use Rattle.blob_pages.proofs.Paged.{table_length, extends_kept}
use Rattle.blob_pages.proofs.page_list.take_room.Goals as goal

pub returns-in_err-own_all-clause-extends : goal.returns-in_err-own_all-clause-extends
returns-in_err-own_all-clause-extends c = extends_kept c.args.pages.now c.extend.new.pages c.own_all.new.pages c.extend.ensures.extends c.own_all.ensures.keeps

pub returns-clause-extends : goal.returns-clause-extends
returns-clause-extends c = extends_kept c.args.pages.now c.extend.new.pages c.own_all.new.pages c.extend.ensures.extends c.own_all.ensures.keeps

pub returns-clause-there : goal.returns-clause-there
returns-clause-there c = omega (arith, table_length c.extend.new.pages c.own_all.new.pages c.own_all.ensures.keeps.bytes, c.in_ok-extend.ensures.count, c.count-to.ensures.low)

pub returns-clause-owned : goal.returns-clause-owned
returns-clause-owned c = λ p l m. c.in_ok-own_all.ensures.owned.each (p / page_size) (omega (arith, l)) (omega (arith, m, c.count-to.ensures.low))
