use Rattle.std.proofs.Common.{◌∙◌, ap, sym, true≢false}
use Rattle.blob_pages.specs.Groups.{group_pages, is_open}
use Rattle.blob_pages.proofs.Groups.{none_owned, puts_page}
use Rattle.blob_pages.proofs.group.put_in.Goals as goal

pub returns-in-Open-clause-puts : goal.returns-in-Open-clause-puts
returns-in-Open-clause-puts c = puts_page (group_pages c.args.group.now) c.in-Open.pages.items c.args.i c.index_mut.result.now c.put.new.page c.args.at c.args.run.now (ap group_pages c.in-Open.is) c.requires.owned c.index_mut.ensures.value c.put.ensures.bytes c.put.ensures.owned

pub returns-in_default-clause-puts : goal.returns-in_default-clause-puts
returns-in_default-clause-puts c = absurd (true≢false (sym c.requires.owned ∙ none_owned (group_pages c.args.group.now) c.args.i (c.requires.sound (ap is_open c.in_default.is))))
