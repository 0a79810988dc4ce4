use Rattle.std.proofs.Common.{ap}
use Rattle.blob_pages.specs.Groups.{group_pages}
use Rattle.blob_pages.proofs.Paged.{now_owned}
use Rattle.blob_pages.proofs.Groups.{opened_there, opened_keeps}
use Rattle.blob_pages.proofs.group.own_in.Goals as goal

pub returns-in_err-own-clause-keeps : goal.returns-in_err-own-clause-keeps
returns-in_err-own-clause-keeps c = opened_keeps (group_pages c.args.group.now) (group_pages c.open.new.group) c.in-Open.pages.items c.args.i c.requires c.open.ensures.keeps (ap group_pages c.in-Open.is) c.index_mut.result.now c.own.new.page c.index_mut.ensures.value c.own.ensures.bytes c.own.ensures.kept

pub returns-in_ok-own-clause-keeps : goal.returns-in_ok-own-clause-keeps
returns-in_ok-own-clause-keeps c = opened_keeps (group_pages c.args.group.now) (group_pages c.open.new.group) c.in-Open.pages.items c.args.i c.requires c.open.ensures.keeps (ap group_pages c.in-Open.is) c.index_mut.result.now c.own.new.page c.index_mut.ensures.value c.own.ensures.bytes c.own.ensures.kept

pub returns-in_ok-own-clause-owned : goal.returns-in_ok-own-clause-owned
returns-in_ok-own-clause-owned c = now_owned c.in-Open.pages.items c.args.i c.own.new.page (opened_there (group_pages c.args.group.now) (group_pages c.open.new.group) c.in-Open.pages.items c.args.i c.requires c.open.ensures.keeps (ap group_pages c.in-Open.is)) c.in_ok-own.ensures.owned
