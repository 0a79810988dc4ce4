use Rattle.std.proofs.Common.{ap, sym}
use Rattle.blob_pages.specs.Groups.{group_pages, is_open}
use Rattle.blob_pages.proofs.Groups.{none_owned}
use Rattle.blob_pages.proofs.group.Group.is_owned.Goals as goal

pub returns-in-Closed : goal.returns-in-Closed
returns-in-Closed c = sym (none_owned (group_pages c.args.self.now) c.args.i (c.requires (ap is_open c.in-Closed.is)))
