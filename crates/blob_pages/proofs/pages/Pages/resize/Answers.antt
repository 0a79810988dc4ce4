use Rattle.std.proofs.Common.{rules, refl}
use Rattle.blob_pages.proofs.pages.Pages.resize.Goals as goal

pub returns-in_err-set_len : goal.returns-in_err-set_len
returns-in_err-set_len c = record { ok = search rules; err = search (rules, c.set_len.ensures.err); room = refl }

pub returns : goal.returns
returns c = record { ok = c.in_ok-set_len.ensures.ok; err = tt; room = refl }
