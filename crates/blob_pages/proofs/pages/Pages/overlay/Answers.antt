use Rattle.std.proofs.Common.{rules, ◌∙◌, ap, sym, refl, arith}
use Rattle.blob_pages.specs.Paged.{bytes_in}
use Rattle.blob_pages.proofs.Paged.{overlay_none}
use Rattle.blob_pages.proofs.pages.Pages.overlay.Goals as goal

pub returns-then-is_empty : goal.returns-then-is_empty
returns-then-is_empty c = record { ok = sym (overlay_none _ c.args.offset c.args.run.now (search (rules, arith))); err = tt; room = refl }

pub returns-in_err-self : goal.returns-in_err-self
returns-in_err-self c = record { ok = search rules; err = search (rules, c.lay_over.ensures.changes.err); room = refl }

pub returns : goal.returns
returns c = record { ok = ap (bytes_in c.lay_over.new.pages) c.in_ok-self.ensures.len ∙ c.in_ok-self.ensures.changes.ok; err = tt; room = refl }
