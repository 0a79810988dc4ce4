use Rattle.std.proofs.Common.{◌+◌, List, ℕ, subst}
use Rattle.std.proofs.lemmas.List.{take_rest}
use Rattle.blob_pages.specs.Paged.{Lays}
use Rattle.blob_pages.proofs.Appending.{laid_around}
use Rattle.blob_pages.proofs.page_list.lay_around.Goals as goal

pub returns : goal.returns
returns c =
    let end = c.args.part.1 in
    laid_around c.args.pages.now c.lay.new.pages c.lay-2.new.pages c.args.offset c.args.run.now c.args.part.0 end c.requires.part c.lay.ensures
    (subst (λ (run : List ℕ). Lays c.lay.new.pages c.lay-2.new.pages (c.args.offset + end) run) (take_rest c.args.run.now end) c.lay-2.ensures)
