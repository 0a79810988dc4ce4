use Rattle.std.proofs.Common.{◌∙◌, sym, ap, length, replicate, List, ℕ, arith}
use Rattle.blob_pages.specs.Sizes.{splice}
use Rattle.blob_pages.specs.Paged.{page_bytes}
use Rattle.blob_pages.proofs.Zeroed.{blank_length, clearing}
use Rattle.blob_pages.proofs.page.clear.Goals as goal

pub returns-in-Blank-clause-bytes : goal.returns-in-Blank-clause-bytes
returns-in-Blank-clause-bytes c =
    let zeros = ap page_bytes c.in-Blank.is in
    zeros ∙ clearing c.args.at c.args.len (omega (arith, c.requires.within, ap length zeros, blank_length))
    ∙ ap (λ (x : List ℕ). splice x c.args.at (replicate c.args.len 0)) (sym zeros)
