use Rattle.std.proofs.Common.{◌≡◌, ◌-◌, ◌∙◌, ap, length, arith}
use Rattle.blob_model.specs.Bytes.{overlay}
use Rattle.blob_model.specs.Runs.{is_chosen}
use Rattle.blob_pages.specs.Values.{bytes}
use Rattle.blob_pages.proofs.Mixed.{length-mixed, mixed_is, reach_back}
use Rattle.blob_pages.proofs.page_writes.mixed.Goals as goal

pub lay_chosen-requires-clause-end : goal.lay_chosen-requires-clause-end
lay_chosen-requires-clause-end c =
    ap (λ e. e - c.args.offset) c.requires.end ∙ reach_back c.args.offset (length c.args.run.now) (is_chosen c.args.keep.now) (omega (arith, c.requires.some, c.requires.end))

pub returns-clause-len : goal.returns-clause-len
returns-clause-len c =
    let o = c.args.offset in
    let n = c.args.end - o in
    let t = c.in_ok-all.all.items in
    let size : length t ≡ n = omega (arith, c.in_ok-all.ensures.len) in
    omega (
      arith,
      c.requires.some,
      ap length c.lay_chosen.ensures.items,
      length-mixed (bytes c.args.pages.now) t o n c.args.run.now (is_chosen c.args.keep.now) (omega (arith, c.requires.some)) (omega (arith, c.requires.some, c.requires.end)) size
          (λ i h. c.in_ok-all.ensures.each i (omega (arith, h, size))),
    )

pub returns-clause-laid : goal.returns-clause-laid
returns-clause-laid c =
    let x = bytes c.args.pages.now in
    let o = c.args.offset in
    let n = c.args.end - o in
    let t = c.in_ok-all.all.items in
    let size : length t ≡ n = omega (arith, c.in_ok-all.ensures.len) in
    ap (overlay x o) c.lay_chosen.ensures.items
    ∙ mixed_is x t o n c.args.run.now (is_chosen c.args.keep.now) (omega (arith, c.requires.some)) (omega (arith, c.requires.some, c.requires.end)) size
    (λ i h. c.in_ok-all.ensures.each i (omega (arith, h, size)))
