use Rattle.std.proofs.Common.{◌+◌, ◌∙◌, ap, length, arith}
use Rattle.blob_model.specs.Bytes.{overlay}
use Rattle.blob_model.specs.Runs.{is_chosen}
use Rattle.blob_model.proofs.Bytes.{reach_below}
use Rattle.blob_pages.specs.Values.{bytes}
use Rattle.blob_pages.proofs.Mixed.{mixed_is, reach_back}
use Rattle.blob_pages.proofs.page_writes.mix.Goals as goal

pub copy_range-requires-clause-fits : goal.copy_range-requires-clause-fits
copy_range-requires-clause-fits c = omega (
  arith,
  c.requires.end,
  c.requires.fits,
  reach_below c.args.offset (length c.args.run.now) (is_chosen c.args.keep.now) (c.args.offset + length c.args.run.now) (λ i h e. omega (arith, h)),
)

pub copy_some-requires-clause-inside : goal.copy_some-requires-clause-inside
copy_some-requires-clause-inside c = omega (
  arith,
  c.requires.end,
  c.copy_range.ensures.len,
  reach_back c.args.offset (length c.args.run.now) (is_chosen c.args.keep.now) (omega (arith, c.requires.some, c.requires.end)),
)

pub returns-clause-laid : goal.returns-clause-laid
returns-clause-laid c = λ _.
    let x = bytes c.args.pages.now in
    let o = c.args.offset in
    let range = c.copy_range.ensures.range (c.if-not-copy_range.false) in
    ap (overlay x o) c.copy_some.ensures
    ∙ mixed_is x c.copy_range.new.range o (length c.args.range.now) c.args.run.now (is_chosen c.args.keep.now) c.requires.some (omega (arith, c.requires.end)) c.copy_range.ensures.len
    (λ i h. range.each i (omega (arith, h, c.copy_range.ensures.len)))
