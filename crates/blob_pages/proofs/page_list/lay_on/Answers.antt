use Rattle.std.proofs.Common.{◌≡◌, ℕ, ◌∙◌, ap, length, max, arith}
use Rattle.blob_model.specs.Bytes.{overlay, resize}
use Rattle.blob_model.proofs.Bytes.{reach_all}
use Rattle.blob_pages.specs.Paged.{bytes_in}
use Rattle.blob_pages.proofs.Paged.{length-bytes_in, laid_at, overlay_grown, owned_through}
use Rattle.blob_pages.proofs.page_list.lay_on.Goals as goal

pub lay_around-requires-clause-part : goal.lay_around-requires-clause-part
lay_around-requires-clause-part c =
    let part = c.requires.part in
    record {
      order = part.order;
      within = part.within;
      there = omega (arith, part.there, c.blank_to-len.ensures.blanks.same);
      bytes = λ p l m. c.blank_to-len.ensures.later p (omega (arith, l)) ∙ part.bytes p l m;
    }

pub returns-clause-laid : goal.returns-clause-laid
returns-clause-laid c =
    let before = bytes_in c.args.pages.now c.args.old in
    let n : ℕ = max c.args.old c.args.offset in
    let is : c.blank_to-len.result ≡ n = c.blank_to-len.ensures.len in
    let all = reach_all c.args.offset (length c.args.run.now) c.requires.some in
    let size = length-bytes_in c.args.pages.now c.args.old in
    record {
      bytes = laid_at c.blank_to-len.new.pages c.lay_around.new.pages c.blank_to-len.result c.max.result c.args.offset c.args.run.now (omega (arith, is)) c.max.ensures c.requires.some c.lay_around.ensures
          ∙ ap (λ b. overlay b c.args.offset c.args.run.now) (c.blank_to-len.ensures.blanks.bytes ∙ ap (resize before) is)
          ∙ overlay_grown before c.args.offset c.args.run.now n (omega (arith, size)) (omega (arith, size, all));
      same = c.lay_around.ensures.same ∙ c.blank_to-len.ensures.blanks.same;
      full = c.lay_around.ensures.full;
      owned = owned_through c.args.pages.now c.blank_to-len.new.pages c.lay_around.new.pages c.blank_to-len.ensures.blanks.owned c.lay_around.ensures.owned;
    }
