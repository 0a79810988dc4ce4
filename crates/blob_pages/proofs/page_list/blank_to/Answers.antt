use Rattle.std.proofs.Common.{refl, arith}
use Rattle.blob_pages.proofs.Paged.{blanked, cut_bytes}
use Rattle.blob_pages.proofs.page_list.blank_to.Goals as goal

pub returns-then-len-end-clause-blanks : goal.returns-then-len-end-clause-blanks
returns-then-len-end-clause-blanks c = record {
  bytes = blanked c.args.pages.now c.blank.new.pages c.args.len c.args.end (omega arith) c.blank.ensures;
  same = c.blank.ensures.same;
  full = c.blank.ensures.full;
  owned = c.blank.ensures.owned;
}

pub returns-clause-blanks : goal.returns-clause-blanks
returns-clause-blanks c = record {
  bytes = cut_bytes c.args.pages.now c.args.len c.args.len (omega arith);
  same = refl;
  full = c.requires.full;
  owned = record { each = λ i e. e };
}
