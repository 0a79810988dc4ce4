use Rattle.std.proofs.Common.{rules, ◌≡◌, ◌∙◌, ap, length, arith}
use Rattle.blob_model.specs.Bytes.{resize}
use Rattle.blob_pages.proofs.Paged.{extended_bytes, blanked, cut_bytes, owned_through, owned_same}
use Rattle.blob_pages.proofs.page_list.set_len.Goals as goal

pub returns-in_err-take_room : goal.returns-in_err-take_room
returns-in_err-take_room c = record {
  ok = search rules;
  there = search rules;
  err = search (rules, extended_bytes c.args.pages.now c.take_room.new.pages c.args.old c.requires.held c.take_room.ensures.extends);
  more = c.take_room.ensures.extends.more;
  full = c.take_room.ensures.extends.full c.requires.full;
  owned = c.take_room.ensures.extends.owned;
}

pub returns-in_ok-take_room : goal.returns-in_ok-take_room
returns-in_ok-take_room c =
    let len : length c.blank.new.pages ≡ length c.take_room.new.pages = c.blank.ensures.same in
    record {
      ok = blanked c.take_room.new.pages c.blank.new.pages c.args.old c.args.len (omega arith) c.blank.ensures
          ∙ ap (λ b. resize b c.args.len) (extended_bytes c.args.pages.now c.take_room.new.pages c.args.old c.requires.held c.take_room.ensures.extends);
      there = omega (arith, len, c.in_ok-take_room.ensures.there);
      err = tt;
      more = omega (arith, len, c.take_room.ensures.extends.more);
      full = c.blank.ensures.full;
      owned = owned_through c.args.pages.now c.take_room.new.pages c.blank.new.pages c.take_room.ensures.extends.owned c.blank.ensures.owned;
    }

pub returns-else-old-len : goal.returns-else-old-len
returns-else-old-len c = record {
  ok = cut_bytes c.args.pages.now c.args.old c.args.len (omega arith);
  there = omega (arith, c.requires.held);
  err = tt;
  more = omega arith;
  full = c.requires.full;
  owned = owned_same c.args.pages.now;
}
