use Rattle.std.proofs.Common.{rules, refl, ◌<◌, ◌/◌, ◌∙◌, ap, sym, length, arith}
use Rattle.blob_model.specs.Bytes.{overlay}
use Rattle.blob_pages.specs.Paged.{page_size, bytes_in, owned_at}
use Rattle.blob_pages.proofs.Paged.{extended_bytes, owned_through, owner_there, page_laid, laid_at}
use Rattle.blob_pages.proofs.page_list.lay_over.Goals as goal

pub returns-in_err-part-clause-changes : goal.returns-in_err-part-clause-changes
returns-in_err-part-clause-changes c = record {
  ok = search rules;
  there = search rules;
  err = search (rules, extended_bytes c.args.pages.now c.take_room_for.new.pages c.args.old c.requires.held c.take_room_for.ensures.extends);
  more = c.take_room_for.ensures.extends.more;
  full = c.take_room_for.ensures.extends.full c.requires.full;
  owned = c.take_room_for.ensures.extends.owned;
}

pub returns-clause-changes : goal.returns-clause-changes
returns-clause-changes c = record {
  ok = ap (bytes_in c.lay_on-2.new.pages) (sym c.lay_on-2.ensures.len) ∙ c.lay_on-2.ensures.laid.bytes
      ∙ ap (λ b. overlay b c.args.offset c.args.run.now) (extended_bytes c.args.pages.now c.take_room_for.new.pages c.args.old c.requires.held c.take_room_for.ensures.extends);
  there = omega (arith, c.lay_on-2.ensures.laid.same, c.in_ok-part.ensures.there, c.requires.held, c.take_room_for.ensures.extends.more);
  err = tt;
  more = omega (arith, c.lay_on-2.ensures.laid.same, c.take_room_for.ensures.extends.more);
  full = c.lay_on-2.ensures.laid.full;
  owned = owned_through c.args.pages.now c.take_room_for.new.pages c.lay_on-2.new.pages c.take_room_for.ensures.extends.owned c.lay_on-2.ensures.laid.owned;
}

pub lay_on-requires-clause-owned : goal.lay_on-requires-clause-owned
lay_on-requires-clause-owned c = λ p low high.
    ap (owned_at c.args.pages.now) (omega (arith, low, high, c.if-old-offset.true, c.if-run-at.true)) ∙ sym c.is_owned.ensures ∙ c.if-is_owned.true

pub lay_on-requires-clause-fits : goal.lay_on-requires-clause-fits
lay_on-requires-clause-fits c =
    let there = owner_there c.args.pages.now (c.args.offset / page_size) (sym c.is_owned.ensures ∙ c.if-is_owned.true) in
    omega (arith, there, c.requires.held, c.if-run-at.true)

pub returns-then-old-offset-clause-changes : goal.returns-then-old-offset-clause-changes
returns-then-old-offset-clause-changes c =
    let there = owner_there c.args.pages.now (c.args.offset / page_size) (sym c.is_owned.ensures ∙ c.if-is_owned.true) in
    record {
      ok = ap (bytes_in c.lay_on.new.pages) (sym c.lay_on.ensures.len) ∙ c.lay_on.ensures.laid.bytes;
      there = omega (arith, there, c.lay_on.ensures.laid.same, c.requires.held, c.if-run-at.true);
      err = tt;
      more = omega (arith, c.lay_on.ensures.laid.same);
      full = c.lay_on.ensures.laid.full;
      owned = c.lay_on.ensures.laid.owned;
    }

pub put-requires-clause-within : goal.put-requires-clause-within
put-requires-clause-within c =
    let own = sym c.is_owned.ensures ∙ c.if-is_owned.true in
    omega (arith, c.requires.full.each (c.args.offset / page_size) (owner_there c.args.pages.now (c.args.offset / page_size) own), c.if-run-at.true)

pub returns-then-offset-old-clause-changes : goal.returns-then-offset-old-clause-changes
returns-then-offset-old-clause-changes c =
    let own = sym c.is_owned.ensures ∙ c.if-is_owned.true in
    let there : c.args.offset / page_size < length c.args.pages.now = owner_there c.args.pages.now (c.args.offset / page_size) own in
    let laid = page_laid c.args.pages.now c.put.new.self c.args.offset c.args.run.now c.requires.full there (omega (arith, c.if-run-at.true)) c.put.ensures in
    record {
      ok = laid_at c.args.pages.now c.put.new.self c.args.old _ c.args.offset c.args.run.now c.if-offset-old.true refl c.requires.some laid;
      there = omega (arith, there, laid.same, c.requires.held, c.if-run-at.true);
      err = tt;
      more = omega (arith, laid.same);
      full = laid.full;
      owned = laid.owned;
    }
