use Rattle.std.proofs.Common.{rules, ◌≡◌, ◌∙◌, sym, ap, subst, ◌+◌, length, arith}
use Rattle.blob_model.specs.Holes.{Holes, AreApart, dug_by}
use Rattle.blob_model.proofs.Shape.{apart_dug}
use Rattle.blob_pending.specs.Ranges.{ranges}
use Rattle.blob_pending.specs.Views.{view, write_of, pared_by}
use Rattle.blob_pending.specs.declared.entry.Entry.{Entry}
use Rattle.blob_pending.proofs.CutSteps.{pared_write}
use Rattle.blob_pending.proofs.Digging.{ends_rise}
use Rattle.blob_pending.proofs.entry.Entry.cover.Goals as goal

pub invariant_of-write-clause-apart : goal.invariant_of-write-clause-apart
invariant_of-write-clause-apart c =
    let w = c.in-Write.write in
    subst (λ (hs : Holes). AreApart w.offset hs (w.offset + length w.bytes)) (sym c.dig.ensures.holes)
    (apart_dug c.max-first.result c.min-end.result w.offset _ (w.offset + length w.bytes) (omega arith) (omega arith) (omega arith) w.apart)

pub returns-then-not-was_covered-clause-view : goal.returns-then-not-was_covered-clause-view
returns-then-not-was_covered-clause-view c =
    let w = c.in-Write.write in
    let dug : ranges c.dig.new.holes.items ≡ dug_by c.args.start c.args.len (write_of w) (ranges w.holes.items) = search rules in
    pared_write c.args.start c.args.len (write_of w) (ranges w.holes.items) (ranges c.dig.new.holes.items) dug
    ∙ ap (λ (e : Entry). pared_by c.args.start c.args.len (view e)) (sym c.in-Write.is)

pub returns-else-not-was_covered-clause-view : goal.returns-else-not-was_covered-clause-view
returns-else-not-was_covered-clause-view c =
    let w = c.in-Write.write in
    let dug : ranges c.dig.new.holes.items ≡ dug_by c.args.start c.args.len (write_of w) (ranges w.holes.items) = search rules in
    pared_write c.args.start c.args.len (write_of w) (ranges w.holes.items) (ranges c.dig.new.holes.items) dug
    ∙ ap (λ (e : Entry). pared_by c.args.start c.args.len (view e)) (sym c.in-Write.is)

pub dig-requires-clause-sorted : goal.dig-requires-clause-sorted
dig-requires-clause-sorted c = let w = c.in-Write.write in ends_rise w.offset w.holes.items (w.offset + length w.bytes) w.apart
