use Rattle.std.proofs.Common.{rules, ◌≡◌, ◌∙◌, ap, sym, arith, get_or}
use Rattle.blob_model.specs.Pending.{is_mark}
use Rattle.blob_pending.specs.Views.{view}
use Rattle.blob_pending.specs.declared.entry.Entry.{Entry}
use Rattle.blob_pending.proofs.Dropping.{no_mark_at, dropped_within}
use Rattle.blob_pending.proofs.Finishing.{finished_at, finished_not}
use Rattle.blob_pending.proofs.entries.end_of.Goals as goal

pub loop-i-init : goal.loop-i-init
loop-i-init c = no_mark_at c.args.marker c.args.from c.args.entries.now c.requires

pub returns-then-is_mark-clause-some : goal.returns-then-is_mark-clause-some
returns-then-is_mark-clause-some c =
    let q = c.args.entries.now in
    let here : c.index-entries-i.result ≡ get_or q c.loop-i.i c.index-entries-i.result = search rules in
    finished_at c.args.marker q c.loop-i.i c.index-entries-i.result c.loop-i.invariant (omega arith) (ap (λ (e : Entry). is_mark c.args.marker (view e)) (sym here) ∙ search rules)

pub returns-clause-none : goal.returns-clause-none
returns-clause-none c = finished_not c.args.marker c.args.entries.now c.loop-i.i (omega (arith, dropped_within c.args.from c.args.entries.now c.requires)) c.loop-i.invariant
