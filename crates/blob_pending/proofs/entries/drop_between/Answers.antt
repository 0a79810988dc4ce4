use Rattle.std.proofs.Common.{rules, ◌≡◌, ◌<◌, ◌+◌, ◌∙◌, ℕ, Bool, cond, length, get_or, ap, arith}
use Rattle.std.proofs.lemmas.List.{drop-set-lt}
use Rattle.blob_model.specs.Pending.{is_barrier}
use Rattle.blob_pending.specs.Views.{view}
use Rattle.blob_pending.specs.declared.entry.Entry.{Entry}
use Rattle.blob_pending.specs.declared.entry.Entry.TheVariants as entry
use Rattle.blob_pending.proofs.Dropping.{dropped_set, barriers_dropped, bounded_dropped}
use Rattle.blob_pending.proofs.Left.{bit_le}
use Rattle.blob_pending.proofs.entries.drop_between.Goals as goal

pub loop-i-preserved : goal.loop-i-preserved
loop-i-preserved c =
    let q = c.loop-i.entries.items in
    let i = c.loop-i.i in
    let kept = c.loop-i.invariant in
    let inside : i < length q = omega arith in
    let was : c.is_barrier.result ≡ is_barrier (view (get_or q i c.index.result.now)) = c.is_barrier.ensures ∙ ap (λ (e : Entry). is_barrier (view e)) c.index.ensures in
    let told : c.if-is_barrier.barriers ≡ c.loop-i.barriers + cond c.is_barrier.result 1 0 = search rules in
    record {
      few = omega (arith, kept.few, told, bit_le c.is_barrier.result);
      len = first_of (search rules, omega (arith, kept.len));
      dropped = dropped_set i q inside kept.dropped;
      rest = drop-set-lt c.args.end q i entry.Dropped c.loop-i-test.true ∙ kept.rest;
      count = omega (arith, kept.count, told, ap (λ (b : Bool). cond {A = ℕ} b 1 0) was, barriers_dropped q i c.index.result.now inside);
      bounded = λ bounds h. bounded_dropped bounds q i (kept.bounded bounds h);
    }
