use Rattle.std.proofs.Common.{◌≡◌, ℕ, List, ◌++◌, ◌<◌, ◌+◌, ◌-◌, ◌/◌, ◌∙◌, ap, length, length-take, length-drop, take, drop, arith}
use Rattle.std.proofs.Math.Seq.{take-add}
use Rattle.blob_pages.specs.Paged.{page_size}
use Rattle.blob_pages.proofs.Paged.{page_laid, lays_more}
use Rattle.blob_pages.proofs.page_list.lay.Goals as goal

pub put-requires-clause-owned : goal.put-requires-clause-owned
put-requires-clause-owned c =
    let at : ℕ = c.args.offset + c.loop-done.done in
    c.loop-done.invariant.laid.owned.each (at / page_size) (c.requires.owned at (omega arith) (omega arith))

pub put-requires-clause-within : goal.put-requires-clause-within
put-requires-clause-within c =
    let at : ℕ = c.args.offset + c.loop-done.done in
    let there : at / page_size < length c.loop-done.pages = omega arith in
    omega (arith, c.loop-done.invariant.laid.full.each (at / page_size) there, c.on_page-n.ensures.page, length-take (c.loop-done.done + c.on_page-n.result - c.loop-done.done) (drop c.loop-done.done c.args.run.now))

pub loop-done-preserved : goal.loop-done-preserved
loop-done-preserved c =
    let at : ℕ = c.args.offset + c.loop-done.done in
    let n : ℕ = c.on_page-n.result in
    let first : List ℕ = take c.loop-done.done c.args.run.now in
    let part : List ℕ = take (c.loop-done.done + n - c.loop-done.done) (drop c.loop-done.done c.args.run.now) in
    let there : at / page_size < length c.loop-done.pages = omega arith in
    let len : length part ≡ n = omega (arith, length-take (c.loop-done.done + n - c.loop-done.done) (drop c.loop-done.done c.args.run.now), length-drop c.loop-done.done c.args.run.now) in
    let begun : c.args.offset + length first ≡ at = omega (arith, length-take c.loop-done.done c.args.run.now) in
    let step = page_laid c.loop-done.pages c.put.new.self at part c.loop-done.invariant.laid.full there (omega (arith, len, c.on_page-n.ensures.page)) c.put.ensures in
    let all : take (c.loop-done.done + n) c.args.run.now ≡ first ++ part =
    take-add c.loop-done.done n c.args.run.now ∙ ap (λ k. first ++ take k (drop c.loop-done.done c.args.run.now)) (omega arith) in
    record {
      within = omega arith;
      laid = rw all (lays_more c.args.pages.now c.loop-done.pages c.put.new.self c.args.offset first part c.loop-done.invariant.laid (rw begun step));
    }
