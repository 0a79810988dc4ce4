use Rattle.std.proofs.Common.{◌≡◌, ℕ, List, ◌++◌, ◌<◌, ◌+◌, ◌-◌, ◌/◌, ◌∙◌, ap, sym, length, replicate, arith}
use Rattle.std.proofs.lemmas.List.{length-replicate, replicate-append-replicate}
use Rattle.blob_pages.specs.Paged.{page_size}
use Rattle.blob_pages.proofs.Paged.{page_laid, lays_more}
use Rattle.blob_pages.proofs.page_list.blank.Goals as goal

pub clear-requires-clause-owned : goal.clear-requires-clause-owned
clear-requires-clause-owned c =
    let at : ℕ = c.loop-at.at in
    c.loop-at.invariant.laid.owned.each (at / page_size) (c.requires.owned at (omega arith) (omega arith))

pub clear-requires-clause-within : goal.clear-requires-clause-within
clear-requires-clause-within c =
    let at : ℕ = c.loop-at.at in
    let there : at / page_size < length c.loop-at.pages = omega arith in
    omega (arith, c.loop-at.invariant.laid.full.each (at / page_size) there, c.on_page-n.ensures.page)

pub loop-at-preserved : goal.loop-at-preserved
loop-at-preserved c =
    let at : ℕ = c.loop-at.at in
    let n : ℕ = c.on_page-n.result in
    let first : List ℕ = replicate (at - c.args.from) 0 in
    let part : List ℕ = replicate n 0 in
    let there : at / page_size < length c.loop-at.pages = omega arith in
    let len : length part ≡ n = length-replicate n 0 in
    let begun : c.args.from + length first ≡ at = omega (arith, length-replicate {A = ℕ} (at - c.args.from) 0) in
    let step = page_laid c.loop-at.pages c.clear.new.self at part c.loop-at.invariant.laid.full there (omega (arith, len, c.on_page-n.ensures.page)) c.clear.ensures in
    let all : replicate (at + n - c.args.from) 0 ≡ first ++ part =
    ap (λ k. replicate k 0) (omega arith) ∙ sym (replicate-append-replicate (at - c.args.from) n 0) in
    record {
      low = omega arith;
      high = omega arith;
      laid = rw all (lays_more c.args.pages.now c.loop-at.pages c.clear.new.self c.args.from first part c.loop-at.invariant.laid (rw begun step));
    }
