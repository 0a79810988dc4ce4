use Rattle.std.proofs.Common.{◌≡◌, ◌<◌, ◌++◌, ◌∷◌, [], get_or, length, ap, subst, sym, ◌∙◌, arith}
use Rattle.std.specs.List.{Contains}
use Rattle.std.proofs.lemmas.List.{get_or_read}
use Rattle.std.proofs.lemmas.List.Elements.{Contains-push}
use Rattle.blob_directory.specs.Syncs.{Itself, Upward}
use Rattle.blob_directory.proofs.Syncs.{all_upward, closed_more, first_more, only_more}
use Rattle.blob_directory.proofs.Walks.{only_one}
use Rattle.blob_directory.proofs.wanted.upward.Goals as goal

pub loop-at-init : goal.loop-at-init
loop-at-init c =
    let found = c.push.new.self.items in
    let inode = c.args.inode in
    let pushed : found ≡ inode ∷ [] = c.in_ok-push.ensures.items ∙ ap (λ l. l ++ inode ∷ []) c.new-found.ensures.items in
    record {
      only = λ i h. subst (Upward c.args.edits.now inode) (sym (only_one inode i (subst (λ l. Contains l i) pushed h))) Itself;
      first = subst (λ l. Contains l inode) (sym pushed) (Contains-push [] inode);
      closed = λ k d h. absurd (omega arith);
    }

pub returns-then-at-len-clause-all : goal.returns-then-at-len-clause-all
returns-then-at-len-clause-all c =
    all_upward c.args.edits.now c.args.inode c.loop-at.found.items c.loop-at.at (omega arith) c.loop-at.invariant.first c.loop-at.invariant.closed

pub loop-at-preserved : goal.loop-at-preserved
loop-at-preserved c =
    let edits = c.args.edits.now in
    let old = c.loop-at.found.items in
    let new = c.add_above.new.numbers.items in
    let at = c.loop-at.at in
    let i = c.index-inode.result.now in
    let low : at < length old = omega arith in
    let here : get_or old at 0 ≡ i = sym (get_or_read old _ _ low c.index-inode.ensures 0) in
    let there : Contains old i = (at, low, sym (get_or_read old _ _ low c.index-inode.ensures i)) in
    record {
      only = only_more edits c.args.inode i old new there c.loop-at.invariant.only c.in_ok-add_above.ensures;
      first = first_more edits i c.args.inode old new c.in_ok-add_above.ensures c.loop-at.invariant.first;
      closed = closed_more edits at i old new low here c.loop-at.invariant.closed c.in_ok-add_above.ensures;
    }
