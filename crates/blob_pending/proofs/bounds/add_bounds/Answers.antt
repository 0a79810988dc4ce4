use Rattle.std.proofs.Common.{rules, ◌≡◌, ◌≤◌, ◌+◌, ◌-◌, ◌*◌, ◌++◌, ◌∷◌, [], ℕ, List, true, length, take, drop, arith, subst, sym}
use Rattle.std.specs.List.{All}
use Rattle.blob_pending.specs.Blocks.{AreBoundedBy, is_within}
use Rattle.blob_pending.specs.Views.{view, views}
use Rattle.blob_pending.specs.declared.extent.Extent.{Extent}
use Rattle.blob_pending.specs.declared.entry.Entry.{Entry}
use Rattle.blob_pending.proofs.Bounded.{bounded_more, parts_fit}
use Rattle.blob_pending.proofs.bounds.add_bounds.Goals as goal

pub loop-bounds-preserved : goal.loop-bounds-preserved
loop-bounds-preserved c =
    let bs = c.loop-bounds.bounds.items in
    let told : c.push.new.self.items ≡ bs ++ c.bounds_of.result ∷ [] = search rules in
    let q = c.args.entries.now in
    let size = c.args.size in
    let start = c.len-in-loop-bounds.result * size in
    let fits : start + size ≤ length q = parts_fit c.len-in-loop-bounds.result size (length q) (search rules) in
    let part : All (λ (e : Entry). is_within c.bounds_of.result (view e) ≡ true) (take size (drop start q)) =
    subst (λ (n : ℕ). All (λ (e : Entry). is_within c.bounds_of.result (view e) ≡ true) (take n (drop start q))) (past start size) c.bounds_of.ensures in
    subst (λ (l : List Extent). AreBoundedBy size l (views q)) (sym told) (bounded_more size bs c.bounds_of.result q start c.requires.size (search rules) fits part c.loop-bounds.invariant)
  where
    past : (start size : ℕ) → start + size - start ≡ size
    past start size = omega arith
