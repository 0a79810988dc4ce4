use Rattle.std.proofs.Common.{◌∙◌, refl, sym, ap, IsSome}
use Rattle.blob_memory.specs.Contents.{vec_in, file_of}
use Rattle.blob_memory.specs.Numbers.{item_number}
use Rattle.blob_memory.specs.Partitions.{item_at}
use Rattle.blob_memory.proofs.Directories.{same_directory}
use Rattle.blob_memory.proofs.Exchanges.{numbers_still, files_still, vecs_after}
use Rattle.blob_memory.proofs.Lent.{on_some, copied_some}
use Rattle.blob_memory.proofs.contents.Contents.bytes_mut.Goals as goal

pub invariant_of-self-lent : goal.invariant_of-self-lent
invariant_of-self-lent c = λ _.
    let s = c.args.self.now in
    let o = c.args.origin.now in (
      (λ w. ((λ p n k e. s.numbered p n k (sym (numbers_still (item_at s.partitions) (item_at (c.bytes_mut.follows.lender w)) o.partition o.name w (c.bytes_mut.follows.holds w).items p n) ∙ e)), (s.begun, tt))),
      ((λ p n k e. s.numbered p n k (sym (ap item_number (c.bytes_mut.follows.holds-at-none.items p n)) ∙ e)), (s.begun, tt)),
    )

pub returns : goal.returns
returns c =
    let s = c.args.self.now in
    let o = c.args.origin.now in (
      (
        refl,
        (λ w. on_some _ (λ is.
            let made = c.bytes_mut.follows.holds w in
            let live : IsSome (vec_in s.first (item_at s.partitions o.partition o.name) o.number o.start) = copied_some _ _ c.bytes_mut.ensures.value is in record {
              vecs = vecs_after (item_at s.partitions) (item_at (c.bytes_mut.follows.lender w)) w s.first o made.items live;
              directory = same_directory _ _ made.partitions (files_still (item_at s.partitions) (item_at (c.bytes_mut.follows.lender w)) o.partition o.name w made.items s.first o.number o.start live) refl;
            })),
        (let none = c.bytes_mut.follows.holds-at-none in record {
          vecs = λ a. ap (λ x. vec_in s.first x a.number a.start) (none.items a.partition a.name);
          directory = same_directory _ _ none.partitions (λ q m. ap (file_of s.first) (none.items q m)) refl;
        }),
      ),
      record { writes_back = tt; value = c.bytes_mut.ensures.value },
    )
