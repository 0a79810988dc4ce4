use Rattle.std.proofs.Common.{◌≡◌, List, ℕ, Option, None, Some, Bool, refl, subst}
use Rattle.std.specs.Prelude.{is_some, map, IfOk}
use Rattle.blob_base.specs.Names.{AreNames}
use Rattle.blob_memory.specs.declared.item.Item.{Item}
use Rattle.blob_memory.specs.declared.item.Item.TheVariants.{Raw, Held}
use Rattle.blob_memory.specs.Contents.{file_of}
use Rattle.blob_memory.specs.Partitions.{item_at}
use Rattle.blob_memory.proofs.contents.Contents.names.Goals as goal

-- a name has a file if it has an item
file_there : (first : ℕ) (x : Option Item) → is_some x ≡ is_some (file_of first x)
file_there first None = refl
file_there first (Some (Raw bytes)) = refl
file_there first (Some (Held h)) = refl

pub returns : goal.returns
returns c = subst (λ (there : List ℕ → Bool). IfOk c.names.result (λ names. AreNames (map (λ n. n.items) names.items) there)) (λ i n. file_there c.args.self.now.first (item_at c.args.self.now.partitions c.args.partition.now n) i) c.names.ensures
