-- Draws that a decision tree describes.
use Rattle.std.specs.Prelude.{◌≡◌, ◌≤◌, ◌-◌, ◌^◌, Bool, List, [], ◌++◌, None}
use Rattle.rand_core.specs.Stream.{Call, Stream}
use Rattle.blob_tree.specs.Trees.{DecisionTree, IsLeaf, words_of}
use Rattle.blob_lab_model.specs.Scripted.{Left, scripted_stream}

-- each word of a stream fits in 64 bits
pub record HasU64Words (s : Stream) : Type 0 where
  pub fit : (before : List Call) → s.u64_after before ≤ 2 ^ 64 - 1

-- the words of a path, and then what a generator gives
abbrev pub path_stream : List Bool → Left → Stream
path_stream path tail = scripted_stream (words_of path ++ tail.0, tail.1)

-- zeros without end
abbrev pub zeros : Left
zeros = ([], None)

-- A tree decides the draws of f: a path to a leaf has one result, whatever words follow, and takes exactly its own words. Each stream of 64-bit
-- words has the result of some path.
pub record Decides {X : Type 0} (f : Stream → X × Stream) (t : DecisionTree) : Type 0 where
  pub takes : (path : List Bool) (tail : Left) → IsLeaf t path → f (path_stream path tail) ≡ ((f (path_stream path zeros)).0, scripted_stream tail)
  pub covers : (s : Stream) → HasU64Words s → (path : List Bool) × IsLeaf t path × ((f (path_stream path zeros)).0 ≡ (f s).0)
  pub words : (s : Stream) → HasU64Words s → HasU64Words (f s).1

abbrev pub IsDecided : {X : Type 0} → (Stream → X × Stream) → Type 0
IsDecided f = (t : DecisionTree) × Decides f t
