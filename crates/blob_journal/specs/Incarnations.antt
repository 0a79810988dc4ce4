-- The blob of a name, and what calls leave of it.
use Rattle.std.specs.Prelude.{◌≡◌, ◌&&◌, ℕ, List, false, Some}
use Rattle.std.specs.Str.{bytes_eq}
use Rattle.blob_header.specs.declared.layout.Layout.{Layout}
use Rattle.blob_model.specs.Directory.{Incarnation}
use Rattle.blob_model.specs.Opening.{place_of}
use Rattle.blob_model.specs.Places.{Place, same_place}
use Rattle.blob_memory.specs.Store.{directory, durable}
use Rattle.blob_faulty.specs.Keeps.{OverMemory}
use Rattle.blob_faulty.specs.Wrapper.{inner_of}

-- the same incarnation is current, with the same durable bytes
pub record SameBlob {R : Type 0} (p n : List ℕ) (before after : OverMemory R) : Type 0 where
  pub file : (directory (inner_of after)).file p n ≡ (directory (inner_of before)).file p n
  pub durable : (o : Place) → o.partition ≡ p → o.name ≡ n → durable (inner_of after) o ≡ durable (inner_of before) o

-- so it is for each other name
abbrev pub KeepsOtherBlobs : {R : Type 0} → List ℕ → List ℕ → OverMemory R → OverMemory R → Type 0
KeepsOtherBlobs p n before after = (q m : List ℕ) → (bytes_eq p q && bytes_eq n m) ≡ false → SameBlob q m before after

-- and for each name of a partition
abbrev pub KeepsPartition : {R : Type 0} → List ℕ → OverMemory R → OverMemory R → Type 0
KeepsPartition p before after = (n : List ℕ) → SameBlob p n before after

-- no durable byte of any other incarnation has changed
abbrev pub ChangesOnly : {R : Type 0} → Place → OverMemory R → OverMemory R → Type 0
ChangesOnly a before after = (o : Place) → same_place a o ≡ false → durable (inner_of after) o ≡ durable (inner_of before) o

-- the current incarnation of a name, of version 0
pub record IsIncarnation {R : Type 0} (store : OverMemory R) (p n : List ℕ) (o : Place) : Type 0 where
  pub number : ℕ
  pub layout : Layout
  pub file : (directory (inner_of store)).file p n ≡ Some (Incarnation number layout 0)
  pub is : o ≡ place_of p n number layout

-- each one still is
abbrev pub KeepsIncarnations : {R : Type 0} → OverMemory R → OverMemory R → Type 0
KeepsIncarnations before after = (p n : List ℕ) (o : Place) → IsIncarnation before p n o → IsIncarnation after p n o

-- each one of a partition does
abbrev pub KeepsIncarnationsOf : {R : Type 0} → List ℕ → OverMemory R → OverMemory R → Type 0
KeepsIncarnationsOf p before after = (n : List ℕ) (o : Place) → IsIncarnation before p n o → IsIncarnation after p n o
