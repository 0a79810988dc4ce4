-- Facts about every memory store.
use Rattle.std.specs.Prelude.{◌≡◌, ℕ, ◌<◌, Bool, true, false, cond, not, ◌&&◌, ◌==◌, nat_lt, Option, None, Some, is_some}
use Rattle.std.proofs.Common.{refl, arith}
use Rattle.std.proofs.lemmas.Bool.{false≢true, and_parts}
use Rattle.std.proofs.lemmas.Bool.Decides.{nat_tests}
use Rattle.blob_model.specs.Directory.{is_that, is_current}
use Rattle.blob_header.specs.Header.{data_start}
use Rattle.blob_model.specs.Places.{Place}
use Rattle.blob_memory.specs.declared.contents.Contents.{Contents}
use Rattle.blob_memory.specs.declared.item.Item.{Item}
use Rattle.blob_memory.specs.declared.item.Item.TheVariants.{Raw, Held}
use Rattle.blob_memory.specs.declared.item.Held as held
use Rattle.blob_memory.specs.Contents.{directory_of, durable_of, file_of, file_when, vec_in, bytes_of}
use Rattle.blob_memory.specs.Numbers.{item_number}
use Rattle.blob_memory.specs.Partitions.{item_at}

-- the incarnations with durable bytes are the current ones
pub currents : (s : Contents) (o : Place) → is_some (durable_of s o) ≡ is_current (directory_of s) o
currents s o = at (item_at s.partitions o.partition o.name) where
  some_when : (h : held.Held) (b : Bool) → is_some (bytes_of (cond b (Some h.bytes) None)) ≡ b
  some_when h true = refl
  some_when h false = refl

  at : (x : Option Item) → is_some (bytes_of (vec_in s.first x o.number o.start)) ≡ is_that (file_of s.first x) o.number o.start
  at None = refl
  at (Some (Raw bytes)) = refl
  at (Some (Held h)) = by_end (nat_lt h.number s.first) where
    by_end : (b : Bool) → is_some (bytes_of (cond (not b && ((h.number == o.number) && (data_start h.layout == o.start))) (Some h.bytes) None)) ≡ is_that (Some (file_when b h)) o.number o.start
    by_end true = refl
    by_end false = some_when h ((h.number == o.number) && (data_start h.layout == o.start))

-- a current incarnation has a number below the next one
pub current_below_next : (s : Contents) (o : Place) → is_current (directory_of s) o ≡ true → o.number < s.next
current_below_next s o current = at (item_at s.partitions o.partition o.name) (s.numbered o.partition o.name) current where
  at : (x : Option Item) → ((k : ℕ) → item_number x ≡ Some k → k < s.next) → is_that (file_of s.first x) o.number o.start ≡ true → o.number < s.next
  at None below e = absurd (false≢true e)
  at (Some (Raw bytes)) below e = absurd (false≢true e)
  at (Some (Held h)) below e = by_end (nat_lt h.number s.first) e where
    same : (h.number == o.number) ≡ true → h.number ≡ o.number
    same y = grind (arith, nat_tests)

    by_end : (b : Bool) → is_that (Some (file_when b h)) o.number o.start ≡ true → o.number < s.next
    by_end true e = absurd (false≢true e)
    by_end false e =
        let n : h.number < s.next = below h.number refl in
        let k : h.number ≡ o.number = same (and_parts (h.number == o.number) (data_start h.layout == o.start) e).0 in
        omega arith
