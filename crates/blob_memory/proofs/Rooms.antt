-- Capacities that stay, and writes that change no byte.
use Rattle.std.proofs.Common.{◌≡◌, ℕ, ◌≤◌, List, Bool, true, false, cond, Option, Some, None, is_some, refl, sym, ap, ◌∙◌, arith}
use Rattle.std.specs.Prelude.{option_map}
use Rattle.std.proofs.lemmas.Bool.{false≢true}
use Rattle.blob_model.specs.Directory.{Directory, is_current}
use Rattle.blob_model.specs.Durable.{Durable, with_changed}
use Rattle.blob_model.specs.Places.{Place, same_place}
use Rattle.blob_memory.specs.declared.contents.Contents.{Contents}
use Rattle.blob_memory.specs.Contents.{directory_of, vec_at, bytes_of, Fits}
use Rattle.blob_memory.specs.Store.{room_in}
use Rattle.blob_memory.specs.Laws.{currents}
use Rattle.blob_pages.specs.Stored.{Stored}

-- bytes that are replaced by themselves
pub changed_idle : (f : Durable) (o : Place) (g : List ℕ → List ℕ) → ((x : List ℕ) → g x ≡ x) → with_changed f o g ≡ f
changed_idle f o g same = λ i a. push (same_place o a) (f a) i
  where
    at : (r : Option (List ℕ)) → option_map g r ≡ r
    at None = refl
    at (Some x) = ap Some (same x)

    push : (b : Bool) (r : Option (List ℕ)) → cond b (option_map g r) r ≡ r
    push true r = at r
    push false r = refl

still_current : (s t : Contents) (o : Place) → directory_of t ≡ directory_of s → is_some (bytes_of (vec_at t o)) ≡ is_some (bytes_of (vec_at s o))
still_current s t o same =
    currents t o ∙ ap (λ (d : Directory). is_current d o) same ∙ sym (currents s o)

grows : (m n : ℕ) (a b : Option Stored) → m ≤ n → is_some (bytes_of b) ≡ is_some (bytes_of a) → ((k : ℕ) → Fits a k → Fits b k) → room_in m a ≤ room_in n b
grows m n None b more same fits = omega arith
grows m n (Some v) None more same fits = absurd (false≢true same)
grows m n (Some v) (Some w) more same fits = let h : v.capacity ≤ w.capacity = fits v.capacity (omega arith) in omega arith

-- a handle's capacity doesn't shrink if both capacities don't
pub room_kept : (s t : Contents) (o : Place) (m n : ℕ) → m ≤ n → directory_of t ≡ directory_of s → ((a : Place) (k : ℕ) → Fits (vec_at s a) k → Fits (vec_at t a) k)
    → room_in m (vec_at s o) ≤ room_in n (vec_at t o)
room_kept s t o m n more same fits = grows m n (vec_at s o) (vec_at t o) more (still_current s t o same) (fits o)

reached : (m end : ℕ) (a : Option Stored) → is_some (bytes_of a) ≡ true → end ≤ m → Fits a end → end ≤ room_in m a
reached m end None there live fits = absurd (false≢true there)
reached m end (Some v) there live fits = let h : end ≤ v.capacity = fits in omega arith

-- a current handle's capacity, if both suffice
pub room_reached : (s t : Contents) (o : Place) (m end : ℕ) → directory_of t ≡ directory_of s → is_current (directory_of s) o ≡ true → end ≤ m → Fits (vec_at t o) end
    → end ≤ room_in m (vec_at t o)
room_reached s t o m end same now = reached m end (vec_at t o)
    (still_current s t o same ∙ currents s o ∙ now)
