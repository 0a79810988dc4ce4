-- Laws of the states of a laboratory.
use Rattle.std.proofs.Common.{◌≡◌, ℕ, Bool, true, false, ◌&&◌, cond, List, Option, Some, None, refl, sym}
use Rattle.std.proofs.lemmas.Bool.{cond-false, false≢true}
use Rattle.std.specs.Str.{bytes_eq}
use Rattle.rand_core.specs.Stream.{Stream}
use Rattle.blob_model.specs.Files.{log_of, is_removed_by}
use Rattle.blob_model.specs.Places.{Place}
use Rattle.blob_header.specs.Refusals.{Refusal}
use Rattle.blob_model.proofs.Durables.{log_removed}
use Rattle.blob_lab_model.specs.Accepted.{removes}
use Rattle.blob_script.specs.Acts.{Remove, Crash}
use Rattle.blob_lab_model.specs.After.{after_act}
use Rattle.blob_lab_model.specs.States.{State}

pub removed_base : (v : State) (p : List ℕ) (n : Option (List ℕ)) (refusal : Option Refusal) (rest : Stream) (o : Place) → (after_act v (Remove p n) refusal rest).files.base o ≡ v.files.base o
removed_base v p n None rest o = refl
removed_base v p n (Some refusal) rest o = refl

pub removed_log : (v : State) (p : List ℕ) (n : Option (List ℕ)) (refusal : Option Refusal) (rest : Stream) (o : Place) → is_removed_by v.files.directory p n o ≡ false → log_of (after_act v (Remove p n) refusal rest).files.log o ≡ log_of v.files.log o
removed_log v p n None rest o stays = log_removed v.files p n o stays
removed_log v p n (Some refusal) rest o stays = refl

-- a removal keeps the files of other names, including raw files
pub removed_file : (v : State) (p : List ℕ) (n : Option (List ℕ)) (refusal : Option Refusal) (rest : Stream) (q m : List ℕ) → removes (Remove p n) refusal q m ≡ false → (after_act v (Remove p n) refusal rest).files.directory.file q m ≡ v.files.directory.file q m
removed_file v p n (Some refusal) rest q m stays = refl
removed_file v p None None rest q m stays = cond-false (bytes_eq p q) None (v.files.directory.file q m) stays
removed_file v p (Some k) None rest q m stays = by_tests (bytes_eq p q) (bytes_eq k m) stays where
  by_tests : (b c : Bool) → (b && c) ≡ false → cond b (cond c None (v.files.directory.file q m)) (v.files.directory.file q m) ≡ v.files.directory.file q m
  by_tests true true e = absurd (false≢true (sym e))
  by_tests true false e = refl
  by_tests false c e = refl

pub crash_headers : (v : State) (refusal : Option Refusal) (rest : Stream) → (after_act v Crash refusal rest).files.directory ≡ v.files.directory
crash_headers v None rest = refl
crash_headers v (Some refusal) rest = refl
