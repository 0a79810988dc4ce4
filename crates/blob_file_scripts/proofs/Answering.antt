-- What is done for a line, call by call.
use Rattle.std.proofs.Common.{◌≡◌, ℕ, ap, subst}
use Rattle.std.specs.Prelude.{Err, Ok, OnOk, Result}
use Rattle.blob_fs.specs.Acts.{Read}
use Rattle.blob_fs.specs.Files.{descriptor_number}
use Rattle.blob_fs.specs.declared.file_system.Descriptor.{Descriptor}
use Rattle.blob_file_sessions.specs.Calls as calls
use Rattle.blob_file_sessions.specs.Calls.{Makes}
use Rattle.blob_file_sessions.specs.Replies.{last_numbers}
use Rattle.blob_file_sessions.specs.declared.kept.KeptFiles.{KeptFiles}
use Rattle.blob_statuses.specs.declared.ran.Ran.{Ran}
use Rattle.blob_file_scripts.specs.Answers.{Does}

pub map_ok : {T E P Q : Type 0} (r : Result T E) → (P → Q) → OnOk r P → OnOk r Q
map_ok (Ok x) f p = f p
map_ok (Err e) f p = tt

-- a read through the number of a descriptor
does_read : (f : Descriptor) (offset most : ℕ) (k k' : KeptFiles) (ran : Ran) → calls.Reads k (descriptor_number f) offset most k' ran → Does (Read f offset most) k k'
does_read f offset most k k' ran h = record { reply = h.makes.reply; does = h.makes.does; last = h.makes.last; is = ap last_numbers h.makes.last }

pub does_read_at : (f : Descriptor) (n offset most wanted : ℕ) (k k' : KeptFiles) (ran : Ran) → n ≡ descriptor_number f → most ≡ wanted
    → calls.Reads k n offset most k' ran → Does (Read f offset wanted) k k'
does_read_at f n offset most wanted k k' ran number is h =
    does_read f offset wanted k k' ran
    (subst (λ (m : ℕ). calls.Reads k (descriptor_number f) offset m k' ran) is (subst (λ (i : ℕ). calls.Reads k i offset most k' ran) number h))
