-- What a call by numbers does, by whether it returned Ok.
use Rattle.std.proofs.Common.{ℕ, not, subst}
use Rattle.blob_directory.specs.Names.{binds, directory_at}
use Rattle.blob_fs.specs.declared.call.NumberCall.{NumberCall}
use Rattle.blob_fs.specs.declared.call.NumberCall.TheVariants as call
use Rattle.blob_fs.specs.declared.file_system.Descriptor.{Descriptor}
use Rattle.blob_fs.specs.declared.file_system.FileSystem.{FileSystem}
use Rattle.blob_fs.specs.declared.reply.Reply.{Reply}
use Rattle.blob_fs.specs.declared.reply.Reply.TheVariants.{Done, Opened, Inode, Found, Size, Names, Tree, Crashed, Refused}
use Rattle.blob_fs.specs.Acts.{number_act}
use Rattle.blob_fs.specs.Calls.{ByResult, Does, Makes}
use Rattle.blob_fs.specs.Fixed.{KeepsUnreached}
use Rattle.blob_fs.specs.Performs.{Effect, IsDone, IsInode, IsOpened, is_refused}
use Rattle.blob_fs.proofs.Calls.{leaves}

-- by the reply

by_done : (reply : Reply) (P S Q : Type 0) → (P → S) → IsDone reply P Q → ByResult (not (is_refused reply)) S Q
by_done Done P S Q t h = t h
by_done (Opened f) P S Q t h = absurd h
by_done (Inode n) P S Q t h = absurd h
by_done (Found b size) P S Q t h = absurd h
by_done (Size n) P S Q t h = absurd h
by_done (Names found) P S Q t h = absurd h
by_done (Tree entries) P S Q t h = absurd h
by_done (Crashed crash) P S Q t h = absurd h
by_done (Refused error) P S Q t h = h

by_opened : (reply : Reply) (P : Descriptor → Type 0) (S Q : Type 0) → ((f : Descriptor) → P f → S) → IsOpened reply P Q → ByResult (not (is_refused reply)) S Q
by_opened Done P S Q t h = absurd h
by_opened (Opened f) P S Q t h = t f h
by_opened (Inode n) P S Q t h = absurd h
by_opened (Found b size) P S Q t h = absurd h
by_opened (Size n) P S Q t h = absurd h
by_opened (Names found) P S Q t h = absurd h
by_opened (Tree entries) P S Q t h = absurd h
by_opened (Crashed crash) P S Q t h = absurd h
by_opened (Refused error) P S Q t h = h

by_inode : (reply : Reply) (P : ℕ → Type 0) (S Q : Type 0) → ((n : ℕ) → P n → S) → IsInode reply P Q → ByResult (not (is_refused reply)) S Q
by_inode Done P S Q t h = absurd h
by_inode (Opened f) P S Q t h = absurd h
by_inode (Inode n) P S Q t h = t n h
by_inode (Found b size) P S Q t h = absurd h
by_inode (Size n) P S Q t h = absurd h
by_inode (Names found) P S Q t h = absurd h
by_inode (Tree entries) P S Q t h = absurd h
by_inode (Crashed crash) P S Q t h = absurd h
by_inode (Refused error) P S Q t h = h

pub does_number : {R : Type 0} (c : NumberCall) (reply : Reply) (fs fs' : FileSystem R) → Effect (number_act c) reply fs fs' → Does c (not (is_refused reply)) fs fs'
does_number (call.Create d name) reply fs fs' h = by_opened reply _ _ _ (λ f made. made.1) h.1
does_number (call.MakeDirectory d name) reply fs fs' h =
    by_inode reply _ _ _ (λ n made. subst (λ (m : ℕ). Makes (binds d name.now (directory_at m)) fs fs') made.0 made.1.1) h.1
does_number (call.Link inode d name) reply fs fs' h = by_done reply _ _ _ (λ made. made.1) h.1
does_number (call.Unlink d name) reply fs fs' h = by_done reply _ _ _ (λ made. made) h.1
does_number (call.RemoveDirectory d name) reply fs fs' h = by_done reply _ _ _ (λ made. made) h.1
does_number (call.Rename from old to new how) reply fs fs' h = by_done reply _ _ _ (λ made. made) h.1
does_number (call.Open inode) reply fs fs' h = leaves fs fs' h.0.0.0 h.0.0.1
does_number (call.OpenTruncated inode) reply fs fs' h = (h.0, h.1)
does_number (call.Close f) reply fs fs' h = leaves fs fs' h.0.0.0 h.0.0.1
does_number (call.Read f offset len) reply fs fs' h = leaves fs fs' h.0.0.0 h.0.0.1
does_number (call.Write f offset bytes) reply fs fs' h = (leaves fs fs' h.0.0 h.0.1, by_done reply _ _ _ (λ written. written.1) h.2)
does_number (call.Truncate f length) reply fs fs' h = (h.0, h.1)
does_number (call.Sync f) reply fs fs' h = (h.0, by_done reply _ _ _ (λ settled honest. (settled honest).0) h.2)
does_number (call.SyncData f) reply fs fs' h = (h.0, by_done reply _ _ _ (λ settled honest. (settled honest).0) h.2)
does_number (call.SyncDirectory d) reply fs fs' h = (h.0, by_done reply _ _ _ (λ settled. settled) h.2)
does_number call.SyncAll reply fs fs' h = (h.0, by_done reply _ _ _ (λ settled honest. (settled honest).0) h.2)
does_number call.Settle reply fs fs' h = (h.0, by_done reply _ _ _ (λ settled. settled.0) h.2)

pub keeps_unreached : {R : Type 0} (c : NumberCall) (reply : Reply) (fs fs' : FileSystem R) → Effect (number_act c) reply fs fs' → KeepsUnreached c fs fs'
keeps_unreached (call.Create d name) reply fs fs' h = λ inode at byte below spared fixed. h.0 inode at byte below fixed
keeps_unreached (call.MakeDirectory d name) reply fs fs' h = λ inode at byte below spared fixed. h.0 inode at byte below fixed
keeps_unreached (call.Link inode d name) reply fs fs' h = λ inode at byte below spared fixed. h.0 inode at byte below fixed
keeps_unreached (call.Unlink d name) reply fs fs' h = λ inode at byte below spared fixed. h.0 inode at byte below fixed
keeps_unreached (call.RemoveDirectory d name) reply fs fs' h = λ inode at byte below spared fixed. h.0 inode at byte below fixed
keeps_unreached (call.Rename from old to new how) reply fs fs' h = λ inode at byte below spared fixed. h.0 inode at byte below fixed
keeps_unreached (call.Open i) reply fs fs' h = λ inode at byte below spared fixed. h.0.1 inode at byte below fixed
keeps_unreached (call.Close f) reply fs fs' h = λ inode at byte below spared fixed. h.0.1 inode at byte below fixed
keeps_unreached (call.Read f offset len) reply fs fs' h = λ inode at byte below spared fixed. h.0.1 inode at byte below fixed
keeps_unreached (call.Sync f) reply fs fs' h = λ inode at byte below spared fixed. h.1 inode at byte below fixed
keeps_unreached (call.SyncData f) reply fs fs' h = λ inode at byte below spared fixed. h.1 inode at byte below fixed
keeps_unreached (call.SyncDirectory d) reply fs fs' h = λ inode at byte below spared fixed. h.1 inode at byte below fixed
keeps_unreached call.SyncAll reply fs fs' h = λ inode at byte below spared fixed. h.1 inode at byte below fixed
keeps_unreached call.Settle reply fs fs' h = λ inode at byte below spared fixed. h.1 inode at byte below fixed
keeps_unreached (call.OpenTruncated i) reply fs fs' h = h.2
keeps_unreached (call.Write f offset bytes) reply fs fs' h = h.1
keeps_unreached (call.Truncate f length) reply fs fs' h = h.2
