use Rattle.std.proofs.Common.{◌≡◌, ◌<◌, ℕ, Option, None, Some, Less, ap, refl, sym, ◌∙◌, IsSome}
use Rattle.std.proofs.lemmas.Bool.{false≢true}
use Rattle.std.specs.BTreeMap.{BTreeMap, IsUpperBound, get}
use Rattle.std.specs.Cmp.{nat_cmp_is}
use Rattle.std.specs.Ordering.{is_lt, nat_cmp}
use Rattle.blob_fs.specs.Bytes.{file_in}
use Rattle.blob_fs.specs.declared.file_system.File.{File}
use Rattle.blob_fs.proofs.file_system.FileSystem.is_taken.Goals as goal

none_unless : (o : Option File) → (IsSome o → ⊥) → o ≡ None
none_unless None never = refl
none_unless (Some f) never = absurd (never refl)

none_above : (m : BTreeMap ℕ File) (last inode : ℕ) → IsUpperBound nat_cmp m last → last < inode → get nat_cmp m inode ≡ None
none_above m last inode bound below = none_unless (get nat_cmp m inode)
    (λ there. false≢true (sym (bound inode there) ∙ ap is_lt (sym (nat_cmp_is last inode Less below))))

pub returns-in-Some : goal.returns-in-Some
returns-in-Some g c = λ _. none_above c.args.self.now.files c.in-Some.last.now c.args.inode c.in-Some.ensures.greatest c.if-last-inode.true

pub returns-in_default : goal.returns-in_default
returns-in_default g c = λ absent. none_unless (file_in c.args.self.now c.args.inode) (λ there. false≢true (sym absent ∙ c.contains_key.ensures ∙ there))
