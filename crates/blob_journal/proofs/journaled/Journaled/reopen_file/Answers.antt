use Rattle.blob_memory.specs.Store.{place, durable, live}
use Rattle.blob_faulty.specs.Wrapper.{inside, inner_of}
use Rattle.std.proofs.Common.{◌≡◌, List, ℕ, Some, subst, sym, refl}
use Rattle.std.specs.Prelude.{codes}
use Rattle.blob_faulty.specs.Keeps.{OverMemory}
use Rattle.blob_journal.specs.Blobs.{file_name}
use Rattle.blob_journal.specs.Currents.{FindsNoMore}
use Rattle.blob_journal.specs.Incarnations.{IsIncarnation, KeepsIncarnations}
use Rattle.blob_journal.proofs.Fixed.{reopens}
use Rattle.blob_journal.specs.Stores.{KeepsStore}
use Rattle.blob_journal.proofs.Stores.{holds_kept, edits_same, open_kept}
use Rattle.blob_journal.proofs.journaled.Journaled.reopen_file.Goals as goal

pub invariant_of-self : goal.invariant_of-self
invariant_of-self g c = holds_kept c.args.self.now c.reopen.new.store c.reopen.ensures.keeps

pub returns-in_err-blob-clause-still : goal.returns-in_err-blob-clause-still
returns-in_err-blob-clause-still g c = open_kept _ _ c.reopen.ensures.keeps

pub returns-clause-still : goal.returns-clause-still
returns-clause-still g c = open_kept _ _ (subst (λ (s : OverMemory g.row.R.Denot). KeepsStore c.args.self.now.store s) (sym c.note.ensures.noted.0) c.reopen.ensures.keeps)

pub returns-clause-reopened : goal.returns-clause-reopened
returns-clause-reopened g c =
    let before = c.args.self.now.store in
    let o = c.in_ok-blob.ensures in
    let at = place (inside c.in_ok-blob.blob) in
    let bytes : List ℕ = live (inside c.in_ok-blob.blob) in
    let same = sym c.note.ensures.noted.0 in
    let there : IsIncarnation c.reopen.new.store (codes "f") (file_name c.args.inode) at = subst (λ (n : List ℕ). IsIncarnation c.reopen.new.store (codes "f") n at) c.to_le_bytes.ensures o.incarnation in
    reopens _ c.args.inode _ _
    (subst (λ (s : OverMemory g.row.R.Denot). KeepsIncarnations before s) same c.reopen.ensures.keeps.incarnations)
    (subst (λ (s : OverMemory g.row.R.Denot). FindsNoMore before s) same c.reopen.ensures.keeps.left)
    (subst (λ (s : OverMemory g.row.R.Denot). IsIncarnation s (codes "f") (file_name c.args.inode) at) same there)
    (subst (λ (s : OverMemory g.row.R.Denot). durable (inner_of s) at ≡ Some bytes) same o.durable)
    o.tracked

pub returns-in_err-blob-clause-keeps : goal.returns-in_err-blob-clause-keeps
returns-in_err-blob-clause-keeps g c = record { names = refl; told = refl; unsettled = refl; log = refl }

pub returns-clause-keeps : goal.returns-clause-keeps
returns-clause-keeps g c = let n = c.note.ensures.noted in edits_same _ _ n.1 n.2 n.3 n.4
