use Rattle.blob_memory.specs.Store.{place, directory, durable, live}
use Rattle.blob_faulty.specs.Wrapper.{inside, inner_of, config_of}
use Rattle.blob_journal.specs.Currents.{Represents, FindsNoMore}
use Rattle.std.proofs.Common.{◌≡◌, ℕ, List, Some, ap, arith, refl, subst, sym, ◌∙◌, rules, ◌-◌, ◌^◌}
use Rattle.std.specs.Prelude.{codes}
use Rattle.blob_model.specs.Directory.{current}
use Rattle.blob_faulty.specs.Keeps.{OverMemory}
use Rattle.blob_journal.specs.Blobs.{file_name}
use Rattle.blob_journal.specs.Incarnations.{IsIncarnation, KeepsOtherBlobs, SameBlob, KeepsIncarnations}
use Rattle.blob_journal.proofs.Blobs.{current_is, file_beside}
use Rattle.blob_journal.proofs.Fixed.{reopens, is_open}
use Rattle.blob_journal.specs.Limits.{IsLimit}
use Rattle.blob_header.specs.Refusals.{error_of}
use Rattle.std.proofs.lemmas.Bool.{eq-eqb, false≢true}
use Rattle.blob_model.specs.Places.{Place}
use Rattle.blob_journal.proofs.Limits.{not_last}
use Rattle.blob_journal.specs.Stores.{KeepsStore}
use Rattle.blob_journal.proofs.Stores.{holds_kept, edits_same, open_kept}
use Rattle.blob_journal.proofs.journaled.Journaled.open_file.Goals as goal

pub invariant_of-self : goal.invariant_of-self
invariant_of-self g c = holds_kept c.args.self.now c.open.new.store c.open.ensures.keeps

pub returns-clause-opened : goal.returns-clause-opened
returns-clause-opened g c =
    let before = c.args.self.now.store in
    let store = c.open.new.store in
    let o = c.in_ok-blob.ensures in
    let at = place (inside c.in_ok-blob.blob) in
    let bytes : List ℕ = live (inside c.in_ok-blob.blob) in
    let same = sym c.note.ensures.noted.0 in
    let there : IsIncarnation store (codes "f") (file_name c.args.inode) at = subst (λ (n : List ℕ). IsIncarnation store (codes "f") n at) c.to_le_bytes.ensures o.incarnation in
    record {
      bytes = bytes;
      has = record {
        is = record {
          current = subst (λ (s : OverMemory g.row.R.Denot). IsIncarnation s (codes "f") (file_name c.args.inode) at) same there;
          durable = subst (λ (s : OverMemory g.row.R.Denot). durable (inner_of s) at ≡ Some bytes) same o.durable;
        };
        seen = record { live = refl; size = o.tracked };
      };
      found = λ x e. current_is before (codes "f") (file_name c.args.inode) bytes x
          (λ a is. o.found a (ap (λ (n : List ℕ). current (directory (inner_of before)) (codes "f") n) c.to_le_bytes.ensures ∙ is)) e;
    }

pub returns-clause-others : goal.returns-clause-others
returns-clause-others g c = λ other below apart.
    let before = c.args.self.now.store in
    let store = c.open.new.store in
    let keeps : KeepsOtherBlobs (codes "f") (file_name c.args.inode) before store = subst (λ (n : List ℕ). KeepsOtherBlobs (codes "f") n before store) c.to_le_bytes.ensures c.open.ensures.others in
    subst (λ (s : OverMemory g.row.R.Denot). SameBlob (codes "f") (file_name other) before s) (sym c.note.ensures.noted.0)
    (file_beside before store c.args.inode other (omega arith) below apart keeps)

pub returns-clause-files : goal.returns-clause-files
returns-clause-files g c = λ r. subst (λ (s : OverMemory g.row.R.Denot). Represents s) (sym c.note.ensures.noted.0) (c.open.ensures.keeps.files r)

pub returns-in_err-blob-clause-still : goal.returns-in_err-blob-clause-still
returns-in_err-blob-clause-still g c = open_kept _ _ c.open.ensures.keeps

pub returns-clause-still : goal.returns-clause-still
returns-clause-still g c = open_kept _ _ (subst (λ (s : OverMemory g.row.R.Denot). KeepsStore c.args.self.now.store s) (sym c.note.ensures.noted.0) c.open.ensures.keeps)

pub returns-clause-reopened : goal.returns-clause-reopened
returns-clause-reopened g c =
    let before = c.args.self.now.store in
    let o = c.in_ok-blob.ensures in
    let at = place (inside c.in_ok-blob.blob) in
    let bytes : List ℕ = live (inside c.in_ok-blob.blob) in
    let same = sym c.note.ensures.noted.0 in
    let there : IsIncarnation c.open.new.store (codes "f") (file_name c.args.inode) at = subst (λ (n : List ℕ). IsIncarnation c.open.new.store (codes "f") n at) c.to_le_bytes.ensures o.incarnation in
    reopens _ c.args.inode _ _
    (subst (λ (s : OverMemory g.row.R.Denot). KeepsIncarnations before s) same c.open.ensures.keeps.incarnations)
    (subst (λ (s : OverMemory g.row.R.Denot). FindsNoMore before s) same c.open.ensures.keeps.left)
    (subst (λ (s : OverMemory g.row.R.Denot). IsIncarnation s (codes "f") (file_name c.args.inode) at) same there)
    (subst (λ (s : OverMemory g.row.R.Denot). durable (inner_of s) at ≡ Some bytes) same o.durable)
    o.tracked

pub returns-in_err-blob-clause-errors : goal.returns-in_err-blob-clause-errors
returns-in_err-blob-clause-errors g c = λ quiet.
    let said : error_of c.from_residual.result ≡ error_of c.open.result = search rules in
    subst (IsLimit _) (sym said) (c.open.ensures.errors (quiet, c.args.self.now.accepted) refl)

pub returns-clause-ready : goal.returns-clause-ready
returns-clause-ready g c = λ quiet.
    let store = c.open.new.store in
    let o = c.in_ok-blob.ensures in
    let at = place (inside c.in_ok-blob.blob) in
    let same = sym c.note.ensures.noted.0 in
    let there : IsIncarnation store (codes "f") (file_name c.args.inode) at = subst (λ (n : List ℕ). IsIncarnation store (codes "f") n at) c.to_le_bytes.ensures o.incarnation in
    record {
      faultless = ap (λ (s : OverMemory g.row.R.Denot). config_of s) c.note.ensures.noted.0 ∙ c.open.ensures.keeps.faults ∙ quiet;
      inode = c.args.inode;
      is = is_open _ c.args.inode _ (subst (λ (s : OverMemory g.row.R.Denot). IsIncarnation s (codes "f") (file_name c.args.inode) at) same there) o.tracked;
      known = c.note.ensures.known (λ last. absurd (false≢true (sym (not_last (directory (inner_of store)) (codes "f") (file_name c.args.inode) there.number there.layout (c.open.ensures.keeps.accepted c.args.self.now.accepted) there.file)
          ∙ eq-eqb there.number (2 ^ 64 - 1) (sym (ap (λ (o : Place). o.number) there.is) ∙ last))));
    }

pub returns-in_err-blob-clause-keeps : goal.returns-in_err-blob-clause-keeps
returns-in_err-blob-clause-keeps g c = record { names = refl; told = refl; unsettled = refl; log = refl }

pub returns-clause-keeps : goal.returns-clause-keeps
returns-clause-keeps g c = let n = c.note.ensures.noted in edits_same _ _ n.1 n.2 n.3 n.4
