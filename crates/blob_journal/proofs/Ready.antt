-- Files that stay ready.
use Rattle.std.proofs.Common.{◌≡◌, true, length, ap, arith, subst, sym, ◌∙◌}
use Rattle.std.specs.Prelude.{codes}
use Rattle.blob_model.specs.Directory.{is_current}
use Rattle.blob_model.specs.Places.{Place}
use Rattle.blob_memory.specs.Store.{directory, live, place}
use Rattle.blob_faulty.specs.Wrapper.{config_of, inner_of, inside, size_of}
use Rattle.blob_journal.specs.declared.journaled.Journaled.{Journaled}
use Rattle.blob_journal.specs.declared.store.FileBlob.{FileBlob}
use Rattle.blob_journal.specs.Blobs.{file_name}
use Rattle.blob_journal.specs.Errors.{IsReady}
use Rattle.blob_journal.specs.Incarnations.{IsIncarnation, KeepsIncarnations}
use Rattle.blob_journal.specs.Journals.{store_of}
use Rattle.blob_journal.proofs.Fixed.{incarnation_here, incarnations_same, is_open}

-- its blob is a current one
pub ready_here : {R : Type 0} (j : Journaled R) (file : FileBlob) → IsReady j file → is_current (directory (inner_of (store_of j))) (place (inside file.blob)) ≡ true
ready_here j file r = incarnation_here (store_of j) (codes "f") (file_name r.inode) (place (inside file.blob)) r.is.is.current

-- after a call that leaves the directory, the rates and the numbers, and by which the size stays that of the bytes that calls see
pub ready_after : {R : Type 0} (j : Journaled R) (file : FileBlob) (j' : Journaled R) (file' : FileBlob)
    → directory (inner_of (store_of j')) ≡ directory (inner_of (store_of j)) → config_of (store_of j') ≡ config_of (store_of j) → j'.opened ≡ j.opened
    → place (inside file'.blob) ≡ place (inside file.blob)
    → (is_current (directory (inner_of (store_of j))) (place (inside file.blob)) ≡ true → size_of file.blob ≡ length (live (inside file.blob)) → size_of file'.blob ≡ length (live (inside file'.blob)))
    → IsReady j file → IsReady j' file'
ready_after j file j' file' same rates numbers moved tracks r =
    let o = place (inside file.blob) in
    let names : KeepsIncarnations (store_of j) (store_of j') = incarnations_same (store_of j) (store_of j') same in
    let number : (place (inside file'.blob)).number ≡ o.number = ap (λ (a : Place). a.number) moved in
    record {
      faultless = rates ∙ r.faultless;
      inode = r.inode;
      is = is_open j' r.inode file' (subst (λ (a : Place). IsIncarnation (store_of j') (codes "f") (file_name r.inode) a) (sym moved) (names (codes "f") (file_name r.inode) o r.is.is.current))
          (tracks (ready_here j file r) r.is.tracked);
      known = omega (arith, number, numbers, r.known);
    }
