-- Files that are synced aren't cut.
use Rattle.std.proofs.Common.{◌≡◌, ◌≤◌, ◌==◌, ℕ, suc, Bool, true, false, List, [], ◌∷◌, drop, length, Option, refl, sym, ap, subst, ◌∙◌, arith}
use Rattle.std.proofs.lemmas.Bool.{cond-true, eq-eqb}
use Rattle.std.proofs.lemmas.List.{length-drop}
use Rattle.blob_fs.specs.declared.file_system.File.{File}
use Rattle.blob_fs.specs.declared.truncation.Truncation.{Truncation}
use Rattle.blob_fs.specs.Bytes.{HasBytes, bytes_found, bytes_left, common_length, cut_bytes, found_of, kept_by, kept_length, left_of, lost_by}
use Rattle.blob_fs.specs.Truncations.{cut_start, truncated}
use Rattle.blob_fs.specs.Synced.{SyncedIsFound}
use Rattle.blob_fs.proofs.Cutting.{uncut}
use Rattle.blob_fs.proofs.Fixed.{some_same}

-- a file of which exactly the seen bytes are found isn't cut

common_all : (bytes : List ℕ) → common_length bytes bytes ≡ length bytes
common_all [] = refl
common_all (x ∷ bytes) = cond-true (x == x) (suc (common_length bytes bytes)) 0 (eq-eqb x x refl) ∙ ap suc (common_all bytes)

kept_all : (synced : ℕ) (bytes : List ℕ) → length bytes ≤ kept_length synced bytes bytes
kept_all synced bytes =
    let all : common_length (drop synced bytes) (drop synced bytes) ≡ length (drop synced bytes) = common_all (drop synced bytes) in
    omega (arith, all, length-drop synced bytes)

pub uncut_same : (cuts : Bool) (synced : ℕ) (bytes : List ℕ) → cut_bytes cuts synced bytes bytes ≡ bytes
uncut_same true synced bytes = uncut synced bytes bytes (kept_all synced bytes)
uncut_same false synced bytes = refl

pub synced_is_found : (R : Type 0) → SyncedIsFound R
synced_is_found R fs fs' crash name inode bytes below finds synced named =
    let cuts = fs.options.profile.cuts in
    let kept = kept_by fs crash in
    let lost = lost_by fs crash in
    let was = synced.was in
    let f = finds name inode below named in
    let same : f.bytes ≡ bytes = some_same (sym f.was ∙ synced.left crash.rows) in
    let whole : bytes_found fs kept lost inode bytes ≡ bytes =
    ap (λ (old : Option File). found_of kept lost inode old bytes) synced.at
    ∙ ap (λ (ts : List Truncation). truncated kept lost inode ts bytes) synced.whole in
    let cut : bytes_left fs lost inode bytes ≡ bytes =
    ap (λ (old : Option File). left_of cuts lost old bytes) synced.at
    ∙ ap (λ (seen : List ℕ). cut_bytes cuts (cut_start lost was.synced was.truncations.items) seen bytes) synced.seen
    ∙ uncut_same cuts (cut_start lost was.synced was.truncations.items) bytes in
    subst (λ (l : List ℕ). HasBytes fs' inode bytes l) cut
    (subst (λ (l : List ℕ). HasBytes fs' inode l (bytes_left fs lost inode l)) whole
    (subst (λ (l : List ℕ). HasBytes fs' inode (bytes_found fs kept lost inode l) (bytes_left fs lost inode (bytes_found fs kept lost inode l))) same f.has))
