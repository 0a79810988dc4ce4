use Rattle.std.proofs.Common.{◌≡◌, List, ℕ, false, length, true, arith, subst, sym, ◌∙◌}
use Rattle.std.proofs.lemmas.Bool.{true≢false}
use Rattle.blob_journal.specs.Blobs.{Sees}
use Rattle.blob_fs.proofs.Cutting.{on_map}
use Rattle.blob_fs.proofs.Fixed.{still_self}
use Rattle.blob_fs.proofs.Fixing.{but_keeps}
use Rattle.blob_fs.proofs.Reading.{shows_written, some_written}
use Rattle.blob_fs.proofs.writes.put_zeros.Goals as goal

pub returns-then-is_empty-clause-still : goal.returns-then-is_empty-clause-still
returns-then-is_empty-clause-still g c = record {
  still = λ inode h. h;
  fixed = λ at byte spared h. h;
  others = λ inode below h. but_keeps inode c.args.store.now c.args.store.now (still_self c.args.store.now);
}

pub returns-clause-shows : goal.returns-clause-shows
returns-clause-shows g c = on_map c.write_file.result c.write_file.ensures.written (λ written inode seen open_blob sees.
    let offset = c.args.offset in
    let zeros = c.args.zeros.now in
    let some : length zeros ≡ 0 → ⊥ = λ none.
    let empty : c.is_empty.result ≡ true = grind (arith, none, c.is_empty.ensures) in
    true≢false (sym empty ∙ c.if-is_empty.false) in
    subst (λ (l : List ℕ). Sees c.write_file.new.file l) (some_written seen offset zeros some)
    (shows_written offset zeros c.args.store.now c.write_file.new.self c.args.blob.now c.write_file.new.file written inode seen open_blob sees))
