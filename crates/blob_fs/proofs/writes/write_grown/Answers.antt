use Rattle.std.proofs.Common.{arith, inl, length, subst}
use Rattle.blob_journal.specs.declared.journaled.Journaled.{Journaled}
use Rattle.blob_journal.specs.declared.store.FileBlob.{FileBlob}
use Rattle.blob_journal.specs.Fixed.{ChangesOpen, IsBeside}
use Rattle.blob_journal.specs.Writes.{RecordsWrite}
use Rattle.blob_fs.proofs.Cutting.{on_map}
use Rattle.blob_fs.proofs.Fixed.{changes_twice}
use Rattle.blob_fs.proofs.Syncing.{seen_below}
use Rattle.blob_fs.specs.Reads.{write_some}
use Rattle.blob_fs.proofs.writes.write_grown.Goals as goal

pub returns-clause-recorded : goal.returns-clause-recorded
returns-clause-recorded g c = on_map c.write_blob.result c.write_blob.ensures.recorded (λ recorded by_mode empty.
    let same = c.put_zeros.ensures.none empty in
    let offset = c.args.bytes.0 in
    let bytes = c.args.bytes.1.now in
    subst (λ (j : Journaled g.row.R.Denot). RecordsWrite offset bytes j c.args.blob.now c.write_blob.new.store c.write_blob.new.blob) same.0
    (subst (λ (f : FileBlob). RecordsWrite offset bytes c.put_zeros.new.store f c.write_blob.new.store c.write_blob.new.blob) same.1 (recorded by_mode)))

-- no byte that is fixed is beyond the end
pub returns-clause-still : goal.returns-clause-still
returns-clause-still g c =
    let blob = c.args.blob.now in
    let spares = IsBeside c.args.bytes.0 (length c.args.bytes.1.now) in
    let put = c.put_zeros.ensures.still in
    let first : ChangesOpen spares c.args.store.now blob c.put_zeros.new.store c.put_zeros.new.blob = record {
      still = put.still;
      fixed = λ at byte spared h. put.fixed at byte (inl (omega (arith, c.requires, seen_below blob at byte h.seen))) h;
      others = put.others;
    } in
    changes_twice spares spares spares c.args.store.now c.put_zeros.new.store c.write_blob.new.store blob c.put_zeros.new.blob c.write_blob.new.blob
    (λ at spared. spared) (λ at spared. spared) first c.write_blob.ensures.still

pub returns-in_err-put_zeros-clause-still : goal.returns-in_err-put_zeros-clause-still
returns-in_err-put_zeros-clause-still g c =
    let put = c.put_zeros.ensures.still in
    record {
      still = put.still;
      fixed = λ at byte spared h. put.fixed at byte (inl (omega (arith, c.requires, seen_below c.args.blob.now at byte h.seen))) h;
      others = put.others;
    }

pub returns-clause-shows : goal.returns-clause-shows
returns-clause-shows g c = on_map c.write_blob.result c.write_blob.ensures.shows (λ shows by_mode inode seen open_blob sees.
    shows by_mode inode (write_some seen c.args.zeros.0 c.args.zeros.1.now) (c.put_zeros.ensures.still.still inode open_blob)
    (c.in_ok-put_zeros.ensures.shows inode seen open_blob sees))
