use Rattle.std.proofs.Common.{◌<◌, inl, length}
use Rattle.blob_journal.specs.Fixed.{IsBeside}
use Rattle.blob_fs.proofs.Cutting.{on_map}
use Rattle.blob_fs.proofs.Fixed.{changes_less, changes_twice}
use Rattle.blob_fs.proofs.Sizing.{sized}
use Rattle.blob_fs.proofs.writes.cut_page.Goals as goal

pub returns-clause-sized : goal.returns-clause-sized
returns-clause-sized g c = on_map c.resize_file.result c.resize_file.ensures.resized (λ resizes inode open_file.
    sized c.put_zeros.new.store c.resize_file.new.self inode c.args.length c.put_zeros.new.blob c.resize_file.new.file (c.put_zeros.ensures.still.still inode open_file) resizes)

pub returns-clause-still : goal.returns-clause-still
returns-clause-still g c =
    changes_twice (IsBeside c.args.length (length c.args.zeros.now)) (λ at. at < c.args.length) (λ at. at < c.args.length)
    c.args.store.now c.put_zeros.new.store c.resize_file.new.self c.args.blob.now c.put_zeros.new.blob c.resize_file.new.file
    (λ at low. inl low) (λ at low. low) c.put_zeros.ensures.still c.resize_file.ensures.still

pub returns-in_err-put_zeros-clause-still : goal.returns-in_err-put_zeros-clause-still
returns-in_err-put_zeros-clause-still g c =
    changes_less (IsBeside c.args.length (length c.args.zeros.now)) (λ at. at < c.args.length) c.args.store.now c.put_zeros.new.store c.args.blob.now c.put_zeros.new.blob
    (λ at low. inl low) c.put_zeros.ensures.still
