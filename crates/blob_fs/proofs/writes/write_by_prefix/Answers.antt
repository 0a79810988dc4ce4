use Rattle.std.proofs.Common.{length}
use Rattle.blob_journal.specs.Fixed.{IsBeside}
use Rattle.blob_fs.proofs.Fixed.{changes_after}
use Rattle.blob_fs.proofs.writes.write_by_prefix.Goals as goal

pub returns-clause-still : goal.returns-clause-still
returns-clause-still g c =
    let spares = IsBeside c.args.offset (length c.args.bytes.now) in
    let drawn = c.draw-is_failed.new.self in
    let after = c.write_file-2.new.self in
    changes_after spares c.args.store.now drawn after c.args.blob.now c.write_file-2.new.file c.draw-is_failed.ensures.contents.still
    (changes_after spares drawn c.set_config.new.self after c.args.blob.now c.write_file-2.new.file c.set_config.ensures.contents.still c.write_file-2.ensures.still)
