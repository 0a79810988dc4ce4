use Rattle.blob_fs.specs.Files.{names_of}
use Rattle.blob_fs.proofs.Named.{none_named}
use Rattle.blob_fs.proofs.Tracked.{freed_unlinked, gone_found}
use Rattle.blob_fs.proofs.file_system.FileSystem.remove_settled.Goals as goal

pub remove_file-requires : goal.remove_file-requires
remove_file-requires g c =
    let fs = c.args.self.now in
    let gone = c.is_gone_by.ensures c.if-is_gone_by.true in
    record {
      unnamed = none_named (names_of fs) fs.files c.args.inode (freed_unlinked _ gone.limit gone.freed) fs.named;
      unfound = gone_found c.bindings.ensures.not_named fs.store fs.files c.args.inode gone.limit c.args.settled gone.freed gone.before c.requires.settled fs.tracked;
    }
