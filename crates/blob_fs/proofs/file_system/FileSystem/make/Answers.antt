use Rattle.blob_fs.proofs.Fixed.{opened_store}
use Rattle.blob_directory.specs.Names.{edit_of}
use Rattle.blob_fs.proofs.Named.{named_made}
use Rattle.blob_fs.proofs.Tracked.{tracked_made}
use Rattle.blob_fs.proofs.file_system.FileSystem.make.Goals as goal

pub invariant_of-self-2 : goal.invariant_of-self-2
invariant_of-self-2 g c = record {
  opened = opened_store c.args.self.now.store c.make.new.self c.args.self.now.files c.make.ensures.still c.args.self.now.opened;
  named = named_made c.make.result c.args.self.now.store c.make.new.self (edit_of c.args.edit) c.args.self.now.files c.make.ensures.made c.make.ensures.refused c.requires.fits c.args.self.now.named;
  tracked = tracked_made (record { may = c.bindings.ensures.one_more; within = c.bindings.ensures.within_one_more; freed = c.bindings.ensures.freed_one_more })
      c.make.result c.args.self.now.store c.make.new.self (edit_of c.args.edit) _ c.args.self.now.files c.make.ensures.made c.make.ensures.refused c.make.ensures.tells c.make.ensures.untold c.requires.fits c.args.self.now.tracked;
}
