use Rattle.std.proofs.Common.{◌≤◌, arith, refl}
use Rattle.blob_fs.proofs.Fixed.{contents_self, fixed_after, opened_store}
use Rattle.blob_fs.proofs.Named.{named_store}
use Rattle.blob_fs.proofs.Tracked.{tracked_again}
use Rattle.blob_fs.proofs.file_system.FileSystem.bind_moved.Goals as goal

pub invariant_of-self : goal.invariant_of-self
invariant_of-self g c = record {
  opened = opened_store c.args.self.now.store c.bind_moved.new.self c.args.self.now.files c.bind_moved.ensures.names.still c.args.self.now.opened;
  named = named_store c.args.self.now.store c.bind_moved.new.self c.args.self.now.files c.bind_moved.ensures.names.table c.args.self.now.named;
  tracked = tracked_again (record { may = c.bindings.ensures.one_more; within = c.bindings.ensures.within_one_more; freed = c.bindings.ensures.freed_one_more })
      c.args.self.now.store c.bind_moved.new.self c.args.self.now.files c.bind_moved.ensures.names.table c.bind_moved.ensures.told c.args.self.now.named c.args.self.now.tracked;
}

pub returns-clause-rest : goal.returns-clause-rest
returns-clause-rest g c =
    let fs = c.args.self.now in
    let more : fs.next_inode ≤ fs.next_inode = omega arith in
    record { fixed = fixed_after fs _ more (contents_self fs.files) c.bind_moved.ensures.names.still; options = refl }
