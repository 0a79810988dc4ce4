use Rattle.std.proofs.Common.{◌≤◌, ◌∙◌, arith}
use Rattle.blob_fs.proofs.Fixed.{contents_self, fixed_after, fixed_twice, opened_store}
use Rattle.blob_fs.proofs.Settling.{settles_then}
use Rattle.blob_fs.proofs.Named.{named_store}
use Rattle.blob_fs.proofs.Tracked.{tracked_settled}
use Rattle.blob_fs.proofs.file_system.FileSystem.settle_by.Goals as goal

pub returns-clause-settled : goal.returns-clause-settled
returns-clause-settled g c = c.settling.ensures.before c.args.settles c.args.synced c.args.self.now.store c.settle.new.self c.remove_gone.new.self.store c.in_ok-settle.ensures.settled c.remove_gone.ensures.journal

pub returns-clause-some : goal.returns-clause-some
returns-clause-some g c = (c.remove_gone.ensures.keeps.names ∙ c.settle.ensures.names, settles_then _ _ _ c.settle.ensures.some c.remove_gone.ensures.keeps.told)

pub invariant_of-self : goal.invariant_of-self
invariant_of-self g c = record {
  opened = opened_store c.args.self.now.store c.settle.new.self c.args.self.now.files c.settle.ensures.still c.args.self.now.opened;
  named = named_store c.args.self.now.store c.settle.new.self c.args.self.now.files c.settle.ensures.names c.args.self.now.named;
  tracked = tracked_settled (record { may = c.bindings.ensures.settled; within = c.bindings.ensures.within_settled; freed = c.bindings.ensures.freed_settled }) c.args.self.now.store c.settle.new.self c.args.self.now.files c.settle.ensures.names c.settle.ensures.some c.args.self.now.tracked;
}

pub returns-clause-rest : goal.returns-clause-rest
returns-clause-rest g c =
    let fs = c.args.self.now in
    let more : fs.next_inode ≤ fs.next_inode = omega arith in
    record {
      fixed = fixed_twice fs _ c.remove_gone.new.self (fixed_after fs _ more (contents_self fs.files) c.settle.ensures.still) c.remove_gone.ensures.keeps.fixed;
      options = c.remove_gone.ensures.keeps.options;
    }
