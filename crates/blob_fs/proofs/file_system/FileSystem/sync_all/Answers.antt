use Rattle.std.proofs.Common.{ℕ, List, refl, subst, sym, arith}
use Rattle.blob_directory.specs.declared.profile.Settles.TheVariants.{All}
use Rattle.blob_directory.specs.declared.unsettled.Synced.TheVariants as synced
use Rattle.blob_fs.specs.Fixed.{ListsFiles}
use Rattle.blob_fs.proofs.States.{keeps_twice, rest_before, rest_of}
use Rattle.blob_fs.proofs.Syncing.{done_after, done_all, done_more, seen_same, seen_twice}
use Rattle.blob_fs.proofs.file_system.FileSystem.sync_all.Goals as goal

pub returns-clause-settled : goal.returns-clause-settled
returns-clause-settled g c = λ honest.
    c.settling.ensures.after All (synced.Directory 0) c.args.self.now.store c.loop-inode.self.store c.settle_names.new.self.store c.loop-inode.invariant.journal c.in_ok-settle_names.ensures.settled

pub loop-inode-preserved : goal.loop-inode-preserved
loop-inode-preserved g c = record {
  keeps = keeps_twice c.loop-inode.invariant.keeps c.sync_bytes.ensures.keeps;
  journal = c.settling.ensures.twice c.args.self.now.store c.loop-inode.self.store c.sync_bytes.new.self.store c.loop-inode.invariant.journal c.in_ok-sync_bytes.ensures.journal;
  seen = seen_twice c.args.self.now c.loop-inode.self c.sync_bytes.new.self c.loop-inode.invariant.seen c.in_ok-sync_bytes.ensures.seen;
  done = done_more c.args.self.now c.loop-inode.self c.sync_bytes.new.self c.deref-inode-items.result.now c.loop-inode.inode-index _ refl
      c.loop-inode.invariant.seen c.sync_bytes.ensures.keeps.fixed c.in_ok-sync_bytes.ensures.fixes c.loop-inode.invariant.done;
}

pub loop-inode-init : goal.loop-inode-init
loop-inode-init g c = record {
  keeps = c.begin_call.ensures.keeps;
  journal = c.in_ok-begin_call.ensures.journal;
  seen = seen_same c.args.self.now c.begin_call.new.self c.begin_call.ensures.files.files;
  done = λ k less. absurd (omega (arith, less));
}

pub returns-clause-rest : goal.returns-clause-rest
returns-clause-rest g c = rest_before c.loop-inode.invariant.keeps c.settle_names.ensures.rest

pub returns-clause-fixes : goal.returns-clause-fixes
returns-clause-fixes g c = λ honest.
    let fs = c.args.self.now in
    done_all fs c.begin_call.new.self c.settle_names.new.self c.deref-inode-items.result.now c.loop-inode.inode-index c.begin_call.ensures.files.files
    (subst (λ (l : List ℕ). ListsFiles c.begin_call.new.self l) (sym c.deref-inode-items.ensures.value) c.in_ok-inodes.ensures) (omega arith)
    (done_after fs c.loop-inode.self c.settle_names.new.self c.deref-inode-items.result.now c.loop-inode.inode-index c.settle_names.ensures.rest.fixed c.loop-inode.invariant.done)

pub returns-in_err-sync_bytes-clause-rest : goal.returns-in_err-sync_bytes-clause-rest
returns-in_err-sync_bytes-clause-rest g c = rest_of (keeps_twice c.loop-inode.invariant.keeps c.sync_bytes.ensures.keeps)

pub returns-in_err-settle_names-clause-rest : goal.returns-in_err-settle_names-clause-rest
returns-in_err-settle_names-clause-rest g c = rest_before c.loop-inode.invariant.keeps c.settle_names.ensures.rest
