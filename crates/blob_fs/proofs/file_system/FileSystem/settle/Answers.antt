use Rattle.std.proofs.Common.{◌+◌, ℕ, List, refl, subst, sym, arith}
use Rattle.blob_directory.specs.declared.profile.Settles.TheVariants.{All}
use Rattle.blob_directory.specs.declared.unsettled.Synced.TheVariants as synced
use Rattle.blob_journal.specs.declared.journaled.Journaled.{Journaled}
use Rattle.blob_journal.specs.Settling.{KeepsJournal}
use Rattle.blob_fs.specs.Fixed.{ListsFiles}
use Rattle.blob_fs.proofs.Calls.{always_ok, on_ok}
use Rattle.blob_fs.proofs.Syncing.{done_after, done_all, done_more, seen_same, seen_twice}
use Rattle.blob_fs.proofs.States.{keeps_opened, keeps_twice, rest_before, rest_of}
use Rattle.blob_fs.proofs.Standing.{standing_contents}
use Rattle.blob_fs.proofs.file_system.FileSystem.settle.Goals as goal

pub loop-inode-init : goal.loop-inode-init
loop-inode-init g c = record {
  keeps = keeps_opened _ c.begin_call.ensures.keeps refl refl refl c.set_config.ensures.contents.edits c.set_config.ensures.contents.still;
  journal = c.settling.ensures.twice c.args.self.now.store c.begin_call.new.self.store c.set_config.new.self c.in_ok-begin_call.ensures.journal c.set_config.ensures.contents.journal;
  seen = seen_same c.args.self.now _ c.begin_call.ensures.files.files;
  done = λ k less. absurd (omega (arith, less));
}

pub invariant_of-self : goal.invariant_of-self
invariant_of-self g c =
    let one = c.begin_call.new.self in
    standing_contents one c.set_config.new.self c.set_config.ensures.contents

pub loop-inode-preserved : goal.loop-inode-preserved
loop-inode-preserved g c = record {
  keeps = keeps_twice (keeps_twice c.loop-inode.invariant.keeps c.sync_bytes.ensures.keeps) c.show_blob.ensures.keeps;
  journal = subst (λ (j : Journaled g.row.R.Denot). KeepsJournal c.args.self.now.store j) (sym c.show_blob.ensures.store)
      (c.settling.ensures.twice c.args.self.now.store c.loop-inode.self.store c.sync_bytes.new.self.store c.loop-inode.invariant.journal c.in_ok-sync_bytes.ensures.journal);
  seen = seen_twice c.args.self.now c.sync_bytes.new.self c.show_blob.new.self
      (seen_twice c.args.self.now c.loop-inode.self c.sync_bytes.new.self c.loop-inode.invariant.seen c.in_ok-sync_bytes.ensures.seen) c.show_blob.ensures.seen;
  done = done_after c.args.self.now c.sync_bytes.new.self c.show_blob.new.self c.deref-inode-items.result.now (c.loop-inode.inode-index + 1) c.show_blob.ensures.keeps.fixed
      (done_more c.args.self.now c.loop-inode.self c.sync_bytes.new.self c.deref-inode-items.result.now c.loop-inode.inode-index _ refl
      c.loop-inode.invariant.seen c.sync_bytes.ensures.keeps.fixed c.in_ok-sync_bytes.ensures.fixes c.loop-inode.invariant.done);
}

pub returns-clause-settled : goal.returns-clause-settled
returns-clause-settled g c =
    on_ok c.settle_names.result c.settle_names.ensures.settled c.settle_names.ensures.settled (λ s _.
    c.settling.ensures.after All (synced.Directory 0) c.args.self.now.store c.loop-inode.self.store c.settle_names.new.self.store c.loop-inode.invariant.journal s)

pub returns-clause-rest : goal.returns-clause-rest
returns-clause-rest g c = rest_before c.loop-inode.invariant.keeps c.settle_names.ensures.rest

pub returns-clause-fixes : goal.returns-clause-fixes
returns-clause-fixes g c =
    let fs = c.args.self.now in
    always_ok c.settle_names.result (done_all fs c.begin_call.new.self c.settle_names.new.self c.deref-inode-items.result.now c.loop-inode.inode-index c.begin_call.ensures.files.files
    (subst (λ (l : List ℕ). ListsFiles c.begin_call.new.self l) (sym c.deref-inode-items.ensures.value) c.in_ok-inodes.ensures) (omega arith)
    (done_after fs c.loop-inode.self c.settle_names.new.self c.deref-inode-items.result.now c.loop-inode.inode-index c.settle_names.ensures.rest.fixed c.loop-inode.invariant.done))

pub returns-in_err-sync_bytes-clause-rest : goal.returns-in_err-sync_bytes-clause-rest
returns-in_err-sync_bytes-clause-rest g c = rest_of (keeps_twice c.loop-inode.invariant.keeps c.sync_bytes.ensures.keeps)
