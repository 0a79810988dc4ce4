use Rattle.std.proofs.Common.{ℕ, ap, sym, subst, ◌∙◌}
use Rattle.std.specs.BTreeMap.{BTreeMap, get}
use Rattle.std.specs.Ordering.{nat_cmp}
use Rattle.blob_directory.specs.declared.unsettled.Synced.TheVariants.{Data}
use Rattle.blob_fs.specs.declared.file_system.Options.{Options}
use Rattle.blob_fs.specs.Files.{SettlesEdits, descriptor_number}
use Rattle.blob_fs.proofs.States.{keeps_twice, rest_before, rest_of}
use Rattle.blob_fs.proofs.Syncing.{fixes_after, fixes_before}
use Rattle.blob_fs.proofs.file_system.FileSystem.sync_data.Goals as goal

pub returns-clause-settled : goal.returns-clause-settled
returns-clause-settled g c = λ honest.
    let fs = c.args.self.now in
    let one = c.begin_call.new.self in
    let two = c.sync_bytes.new.self in
    let three = c.settle_by.new.self in
    let same = c.begin_call.ensures.files in
    let kept = c.settling.ensures.twice fs.store one.store two.store c.in_ok-begin_call.ensures.journal c.in_ok-sized.ensures.journal in
    record {
      inode = c.in_ok-inode.inode;
      opened = ap (λ (m : BTreeMap ℕ ℕ). get nat_cmp m (descriptor_number c.args.file)) (sym same.opens) ∙ c.in_ok-inode.ensures;
      sized = c.in_ok-sized.sized;
      settled = subst (λ (o : Options). SettlesEdits o.profile.settles (Data c.in_ok-inode.inode c.in_ok-sized.sized) fs three) same.options
          (c.settling.ensures.after one.options.profile.settles (Data c.in_ok-inode.inode c.in_ok-sized.sized) fs.store two.store three.store kept c.in_ok-settle_by.ensures.settled);
    }

pub returns-clause-rest : goal.returns-clause-rest
returns-clause-rest g c = rest_before (keeps_twice c.begin_call.ensures.keeps c.sync_bytes.ensures.keeps) c.settle_by.ensures.rest

pub returns-clause-fixes : goal.returns-clause-fixes
returns-clause-fixes g c = λ honest.
    let fs = c.args.self.now in
    let one = c.begin_call.new.self in
    let two = c.sync_bytes.new.self in
    let three = c.settle_by.new.self in
    let same = c.begin_call.ensures.files in
    record {
      inode = c.in_ok-inode.inode;
      opened = ap (λ (m : BTreeMap ℕ ℕ). get nat_cmp m (descriptor_number c.args.file)) (sym same.opens) ∙ c.in_ok-inode.ensures;
      fixes = fixes_after c.in_ok-inode.inode fs two three (fixes_before c.in_ok-inode.inode fs one two same.files c.in_ok-sized.ensures.fixes) c.settle_by.ensures.rest.fixed;
    }

pub returns-in_err-sized-clause-rest : goal.returns-in_err-sized-clause-rest
returns-in_err-sized-clause-rest g c = rest_of (keeps_twice c.begin_call.ensures.keeps c.sync_bytes.ensures.keeps)

pub returns-in_err-settle_by-clause-rest : goal.returns-in_err-settle_by-clause-rest
returns-in_err-settle_by-clause-rest g c = rest_before (keeps_twice c.begin_call.ensures.keeps c.sync_bytes.ensures.keeps) c.settle_by.ensures.rest
