use Rattle.std.proofs.Common.{◌≡◌, sym, subst, ◌∙◌, true, ap, ℕ, Bool, List, Option, rules}
use Rattle.blob_directory.specs.Tables.{bound}
use Rattle.blob_directory.specs.declared.table.Table.{Table}
use Rattle.blob_journal.specs.Journals.{FindsNames}
use Rattle.blob_journal.specs.Keeping.{FindsTold}
use Rattle.blob_directory.specs.Trees.{Finds, has_link}
use Rattle.blob_fs.specs.Files.{keeps_of, names_of, table_of}
use Rattle.std.specs.BTreeMap.{BTreeMap, get}
use Rattle.std.specs.Ordering.{nat_cmp}
use Rattle.std.specs.Prelude.{is_some, Err}
use Rattle.blob_journal.specs.Blobs.{current_file}
use Rattle.blob_fs.specs.Bytes.{HasBytes, HasOnlyLinked, IsFound, IsLeft, bytes_found, bytes_left, file_in}
use Rattle.blob_fs.specs.Truncations.{lost_of}
use Rattle.blob_fs.specs.Open.{AllOpen}
use Rattle.blob_fs.specs.declared.file_system.File.{File}
use Rattle.blob_fs.proofs.Crashed.{found_is, opened_handles}
use Rattle.blob_fs.proofs.Fixed.{opened_store}
use Rattle.blob_fs.proofs.Counting.{all_named}
use Rattle.blob_fs.proofs.Recovering.{has_bytes, left_stays, no_orphan}
use Rattle.blob_fs.proofs.Fixing.{fixes_found}
use Rattle.blob_fs.proofs.Named.{named_store}
use Rattle.blob_fs.proofs.Tracked.{links_known, tracked_store}
use Rattle.blob_fs.specs.Errors.{StopsAtLimits}
use Rattle.blob_fs.specs.declared.error.FsError.TheVariants.{Store}
use Rattle.blob_fs.proofs.Errors.{sizes_tracked}
use Rattle.blob_fs.proofs.Standing.{standing_store}
use Rattle.blob_fs.proofs.file_system.FileSystem.recover.Goals as goal

pub returns-clause-found : goal.returns-clause-found
returns-clause-found g c =
    let taken : table_of c.begin_life.new.self ≡ c.in_ok-tree.tree.names = c.in_ok-begin_life.ensures.names in
    subst (λ (t : Table). FindsNames c.args.self.now.store (keeps_of c.args.self.now) (bound t)) (sym taken) c.in_ok-tree.ensures.found

pub returns-clause-gives : goal.returns-clause-gives
returns-clause-gives g c = λ r. c.in_ok-begin_life.ensures.gives (c.reopen_all.ensures.keeps.files (c.find_names.ensures.files r))

pub returns-clause-again : goal.returns-clause-again
returns-clause-again g c = λ gives.
    let taken : table_of c.begin_life.new.self ≡ c.in_ok-tree.tree.names = c.in_ok-begin_life.ensures.names in
    subst (λ (t : Table). Finds (bound t) (names_of c.args.self.now)) (sym taken) (c.in_ok-tree.ensures.again gives)

pub returns-clause-kept : goal.returns-clause-kept
returns-clause-kept g c =
    let taken : table_of c.begin_life.new.self ≡ c.in_ok-tree.tree.names = c.in_ok-begin_life.ensures.names in
    subst (λ (t : Table). FindsTold c.args.self.now.store (keeps_of c.args.self.now) (bound t)) (sym taken) c.in_ok-tree.ensures.kept

pub returns-clause-told : goal.returns-clause-told
returns-clause-told g c = c.in_ok-begin_life.ensures.told

pub returns-clause-bytes : goal.returns-clause-bytes
returns-clause-bytes g c = λ name inode below named.
    let fs = c.args.self.now in
    let searched = c.find_names.new.self in
    let opened = c.reopen_all.new.store in
    let new = c.begin_life.new.self in
    let tree = c.in_ok-tree.tree in
    let taken : table_of new ≡ tree.names = c.in_ok-begin_life.ensures.names in
    let linked : has_link tree inode ≡ true = c.in_ok-tree.ensures.links name inode (ap (λ (t : Table). bound t name) (sym taken) ∙ named) in
    let d = c.in_ok-files.ensures.left inode below linked in
    let l = d.left in
    let same = c.in_ok-begin_life.ensures.kept inode l.file below l.at in
    let found : IsFound (current_file fs.store inode) d.bytes = λ bytes is. d.is bytes (c.blobs.ensures.current fs.store searched inode (c.in_ok-tree.ensures.same inode) ∙ is) in
    let kept = c.args.kept.now in
    let lost : c.in_ok-lost.lost.items ≡ lost_of c.args.numbers.now c.in_ok-tree.edits.items = c.in_ok-lost.ensures ∙ ap (λ (l : List Bool). lost_of c.args.numbers.now l) c.deref.ensures.value in
    let old : Option File = file_in fs inode in
    let left : IsLeft new.store inode l.file _ _ = left_stays c.blobs.ensures.stays opened new.store inode l.file _ _ same l.left in
    record {
      bytes = d.bytes;
      was = found_is c.blobs.ensures.durable fs.store inode d.bytes found fs.files below fs.opened (c.in_ok-files.ensures.known inode (ap is_some l.at));
      has = subst (λ (n : List ℕ). HasBytes new inode (bytes_found fs kept n inode d.bytes) (bytes_left fs n inode (bytes_found fs kept n inode d.bytes))) lost
          (has_bytes c.blobs.ensures.found c.blobs.ensures.reads new inode _ _ l.file (ap (λ (m : BTreeMap ℕ File). get nat_cmp m inode) c.in_ok-begin_life.ensures.files ∙ l.at) left);
    }

pub returns-clause-known : goal.returns-clause-known
returns-clause-known g c = λ name inode below named.
    let tree = c.in_ok-tree.tree in
    let taken : table_of c.begin_life.new.self ≡ tree.names = c.in_ok-begin_life.ensures.names in
    let linked : has_link tree inode ≡ true = c.in_ok-tree.ensures.links name inode (ap (λ (t : Table). bound t name) (sym taken) ∙ named) in
    c.in_ok-files.ensures.known inode (ap is_some (c.in_ok-files.ensures.left inode below linked).left.at)

pub returns-clause-orphans : goal.returns-clause-orphans
returns-clause-orphans g c =
    let new = c.begin_life.new.self in
    let tree = c.in_ok-tree.tree in
    let taken : table_of new ≡ tree.names = c.in_ok-begin_life.ensures.names in
    no_orphan new tree (λ name. ap (λ (t : Table). bound t name) taken) c.in_ok-tree.ensures.named
    (subst (HasOnlyLinked tree) (sym c.in_ok-begin_life.ensures.files) c.in_ok-files.ensures.linked)

pub returns-clause-opened : goal.returns-clause-opened
returns-clause-opened g c = subst (AllOpen c.begin_life.new.self.store) (sym c.in_ok-begin_life.ensures.files) c.in_ok-begin_life.ensures.opened

pub invariant_of-self : goal.invariant_of-self
invariant_of-self g c = standing_store c.args.self.now c.find_names.new.self c.find_names.ensures.still c.find_names.ensures.keeps

pub invariant_of-self-2 : goal.invariant_of-self-2
invariant_of-self-2 g c =
    let fs = c.args.self.now in
    record {
      opened = opened_handles c.find_names.new.self c.reopen_all.new.store fs.files c.reopen_all.ensures.keeps.handles
          (opened_store fs.store c.find_names.new.self fs.files c.find_names.ensures.still fs.opened);
      named = named_store fs.store c.reopen_all.new.store fs.files (c.reopen_all.ensures.keeps.edits.names ∙ c.find_names.ensures.keeps.names) fs.named;
      tracked = tracked_store fs.store c.reopen_all.new.store fs.files (c.reopen_all.ensures.keeps.edits.names ∙ c.find_names.ensures.keeps.names) (c.reopen_all.ensures.keeps.edits.told ∙ c.find_names.ensures.keeps.told) fs.tracked;
    }

pub begin_life-requires : goal.begin_life-requires
begin_life-requires g c = record {
  opened = c.in_ok-files.ensures.opened;
  named = all_named c.in_ok-tree.tree c.in_ok-files.files c.in_ok-tree.ensures.counts c.in_ok-files.ensures.counted;
  present = c.in_ok-files.ensures.present;
  fits = c.in_ok-tree.ensures.fits;
}

pub reopen_all-requires : goal.reopen_all-requires
reopen_all-requires g c = record {
  known = links_known c.bindings.ensures.kept c.args.self.now.store c.args.self.now.files (keeps_of c.args.self.now) c.in_ok-tree.tree c.in_ok-tree.ensures.kept c.in_ok-tree.ensures.named c.args.self.now.tracked;
}

pub invariant_of-self-in-Break-branch-2 : goal.invariant_of-self-in-Break-branch-2
invariant_of-self-in-Break-branch-2 g c =
    let fs = c.args.self.now in
    standing_store fs c.find_names.new.self c.find_names.ensures.still c.find_names.ensures.keeps

pub returns-clause-fixes : goal.returns-clause-fixes
returns-clause-fixes g c =
    let done = c.in_ok-begin_life.ensures in
    fixes_found c.args.self.now c.begin_life.new.self c.in_ok-files.files done.numbers done.files (done.whole c.in_ok-files.ensures.whole)

pub returns-in_err-tree-clause-errors : goal.returns-in_err-tree-clause-errors
returns-in_err-tree-clause-errors g c =
    let said : c.from_residual.result ≡ Err (Store c.in_err-tree.field-0.0) = search rules in
    subst (StopsAtLimits c.find_names.new.self) (sym said) (c.in_err-tree.ensures.errors)

pub returns-in_err-files-clause-errors : goal.returns-in_err-files-clause-errors
returns-in_err-files-clause-errors g c =
    let said : c.from_residual-in_err-files.result ≡ Err c.in_err-files.field-0.0 = search rules in
    subst (StopsAtLimits c.reopen_all.new.store) (sym said) (c.in_err-files.ensures.errors c.find_names.ensures.faultless (sizes_tracked c.find_names.new.self c.args.self.now.files (opened_store c.args.self.now.store c.find_names.new.self c.args.self.now.files c.find_names.ensures.still c.args.self.now.opened)))

pub returns-in_err-begin_life-clause-errors : goal.returns-in_err-begin_life-clause-errors
returns-in_err-begin_life-clause-errors g c =
    let said : c.from_residual-in_err-begin_life.result ≡ Err c.in_err-begin_life.field-0.0 = search rules in
    subst (StopsAtLimits c.begin_life.new.self.store) (sym said) (c.in_err-begin_life.ensures.errors (c.in_ok-files.ensures.faultless c.find_names.ensures.faultless))
