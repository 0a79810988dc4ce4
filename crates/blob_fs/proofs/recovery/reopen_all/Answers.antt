use Rattle.std.proofs.Common.{◌≡◌, ◌∷◌, ℕ, [], List, subst, sym}
use Rattle.std.specs.Map.Iter.{deref_pair}
use Rattle.std.proofs.lemmas.Map.Iter.{rest_all, rest_more}
use Rattle.blob_journal.specs.Fixed.{IsOpen}
use Rattle.blob_fs.proofs.Counting.{CountsAllBut, counts_all, counts_more}
use Rattle.blob_fs.proofs.Fixing.{open_more, whole_more}
use Rattle.blob_fs.proofs.States.{stored_then}
use Rattle.blob_fs.proofs.Tracked.{present_more}
use Rattle.blob_fs.proofs.Recovering.{AreLinked, Ascend, Stands, ascend_rest, ends, known_more, linked_first, linked_rest, only_more, takes}
use Rattle.std.specs.Prelude.{Err}
use Rattle.blob_fs.specs.Errors.{StopsAtLimits}
use Rattle.blob_fs.specs.declared.error.FsError.TheVariants.{Store}
use Rattle.blob_fs.proofs.Errors.{refused_store}
use Rattle.blob_fs.proofs.recovery.reopen_all.Goals as goal

pub loop-inode-preserved : goal.loop-inode-preserved
loop-inode-preserved g c =
    let j = c.args.store.now in
    let old = c.args.old.now in
    let tree = c.args.tree.now in
    let k = c.in-Some.inode.now in
    let links = c.in-Some.links.now in
    let rest : List (ℕ × ℕ) = c.next.new.self in
    let i = c.loop-inode.invariant in
    let laws = c.blobs.ensures in
    let is : c.loop-inode.inode-iterator ≡ (k, links) ∷ rest = rest_more deref_pair c.loop-inode.inode-iterator rest c.next.result (c.in-Some.inode, c.in-Some.links) c.in-Some.is c.next.ensures.steps in
    let counted : AreLinked tree ((k, links) ∷ rest) = subst (AreLinked tree) is i.counted in
    let file = c.in_ok-file.file in
    let own : IsOpen c.reopen.new.store k file.blob = laws.is_open c.reopen.new.store k file.blob _ c.in_ok-file.ensures.left.left.has in
    record {
      keeps = stored_then i.keeps c.reopen.ensures.keeps;
      ascend = ascend_rest c.loop-inode.inode-iterator rest (k, links) is i.ascend;
      counted = linked_rest tree k links rest counted;
      left = takes j old tree c.args.kept.now c.args.loss.now laws.current laws.stays laws.twice k links rest c.loop-inode.store c.reopen.new.store c.loop-inode.files c.put.new.files c.in_ok-file.file
          (subst Ascend is i.ascend) c.in_ok-put.ensures.updated.0 c.in_ok-file.ensures.others c.in_ok-file.ensures.left
          (subst (λ (l : List (ℕ × ℕ)). Stands j old tree c.args.kept.now c.args.loss.now l c.loop-inode.store c.loop-inode.files) is i.left);
      linked = only_more tree c.loop-inode.files c.put.new.files k c.in_ok-file.file c.in_ok-put.ensures.updated (linked_first tree k links rest counted) i.linked;
      opened = open_more c.loop-inode.store c.reopen.new.store c.loop-inode.files c.put.new.files k file c.in_ok-put.ensures.updated.0 c.in_ok-file.ensures.still i.opened own;
      whole = whole_more c.loop-inode.store c.reopen.new.store c.loop-inode.files c.put.new.files k file c.in_ok-put.ensures.updated.0 c.in_ok-file.ensures.still i.opened i.whole c.in_ok-file.ensures.whole;
      known = known_more old c.loop-inode.files c.put.new.files k c.in_ok-file.file c.in_ok-put.ensures.updated (c.requires.known k (linked_first tree k links rest counted)) i.known;
      faultless = λ q. c.in_ok-file.ensures.faultless (i.faultless q);
      counts = counts_more tree k links rest (subst Ascend is i.ascend) c.loop-inode.files c.put.new.files file c.in_ok-put.ensures.updated.0 c.in_ok-file.ensures.links c.in_ok-file.ensures.left.left.there
          (subst (λ (l : List (ℕ × ℕ)). CountsAllBut tree l c.loop-inode.files) is i.counts);
      present = present_more c.loop-inode.files c.put.new.files k file c.in_ok-put.ensures.updated c.in_ok-file.ensures.left.left.there i.present;
    }

pub returns-clause-left : goal.returns-clause-left
returns-clause-left g c =
    let none : c.loop-inode.inode-iterator ≡ [] = rest_all deref_pair c.loop-inode.inode-iterator c.next.new.self c.next.result c.in-None.is c.next.ensures.steps in
    ends c.args.store.now c.args.old.now c.args.tree.now c.args.kept.now c.args.loss.now c.loop-inode.store c.loop-inode.files
    (subst (λ (l : List (ℕ × ℕ)). Stands c.args.store.now c.args.old.now c.args.tree.now c.args.kept.now c.args.loss.now l c.loop-inode.store c.loop-inode.files) none c.loop-inode.invariant.left)

pub returns-clause-counted : goal.returns-clause-counted
returns-clause-counted g c =
    let none : c.loop-inode.inode-iterator ≡ [] = rest_all deref_pair c.loop-inode.inode-iterator c.next.new.self c.next.result c.in-None.is c.next.ensures.steps in
    counts_all c.args.tree.now c.loop-inode.files (subst (λ (l : List (ℕ × ℕ)). CountsAllBut c.args.tree.now l c.loop-inode.files) none c.loop-inode.invariant.counts)

pub returns-clause-opened : goal.returns-clause-opened
returns-clause-opened g c = c.loop-inode.invariant.opened

pub returns-clause-whole : goal.returns-clause-whole
returns-clause-whole g c = c.loop-inode.invariant.whole

pub returns-clause-present : goal.returns-clause-present
returns-clause-present g c = c.loop-inode.invariant.present

pub reopen-requires : goal.reopen-requires
reopen-requires g c =
    let tree = c.args.tree.now in
    let k = c.in-Some.inode.now in
    let links = c.in-Some.links.now in
    let rest : List (ℕ × ℕ) = c.next.new.self in
    let is : c.loop-inode.inode-iterator ≡ (k, links) ∷ rest = rest_more deref_pair c.loop-inode.inode-iterator rest c.next.result (c.in-Some.inode, c.in-Some.links) c.in-Some.is c.next.ensures.steps in
    record { known = c.requires.known k (linked_first tree k links rest (subst (AreLinked tree) is c.loop-inode.invariant.counted)) }

pub returns-in_err-file-clause-errors : goal.returns-in_err-file-clause-errors
returns-in_err-file-clause-errors g c = λ q sizes.
    let said : c.from_residual.result ≡ Err (Store c.in_err-file.field-0.0) = refused_store c.from_residual.result c.in_err-file.field-0.0 c.from_residual.ensures.0 c.from_residual.ensures.1 in
    subst (StopsAtLimits c.reopen.new.store) (sym said) (c.in_err-file.ensures.errors (c.loop-inode.invariant.faultless q) sizes)

pub returns-in_err-file-clause-keeps : goal.returns-in_err-file-clause-keeps
returns-in_err-file-clause-keeps g c = stored_then c.loop-inode.invariant.keeps c.reopen.ensures.keeps

pub returns-in_err-put-clause-keeps : goal.returns-in_err-put-clause-keeps
returns-in_err-put-clause-keeps g c = stored_then c.loop-inode.invariant.keeps c.reopen.ensures.keeps
