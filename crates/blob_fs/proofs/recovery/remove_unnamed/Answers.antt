use Rattle.std.proofs.Common.{◌≡◌, false, is_some, ap, sym, rules, ◌∙◌}
use Rattle.std.proofs.lemmas.Bool.{false≢true}
use Rattle.std.specs.BTreeMap.{get}
use Rattle.std.specs.Ordering.{nat_cmp}
use Rattle.blob_fs.proofs.Fixing.{whole_beside}
use Rattle.blob_fs.proofs.States.{edits_twice}
use Rattle.blob_fs.proofs.recovery.remove_unnamed.Goals as goal

pub loop-inode-preserved-then-not-contains_key : goal.loop-inode-preserved-then-not-contains_key
loop-inode-preserved-then-not-contains_key g c =
    let no : c.contains_key.result ≡ false = search rules in
    record {
      keeps = edits_twice c.loop-inode.invariant.keeps c.remove_blob.ensures.keeps;
      gives = λ h. c.remove_blob.ensures.gives (c.loop-inode.invariant.gives h);
      kept = λ i f below at. c.blobs.ensures.twice c.args.store.now c.loop-inode.store c.remove_blob.new.store i (c.loop-inode.invariant.kept i f below at)
          (c.remove_blob.ensures.others i below
          (λ e. false≢true (sym no ∙ c.contains_key.ensures ∙ ap (λ k. is_some (get nat_cmp c.args.files.now k)) (sym e) ∙ ap is_some at)));
      opened = λ h i f below at. c.remove_blob.ensures.still.still i f.blob below
          (λ e. false≢true (sym no ∙ c.contains_key.ensures ∙ ap (λ k. is_some (get nat_cmp c.args.files.now k)) (sym e) ∙ ap is_some at))
          (c.loop-inode.invariant.opened h i f below at);
      whole = λ h w. whole_beside c.loop-inode.store c.remove_blob.new.store c.args.files.now _ (sym c.contains_key.ensures ∙ no) c.remove_blob.ensures.still (c.loop-inode.invariant.opened h)
          (c.loop-inode.invariant.whole h w);
    }
