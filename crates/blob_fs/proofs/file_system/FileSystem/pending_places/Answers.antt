use Rattle.std.proofs.Common.{◌≡◌, ◌∙◌, ℕ, List, Option, is_some, inl, inr, ⊎_elim, sym, ap, subst, arith, rules}
use Rattle.std.specs.BTreeMap.{get}
use Rattle.std.specs.Ordering.{nat_cmp}
use Rattle.std.proofs.lemmas.List.{at_drop_all}
use Rattle.blob_model.specs.Log.{Need}
use Rattle.blob_model.specs.Order.{In, waiting_of_all}
use Rattle.blob_model.specs.Pending.{Pending, waiting}
use Rattle.blob_model.specs.Places.{Place as Origin}
use Rattle.blob_pending.specs.Lists.{list_of, lists_of}
use Rattle.blob_pending.specs.Views.{left_in}
use Rattle.blob_pending.specs.declared.entry.Entry.{Entry}
use Rattle.blob_pending.specs.declared.incarnation.Incarnation.{Incarnation}
use Rattle.blob_faulty.specs.Keeps.{OverMemory}
use Rattle.blob_journal.specs.Currents.{pending_at}
use Rattle.blob_journal.specs.Journals.{store_of}
use Rattle.blob_fs.specs.Files.{journaled_of}
use Rattle.blob_fs.specs.Places.{IsInodeOf}
use Rattle.blob_fs.proofs.CrashWrites.{held_in_all}
use Rattle.blob_fs.proofs.PlaceMaps.{noted_each, noted_still}
use Rattle.blob_fs.proofs.PendingLists.{list_here, next_list}
use Rattle.blob_fs.proofs.WritePlaces.{noted_place}
use Rattle.blob_fs.proofs.file_system.FileSystem.pending_places.Goals as goal

pub loop-list-preserved : goal.loop-list-preserved
loop-list-preserved g c =
    let fs = c.args.self.now in
    let store = store_of (journaled_of fs) in
    let is = c.pending-list-items.result.now in
    let x = c.list-item.result in
    let i = c.loop-list.list-index in
    let inode = c.copied-inode.result in
    let ws = waiting (left_in c.deref.result.now) in
    let lists : pending_at store x.origin ≡ list_of (λ o. o) is x.origin =
    ap (λ (s : OverMemory g.row.R.Denot). pending_at s x.origin) (sym c.store.ensures) ∙ ap (λ (f : Origin → List Pending). f x.origin) (sym c.pending-list-items.ensures.lists) in
    let own : waiting (pending_at store x.origin) ≡ ws =
    ap waiting (lists ∙ list_here is i x c.pending-list-items.ensures.apart (omega arith) c.list-item.is)
    ∙ ap (λ (q : List Entry). waiting (left_in q)) (sym c.deref.ensures.value) in
    let at : get nat_cmp c.in_ok-inodes.inodes x.origin.number ≡ inode = search rules in
    let of : IsInodeOf fs x.origin.number inode = subst (λ (o : Option ℕ). IsInodeOf fs x.origin.number o) at (c.in_ok-inodes.ensures x.origin.number) in
    record {
      found = λ number place at. noted_place fs x.origin inode ws number (get nat_cmp c.loop-list.places number) place own of
          (λ early. c.loop-list.invariant.found number place early) (sym (c.in_ok-note_places.ensures number) ∙ at);
      each = λ w there. ⊎_elim
          (λ done. inl (ap is_some (c.in_ok-note_places.ensures w.write.number) ∙ noted_still inode ws w.write.number (get nat_cmp c.loop-list.places w.write.number) done))
          (λ left. ⊎_elim
          (λ here. inl (ap is_some (c.in_ok-note_places.ensures w.write.number)
          ∙ noted_each inode ws w (get nat_cmp c.loop-list.places w.write.number) (subst (λ (q : List Entry). In w (waiting (left_in q))) (sym c.deref.ensures.value) here)))
          (λ later. inr later)
          (next_list is i x w (omega arith) c.list-item.is left))
          (c.loop-list.invariant.each w there);
    }

pub returns : goal.returns
returns g c =
    let fs = c.args.self.now in
    let is = c.pending-list-items.result.now in
    let lists : (o : Origin) → pending_at (store_of (journaled_of fs)) o ≡ list_of (λ o. o) is o = λ o.
    ap (λ (s : OverMemory g.row.R.Denot). pending_at s o) (sym c.store.ensures) ∙ ap (λ (f : Origin → List Pending). f o) (sym c.pending-list-items.ensures.lists) in
    record {
      found = c.loop-list.invariant.found;
      each = λ origin w there. ⊎_elim
          (λ done. done)
          (λ left. absurd (subst (λ (ws : List Need). In w ws)
          (at_drop_all (λ (l : List (Incarnation Origin)). waiting_of_all (lists_of (λ o. o) l)) is c.loop-list.list-index (omega arith)) left))
          (c.loop-list.invariant.each w (held_in_all (lists_of (λ o. o) is) origin w (subst (λ (q : List Pending). In w (waiting q)) (lists origin) there)));
    }
