use Rattle.std.proofs.Common.{◌≡◌, ◌<◌, ◌≤◌, ◌+◌, ◌∙◌, ℕ, refl, ap, sym, subst, is_some, true, List, ◌∷◌, drop, length, get_or, arith}
use Rattle.std.proofs.lemmas.List.{at_drop_all}
use Rattle.std.proofs.lemmas.List.Elements.{All-get_or}
use Rattle.std.specs.Option.{option_copied_mut}
use Rattle.blob_model.specs.Directory.{Directory, is_current}
use Rattle.blob_model.specs.Draws.{chosen_by}
use Rattle.blob_model.specs.Durable.{Durable, with_changed}
use Rattle.blob_model.specs.Log.{Choices}
use Rattle.blob_model.specs.Order.{ListAt, held_at, ArePlacesApart}
use Rattle.blob_model.specs.Pending.{Pending, has_marker, replay, end_of, ends}
use Rattle.blob_model.specs.Places.{Place}
use Rattle.blob_model.specs.Stands.{replayed_at}
use Rattle.blob_memory.specs.Contents.{bytes_of}
use Rattle.blob_memory.specs.Store.{directory, durable}
use Rattle.blob_pending.specs.Lists.{lists_of, held_by}
use Rattle.blob_pending.specs.Contents.{HasZeros}
use Rattle.blob_pending.specs.Replays.{most_zeros, most_zeros_of_all, unmarked, width, widest, widest_of_all, zeros_for}
use Rattle.blob_pending.specs.Views.{view, is_left, left_in}
use Rattle.blob_pending.specs.declared.entry.Entry.{Entry}
use Rattle.blob_draws.specs.Rows.{rows_in}
use Rattle.blob_faulty.specs.Ready.{IsReady}
use Rattle.blob_pending.proofs.Unmarked.{unmarked_none, unmarked_replays}
use Rattle.blob_faulty.proofs.Replaying.{changed_ended, held_more, if_some, most_in, most_of_all, replay_first}
use Rattle.blob_faulty.proofs.replay.replay_all.Goals as goal

pub loop-entry-init : goal.loop-entry-init
loop-entry-init c = record {
  unmarked = ap has_marker c.unmarked-entry-items.ensures ∙ unmarked_none (left_in c.deref.result.now);
  bytes = refl;
  room = omega arith;
  capacity = omega (arith, c.loop-list.invariant.capacity);
}

pub replay_entry-requires-clause-room : goal.replay_entry-requires-clause-room
replay_entry-requires-clause-room c =
    let x = c.list-item.result in
    let there : c.loop-list.list-index < length c.args.lists.now = omega arith in
    let k = c.loop-list.invariant.kept in
    let now : is_current (directory c.loop-list.inner) x.origin ≡ true = sym c.durable_mut.ensures.current ∙ ap is_some c.in-Some.is in
    let all = All-get_or (λ y. IsReady c.args.inner.now (held_by (λ (o : Place). o) y)) c.args.lists.now c.loop-list.list-index x there c.requires.ready in
    let ready : IsReady c.args.inner.now (held_by (λ (o : Place). o) x) = subst (λ y. IsReady c.args.inner.now (held_by (λ (o : Place). o) y)) (sym c.list-item.is) all in
    let first = ready (ap (λ (d : Directory). is_current d x.origin) (sym k.directory) ∙ now) in
    let q = c.unmarked-entry-items.result.now in
    let i = c.loop-entry.entry-index in
    let e = c.entry-item.result in
    let h : i < length q = omega arith in
    let left : is_left (view (get_or q i e)) ≡ true = ap (λ (y : Entry). is_left (view y)) (sym c.entry-item.is) ∙ sym c.is_left.ensures ∙ c.if-is_left.true in
    let far = most_in end_of ends (λ e r. refl) q i e h left in
    let same_far = ap (λ (y : Entry). end_of (view y)) c.entry-item.is in
    let wide = most_in width widest (λ e r. refl) q i e h left in
    let same_wide = ap (λ (y : Entry). width (view y)) c.entry-item.is in
    let small : end_of (view e) ≤ ends (left_in q) = omega (arith, far, same_far) in
    let narrow : width (view e) ≤ widest (left_in q) = omega (arith, wide, same_wide) in
    let same : left_in q ≡ unmarked (left_in x.entries.items) = c.unmarked-entry-items.ensures ∙ ap (λ (q : List Entry). unmarked (left_in q)) c.deref.ensures.value in
    let within : widest (left_in q) ≡ widest (unmarked (left_in x.entries.items)) = ap widest same in
    let room : ends (unmarked (left_in x.entries.items)) ≤ c.in-Some.bytes.now.capacity = if_some _ _ _ c.in-Some.is (c.durable_mut.ensures.room _ (k.room x.origin _ first.1)) in
    let end = ap ends same in
    record {
      counted = omega (arith, small, end, first.0);
      room = omega (arith, small, end, room, c.loop-entry.invariant.room);
      width = omega (arith, narrow, within, most_of_all (λ (o : Place). o) widest widest_of_all (λ h hs. refl) c.args.lists.now c.loop-list.list-index x there c.list-item.is, c.requires.width, c.loop-entry.invariant.capacity);
    }

pub replay_entry-requires-clause-zeros : goal.replay_entry-requires-clause-zeros
replay_entry-requires-clause-zeros c =
    let x = c.list-item.result in
    let q = c.unmarked-entry-items.result.now in
    let i = c.loop-entry.entry-index in
    let e = c.entry-item.result in
    let left : is_left (view (get_or q i e)) ≡ true = ap (λ (y : Entry). is_left (view y)) (sym c.entry-item.is) ∙ sym c.is_left.ensures ∙ c.if-is_left.true in
    let most : zeros_for (view (get_or q i e)) ≤ most_zeros (left_in q) = most_in zeros_for most_zeros (λ e r. refl) q i e (omega arith) left in
    let same_entry = ap (λ (y : Entry). zeros_for (view y)) c.entry-item.is in
    let same : left_in q ≡ unmarked (left_in x.entries.items) = c.unmarked-entry-items.ensures ∙ ap (λ (q : List Entry). unmarked (left_in q)) c.deref.ensures.value in
    let of_list : most_zeros (unmarked (left_in x.entries.items)) ≤ most_zeros_of_all (lists_of (λ (o : Place). o) c.args.lists.now) =
    most_of_all (λ (o : Place). o) most_zeros most_zeros_of_all (λ h hs. refl) c.args.lists.now c.loop-list.list-index x (omega arith) c.list-item.is in
    subst (λ (z : List ℕ). HasZeros (zeros_for (view e)) z) (sym c.as_slice-zeros.ensures.value) (record {
      zeros = c.requires.zeros.zeros;
      enough = omega (arith, most, same_entry, ap most_zeros same, of_list, c.requires.zeros.enough);
    })

pub loop-list-preserved-in_default : goal.loop-list-preserved-in_default
loop-list-preserved-in_default c =
    let i = c.loop-list.list-index in
    let is = c.args.lists.now in
    let x = c.list-item.result in
    let h : i < length is = omega arith in
    let t : Choices = chosen_by (rows_in c.args.rows.now) in
    let rest : List ListAt = lists_of (λ (o : Place). o) (drop (i + 1) is) in
    let here : lists_of (λ (o : Place). o) (drop i is) ≡ held_by (λ (o : Place). o) x ∷ rest = held_more is i x h c.list-item.is in
    let none = c.durable_mut.follows.holds-at-none in
    let listed : (o : Place) → durable c.durable_mut.follows.lender-at-none o ≡ with_changed (durable c.loop-list.inner) x.origin (replay (left_in x.entries.items) t) o =
    λ o. ap (λ (f : Durable). f o) none.durable ∙ changed_ended (durable c.loop-list.inner) x.origin _ o (ap is_some (sym c.durable_mut.ensures.value) ∙ ap (λ r. is_some (bytes_of (option_copied_mut r))) c.in_default.is) in
    let kept = none.kept in
    record {
      apart = λ a. (subst (λ (hs : List ListAt). ArePlacesApart hs) here (c.loop-list.invariant.apart a)).1;
      durable = λ a o. replay_first t (held_by (λ (p : Place). p) x) rest (durable c.loop-list.inner) (durable c.durable_mut.follows.lender-at-none) o (subst (λ (hs : List ListAt). ArePlacesApart hs) here (c.loop-list.invariant.apart a)).0 (listed o)
          ∙ ap (λ (hs : List ListAt). replayed_at t (held_at hs o) (durable c.loop-list.inner o)) (sym here) ∙ c.loop-list.invariant.durable a o;
      kept = record {
        directory = kept.directory ∙ c.loop-list.invariant.kept.directory;
        room = λ o n f. kept.room o n (c.loop-list.invariant.kept.room o n f);
      };
      capacity = c.loop-list.invariant.capacity;
    }

pub loop-list-preserved : goal.loop-list-preserved
loop-list-preserved c =
    let i = c.loop-list.list-index in
    let is = c.args.lists.now in
    let x = c.list-item.result in
    let h : i < length is = omega arith in
    let t : Choices = chosen_by (rows_in c.args.rows.now) in
    let rest : List ListAt = lists_of (λ (o : Place). o) (drop (i + 1) is) in
    let here : lists_of (λ (o : Place). o) (drop i is) ≡ held_by (λ (o : Place). o) x ∷ rest = held_more is i x h c.list-item.is in
    let q = c.unmarked-entry-items.result.now in
    let same : left_in q ≡ unmarked (left_in x.entries.items) = c.unmarked-entry-items.ensures ∙ ap (λ (q : List Entry). unmarked (left_in q)) c.deref.ensures.value in
    let replayed : c.loop-entry.bytes.items ≡ replay (left_in q) t c.in-Some.bytes.now.items =
    sym (at_drop_all (λ (l : List Entry). replay (left_in l) t c.loop-entry.bytes.items) q c.loop-entry.entry-index (omega arith)) ∙ c.loop-entry.invariant.bytes in
    let retakes = if_some _ _ _ c.in-Some.is (c.durable_mut.follows.holds c.loop-entry.bytes) in
    let listed : (o : Place) → durable (c.durable_mut.follows.lender c.loop-entry.bytes) o ≡ with_changed (durable c.loop-list.inner) x.origin (replay (left_in x.entries.items) t) o =
    λ o. ap (λ (f : Durable). f o) (retakes.durable (λ (y : List ℕ). replay (left_in x.entries.items) t y)
    (replayed ∙ ap (λ (q : List Pending). replay q t c.in-Some.bytes.now.items) same ∙ unmarked_replays (left_in x.entries.items) t c.in-Some.bytes.now.items)) in
    let kept = retakes.kept c.loop-entry.invariant.room in
    record {
      apart = λ a. (subst (λ (hs : List ListAt). ArePlacesApart hs) here (c.loop-list.invariant.apart a)).1;
      durable = λ a o. replay_first t (held_by (λ (p : Place). p) x) rest (durable c.loop-list.inner) (durable (c.durable_mut.follows.lender c.loop-entry.bytes)) o (subst (λ (hs : List ListAt). ArePlacesApart hs) here (c.loop-list.invariant.apart a)).0 (listed o)
          ∙ ap (λ (hs : List ListAt). replayed_at t (held_at hs o) (durable c.loop-list.inner o)) (sym here) ∙ c.loop-list.invariant.durable a o;
      kept = record {
        directory = kept.directory ∙ c.loop-list.invariant.kept.directory;
        room = λ o n f. kept.room o n (c.loop-list.invariant.kept.room o n f);
      };
      capacity = c.loop-entry.invariant.capacity;
    }
