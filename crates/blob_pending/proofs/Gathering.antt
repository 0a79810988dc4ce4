-- What a crash draws for, from the lists as the code has them.
use Rattle.std.proofs.Common.{◌≡◌, ℕ, ◌+◌, ◌<◌, List, [], ◌∷◌, ◌++◌, length, get_or, drop, true, false, append_assoc, refl, sym, ◌∙◌, ap}
use Rattle.std.proofs.lemmas.Bool.{cond-true, cond-false}
use Rattle.std.proofs.lemmas.List.{at_drop_more, map-append}
use Rattle.blob_model.specs.Log.{Need}
use Rattle.blob_model.specs.Order.{waiting_of_all}
use Rattle.blob_model.specs.Holes.{need_in}
use Rattle.blob_model.specs.Pending.{Pending, Waiting, has_marker, waiting}
use Rattle.blob_model.specs.Places.{Place}
use Rattle.blob_draws.specs.declared.draw.Draw.{Draw}
use Rattle.blob_draws.specs.Drawings.{Drawing, drawing_of, drawing_in, drawings_of, drawings_in}
use Rattle.blob_pending.specs.Lists.{lists_of, held_by}
use Rattle.blob_pending.specs.Ranges.{ranges}
use Rattle.blob_pending.specs.Views.{view, write_of, is_left, left_in}
use Rattle.blob_pending.specs.declared.write.PendingWrite.{PendingWrite}
use Rattle.blob_pending.specs.declared.entry.Entry.{Entry}
use Rattle.blob_pending.specs.declared.entry.Entry.TheVariants as entry
use Rattle.blob_pending.specs.declared.incarnation.Incarnation.{Incarnation}

drawings_append : (xs ys : List Need) → drawings_of (xs ++ ys) ≡ drawings_of xs ++ drawings_of ys
drawings_append [] ys = refl
drawings_append (x ∷ xs) ys = ap (λ (l : List Drawing). drawing_of x ∷ l) (drawings_append xs ys)

-- one list further
pub lists_more : {O : Type 0} (place : O → Place) (is : List (Incarnation O)) (i : ℕ) (x : Incarnation O) → i < length is → x ≡ get_or is i x →
    drawings_of (waiting_of_all (lists_of place (drop i is))) ≡ drawings_of (waiting (held_by place x).1) ++ drawings_of (waiting_of_all (lists_of place (drop (i + 1) is)))
lists_more {O} place is i x h e =
    at_drop_more (λ (l : List (Incarnation O)). drawings_of (waiting_of_all (lists_of place l))) is i x h
    ∙ ap (λ (y : Incarnation O). drawings_of (waiting_of_all (lists_of place (y ∷ drop (i + 1) is)))) (sym e)
    ∙ drawings_append (waiting (held_by place x).1) (waiting_of_all (lists_of place (drop (i + 1) is)))

-- one draw more, of the write that comes next
pub drawn_more : (ds es : List Draw) (d : Draw) (q : List Entry) (i : ℕ) (w : PendingWrite) → i < length q → get_or q i (entry.Write w) ≡ entry.Write w → is_left (view (entry.Write w)) ≡ true → has_marker (left_in (drop (i + 1) q)) ≡ false →
    es ≡ ds ++ d ∷ [] → drawing_in d ≡ drawing_of (need_in (write_of w) (ranges w.holes.items)) → drawings_in es ++ drawings_of (waiting (left_in (drop (i + 1) q))) ≡ drawings_in ds ++ drawings_of (waiting (left_in (drop i q)))
drawn_more ds es d q i w inside at left none is same =
    let m : Need = need_in (write_of w) (ranges w.holes.items) in
    let rest : List Pending = left_in (drop (i + 1) q) in
    let later : List Drawing = drawings_of (waiting rest) in
    let next : waiting (left_in (drop i q)) ≡ m ∷ waiting rest = at_drop_more (λ (l : List Entry). waiting (left_in l)) q i (entry.Write w) inside
    ∙ ap (λ (e : Entry). waiting (left_in (e ∷ drop (i + 1) q))) at
    ∙ ap waiting (cond-true (is_left (view (entry.Write w))) (Waiting m ∷ rest) rest left)
    ∙ cond-false (has_marker rest) (waiting rest) (m ∷ waiting rest) none in
    ap (λ (l : List Draw). drawings_in l ++ later) is
    ∙ ap (λ (l : List Drawing). l ++ later) (map-append drawing_in ds (d ∷ []))
    ∙ append_assoc (drawings_in ds) (drawing_in d ∷ []) later
    ∙ ap (λ (x : Drawing). drawings_in ds ++ x ∷ later) same
    ∙ ap (λ (ns : List Need). drawings_in ds ++ drawings_of ns) (sym next)
