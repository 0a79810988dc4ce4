use Rattle.std.proofs.Common.{rules, ◌≡◌, ◌∙◌, sym, ap, List, length, vec_len, subst, arith}
use Rattle.std.proofs.lemmas.Fn.{filter_same}
use Rattle.std.proofs.lemmas.List.{length-map}
use Rattle.std.specs.List.{All, filter}
use Rattle.std.proofs.lemmas.List.Elements.{All-filter}
use Rattle.blob_model.specs.Pending.{Pending}
use Rattle.blob_pending.specs.Rooms.{HasRoomFor}
use Rattle.blob_pending.specs.Views.{view, views, is_left}
use Rattle.blob_pending.specs.declared.entry.Entry.{Entry}
use Rattle.blob_pending.proofs.CutSteps.{views_filter}
use Rattle.blob_pending.proofs.Left.{left_again}
use Rattle.blob_pending.proofs.entries.compact.Goals as goal

-- once they went, something is left of each
same_left : (q r : List Entry) → r ≡ filter (λ e. is_left (view e)) q → filter is_left (views r) ≡ views r
same_left q r is = let to : views r ≡ filter is_left (views q) = ap views is ∙ views_filter is_left q in ap (λ (l : List Pending). filter is_left l) to ∙ left_again (views q) ∙ sym to

pub returns : goal.returns
returns c =
    let q = c.args.entries.now.items in
    let r = c.retain.new.self.items in
    let kept : r ≡ filter (λ e. is_left (view e)) q = filter_same _ (λ e. is_left (view e)) _ (λ x b f' h. search rules) _ _ c.retain.ensures.filtered in
    let len : length r ≡ vec_len c.retain.new.self = search rules in
    let all_left = ap length (same_left q r kept) in
    record {
      left = ap (λ (l : List Pending). filter is_left l) (ap views kept ∙ views_filter is_left q) ∙ left_again (views q);
      bounded = c.clear.ensures (views r);
      holes = λ later all. subst (λ (l : List Entry). All (HasRoomFor later) l) (sym kept) (All-filter (λ e. is_left (view e)) (HasRoomFor later) q all);
      capacity = search rules;
      len = search rules;
      dropped = λ k p l. absurd (omega arith);
      counted = omega (arith, all_left);
      half = omega (arith, len, all_left, length-map r view);
    }
