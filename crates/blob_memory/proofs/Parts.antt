-- Parts one after another.
use Rattle.std.proofs.Common.{◌≡◌, ◌∙◌, ℕ, ◌+◌, List, ◌++◌, take, drop, sym, ap}
use Rattle.std.proofs.Math.Seq.{take-add}
use Rattle.std.proofs.lemmas.List.{drop-drop}

pub part_behind : (b v : List ℕ) (at d k : ℕ) → v ≡ take k (drop (at + d) b) → take d (drop at b) ++ v ≡ take (d + k) (drop at b)
part_behind b v at d k e = ap (λ l. take d (drop at b) ++ l) (e ∙ ap (take k) (sym (drop-drop d at b))) ∙ sym (take-add d k (drop at b))
