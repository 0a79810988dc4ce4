use Rattle.std.proofs.Common.{◌≡◌, ℕ, ◌-◌, List, [], ◌++◌, rules, length, take, drop, sym, ap, ◌∙◌, subst, append_assoc, append-nil, take-append-drop, drop_of_length-le}
use Rattle.std.proofs.lemmas.List.{take_rest}
use Rattle.std.specs.Io.KnownBytes.{Appends}
use Rattle.std.proofs.KnownBytes.{Appends-kept, Appends-nil, Appends-trans}
use Rattle.blob_lab.proofs.streams.Output.write_all.Goals as goal
use Rattle.blob_lab.proofs.streams.Output.write_all.Goals.{in-Ok, in-Err}

moves_front : (all done rest : List ℕ) (n : ℕ) → all ≡ done ++ rest → all ≡ (done ++ take n rest) ++ take (length rest - n) (drop n rest)
moves_front all done rest n e =
    e ∙ ap (λ l. done ++ l) (sym (take-append-drop n rest)) ∙ sym (append_assoc done (take n rest) (drop n rest)) ∙ ap (λ l. (done ++ take n rest) ++ l) (sym (take_rest rest n))

pub loop-init : goal.loop-init
loop-init g c = record { moved = ([], search rules, Appends-nil _); sound = search rules; held = search rules }

pub loop-preserved : goal.loop-preserved
loop-preserved g c =
    let (done, split, appended) = c.loop.invariant.moved in
    let rest = c.loop.rest.now in
    elim c.match-write.branch [
      | in-Ok w ↦
          let n = w.in-Ok.count in
          let left : c.match-write.rest.now ≡ take (length rest - n) (drop n rest) = ap (λ r. r.now) w.rest-is in
          record { moved = (done ++ take n rest, moves_front _ done rest n split ∙ ap (λ l. (done ++ take n rest) ++ l) (sym left), Appends-trans _ _ _ _ _ appended w.in-Ok.ensures.bytes); sound = search rules; held = search rules }
      | in-Err w ↦
          let left : c.match-write.rest.now ≡ rest = ap (λ r. r.now) w.rest-is in
          record { moved = (done, split ∙ ap (λ l. done ++ l) (sym left), Appends-kept _ _ _ _ appended w.in-Err.ensures.bytes); sound = search rules; held = search rules }
    ]

pub returns-then-is_empty-clause-written : goal.returns-then-is_empty-clause-written
returns-then-is_empty-clause-written g c =
    let (done, split, appended) = c.loop.invariant.moved in
    let rest = c.loop.rest.now in
    let empty : rest ≡ [] = drop_of_length-le rest {i = 0} (search rules) in
    subst (Appends _ _) (sym (split ∙ ap (λ l. done ++ l) empty ∙ append-nil done)) appended
