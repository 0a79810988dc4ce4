-- A run in pieces, written piece by piece.
use Rattle.std.proofs.Common.{◌≡◌, ⊎_elim, ℕ, ◌+◌, ◌-◌, ◌<◌, ◌≤◌, ◌∙◌, Bool, true, false, List, [], ◌∷◌, ◌++◌, length, take, drop, get_or, Vec, Global, ap, sym, arith, length-append, length-take, length-drop, append-nil}
use Rattle.std.proofs.lemmas.Bool.{cases_eq}
use Rattle.std.proofs.lemmas.Grind.{flat_map-append}
use Rattle.std.proofs.lemmas.List.{take_more, get_or-take, get_or-drop, take-append-drop}
use Rattle.std.specs.List.{flat_map, slice_range}
use Rattle.blob_model.specs.Bytes.{overlay, overlay_by, reach, write_live}
use Rattle.blob_model.specs.Runs.{is_chosen}
use Rattle.blob_model.proofs.Agrees.{overlay_same}
use Rattle.blob_model.proofs.Bytes.{reach_below, reach_all, above_chosen, length-overlay_by}
use Rattle.blob_overlay.proofs.Overlays.{overlay_more, grown_none}

-- all bytes of the pieces
abbrev pub flat : List (Vec ℕ Global) → List ℕ
flat ps = flat_map (λ p. p.items) ps

-- bytes that reach a run's offset reach its end after it is written
over_reaches : (x : List ℕ) (o : ℕ) (b : List ℕ) → o ≤ length x → o + length b ≤ length (overlay x o b)
over_reaches x o b from = ⊎_elim
    (λ none. omega (arith, none, from, length-overlay_by x o b (λ _. true)))
    (λ some. omega (arith, length-overlay_by x o b (λ _. true), reach_all o (length b) (omega (arith, some))))
    (cases_eq (length b) 0)

module _ (ps : List (Vec ℕ Global)) (i : ℕ) (v : Vec ℕ Global) (h : i < length ps) (is : v ≡ get_or ps i v) where
  flat_more : flat (take (i + 1) ps) ≡ flat (take i ps) ++ v.items
  flat_more = ap flat (take_more ps i v h ∙ ap (λ w. take i ps ++ (w ∷ [])) (sym is)) ∙ flat_map-append (λ p. p.items) (take i ps) (v ∷ []) ∙ ap (λ l. flat (take i ps) ++ l) (append-nil v.items)

  pub length-flat_more : length (flat (take (i + 1) ps)) ≡ length (flat (take i ps)) + length v.items
  length-flat_more = ap length flat_more ∙ length-append (flat (take i ps)) v.items

  pub flat_within : length (flat (take i ps)) + length v.items ≤ length (flat ps)
  flat_within = omega (arith, length-flat_more, sym (ap length (ap flat (take-append-drop (i + 1) ps))), ap length (flat_map-append (λ p. p.items) (take (i + 1) ps) (drop (i + 1) ps)), length-append (flat (take (i + 1) ps)) (flat (drop (i + 1) ps)))

  -- after one more piece
  pub laid_more : (x y z : List ℕ) (o at : ℕ) → at ≡ o + length (flat (take i ps)) → y ≡ overlay x o (flat (take i ps)) → z ≡ overlay y at v.items
      → z ≡ overlay x o (flat (take (i + 1) ps))
  laid_more x y z o at eat ey ez = ez ∙ ap (λ l. overlay l at v.items) ey ∙ ap (λ a. overlay (overlay x o (flat (take i ps))) a v.items) eat
      ∙ overlay_more x o (flat (take i ps)) v.items (λ _. true)
      ∙ ap (overlay x o) (sym flat_more)

  -- the same, if the first bytes reach the run's offset
  pub live_more : (x y z : List ℕ) (o at : ℕ) → o ≤ length x → at ≡ o + length (flat (take i ps)) → y ≡ overlay x o (flat (take i ps)) → z ≡ write_live y at v.items
      → z ≡ overlay x o (flat (take (i + 1) ps))
  live_more x y z o at from eat ey ez = laid_more x y z o at eat ey
      (ez ∙ ap (λ l. overlay l at v.items) (sym (grown_none y at (omega (arith, eat, ap length ey, over_reaches x o (flat (take i ps)) from)))))

  -- which bytes of the piece are selected
  part : (keep : List Bool) (done end : ℕ) → done ≡ length (flat (take i ps)) → end ≡ done + length v.items → (j : ℕ) → j < length v.items
      → is_chosen (slice_range keep done end) j ≡ is_chosen keep (length (flat (take i ps)) + j)
  part keep done end ed ee j l = get_or-take (end - done) (drop done keep) j false (omega arith) ∙ get_or-drop done keep j false ∙ ap (λ q. get_or keep q false) (omega arith)

  -- the piece has one choice for each byte
  pub length-part : (keep : List Bool) (done end : ℕ) → length keep ≡ length (flat ps) → done ≡ length (flat (take i ps)) → end ≡ done + length v.items
      → length (slice_range keep done end) ≡ length v.items
  length-part keep done end all ed ee = omega (arith, all, ed, ee, flat_within, length-take (end - done) (drop done keep), length-drop done keep)

  -- the last selected byte of the piece is at most the last of the run
  pub chosen_below : (o done end : ℕ) (keep : List Bool) → done ≡ length (flat (take i ps)) → end ≡ done + length v.items
      → reach (o + done) (length v.items) (is_chosen (slice_range keep done end)) ≤ reach o (length (flat ps)) (is_chosen keep)
  chosen_below o done end keep ed ee = reach_below (o + done) (length v.items) (is_chosen (slice_range keep done end)) (reach o (length (flat ps)) (is_chosen keep))
      (λ j l e. omega (arith, ed, above_chosen o (length (flat ps)) (is_chosen keep) (length (flat (take i ps)) + j) (omega (arith, flat_within, l)) (sym (part keep done end ed ee j l) ∙ e)))

  -- after the selected bytes of one more piece
  pub chosen_more : (x y z : List ℕ) (o done end : ℕ) (keep : List Bool) → done ≡ length (flat (take i ps)) → end ≡ done + length v.items
      → y ≡ overlay_by x o (flat (take i ps)) (is_chosen keep) → z ≡ overlay_by y (o + done) v.items (is_chosen (slice_range keep done end)) → z ≡ overlay_by x o (flat (take (i + 1) ps)) (is_chosen keep)
  chosen_more x y z o done end keep ed ee ey ez = ez
      ∙ overlay_same y (o + done) v.items (is_chosen (slice_range keep done end)) (λ j. is_chosen keep (length (flat (take i ps)) + j)) (part keep done end ed ee)
      ∙ ap (λ l. overlay_by l (o + done) v.items (λ j. is_chosen keep (length (flat (take i ps)) + j))) ey
      ∙ ap (λ d. overlay_by (overlay_by x o (flat (take i ps)) (is_chosen keep)) (o + d) v.items (λ j. is_chosen keep (length (flat (take i ps)) + j))) ed
      ∙ overlay_more x o (flat (take i ps)) v.items (is_chosen keep)
      ∙ ap (λ l. overlay_by x o l (is_chosen keep)) (sym flat_more)
