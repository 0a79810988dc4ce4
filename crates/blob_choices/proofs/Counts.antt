-- The number of words that are left gives the number that were taken.
use Rattle.std.proofs.Common.{◌≡◌, ◌≢◌, ◌<◌, ◌≤◌, ℕ, zero, suc, ◌+◌, ◌-◌, ◌^◌, Bool, true, false, List, [], ◌∷◌, ◌++◌, length, get_or, take, drop, replicate, None, refl, sym, ap, ◌∙◌, subst, arith, ⊎_elim, append_assoc, append-nil}
use Rattle.std.proofs.lemmas.Bool.{cases_lt}
use Rattle.std.proofs.lemmas.List.{map-append, length-map, length-append, length-drop, length-replicate, drop-append-le, drop_all, take_all, take-append-drop}
use Rattle.std.proofs.Math.ListN.{get_or-eq_default}
use Rattle.std.proofs.Math.Seq.{get_or-append_seam}
use Rattle.rand_core.specs.Stream.{Stream}
use Rattle.rand_core.specs.Steps.{stream_of}
use Rattle.blob_script.specs.declared.call.Call.{Call}
use Rattle.blob_script.specs.declared.reply.Reply.{Reply}
use Rattle.blob_script.specs.Told.{Told}
use Rattle.blob_tree.specs.WordsLeft.{EndsAfter, word_at}
use Rattle.blob_lab_model.specs.Runs.{LeadsTo}
use Rattle.blob_lab_model.specs.Scripted.{Left, scripted_stream}
use Rattle.blob_lab_model.specs.States.{State}
use Rattle.blob_tree.specs.Trees.{DecisionTree, Leaf, Choice, IsLeaf, depth, extend_path, outcome_word, words_of}
use Rattle.blob_tree.proofs.Visits.{extended-resized}
use Rattle.blob_choices.specs.Decided.{Decides, path_stream, zeros}
use Rattle.blob_choices.specs.Explored.{RunsAlong, RepliesAre, sentinel_words}
use Rattle.blob_choices.specs.Outcomes.{NoneOutOfMemory, acts_of, run_outcome, with_stream}
use Rattle.blob_choices.proofs.Runs.{any_stream, complete, next_stream, sound}
use Rattle.blob_choices.proofs.ZeroTails.{zero_tails}

-- Words.

words_at : (words : List ℕ) (i : ℕ) → word_at (scripted_stream (words, None)) i ≡ get_or words i 0
unfolding stream_of
words_at [] zero = refl
words_at (w ∷ ws) zero = refl
words_at [] (suc i) = words_at [] i
words_at (w ∷ ws) (suc i) = words_at ws i

-- words that end in one that isn't zero
ends_at : (words : List ℕ) (w left : ℕ) → w ≢ 0 → EndsAfter (scripted_stream (words ++ w ∷ [], None)) left → left ≡ length words + 1
ends_at words w left some e =
    let all : List ℕ = words ++ w ∷ [] in
    let len : length all ≡ length words + 1 = length-append words (w ∷ []) in
    let last : word_at (scripted_stream (all, None)) (length words) ≡ w = words_at all (length words) ∙ get_or-append_seam words w [] 0 in
    ⊎_elim
    (λ (short : left < length words + 1). absurd (some (sym last ∙ e.zeros (length words) (omega (arith, short)))))
    (λ (long : length words + 1 ≤ left). ⊎_elim
    (λ (more : length words + 1 < left).
    let at : left ≡ (left - 1) + 1 = omega (arith, more) in
    absurd (e.last (left - 1) at (words_at all (left - 1) ∙ get_or-eq_default all 0 (omega (arith, more, len)))))
    (λ (same : left ≤ length words + 1). omega (arith, long, same))
    (cases_lt (length words + 1) left))
    (cases_lt left (length words + 1))

-- no word is left
none_left : (left : ℕ) → EndsAfter (scripted_stream ([], None)) left → 0 < left → ⊥
none_left left e some =
    let at : left ≡ (left - 1) + 1 = omega (arith, some) in
    e.last (left - 1) at (words_at [] (left - 1))

-- Paths.

leaf_extended : (t : DecisionTree) (p : List Bool) → IsLeaf t (extend_path (depth t p) p)
leaf_extended Leaf p = tt
leaf_extended (Choice if_true if_false) [] = leaf_extended if_true []
leaf_extended (Choice if_true if_false) (true ∷ p) = leaf_extended if_true p
leaf_extended (Choice if_true if_false) (false ∷ p) = leaf_extended if_false p

words_true : (n : ℕ) → words_of (replicate n true) ≡ replicate n 0
words_true zero = refl
words_true (suc n) = ap (λ (ws : List ℕ). 0 ∷ ws) (words_true n)

-- the path of such given words
abbrev padded : List Bool → ℕ → List Bool
padded path spare = path ++ replicate spare true

given_words : (path : List Bool) (spare : ℕ) → words_of (padded path spare ++ false ∷ []) ≡ sentinel_words path spare
given_words path spare =
    ap words_of (append_assoc path (replicate spare true) (false ∷ []))
    ∙ map-append outcome_word path (replicate spare true ++ false ∷ [])
    ∙ ap (λ (ws : List ℕ). words_of path ++ ws) (map-append outcome_word (replicate spare true) (false ∷ []) ∙ ap (λ (ws : List ℕ). ws ++ (2 ^ 64 - 1) ∷ []) (words_true spare))

length-padded : (path : List Bool) (spare : ℕ) → length (padded path spare) ≡ length path + spare
length-padded path spare = length-append path (replicate spare true) ∙ ap (λ (n : ℕ). length path + n) (length-replicate {A = Bool} spare true)

-- true outcomes after a path change nothing
depth_padded : (t : DecisionTree) (path : List Bool) (spare : ℕ) → depth t (path ++ (replicate spare true ++ false ∷ [])) ≤ length path + spare → depth t path ≡ depth t (path ++ (replicate spare true ++ false ∷ []))
depth_padded Leaf path spare h = refl
depth_padded (Choice if_true if_false) [] zero h = absurd (omega arith)
depth_padded (Choice if_true if_false) [] (suc spare) h = ap suc (depth_padded if_true [] spare (omega arith))
depth_padded (Choice if_true if_false) (true ∷ path) spare h = ap suc (depth_padded if_true path spare (omega arith))
depth_padded (Choice if_true if_false) (false ∷ path) spare h = ap suc (depth_padded if_false path spare (omega arith))

-- nor do they change its first outcomes
extended_padded : (d : ℕ) (path : List Bool) (spare : ℕ) → d ≤ length path + spare → extend_path d (path ++ (replicate spare true ++ false ∷ [])) ≡ extend_path d path
extended_padded zero [] spare h = refl
extended_padded zero (o ∷ path) spare h = refl
extended_padded (suc d) [] zero h = absurd (omega arith)
extended_padded (suc d) [] (suc spare) h = ap (λ (p : List Bool). true ∷ p) (extended_padded d [] spare (omega arith))
extended_padded (suc d) (o ∷ path) spare h = ap (λ (p : List Bool). o ∷ p) (extended_padded d path spare (omega arith))

-- the words of a path in two parts, with zeros between them if the second is empty
joined : (d : ℕ) (p : List Bool) → scripted_stream ((words_of (take d p) ++ replicate (d - length p) 0) ++ words_of (drop d p), None) ≡ scripted_stream (words_of p, None)
joined d p = ⊎_elim
    (λ (past : length p < d).
    let end : drop d p ≡ [] = drop_all d p (omega (arith, past)) in
    let all : take d p ≡ p = take_all d p (omega (arith, past)) in
    ap (λ (q : List Bool). scripted_stream ((words_of (take d p) ++ replicate (d - length p) 0) ++ words_of q, None)) end
    ∙ ap (λ (ws : List ℕ). scripted_stream (ws, None)) (append-nil (words_of (take d p) ++ replicate (d - length p) 0))
    ∙ ap (λ (q : List Bool). scripted_stream (words_of q ++ replicate (d - length p) 0, None)) all
    ∙ zero_tails (d - length p) (words_of p))
    (λ (within : d ≤ length p).
    let none : d - length p ≡ 0 = omega (arith, within) in
    ap (λ (n : ℕ). scripted_stream ((words_of (take d p) ++ replicate n 0) ++ words_of (drop d p), None)) none
    ∙ ap (λ (ws : List ℕ). scripted_stream (ws ++ words_of (drop d p), None)) (append-nil (words_of (take d p)))
    ∙ ap (λ (ws : List ℕ). scripted_stream (ws, None)) (sym (map-append outcome_word (take d p) (drop d p)))
    ∙ ap (λ (q : List Bool). scripted_stream (words_of q, None)) (take-append-drop d p))
    (cases_lt (length p) d)

-- Runs.

module _ (v w : State) (calls : List Call) (replies : List Reply) (t : DecisionTree) (D : Decides (run_outcome v (acts_of calls)) t) (there : NoneOutOfMemory replies) where
  abbrev f : Stream → (List Told × (Stream → State)) × Stream
  f = run_outcome v (acts_of calls)

  -- the rest of the stream
  rest_is : (s : Stream) → LeadsTo (with_stream v s) calls replies w → w.stream ≡ (f s).1
  rest_is s run =
      let ends = sound calls replies (with_stream v s) w there run in
      ap (λ (u : State). u.stream) ends.state
      ∙ ap (λ (o : (List Told × (Stream → State)) × Stream). (o.0.1 o.1).stream) (any_stream (acts_of calls) v s s)
      ∙ ap (λ (u : State). u.stream) (next_stream (acts_of calls) v s (f s).1 (f s).1)

  -- the run of a path's words: its result and the rest of the words
  whole_of : (p : List Bool) → f (scripted_stream (words_of p, None)) ≡ ((f (path_stream (extend_path (depth t p) p) zeros)).0, scripted_stream (words_of (drop (depth t p) p), None))
  whole_of p =
      let d : ℕ = depth t p in
      let tail : Left = (words_of (drop d p), None) in
      let whole : extend_path d p ≡ take d p ++ replicate (d - length p) true = sym (extended-resized d p) in
      let ws : words_of (extend_path d p) ≡ words_of (take d p) ++ replicate (d - length p) 0 =
      ap words_of whole ∙ map-append outcome_word (take d p) (replicate (d - length p) true) ∙ ap (λ (xs : List ℕ). words_of (take d p) ++ xs) (words_true (d - length p)) in
      let same : path_stream (extend_path d p) tail ≡ scripted_stream (words_of p, None) = ap (λ (xs : List ℕ). scripted_stream (xs ++ words_of (drop d p), None)) ws ∙ joined d p in
      ap f (sym same) ∙ D.takes (extend_path d p) tail (leaf_extended t p)

  rest_of : (p : List Bool) → (f (scripted_stream (words_of p, None))).1 ≡ scripted_stream (words_of (drop (depth t p) p), None)
  rest_of p = ap (λ (o : (List Told × (Stream → State)) × Stream). o.1) (whole_of p)

  -- a run of these words is one along the path to their leaf
  runs_along : (p : List Bool) → LeadsTo (with_stream v (scripted_stream (words_of p, None))) calls replies w → RunsAlong v calls (extend_path (depth t p) p) replies
  runs_along p run =
      let q : List Bool = extend_path (depth t p) p in
      let x : List Told × (Stream → State) = (f (path_stream q zeros)).0 in
      let s : Stream = scripted_stream (words_of p, None) in
      let ends = sound calls replies (with_stream v s) w there run in
      let T : (List Told × (Stream → State)) × Stream → Type 0 = λ o. RepliesAre replies o.0.0 in
      let replied : RepliesAre replies x.0 = subst T (any_stream (acts_of calls) v s s ∙ whole_of p) ends.replied in (
        x.1 v.stream,
        λ tail.
            let u : State = with_stream v (path_stream q tail) in
            let same : run_outcome u (acts_of calls) u.stream ≡ (x, scripted_stream tail) = any_stream (acts_of calls) v (path_stream q tail) (path_stream q tail) ∙ D.takes q tail (leaf_extended t p) in
            let L : State → Type 0 = λ b. LeadsTo u calls replies b in
            let to : (run_outcome u (acts_of calls) u.stream).0.1 (run_outcome u (acts_of calls) u.stream).1 ≡ with_stream (x.1 v.stream) (scripted_stream tail) =
            ap (λ (o : (List Told × (Stream → State)) × Stream). o.0.1 o.1) same ∙ next_stream (acts_of calls) v (path_stream q zeros) (scripted_stream tail) v.stream in
            subst L to (complete calls replies u (subst T (sym same) replied)),
      )

  pub left_counts : (path : List Bool) (spare left : ℕ) → LeadsTo (with_stream v (scripted_stream (sentinel_words path spare, None))) calls replies w → EndsAfter w.stream left → 0 < left
      → (depth t path + left ≡ length path + spare + 1) × (depth t path ≤ length path + spare) × RunsAlong v calls (extend_path (depth t path) path) replies
  left_counts path spare left run e some =
      let q : List Bool = padded path spare in
      let p : List Bool = q ++ false ∷ [] in
      let d : ℕ = depth t p in
      let len : length q ≡ length path + spare = length-padded path spare in
      let rest : w.stream ≡ scripted_stream (words_of (drop d p), None) =
      rest_is (scripted_stream (sentinel_words path spare, None)) run ∙ ap (λ (ws : List ℕ). (f (scripted_stream (ws, None))).1) (sym (given_words path spare)) ∙ rest_of p in
      let E : Stream → Type 0 = λ s. EndsAfter s left in
      let ends : EndsAfter (scripted_stream (words_of (drop d p), None)) left = subst E rest e in
      let size : length p ≡ length q + 1 = length-append q (false ∷ []) in
      ⊎_elim
      (λ (past : length q < d).
      let end : drop d p ≡ [] = drop_all d p (omega (arith, past, size)) in
      let F : List Bool → Type 0 = λ r. EndsAfter (scripted_stream (words_of r, None)) left in
      absurd (none_left left (subst F end ends) some))
      (λ (within : d ≤ length q).
      let end : drop d p ≡ drop d q ++ false ∷ [] = drop-append-le d q (false ∷ []) within in
      let ws : words_of (drop d p) ≡ words_of (drop d q) ++ (2 ^ 64 - 1) ∷ [] = ap words_of end ∙ map-append outcome_word (drop d q) (false ∷ []) in
      let F : List ℕ → Type 0 = λ xs. EndsAfter (scripted_stream (xs, None)) left in
      let count : left ≡ length (words_of (drop d q)) + 1 = ends_at (words_of (drop d q)) (2 ^ 64 - 1) left (λ z. omega arith) (subst F ws ends) in
      let fewer : length (words_of (drop d q)) ≡ length q - d = length-map (drop d q) outcome_word ∙ length-drop d q in
      let parts : p ≡ path ++ (replicate spare true ++ false ∷ []) = append_assoc path (replicate spare true) (false ∷ []) in
      let deep : depth t (path ++ (replicate spare true ++ false ∷ [])) ≡ d = ap (depth t) (sym parts) in
      let same : depth t path ≡ d = depth_padded t path spare (omega (arith, deep, within, len)) ∙ deep in
      let most : depth t path ≤ length path + spare = omega (arith, same, within, len) in
      let L : List ℕ → Type 0 = λ xs. LeadsTo (with_stream v (scripted_stream (xs, None))) calls replies w in
      let R : List Bool → Type 0 = λ q. RunsAlong v calls q replies in
      let to : extend_path d p ≡ extend_path (depth t path) path =
      ap (λ (n : ℕ). extend_path n p) (sym same) ∙ ap (extend_path (depth t path)) parts ∙ extended_padded (depth t path) path spare most in
      (omega (arith, count, fewer, within, same, len), most, subst R to (runs_along p (subst L (sym (given_words path spare)) run))))
      (cases_lt (length q) d)
