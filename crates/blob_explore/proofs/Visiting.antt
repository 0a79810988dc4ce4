-- One more leaf of an exploration.
use Rattle.std.proofs.Common.{◌≡◌, ℕ, zero, suc, Bool, true, false, not, if◌then◌else◌, List, [], ◌∷◌, length, Option, Some, None, refl, sym, ap, ◌∙◌}
use Rattle.std.proofs.lemmas.List.{length-map}
use Rattle.blob_script.specs.declared.reply.Reply.{Reply}
use Rattle.blob_tree.specs.Trees.{DecisionTree, Advances, depth, extend_path, left_after, if_more, left_from, outcome_word, words_of}
use Rattle.blob_choices.specs.Decided.{Decides}
use Rattle.blob_choices.specs.Explored.{RunsAlong}
use Rattle.blob_choices.specs.Outcomes.{acts_of, run_outcome}
use Rattle.blob_explore.specs.SharedCalls.{replies_of}
use Rattle.blob_explore.specs.Explorations.{TakesPath, VisitsNext, path_of, start_of}
use Rattle.blob_explore.specs.declared.exploration.Exploration.{Exploration}
use Rattle.blob_explore.specs.declared.exploration.Leaf.{Leaf}
use Rattle.blob_explore.specs.declared.script.Script.{Script}

length-extended : (n : ℕ) (path : List Bool) → length (extend_path n path) ≡ n
length-extended zero path = refl
length-extended (suc n) [] = ap suc (length-extended n [])
length-extended (suc n) (o ∷ path) = ap suc (length-extended n path)

-- the leaf of a path, and the leaves after it
pub record IsNext (script : Script) (path : List Bool) (words : List ℕ) (replies : List Reply) (next : Option (List Bool)) (t : DecisionTree) : Type 0 where
  pub here : List Bool
  pub first : left_from t path ≡ here ∷ left_after t next
  pub words_are : words ≡ words_of here
  pub runs : RunsAlong (start_of script) script.calls.items here replies

pub is_next : (script : Script) (path : List Bool) (words : List ℕ) (replies : List Reply) (taken : ℕ) (next : Option (List Bool)) → TakesPath script path words replies
    → taken ≡ length words → Advances path taken next → (t : DecisionTree) → Decides (run_outcome (start_of script) (acts_of script.calls.items)) t → IsNext script path words replies next t
is_next script path words replies taken next takes count advances t D =
    let here : List Bool = extend_path (depth t path) path in
    let (is, runs) = takes t D in
    let deep : depth t path ≡ taken = sym (count ∙ ap length is ∙ length-map here outcome_word ∙ length-extended (depth t path) path) in
    record {
      here = here;
      first = advances t deep ∙ ap (λ (n : ℕ). extend_path n path ∷ left_after t next) (sym deep);
      words_are = is;
      runs = runs;
    }

-- The same between two states of an exploration.
pub visits_next : (e e' : Exploration) (leaf : Leaf) (taken : ℕ) (next : Option (List Bool)) → path_of e ≡ Some e.explorer → path_of e' ≡ next
    → TakesPath e.script e.explorer leaf.words.items (replies_of e leaf) → taken ≡ length leaf.words.items → Advances e.explorer taken next → VisitsNext e leaf e'
visits_next e e' leaf taken next at at' takes count advances t D =
    let n : IsNext e.script e.explorer leaf.words.items (replies_of e leaf) next t = is_next e.script e.explorer leaf.words.items (replies_of e leaf) taken next takes count advances t D in
    record {
      path = n.here;
      first = ap (left_after t) at ∙ n.first ∙ ap (λ (o : Option (List Bool)). n.here ∷ left_after t o) (sym at');
      words = n.words_are;
      replies = n.runs;
    }

-- an exploration that has advanced to the next path, or is done
pub advanced : (more : Bool) (next : List Bool) → (if (not more) then None else Some next) ≡ if_more more next
advanced true next = refl
advanced false next = refl
