-- One run over given words.
use Rattle.std.proofs.Common.{◌≡◌, ◌<◌, ℕ, ◌+◌, ◌-◌, Bool, List, [], ◌∷◌, ◌++◌, length, take, Option, Some, sym, ap, ◌∙◌, subst, arith}
use Rattle.blob_script.specs.declared.reply.Reply.{Reply}
use Rattle.blob_tree.specs.Trees.{extend_path, words_of}
use Rattle.blob_choices.specs.Explored.{LeftCountsTaken, sentinel_words}
use Rattle.blob_choices.specs.Outcomes.{NoneOutOfMemory}
use Rattle.blob_explore.specs.Explorations.{Ran, TakesPath, start_of}
use Rattle.blob_explore.specs.declared.script.Script.{Script}

pub none_both : (replies more : List Reply) → NoneOutOfMemory replies → NoneOutOfMemory more → NoneOutOfMemory (replies ++ more)
none_both [] more all rest = rest
none_both (x ∷ replies) more all rest = (all.0, none_both replies more all.1 rest)

-- the words that a run took of those that were given
pub takes : LeftCountsTaken → (script : Script) (path : List Bool) (spare left taken : ℕ) (replies : List Reply) (given words : List ℕ) (found : Option ℕ)
    → given ≡ sentinel_words path spare → length given ≡ length path + spare + 1 → Ran script.images.items script.calls.items given replies found → found ≡ Some left
    → NoneOutOfMemory replies → 0 < left → taken ≡ length given - left → words ≡ words_of (extend_path taken path) → TakesPath script path words replies
takes law script path spare left taken replies given words found is long ran f there some k w t D =
    let R : List ℕ → Type 0 = λ ws. Ran script.images.items script.calls.items ws replies found in
    let O : Option ℕ → Type 0 = λ o. Ran script.images.items script.calls.items (sentinel_words path spare) replies o in
    let (end, run, ends) = subst O f (subst R is ran) in
    let (count, most, runs) = law (start_of script) end script.calls.items replies t path spare left D there run ends some in
    (w ∙ ap (λ (n : ℕ). words_of (extend_path n path)) (omega (arith, count, long, k, some)), runs)
