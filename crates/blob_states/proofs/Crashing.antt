-- One crash: the tree that decides its draws, and what it leaves along a path.
use Rattle.std.proofs.Common.{◌≡◌, ◌≢◌, ◌<◌, ℕ, ◌+◌, ◌-◌, Bool, List, [], ◌∷◌, length, Option, Some, None, refl, sym, ap, ◌∙◌, subst, arith, append-nil, inl, inr}
use Rattle.rand_core.specs.Stream.{Stream}
use Rattle.blob_header.specs.Refusals.{Memory, Refusal}
use Rattle.blob_model.specs.Draws.{Row, chosen_by}
use Rattle.blob_model.specs.Files.{after_crash}
use Rattle.blob_script.specs.declared.call.Call.{Call}
use Rattle.blob_script.specs.declared.call.Call.TheVariants.{Crash}
use Rattle.blob_script.specs.declared.reply.Reply.{Reply}
use Rattle.blob_script.specs.declared.reply.Reply.TheVariants as reply
use Rattle.blob_script.specs.Acts as acts
use Rattle.blob_script.specs.Told as told
use Rattle.blob_script.specs.Told.{Told, Tells, refused_by}
use Rattle.blob_tree.specs.Trees.{DecisionTree, depth, extend_path, words_of}
use Rattle.blob_lab_model.specs.After.{after_act}
use Rattle.blob_lab_model.specs.Runs.{LeadsTo}
use Rattle.blob_lab_model.specs.Scripted.{scripted_stream}
use Rattle.blob_lab_model.specs.States.{State}
use Rattle.blob_choices.specs.Decided.{Decides, path_stream, zeros}
use Rattle.blob_choices.specs.Explored.{LeftCountsTaken, sentinel_words}
use Rattle.blob_choices.specs.Outcomes.{acts_of, run_outcome, with_stream}
use Rattle.blob_states.specs.Crashed.{crash_draws, crashed, durable_file, image_lines, lines_left}
use Rattle.blob_states.specs.CrashStates.{Leaves, only_words}
use Rattle.blob_states.specs.Recorded.{Name}

abbrev a_crash : List Call
a_crash = Crash ∷ []

-- the outcome of a crash by its rows
abbrev by_rows : State → List Row → List Told × (Stream → State)
by_rows v rows = (told.Crashed rows ∷ [], with_stream (record v { files = after_crash v.files (chosen_by rows) }))

-- a tree that decides the draws of a crash decides the run that is this crash alone
decided : (v : State) (t : DecisionTree) → Decides (crash_draws v) t → Decides (run_outcome v (acts_of a_crash)) t
decided v t D = record {
  takes = λ path tail leaf. ap (λ (d : List Row × Stream). (by_rows v d.0, d.1)) (D.takes path tail leaf);
  covers = λ s words. let (path, leaf, same) = D.covers s words in (path, leaf, ap (by_rows v) same);
  words = D.words;
}

not_refused : (r : Reply) (rows : List Row) → Tells r (told.Crashed rows) → refused_by r ≡ None
not_refused (reply.Crashed selections) rows h = refl
not_refused r rows h = absurd h

same_rows : (r : Reply) (a b : List Row) → Tells r (told.Crashed a) → Tells r (told.Crashed b) → a ≡ b
same_rows (reply.Crashed selections) a b h k = sym h ∙ k
same_rows r a b h k = absurd h

-- a crash that wasn't refused memory
pub record Crashes (v : State) (r : Reply) (w : State) : Type 0 where
  pub told : Tells r (told.Crashed (crash_draws v v.stream).0)
  pub files : w.files ≡ crashed v v.stream

pub crashes : (v w : State) (r : Reply) → refused_by r ≢ Some Memory → LeadsTo v a_crash (r ∷ []) w → Crashes v r w
crashes v w r there (left, inl m, same) = absurd (there m.1)
crashes v w r there (left, inr (tells, is), same) =
    let none : refused_by r ≡ None = not_refused r (crash_draws v v.stream).0 tells in
    record { told = tells; files = sym (ap (λ (u : State). u.files) same) ∙ ap (λ (refusal : Option Refusal). (after_act v acts.Crash refusal left).files) none }

-- equal rows leave the same lines
pub same_lines : (v : State) (names : List Name) (a b : Stream) → (crash_draws v a).0 ≡ (crash_draws v b).0 → lines_left v names a ≡ lines_left v names b
same_lines v names a b same = ap (λ (rows : List Row). image_lines (durable_file (after_crash v.files (chosen_by rows))) names) same

pub along : (v : State) (names : List Name) (path : List Bool) → lines_left v names (path_stream path zeros) ≡ lines_left v names (only_words (words_of path))
along v names path = ap (λ (ws : List ℕ). lines_left v names (scripted_stream (ws, None))) (append-nil (words_of path))

-- the path of a crash, and its lines
abbrev pub Took : State → List Name → List Bool → List ℕ → List ℕ → Type 0
Took v names path words lines = (t : DecisionTree) → Decides (crash_draws v) t
    → (words ≡ words_of (extend_path (depth t path) path)) × (lines ≡ lines_left v names (only_words (words_of (extend_path (depth t path) path))))

-- the words that a crash took of those that were given
pub takes : LeftCountsTaken → (v : State) (names : List Name) (path : List Bool) (spare left taken : ℕ) (lines given words : List ℕ) (found : Option ℕ)
    → given ≡ sentinel_words path spare → length given ≡ length path + spare + 1 → Leaves v names given lines found → found ≡ Some left → 0 < left
    → taken ≡ length given - left → words ≡ words_of (extend_path taken path) → Took v names path words lines
takes law v names path spare left taken lines given words found is long leaves_it f some k w t D =
    let L : List ℕ → Type 0 = λ ws. Leaves v names ws lines found in
    let O : Option ℕ → Type 0 = λ o. Leaves v names (sentinel_words path spare) lines o in
    let leaves : Leaves v names (sentinel_words path spare) lines (Some left) = subst O f (subst L is leaves_it) in
    let drawn : Stream = only_words (sentinel_words path spare) in
    let here : List Bool = extend_path (depth t path) path in
    let (count, most, (end, go)) = law v leaves.after a_crash (leaves.reply ∷ []) t path spare left (decided v t D) (leaves.memory, tt) leaves.leads leaves.ends some in
    let real = crashes (with_stream v drawn) leaves.after leaves.reply leaves.memory leaves.leads in
    let along_it = crashes (with_stream v (path_stream here zeros)) _ leaves.reply leaves.memory (go zeros) in
    let same : lines_left v names drawn ≡ lines_left v names (path_stream here zeros) =
    same_lines v names drawn (path_stream here zeros) (same_rows leaves.reply _ _ real.told along_it.told) in (
      w ∙ ap (λ (n : ℕ). words_of (extend_path n path)) (omega (arith, count, long, k, some)),
      leaves.lines_are ∙ same ∙ along v names here,
    )
