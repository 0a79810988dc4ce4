-- The replies of a run and the state after it.
use Rattle.std.proofs.Common.{◌≡◌, Bool, List, [], ◌∷◌, Option, Some, refl, sym, ap, ◌∙◌, subst, inl, inr}
use Rattle.rand_core.specs.Stream.{Stream}
use Rattle.blob_header.specs.Refusals.{Refusal}
use Rattle.blob_script.specs.declared.call.Call.{Call}
use Rattle.blob_script.specs.declared.reply.Reply.{Reply}
use Rattle.blob_script.specs.declared.reply.Reply.TheVariants as reply
use Rattle.blob_script.specs.Acts.{Act, act_of}
use Rattle.blob_script.specs.Told as told
use Rattle.blob_script.specs.Told.{Told, Tells, refused_by}
use Rattle.blob_lab_model.specs.After.{after_act}
use Rattle.blob_lab_model.specs.Runs.{LeadsTo}
use Rattle.blob_lab_model.specs.Scripted.{Left, scripted_stream}
use Rattle.blob_lab_model.specs.States.{State}
use Rattle.blob_tree.specs.Trees.{DecisionTree, IsLeaf}
use Rattle.blob_choices.specs.Decided.{Decides, HasU64Words, path_stream}
use Rattle.blob_choices.specs.Explored.{RepliesAre}
use Rattle.blob_choices.specs.Outcomes.{NoneOutOfMemory, Outcome, acts_of, outcome, refusal_in, run_outcome, with_stream}

-- a reply has the refusal of its specification
same_refusal : (r : Reply) (t : Told) → Tells r t → refusal_in t ≡ refused_by r
same_refusal reply.Done told.Done h = refl
same_refusal (reply.Opened a b c) (told.Opened x y z) h = refl
same_refusal (reply.Bytes a) (told.Bytes x) h = refl
same_refusal (reply.Size a) (told.Size x) h = refl
same_refusal (reply.Names a) (told.Names x) h = refl
same_refusal (reply.Started a) (told.Started x) h = refl
same_refusal (reply.Crashed a) (told.Crashed x) h = refl
same_refusal (reply.Failed e) (told.Failed refusal) h = ap (λ (r : Refusal). Some r) (sym h)
same_refusal reply.NoHandle told.NoHandle h = refl
same_refusal reply.EmptyRange told.EmptyRange h = refl
same_refusal r t h = absurd h

-- the outcome of calls doesn't depend on the stream in the state
pub any_stream : (acts : List Act) (v : State) (x s : Stream) → run_outcome (with_stream v x) acts s ≡ run_outcome v acts s
any_stream [] v x s = refl
any_stream (act ∷ acts) v x s =
    let a = outcome v act s in
    let next : State = a.0.1 (refusal_in a.0.0) v.stream in
    ap (λ (rest : (List Told × (Stream → State)) × Stream). ((a.0.0 ∷ rest.0.0, rest.0.1), rest.1)) (any_stream acts next x a.1)

-- the state after a run, except its stream
pub next_stream : (acts : List Act) (v : State) (s a b : Stream) → (run_outcome v acts s).0.1 a ≡ with_stream ((run_outcome v acts s).0.1 b) a
next_stream [] v s a b = refl
next_stream (act ∷ acts) v s a b =
    let o : Outcome × Stream = outcome v act s in
    next_stream acts (o.0.1 (refusal_in o.0.0) v.stream) o.1 a b

-- a run's replies and the state after it
pub record Ends (v w : State) (calls : List Call) (replies : List Reply) : Type 0 where
  pub replied : RepliesAre replies (run_outcome v (acts_of calls) v.stream).0.0
  pub state : w ≡ (run_outcome v (acts_of calls) v.stream).0.1 (run_outcome v (acts_of calls) v.stream).1

pub sound : (calls : List Call) (replies : List Reply) (v w : State) → NoneOutOfMemory replies → LeadsTo v calls replies w → Ends v w calls replies
sound [] [] v w there same = record { replied = tt; state = sym same }
sound [] (r ∷ replies) v w there run = absurd run
sound (c ∷ calls) [] v w there run = absurd run
sound (c ∷ calls) (r ∷ replies) v w there (left, inl m, run) = absurd (there.0 m.1)
sound (c ∷ calls) (r ∷ replies) v w there (left, inr a, run) =
    let act : Act = act_of c in
    let o : Outcome × Stream = outcome v act v.stream in
    let e = sound calls replies (after_act v act (refused_by r) left) w there.1 run in
    let same : refusal_in o.0.0 ≡ refused_by r = same_refusal r o.0.0 a.0 in
    let E : Option Refusal → Stream → Type 0 = λ refusal s. Ends (o.0.1 refusal s) w calls replies in
    let e' : Ends (o.0.1 (refusal_in o.0.0) o.1) w calls replies = subst (λ (refusal : Option Refusal). E refusal o.1) (sym same) (subst (E (refused_by r)) a.1 e) in
    let next : State = o.0.1 (refusal_in o.0.0) v.stream in
    let R : (List Told × (Stream → State)) × Stream → Type 0 = λ rest. RepliesAre replies rest.0.0 × (w ≡ rest.0.1 rest.1) in
    let r' = subst R (any_stream (acts_of calls) next o.1 o.1) (e'.replied, e'.state) in
    record { replied = (a.0, r'.0); state = r'.1 }

pub complete : (calls : List Call) (replies : List Reply) (v : State) → RepliesAre replies (run_outcome v (acts_of calls) v.stream).0.0
    → LeadsTo v calls replies ((run_outcome v (acts_of calls) v.stream).0.1 (run_outcome v (acts_of calls) v.stream).1)
complete [] [] v tells = refl
complete [] (r ∷ replies) v tells = absurd tells
complete (c ∷ calls) [] v tells = absurd tells
complete (c ∷ calls) (r ∷ replies) v tells =
    let act : Act = act_of c in
    let o : Outcome × Stream = outcome v act v.stream in
    let next : State = o.0.1 (refusal_in o.0.0) v.stream in
    let R : (List Told × (Stream → State)) × Stream → Type 0 = λ rest. RepliesAre replies rest.0.0 → LeadsTo (with_stream next o.1) calls replies (rest.0.1 rest.1) in
    let go = subst R (any_stream (acts_of calls) next o.1 o.1) (complete calls replies (with_stream next o.1)) in
    let same : refusal_in o.0.0 ≡ refused_by r = same_refusal r o.0.0 tells.0 in
    let P : Option Refusal → Type 0 = λ refusal. LeadsTo (o.0.1 refusal o.1) calls replies ((run_outcome next (acts_of calls) o.1).0.1 (run_outcome next (acts_of calls) o.1).1) in
    (o.1, inr (tells.0, refl), subst P same (go tells.1))

-- each run is one of a leaf's words
pub leaf_of : (v w : State) (calls : List Call) (replies : List Reply) (t : DecisionTree) → Decides (run_outcome v (acts_of calls)) t → HasU64Words v.stream
    → NoneOutOfMemory replies → LeadsTo v calls replies w
    → (path : List Bool) × IsLeaf t path × ((tail : Left) → LeadsTo (with_stream v (path_stream path tail)) calls replies (with_stream w (scripted_stream tail)))
leaf_of v w calls replies t D words there run =
    let f : Stream → (List Told × (Stream → State)) × Stream = run_outcome v (acts_of calls) in
    let (p, leaf, e) = D.covers v.stream words in
    let ends = sound calls replies v w there run in (
      p,
      leaf,
      λ tail.
          let u : State = with_stream v (path_stream p tail) in
          let same : run_outcome u (acts_of calls) u.stream ≡ ((f v.stream).0, scripted_stream tail) =
          any_stream (acts_of calls) v (path_stream p tail) (path_stream p tail) ∙ D.takes p tail leaf ∙ ap (λ (x : List Told × (Stream → State)). (x, scripted_stream tail)) e in
          let T : (List Told × (Stream → State)) × Stream → Type 0 = λ o. RepliesAre replies o.0.0 in
          let L : State → Type 0 = λ s. LeadsTo u calls replies s in
          let done = complete calls replies u (subst T (sym same) ends.replied) in
          let to : (run_outcome u (acts_of calls) u.stream).0.1 (run_outcome u (acts_of calls) u.stream).1 ≡ with_stream w (scripted_stream tail) =
          ap (λ (o : (List Told × (Stream → State)) × Stream). o.0.1 o.1) same
          ∙ next_stream (acts_of calls) v v.stream (scripted_stream tail) (f v.stream).1 ∙ ap (λ (s : State). with_stream s (scripted_stream tail)) (sym ends.state) in
          subst L to done,
    )
