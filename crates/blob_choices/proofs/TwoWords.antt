-- Runs are decided by the least and the greatest word.
use Rattle.std.proofs.Common.{ℕ, ◌≡◌, ◌++◌, List, [], ◌∷◌, Bool, Option, Some, None, refl, sym, ap, ◌∙◌, subst, inl, inr}
use Rattle.rand_core.specs.Stream.{Stream}
use Rattle.blob_header.specs.Refusals.{Refusal, BlobAlreadyOpen}
use Rattle.blob_script.specs.declared.call.Call.{Call}
use Rattle.blob_script.specs.declared.reply.Reply.{Reply}
use Rattle.blob_script.specs.Acts.{Act, Ask, Configure, Open, OpenLoose, Admit, Close, Through, Finish, Remove, Scan, Crash, Reopen, act_of}
use Rattle.blob_script.specs.Told.{Tells, refused_by}
use Rattle.blob_lab_model.specs.After.{after_act, after_ask}
use Rattle.blob_lab_model.specs.Answers.{answer, kept_at}
use Rattle.blob_lab_model.specs.Runs.{LeadsTo}
use Rattle.blob_lab_model.specs.Scripted.{Left, scripted_stream}
use Rattle.blob_lab_model.specs.States.{State, Held}
use Rattle.blob_tree.specs.Trees.{DecisionTree, IsLeaf, words_of}
use Rattle.blob_choices.specs.Decided.{HasU64Words, Decides, IsDecided, path_stream, zeros}
use Rattle.blob_choices.specs.Outcomes.{HasNoPartialResize, SetsNoPartialResize, SetNoPartialResize, NoneOutOfMemory, Outcome, acts_of, outcome, refusal_in, run_outcome, with_stream}
use Rattle.blob_choices.proofs.Calls.{decided_call}
use Rattle.blob_choices.proofs.Deciding.{decided_none, decided_then, decided_map, stream_parts}

-- The configuration.

asked_config : (v : State) (number : ℕ) (slot : Option Held) (ask : Ask) (refusal : Option Refusal) → (after_ask v number slot ask refusal).config ≡ v.config
asked_config v number None ask refusal = refl
asked_config v number (Some h) ask refusal = refl

-- a call leaves one that draws no size, too
still_none : (v : State) (act : Act) (refusal : Option Refusal) (left : Stream) → HasNoPartialResize v.config → SetsNoPartialResize act → HasNoPartialResize (after_act v act refusal left).config
still_none v (Configure config) refusal left none set = set
still_none v (Open p n None) refusal left none set = none
still_none v (Open p n (Some versions)) None left none set = none
still_none v (Open p n (Some versions)) (Some (BlobAlreadyOpen q m)) left none set = none
still_none v (Open p n (Some versions)) (Some refusal) left none set = none
still_none v (OpenLoose p n None) refusal left none set = none
still_none v (OpenLoose p n (Some versions)) None left none set = none
still_none v (OpenLoose p n (Some versions)) (Some refusal) left none set = none
still_none v (Admit p n) refusal left none set = none
still_none v (Close number) refusal left none set = none
still_none v (Through number ask) refusal left none set = subst HasNoPartialResize (sym (asked_config v number (kept_at v.handles number) ask refusal)) none
still_none v (Finish number) refusal left none set = none
still_none v (Remove p n) None left none set = none
still_none v (Remove p n) (Some refusal) left none set = none
still_none v (Scan p) refusal left none set = none
still_none v Crash None left none set = none
still_none v Crash (Some refusal) left none set = none
still_none v Reopen refusal left none set = none

-- The replies of runs and the states after them.

pub decided_run : (acts : List Act) (v : State) → HasNoPartialResize v.config → SetNoPartialResize acts → IsDecided (run_outcome v acts)
decided_run [] v none set = decided_none ([], with_stream v)
decided_run (act ∷ acts) v none set =
    decided_then (outcome v act)
    (λ x r. let rest = run_outcome (x.1 (refusal_in x.0) v.stream) acts r in ((x.0 ∷ rest.0.0, rest.0.1), rest.1))
    (decided_call v act none)
    (λ s.
    let x : Outcome = (outcome v act s).0 in
    let next : State = x.1 (refusal_in x.0) v.stream in
    decided_map (run_outcome next acts) (λ y. (x.0 ∷ y.0, y.1)) (decided_run acts next (still_none (with_stream v s) act (refusal_in x.0) v.stream none set.0) set.1))

-- Two words suffice.

-- this run of calls, along some path
abbrev Along : State → List Call → List Reply → State → Type 0
Along v calls replies w = (path : List Bool) × ((tail : Left) → LeadsTo (with_stream v (path_stream path tail)) calls replies (with_stream w (scripted_stream tail)))

-- one more call before the others
module _ (v w : State) (call : Call) (reply : Reply) (calls : List Call) (replies : List Reply) (t : DecisionTree) (D : Decides (outcome v (act_of call)) t) (p q : List Bool) (leaf : IsLeaf t p) where
  abbrev act : Act
  act = act_of call

  module _ (e : (outcome v act (path_stream p zeros)).0 ≡ (outcome v act v.stream).0) (tells : Tells reply (answer v act).0) (left : Stream)
      (rest : (tail : Left) → LeadsTo (with_stream (after_act v act (refused_by reply) left) (path_stream q tail)) calls replies (with_stream w (scripted_stream tail))) where
    along : (tail : Left) → LeadsTo (with_stream v (path_stream (p ++ q) tail)) (call ∷ calls) (reply ∷ replies) (with_stream w (scripted_stream tail))
    along tail =
        let c : Left = (words_of q ++ tail.0, tail.1) in
        let same : outcome v act (path_stream p c) ≡ ((outcome v act v.stream).0, scripted_stream c) = D.takes p c leaf ∙ ap (λ (x : Outcome). (x, scripted_stream c)) e in
        let T : Outcome × Stream → Type 0 = λ o. Tells reply o.0.0 in
        let N : Outcome × Stream → Type 0 = λ o. LeadsTo (o.0.1 (refused_by reply) (scripted_stream c)) calls replies (with_stream w (scripted_stream tail)) in
        let P : Stream → Type 0 = λ s. LeadsTo (with_stream v s) (call ∷ calls) (reply ∷ replies) (with_stream w (scripted_stream tail)) in
        subst P (sym (stream_parts p q tail))
        (scripted_stream c, inr (subst T (sym same) tells, sym (ap (λ (o : Outcome × Stream). o.1) same)), subst N (sym same) (rest tail))

pub two_words : (calls : List Call) (replies : List Reply) (v w : State) → HasU64Words v.stream → HasNoPartialResize v.config → SetNoPartialResize (acts_of calls)
    → NoneOutOfMemory replies → LeadsTo v calls replies w → Along v calls replies w
two_words [] [] v w words none set there same = ([], λ tail. ap (λ (u : State). with_stream u (scripted_stream tail)) same)
two_words [] (r ∷ replies) v w words none set there run = absurd run
two_words (c ∷ calls) [] v w words none set there run = absurd run
two_words (c ∷ calls) (r ∷ replies) v w words none set there (left, inl m, run) = absurd (there.0 m.1)
two_words (c ∷ calls) (r ∷ replies) v w words none set there (left, inr a, run) =
    let act : Act = act_of c in
    let (t, D) = decided_call v act none in
    let (p, leaf, e) = D.covers v.stream words in
    let later : HasU64Words left = subst HasU64Words (sym a.1) (D.words v.stream words) in
    let (q, rest) = two_words calls replies (after_act v act (refused_by r) left) w later (still_none v act (refused_by r) left none set.0) set.1 there.1 run in
    (p ++ q, along v w c r calls replies t D p q leaf e a.0 left rest)
