-- Runs of a laboratory, one call after another, and the states that they reach.
use Rattle.std.proofs.Common.{◌≡◌, ◌<◌, arith, false, List, [], ◌∷◌, ◌++◌, refl, sym, ap, subst}
use Rattle.std.proofs.lemmas.List.Elements.{All-nil, All-append}
use Rattle.rand_core.specs.Stream.{Stream}
use Rattle.blob_draws.specs.declared.config.Config.{Config}
use Rattle.blob_script.specs.declared.call.Call.{Call}
use Rattle.blob_script.specs.declared.reply.Reply.{Reply}
use Rattle.blob_script.specs.Acts.{act_of}
use Rattle.blob_lab_model.specs.After.{after_act}
use Rattle.blob_lab_model.specs.Answers.{Answers}
use Rattle.blob_lab_model.specs.Reached.{is_loose, NoneLoose, Reached, ReachedExclusively}
use Rattle.blob_lab_model.specs.Runs.{LeadsTo}
use Rattle.blob_lab_model.specs.Scripted.{Words}
use Rattle.blob_lab_model.specs.States.{State, Image, start}
use Rattle.blob_script.specs.Told.{refused_by}
use Rattle.blob_model.specs.Directory.{is_current}
use Rattle.blob_model.specs.Places.{Place}
use Rattle.blob_lab_model.proofs.Stale.{Ages, ages}

-- one more call at the end of a run
pub run_more : (w : State) (calls : List Call) (replies : List Reply) (v : State) (call : Call) (reply : Reply) (left : Stream) → LeadsTo v calls replies w → Answers w (act_of call) reply left
    → LeadsTo v (calls ++ call ∷ []) (replies ++ reply ∷ []) (after_act w (act_of call) (refused_by reply) left)
run_more w [] [] v call reply left same a =
    (left, subst (λ (s : State). Answers s (act_of call) reply left) (sym same) a, ap (λ (s : State). after_act s (act_of call) (refused_by reply) left) same)
run_more w [] (r ∷ replies) v call reply left run a = absurd run
run_more w (c ∷ calls) [] v call reply left run a = absurd run
run_more w (c ∷ calls) (r ∷ replies) v call reply left (first, b, run) a =
    (first, b, run_more w calls replies (after_act v (act_of c) (refused_by r) first) call reply left run a)

-- two runs in sequence
pub run_append : (calls : List Call) (replies : List Reply) (more : List Call) (rest : List Reply) (v w u : State) → LeadsTo v calls replies w → LeadsTo w more rest u → LeadsTo v (calls ++ more) (replies ++ rest) u
run_append [] [] more rest v w u same next = subst (λ (s : State). LeadsTo s more rest u) (sym same) next
run_append [] (r ∷ replies) more rest v w u run next = absurd run
run_append (c ∷ calls) [] more rest v w u run next = absurd run
run_append (c ∷ calls) (r ∷ replies) more rest v w u (left, answers, run) next =
    (left, answers, run_append calls replies more rest (after_act v (act_of c) (refused_by r) left) w u run next)

-- calls from a reached state lead to a reached state

pub reached_start : (images : List Image) (words : Words) (config : Config) → ReachedExclusively (start images words config)
reached_start images words config = (images, words, config, [], [], All-nil (λ c. is_loose (act_of c) ≡ false), refl)

pub reached_more : (v w : State) (calls : List Call) (replies : List Reply) → Reached v → LeadsTo v calls replies w → Reached w
reached_more v w calls replies (images, words, config, before, told, run) next =
    (images, words, config, before ++ calls, told ++ replies, run_append before told calls replies (start images words config) v w run next)

pub reached_strictly : (v w : State) (calls : List Call) (replies : List Reply) → ReachedExclusively v → NoneLoose calls → LeadsTo v calls replies w → ReachedExclusively w
reached_strictly v w calls replies (images, words, config, before, told, none, run) strict next =
    (images, words, config, before ++ calls, told ++ replies, All-append (λ c. is_loose (act_of c) ≡ false) before calls none strict, run_append before told calls replies (start images words config) v w run next)

-- a stale incarnation stays stale through a run
pub stale_ever : (calls : List Call) (replies : List Reply) (v w : State) (o : Place) → LeadsTo v calls replies w → o.number < v.files.directory.next → is_current v.files.directory o ≡ false → is_current w.files.directory o ≡ false
stale_ever [] [] v w o same below stale = subst (λ (s : State). is_current s.files.directory o ≡ false) same stale
stale_ever [] (r ∷ replies) v w o run below stale = absurd run
stale_ever (c ∷ calls) [] v w o run below stale = absurd run
stale_ever (c ∷ calls) (r ∷ replies) v w o (left, answers, run) below stale =
    let older : Ages v.files.directory (after_act v (act_of c) (refused_by r) left).files.directory = ages v (act_of c) (refused_by r) left in
    let next = older.next in
    stale_ever calls replies (after_act v (act_of c) (refused_by r) left) w o run (omega arith) (older.stale o below stale)
