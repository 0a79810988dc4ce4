-- The run, call by call, and a crash of it.
use Rattle.std.proofs.Common.{◌≡◌, ◌≢◌, ◌<◌, ◌+◌, ℕ, zero, suc, arith, List, [], ◌∷◌, ◌++◌, Option, Some, None, get_or, length, drop, take, refl, sym, ap, ◌∙◌, subst}
use Rattle.std.specs.Prelude.{IfSome}
use Rattle.std.proofs.lemmas.List.{take_more}
use Rattle.rand_core.specs.Stream.{Stream}
use Rattle.blob_faulty.specs.Wrapper.{inner_of}
use Rattle.blob_memory.specs.Store.{raw_blob}
use Rattle.blob_script.specs.Acts.{Act, act_of}
use Rattle.blob_script.specs.Preambles.{words_of}
use Rattle.blob_script.specs.Settings.{no_rates}
use Rattle.std.proofs.lemmas.Option.{IfSome_then}
use Rattle.blob_header.specs.Refusals.{Memory}
use Rattle.blob_model.specs.Files.{Files}
use Rattle.blob_script.specs.declared.call.Call.{Call}
use Rattle.blob_script.specs.declared.reply.Reply.{Reply}
use Rattle.blob_script.specs.Told.{refused_by}
use Rattle.blob_tree.specs.WordsLeft.{EndsAfter}
use Rattle.blob_lab_model.specs.States.{State, start}
use Rattle.blob_lab_store.specs.LabRuns.{CrashesTo, RunsTo}
use Rattle.blob_lab_store.specs.LabStands.{LabStandsFor, Wrapper, stream_of}
use Rattle.blob_lab_store.specs.declared.lab.Lab.{Lab}
use Rattle.blob_choices.specs.Outcomes.{NoneOutOfMemory, acts_of, outcome, refusal_in, run_outcome, with_stream}
use Rattle.blob_choices.proofs.Runs.{sound}
use Rattle.blob_states.specs.Crashed.{durable_file, image_lines}
use Rattle.blob_states.specs.CrashStates.{Leaves, only_words}
use Rattle.blob_states.specs.Recorded.{Name, after_acts, first_acts, first_images, state_after}
use Rattle.blob_states.specs.declared.recorded.Recorded.{Recorded}
use Rattle.blob_states.proofs.Crashing.{crashes}
use Rattle.blob_states.proofs.Durable.{lines_are}
use Rattle.blob_states.proofs.NamesSoFar.{acts_more}

-- the state after calls that none was refused memory
pub ran : (lab lab' : Lab) (v : State) (calls : List Call) (replies : List Reply) → LabStandsFor lab v → RunsTo lab calls replies lab' → NoneOutOfMemory replies
    → LabStandsFor lab' (after_acts v (acts_of calls))
ran lab lab' v calls replies stands runs there =
    let (w, leads, after) = runs v stands in
    subst (LabStandsFor lab') (sound calls replies v w there leads).state after

-- the state after calls that draw from a stream
abbrev from : State → List Act → Stream → State
from v acts s = let r = run_outcome v acts s in r.0.1 r.1

-- the state after one more call is that of the call from the state before it
from_more : (acts : List Act) (act : Act) (v : State) (s : Stream) → from v (acts ++ act ∷ []) s ≡ after_acts (from v acts s) (act ∷ [])
from_more [] act v s = refl
from_more (a ∷ acts) act v s = let o = outcome v a s in from_more acts act (o.0.1 (refusal_in o.0.0) v.stream) o.1

pub after_more : (v : State) (acts : List Act) (act : Act) → after_acts v (acts ++ act ∷ []) ≡ after_acts (after_acts v acts) (act ∷ [])
after_more v acts act = from_more acts act v v.stream

-- the calls up to an index, and the one there
acts_up_to : (calls : List Call) (i : ℕ) (x : Call) → i < length calls → x ≡ get_or calls i x → acts_of (take (i + 1) calls) ≡ acts_of (take i calls) ++ act_of x ∷ []
acts_up_to calls i x below is = ap acts_of (take_more calls i x below ∙ ap (λ y. take i calls ++ y ∷ []) (sym is)) ∙ acts_more (take i calls) x

-- the call at an index
pub one_there : (calls : List Call) (i : ℕ) → i < length calls → (x : Call) × (take 1 (drop i calls) ≡ x ∷ []) × (x ≡ get_or calls i x)
one_there [] i below = absurd (omega arith)
one_there (x ∷ calls) zero below = (x, refl, refl)
one_there (x ∷ calls) (suc i) below = one_there calls i (omega arith)

-- one more call of a run
pub ran_one : (lab lab' : Lab) (run : Recorded) (i : ℕ) (x : Call) (replies : List Reply) → i < length run.calls.items → x ≡ get_or run.calls.items i x
    → RunsTo lab (x ∷ []) replies lab' → NoneOutOfMemory replies → LabStandsFor lab (state_after run i) → LabStandsFor lab' (state_after run (i + 1))
ran_one lab lab' run i x replies below is runs there stands =
    let v : State = start (first_images run) (words_of run.preamble) no_rates in
    let more : state_after run (i + 1) ≡ after_acts (state_after run i) (act_of x ∷ []) =
    ap (after_acts v) (acts_up_to run.calls.items i x below is) ∙ after_more v (first_acts run i) (act_of x) in
    subst (LabStandsFor lab') (sym more) (ran lab lab' (state_after run i) (x ∷ []) replies stands runs there)

-- a crash by these words, of which a copy of the store has what it leaves
pub leaves_by : (v : State) (names : List Name) (words lines : List ℕ) (left : Wrapper) (count : Option ℕ) → CrashesTo v words left
    → lines ≡ image_lines (raw_blob (inner_of left)) names → IfSome count (EndsAfter (stream_of left)) → Leaves v names words lines count
leaves_by v names words lines left count crash printed ends =
    let there : refused_by crash.reply ≢ Some Memory = λ refused. none_is_some (sym crash.done ∙ refused) in
    let files = (crashes (with_stream v (only_words words)) crash.after crash.reply there crash.leads).files in
    record {
      reply = crash.reply;
      after = crash.after;
      memory = there;
      leads = crash.leads;
      lines_are = printed ∙ lines_are left crash.after crash.wraps names ∙ ap (λ (f : Files). image_lines (durable_file f) names) files;
      ends = IfSome_then count ends (λ n e. subst (λ (s : Stream). EndsAfter s n) crash.wraps.stream e);
    }
  where
    none_is_some : None ≡ Some Memory → ⊥
    none_is_some e = cc
