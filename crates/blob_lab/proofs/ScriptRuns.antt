-- A script's calls, one after another: which have replies, and what is printed.
use Rattle.std.proofs.Common.{◌≡◌, ◌≢◌, ◌⊎◌, inl, inr, ℕ, ◌+◌, List, [], ◌∷◌, ◌++◌, Option, Some, None, IfSome, refl, sym, ap, ◌∙◌, subst, append_assoc, arith}
use Rattle.std.proofs.KnownBytes.{Appends-kept, Appends-nil, Appends-trans}
use Rattle.std.proofs.lemmas.List.{append-nil, flat_map_more, map-append}
use Rattle.std.proofs.Math.ListN.{length-append}
use Rattle.std.specs.Io.Iter.{u64_saturate}
use Rattle.std.specs.Io.KnownBytes.{Appends, Keeps}
use Rattle.blob_draws.specs.declared.config.Config.{Config}
use Rattle.blob_script.specs.declared.call.Call.{Call}
use Rattle.blob_lab.specs.declared.ending.Ending.{Ending}
use Rattle.blob_lab.specs.declared.ending.Ending.TheVariants.{Done, InputFailed, OutputFailed, BadCall, BadImage, Usage, NoMemory}
use Rattle.blob_lab_store.specs.declared.lab.Lab.{Lab}
use Rattle.blob_script.specs.declared.reply.Reply.{Reply}
use Rattle.blob_script.specs.Acts.{Act, act_of}
use Rattle.blob_lab_store.specs.LabStands.{LabStandsFor, Performs}
use Rattle.blob_lab.specs.ScriptReading.{OfLines, AddsCall, TakesCall, TakesBadCall, TakesPart, Begins, HasReplies, PrintsFront, PrintsBefore, PrintsUpTo, printed_reply}
use Rattle.blob_script.specs.Scripts.{with_call}
use Rattle.blob_lab.specs.Scripts.{Script, IsPrinted, Prints, lines_of, with_lines}
use Rattle.blob_script.specs.Settings.{no_rates}
use Rattle.blob_lab_model.specs.States.{State, start}
use Rattle.blob_lab.specs.Streams.{AppendsPart}
use Rattle.blob_lab_model.proofs.RunSteps.{run_more}
use Rattle.blob_lab.proofs.ScriptLines.{part_nil}
use Rattle.blob_lab.proofs.ScriptSteps.{TakesFront, more_lines, one_line}

-- the first of all lines extend s to t, and their calls have replies; `rest` remains
pub record Settled (s : Script) (first next : ℕ) (lab : Lab) (config : Config) (old new : Option (List ℕ)) (all rest : List (List ℕ)) : Type 0 where
  pub t : Script
  pub w : State
  pub printed : List ℕ
  pub taken : TakesFront s t first next all rest
  pub config_is : t.config ≡ config
  pub some : t.calls ≢ []
  pub answered : HasReplies t printed w
  pub stands : LabStandsFor lab w
  pub added : Appends old new printed

-- the same, and the next line adds a call that has no reply yet
pub record Awaiting (s : Script) (first number : ℕ) (lab : Lab) (act : Act) (config : Config) (old new : Option (List ℕ)) (all rest : List (List ℕ)) : Type 0 where
  pub t : Script
  pub line : List ℕ
  pub w : State
  pub printed : List ℕ
  pub taken : TakesFront s t first number all (line ∷ rest)
  pub adds : AddsCall t line act config
  pub answered : HasReplies t printed w
  pub stands : LabStandsFor lab w
  pub added : Appends old new printed

not_empty : {X : Type 0} (xs : List X) (x : X) → xs ++ x ∷ [] ≢ []
not_empty [] x e = cc
not_empty (y ∷ ys) x e = cc

-- Bytes that are written.

pub kept_Appends : (a b c : Option (List ℕ)) (bs : List ℕ) → Keeps a b → Appends b c bs → Appends a c bs
kept_Appends None b c bs kept more = tt
kept_Appends (Some xs) None c bs kept more = absurd kept
kept_Appends (Some xs) (Some ys) None bs kept more = absurd more
kept_Appends (Some xs) (Some ys) (Some zs) bs kept more = more ∙ ap (λ l. l ++ bs) kept

pub part_of_taken : (s : Script) (lines left : List (List ℕ)) (old new : Option (List ℕ)) → PrintsFront s Appends lines left old new → PrintsFront s AppendsPart lines left old new
part_of_taken s lines left old new a = record {
  front = a.front;
  rest = a.rest;
  parts = a.parts;
  in_hand = a.in_hand;
  printed = a.printed;
  prints = a.prints;
  added = (a.printed, [], sym (append-nil a.printed), a.added);
}

pub printed_of : (o : Option Script) (t : Script) (printed : List ℕ) (w : State) → o ≡ Some t → HasReplies t printed w → IsPrinted o printed
printed_of o t printed w is a = subst (λ (x : Option Script). IsPrinted x printed) (sym is) (a.calls, a.replies, w, a.are, a.run, a.lines)

-- The output so far.

module _ (s : Script) (first : ℕ) (old : Option (List ℕ)) (all : List (List ℕ)) where
  settled_kept : (next : ℕ) (lab : Lab) (config : Config) (mid new : Option (List ℕ)) (rest : List (List ℕ)) → Settled s first next lab config old mid all rest → Keeps mid new → Settled s first next lab config old new all rest
  settled_kept next lab config mid new rest a kept = record {
    t = a.t;
    w = a.w;
    printed = a.printed;
    taken = a.taken;
    config_is = a.config_is;
    some = a.some;
    answered = a.answered;
    stands = a.stands;
    added = Appends-kept old mid new a.printed a.added kept;
  }

  pub settled_part : (next : ℕ) (lab : Lab) (config : Config) (new : Option (List ℕ)) (lines left : List (List ℕ)) → Settled s first next lab config old new all lines → ((t : Script) → t.config ≡ config → t.calls ≢ [] → TakesPart t t lines left)
      → PrintsFront s Appends all left old new
  settled_part next lab config new lines left a part =
      let p = part a.t a.config_is a.some in
      record {
        front = a.taken.front ++ p.front;
        rest = p.rest;
        parts = a.taken.parts ∙ ap (λ l. a.taken.front ++ l) p.parts ∙ sym (append_assoc a.taken.front p.front p.rest);
        in_hand = p.in_hand;
        printed = a.printed;
        prints = printed_of (with_lines s (a.taken.front ++ p.front)) a.t a.printed a.w (more_lines s a.t a.taken.front p.front a.taken.makes ∙ p.makes) a.answered;
        added = a.added;
      }

  settled_taken : (next : ℕ) (lab : Lab) (config : Config) (new : Option (List ℕ)) (rest : List (List ℕ)) → Settled s first next lab config old new all rest → PrintsFront s Appends all rest old new
  settled_taken next lab config new rest a = record {
    front = a.taken.front;
    rest = rest;
    parts = a.taken.parts;
    in_hand = inr ([], part_nil rest);
    printed = a.printed;
    prints = printed_of (with_lines s a.taken.front) a.t a.printed a.w a.taken.makes a.answered;
    added = a.added;
  }

  awaiting_taken : (number : ℕ) (lab : Lab) (act : Act) (config : Config) (new : Option (List ℕ)) (rest : List (List ℕ)) → Awaiting s first number lab act config old new all rest → PrintsFront s Appends all rest old new
  awaiting_taken number lab act config new rest a = record {
    front = a.taken.front;
    rest = a.line ∷ rest;
    parts = a.taken.parts;
    in_hand = inl (a.line, refl);
    printed = a.printed;
    prints = printed_of (with_lines s a.taken.front) a.t a.printed a.w a.taken.makes a.answered;
    added = a.added;
  }

  -- One more reply.

  more_taken : (number : ℕ) (lab : Lab) (act : Act) (config : Config) (mid : Option (List ℕ)) (rest : List (List ℕ)) (a : Awaiting s first number lab act config old mid all rest)
      → TakesFront s (with_call (record a.t { config = config }) act) first (number + 1) all rest
  more_taken number lab act config mid rest a = record {
    front = a.taken.front ++ a.line ∷ [];
    parts = a.taken.parts ∙ sym (append_assoc a.taken.front (a.line ∷ []) rest);
    makes = more_lines s a.t a.taken.front (a.line ∷ []) a.taken.makes ∙ one_line a.t a.line ∙ a.adds;
    counted = rw (length-append a.taken.front (a.line ∷ [])) (omega (arith, a.taken.counted));
  }

  more_answered : (number : ℕ) (lab lab' : Lab) (call : Call) (reply : Reply) (config : Config) (mid : Option (List ℕ)) (rest : List (List ℕ)) (a : Awaiting s first number lab (act_of call) config old mid all rest)
      → Performs lab (act_of call) reply lab' → (w : State) × HasReplies (with_call (record a.t { config = config }) (act_of call)) (a.printed ++ printed_reply reply) w × LabStandsFor lab' w
  more_answered number lab lab' call reply config mid rest a performs =
      let t = a.t in (
        _,
        record {
          calls = a.answered.calls ++ call ∷ [];
          replies = a.answered.replies ++ reply ∷ [];
          are = map-append act_of a.answered.calls (call ∷ []) ∙ ap (λ acts. acts ++ act_of call ∷ []) a.answered.are;
          run = run_more a.w a.answered.calls a.answered.replies (start t.images t.words no_rates) call reply _ a.answered.run (performs.answers a.w a.stands);
          lines = ap (λ p. p ++ printed_reply reply) a.answered.lines ∙ flat_map_more printed_reply [] a.answered.replies reply;
        },
        performs.stands a.w a.stands,
      )

  pub settle : (number : ℕ) (lab lab' : Lab) (call : Call) (reply : Reply) (config : Config) (mid new : Option (List ℕ)) (rest : List (List ℕ)) → Awaiting s first number lab (act_of call) config old mid all rest
      → Performs lab (act_of call) reply lab' → Appends mid new (printed_reply reply) → Settled s first (number + 1) lab' config old new all rest
  settle number lab lab' call reply config mid new rest a performs more =
      let (w, answered, stands) = more_answered number lab lab' call reply config mid rest a performs in
      record {
        t = with_call (record a.t { config = config }) (act_of call);
        w = w;
        printed = a.printed ++ printed_reply reply;
        taken = more_taken number lab (act_of call) config mid rest a;
        config_is = refl;
        some = not_empty a.t.calls (act_of call);
        answered = answered;
        stands = stands;
        added = Appends-trans old mid new a.printed (printed_reply reply) a.added more;
      }

  settle_part : (number : ℕ) (lab lab' : Lab) (call : Call) (reply : Reply) (config : Config) (mid new : Option (List ℕ)) (rest : List (List ℕ)) → Awaiting s first number lab (act_of call) config old mid all rest
      → Performs lab (act_of call) reply lab' → AppendsPart mid new (printed_reply reply) → PrintsFront s AppendsPart all rest old new
  settle_part number lab lab' call reply config mid new rest a performs (front, left_out, is, written) =
      let taken = more_taken number lab (act_of call) config mid rest a in
      let (w, answered, stands) = more_answered number lab lab' call reply config mid rest a performs in
      let t = with_call (record a.t { config = config }) (act_of call) in
      record {
        front = taken.front;
        rest = rest;
        parts = taken.parts;
        in_hand = inr ([], part_nil rest);
        printed = a.printed ++ printed_reply reply;
        prints = printed_of (with_lines s taken.front) t (a.printed ++ printed_reply reply) w taken.makes answered;
        added = (
          a.printed ++ front,
          left_out,
          ap (λ l. a.printed ++ l) is ∙ sym (append_assoc a.printed front left_out),
          Appends-trans old mid new a.printed front a.added written,
        );
      }

  -- What is read after it.

  pub settled_over : (next : ℕ) (lab : Lab) (config : Config) (mid new : Option (List ℕ)) (rest : List (List ℕ)) → Settled s first next lab config old mid all rest → Keeps mid new
      → ((t : Script) → t.config ≡ config → t.calls ≢ [] → with_lines t rest ≡ Some t) → Prints (with_lines s all) old new
  settled_over next lab config mid new rest a kept over = (
    a.printed,
    printed_of (with_lines s all) a.t a.printed a.w (ap (with_lines s) a.taken.parts ∙ more_lines s a.t a.taken.front rest a.taken.makes ∙ over a.t a.config_is a.some) a.answered,
    Appends-kept old mid new a.printed a.added kept,
  )

  pub settled_call : (n n' : ℕ) (lab : Lab) (act : Act) (config config' : Config) (mid new : Option (List ℕ)) (lines rest : List (List ℕ)) → Settled s first (n + 1) lab config old mid all lines → Keeps mid new
      → ((t : Script) → t.config ≡ config → t.calls ≢ [] → TakesCall t t (n + 1) n' act config' lines rest) → Awaiting s first n' lab act config' old new all rest
  settled_call n n' lab act config config' mid new lines rest a kept next =
      let call = next a.t a.config_is a.some in
      record {
        t = a.t;
        line = call.line;
        w = a.w;
        printed = a.printed;
        taken = record {
          front = a.taken.front ++ call.front;
          parts = a.taken.parts ∙ ap (λ l. a.taken.front ++ l) call.parts ∙ sym (append_assoc a.taken.front call.front (call.line ∷ rest));
          makes = more_lines s a.t a.taken.front call.front a.taken.makes ∙ call.makes;
          counted = rw (length-append a.taken.front call.front) (omega (arith, a.taken.counted, call.numbered));
        };
        adds = call.adds;
        answered = a.answered;
        stands = a.stands;
        added = Appends-kept old mid new a.printed a.added kept;
      }

  pub settled_bad : (n number : ℕ) (lab : Lab) (config : Config) (new : Option (List ℕ)) (lines rest : List (List ℕ)) → Settled s first (n + 1) lab config old new all lines
      → ((t : Script) → t.config ≡ config → t.calls ≢ [] → TakesBadCall t t (n + 1) number lines rest) → (before : PrintsBefore s first number all old new) × (before.rest ≡ rest)
  settled_bad n number lab config new lines rest a next =
      let call = next a.t a.config_is a.some in (
        record {
          front = a.taken.front ++ call.front;
          bad = call.bad;
          rest = rest;
          parts = a.taken.parts ∙ ap (λ l. a.taken.front ++ l) call.parts ∙ sym (append_assoc a.taken.front call.front (call.bad ∷ rest));
          numbered = rw (length-append a.taken.front call.front) (omega (arith, a.taken.counted, call.numbered));
          refused =
              ap (with_lines s) (append_assoc a.taken.front call.front (call.bad ∷ []))
              ∙ more_lines s a.t a.taken.front (call.front ++ call.bad ∷ []) a.taken.makes
              ∙ more_lines a.t a.t call.front (call.bad ∷ []) call.makes
              ∙ one_line a.t call.bad
              ∙ call.refused;
          prints = (
            a.printed,
            printed_of (with_lines s (a.taken.front ++ call.front)) a.t a.printed a.w (more_lines s a.t a.taken.front call.front a.taken.makes ∙ call.makes) a.answered,
            a.added,
          );
        },
        refl,
      )

  settled_cut : (ending : Ending) (n : ℕ) (lab : Lab) (config : Config) (new : Option (List ℕ)) (lines left : List (List ℕ)) → Settled s first (n + 1) lab config old new all lines
      → ((number : ℕ) → ending ≡ BadCall number → (t : Script) → t.config ≡ config → t.calls ≢ [] → TakesBadCall t t (n + 1) number lines left) → ((t : Script) → t.config ≡ config → t.calls ≢ [] → TakesPart t t lines left) → PrintsUpTo ending s first all left old new
  settled_cut (BadCall number) n lab config new lines left a bad part = settled_bad n number lab config new lines left a (bad number refl)
  settled_cut InputFailed n lab config new lines left a bad part = settled_part (n + 1) lab config new lines left a part
  settled_cut NoMemory n lab config new lines left a bad part = settled_part (n + 1) lab config new lines left a part
  settled_cut OutputFailed n lab config new lines left a bad part = part_of_taken s all left old new (settled_part (n + 1) lab config new lines left a part)
  settled_cut Done n lab config new lines left a bad part = tt
  settled_cut BadImage n lab config new lines left a bad part = tt
  settled_cut Usage n lab config new lines left a bad part = tt

-- The same if the remaining bytes are known: a at the start, b after the replies so far, c after the next read.

module _ (s : Script) (first : ℕ) (old : Option (List ℕ)) (line : List ℕ) where
  pub settles : (a b : Option (List ℕ)) (number : ℕ) (lab lab' : Lab) (call : Call) (reply : Reply) (config : Config) (mid new : Option (List ℕ))
      → OfLines a b (λ all rest. Awaiting s first number lab (act_of call) config old mid (line ∷ all) rest) → Performs lab (act_of call) reply lab' → Appends mid new (printed_reply reply)
      → OfLines a b (λ all rest. Settled s first (number + 1) lab' config old new (line ∷ all) rest)
  settles None b number lab lab' call reply config mid new awaits performs more = tt
  settles (Some xs) None number lab lab' call reply config mid new awaits performs more = absurd awaits
  settles (Some xs) (Some ys) number lab lab' call reply config mid new awaits performs more =
      settle s first old (line ∷ lines_of xs) number lab lab' call reply config mid new (lines_of ys) awaits performs more

  pub awaits_next : (a b c : Option (List ℕ)) (n n' : ℕ) (lab : Lab) (act : Act) (config config' : Config) (mid new : Option (List ℕ))
      → OfLines a b (λ all rest. Settled s first (n + 1) lab config old mid (line ∷ all) rest) → Keeps mid new → ((t : Script) → t.config ≡ config → t.calls ≢ [] → OfLines b c (TakesCall t t (n + 1) n' act config'))
      → OfLines a c (λ all rest. Awaiting s first n' lab act config' old new (line ∷ all) rest)
  awaits_next None b c n n' lab act config config' mid new settled kept next = tt
  awaits_next (Some xs) None c n n' lab act config config' mid new settled kept next = absurd settled
  awaits_next (Some xs) (Some ys) None n n' lab act config config' mid new settled kept next = absurd (next settled.t settled.config_is settled.some)
  awaits_next (Some xs) (Some ys) (Some zs) n n' lab act config config' mid new settled kept next =
      settled_call s first old (line ∷ lines_of xs) n n' lab act config config' mid new (lines_of ys) (lines_of zs) settled kept next

  pub prints_all : (a b c : Option (List ℕ)) (next : ℕ) (lab : Lab) (config : Config) (mid new : Option (List ℕ)) → OfLines a b (λ all rest. Settled s first next lab config old mid (line ∷ all) rest) → Keeps mid new
      → ((t : Script) → t.config ≡ config → t.calls ≢ [] → OfLines b c (λ lines _. with_lines t lines ≡ Some t)) → IfSome a (λ input. Prints (with_lines s (line ∷ lines_of input)) old new)
  prints_all None b c next lab config mid new settled kept over = tt
  prints_all (Some xs) None c next lab config mid new settled kept over = absurd settled
  prints_all (Some xs) (Some ys) None next lab config mid new settled kept over = absurd (over settled.t settled.config_is settled.some)
  prints_all (Some xs) (Some ys) (Some zs) next lab config mid new settled kept over = settled_over s first old (line ∷ lines_of xs) next lab config mid new (lines_of ys) settled kept over

  -- the next call wasn't read
  pub unread : (ending : Ending) (a b c : Option (List ℕ)) (n : ℕ) (lab : Lab) (config : Config) (mid new : Option (List ℕ)) → OfLines a b (λ all rest. Settled s first (n + 1) lab config old mid (line ∷ all) rest) → Keeps mid new
      → ((number : ℕ) → ending ≡ BadCall number → (t : Script) → t.config ≡ config → t.calls ≢ [] → OfLines b c (TakesBadCall t t (n + 1) number)) → ((t : Script) → t.config ≡ config → t.calls ≢ [] → OfLines b c (TakesPart t t))
      → OfLines a c (λ all left. PrintsUpTo ending s first (line ∷ all) left old new)
  unread ending None b c n lab config mid new settled kept bad part = tt
  unread ending (Some xs) None c n lab config mid new settled kept bad part = absurd settled
  unread ending (Some xs) (Some ys) None n lab config mid new settled kept bad part = absurd (part settled.t settled.config_is settled.some)
  unread ending (Some xs) (Some ys) (Some zs) n lab config mid new settled kept bad part =
      let all = line ∷ lines_of xs in
      settled_cut s first old all ending n lab config new (lines_of ys) (lines_of zs) (settled_kept s first old all (n + 1) lab config mid new (lines_of ys) settled kept) bad part

  answer_cut : (ending : Ending) (all rest : List (List ℕ)) (number : ℕ) (lab lab' : Lab) (call : Call) (config : Config) (mid new : Option (List ℕ)) → Awaiting s first number lab (act_of call) config old mid all rest
      → (ending ≡ OutputFailed) ⊎ (ending ≡ NoMemory) → (ending ≡ OutputFailed → (reply : Reply) × Performs lab (act_of call) reply lab' × AppendsPart mid new (printed_reply reply)) → (ending ≡ NoMemory → new ≡ mid)
      → PrintsUpTo ending s first all rest old new
  answer_cut OutputFailed all rest number lab lab' call config mid new a cut part same =
      let (reply, performs, written) = part refl in
      settle_part s first old all number lab lab' call reply config mid new rest a performs written
  answer_cut NoMemory all rest number lab lab' call config mid new a cut part same =
      subst (λ (o : Option (List ℕ)). PrintsFront s Appends all rest old o) (sym (same refl)) (awaiting_taken s first old all number lab (act_of call) config mid rest a)
  answer_cut InputFailed all rest number lab lab' call config mid new a cut part same = elim cut [ inl e ↦ cc | inr e ↦ cc ]
  answer_cut (BadCall line) all rest number lab lab' call config mid new a cut part same = elim cut [ inl e ↦ cc | inr e ↦ cc ]
  answer_cut Done all rest number lab lab' call config mid new a cut part same = tt
  answer_cut BadImage all rest number lab lab' call config mid new a cut part same = tt
  answer_cut Usage all rest number lab lab' call config mid new a cut part same = tt

  -- the call that was read has no reply, or at most a part of it was written
  pub unanswered : (ending : Ending) (a b : Option (List ℕ)) (number : ℕ) (lab lab' : Lab) (call : Call) (config : Config) (mid new : Option (List ℕ))
      → OfLines a b (λ all rest. Awaiting s first number lab (act_of call) config old mid (line ∷ all) rest) → (ending ≡ OutputFailed) ⊎ (ending ≡ NoMemory)
      → (ending ≡ OutputFailed → (reply : Reply) × Performs lab (act_of call) reply lab' × AppendsPart mid new (printed_reply reply)) → (ending ≡ NoMemory → new ≡ mid)
      → OfLines a b (λ all left. PrintsUpTo ending s first (line ∷ all) left old new)
  unanswered ending None b number lab lab' call config mid new awaits cut part same = tt
  unanswered ending (Some xs) None number lab lab' call config mid new awaits cut part same = absurd awaits
  unanswered ending (Some xs) (Some ys) number lab lab' call config mid new awaits cut part same = answer_cut ending (line ∷ lines_of xs) (lines_of ys) number lab lab' call config mid new awaits cut part same

  pub begins : (a : Option (List ℕ)) (lab : Lab) (act : Act) (config : Config) → Begins lab s line act config → OfLines a a (λ all rest. Awaiting s first first lab act config old old (line ∷ all) rest)
  begins None lab act config b = tt
  begins (Some xs) lab act config b = record {
    t = s;
    line = line;
    w = start s.images s.words no_rates;
    printed = [];
    taken = record { front = []; parts = refl; makes = refl; counted = ap u64_saturate (omega arith) };
    adds = b.adds;
    answered = record { calls = []; replies = []; are = sym b.none; run = refl; lines = refl };
    stands = b.stands;
    added = Appends-nil old;
  }
