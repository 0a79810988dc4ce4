-- A script from its first line on.
use Rattle.std.proofs.Common.{◌≡◌, ℕ, ◌+◌, List, [], ◌∷◌, ◌++◌, Option, Some, None, IfSome, length, inl, refl, sym, ap, ◌∙◌, subst, append_assoc, arith}
use Rattle.std.proofs.KnownBytes.{Appends-kept, Appends-nil}
use Rattle.std.proofs.Math.ListN.{length-append}
use Rattle.std.specs.Io.Iter.{u64_saturate}
use Rattle.std.specs.Io.KnownBytes.{Appends, Keeps}
use Rattle.blob_draws.specs.declared.config.Config.{Config}
use Rattle.blob_lab.specs.declared.ending.Ending.{Ending}
use Rattle.blob_lab.specs.declared.ending.Ending.TheVariants.{Done, InputFailed, OutputFailed, BadCall, BadImage, Usage, NoMemory}
use Rattle.blob_lab_store.specs.declared.lab.Lab.{Lab}
use Rattle.blob_script.specs.Acts.{Act}
use Rattle.blob_lab_store.specs.LabStands.{LabStandsFor}
use Rattle.blob_lab.specs.ScriptReading.{OfLines, TakesCall, TakesBadCall, TakesOne, TakesPart, Begins, PrintsFront, PrintsBefore, PrintsUpTo}
use Rattle.blob_lab.specs.Scripts.{Script, IsPrinted, Prints, lines_of, no_script, script_of, with_lines}
use Rattle.blob_lab.specs.Streams.{AppendsPart}
use Rattle.blob_script.specs.Settings.{no_rates}
use Rattle.blob_lab_model.specs.States.{start}
use Rattle.blob_lab.proofs.ScriptRuns.{kept_Appends, part_of_taken, printed_of}
use Rattle.blob_lab.proofs.ScriptSteps.{more_lines, one_line}

-- No call has a reply.

none_printed : (o : Option Script) (t : Script) → o ≡ Some t → t.calls ≡ [] → IsPrinted o []
none_printed o t is none = printed_of o t [] (start t.images t.words no_rates) is (record { calls = []; replies = []; are = sym none; run = refl; lines = refl })

none_added : (old new : Option (List ℕ)) → Keeps old new → Appends old new []
none_added old new kept = Appends-kept old old new [] (Appends-nil old) kept

nothing : (o : Option Script) (t : Script) (old new : Option (List ℕ)) → Keeps old new → o ≡ Some t → t.calls ≡ [] → Prints o old new
nothing o t old new kept is none = ([], none_printed o t is none, none_added old new kept)

nothing_of : (t : Script) (lines left front rest : List (List ℕ)) (old new : Option (List ℕ)) → Keeps old new → lines ≡ front ++ rest → TakesOne rest left → with_lines no_script front ≡ Some t → t.calls ≡ []
    → PrintsFront no_script Appends lines left old new
nothing_of t lines left front rest old new kept parts in_hand is none = record {
  front = front;
  rest = rest;
  parts = parts;
  in_hand = in_hand;
  printed = [];
  prints = none_printed (with_lines no_script front) t is none;
  added = none_added old new kept;
}

-- Lines before those with output.

prints_kept : (o : Option Script) (old mid new : Option (List ℕ)) → Keeps old mid → Prints o mid new → Prints o old new
prints_kept o old mid new kept (printed, prints, added) = (printed, prints, kept_Appends old mid new printed kept added)

module _ (s t : Script) (front all rest left : List (List ℕ)) (old mid : Option (List ℕ)) (kept : Keeps old mid) (parts : all ≡ front ++ rest) (makes : with_lines s front ≡ Some t) where
  prints_behind : (more : List (List ℕ)) (new : Option (List ℕ)) → Prints (with_lines t more) mid new → Prints (with_lines s (front ++ more)) old new
  prints_behind more new p = subst (λ (o : Option Script). Prints o old new) (sym (more_lines s t front more makes)) (prints_kept (with_lines t more) old mid new kept p)

  front_behind : (Adds : Option (List ℕ) → Option (List ℕ) → List ℕ → Type 0) (new : Option (List ℕ)) → ((bytes : List ℕ) → Adds mid new bytes → Adds old new bytes) → PrintsFront t Adds rest left mid new
      → PrintsFront s Adds all left old new
  front_behind Adds new adds p = record {
    front = front ++ p.front;
    rest = p.rest;
    parts = parts ∙ ap (λ l. front ++ l) p.parts ∙ sym (append_assoc front p.front p.rest);
    in_hand = p.in_hand;
    printed = p.printed;
    prints = subst (λ (o : Option Script). IsPrinted o p.printed) (sym (more_lines s t front p.front makes)) p.prints;
    added = adds p.printed p.added;
  }

  pub behind : (ending : Ending) (first n : ℕ) (new : Option (List ℕ)) → n ≡ u64_saturate (first + length front) → PrintsUpTo ending t n rest left mid new → PrintsUpTo ending s first all left old new
  behind (BadCall number) first n new counted (p, is) = (
    record {
      front = front ++ p.front;
      bad = p.bad;
      rest = p.rest;
      parts = parts ∙ ap (λ l. front ++ l) p.parts ∙ sym (append_assoc front p.front (p.bad ∷ p.rest));
      numbered = rw (length-append front p.front) (omega (arith, counted, p.numbered));
      refused = ap (with_lines s) (append_assoc front p.front (p.bad ∷ [])) ∙ more_lines s t front (p.front ++ p.bad ∷ []) makes ∙ p.refused;
      prints = prints_behind p.front new p.prints;
    },
    is,
  )
  behind InputFailed first n new counted p = front_behind Appends new (λ bytes. kept_Appends old mid new bytes kept) p
  behind NoMemory first n new counted p = front_behind Appends new (λ bytes. kept_Appends old mid new bytes kept) p
  behind OutputFailed first n new counted p =
      front_behind AppendsPart new (λ bytes part. (part.0, part.1, part.2, kept_Appends old mid new part.0 kept part.3)) p
  behind Done first n new counted p = tt
  behind BadImage first n new counted p = tt
  behind Usage first n new counted p = tt

-- a are the bytes at the start, b those after the lines up to the first call; these lines extend s, the empty script,
-- to t; the number of the first is `first`; nothing was printed
module _ (s : Script) (same : s ≡ no_script) (first : ℕ) (one : first ≡ 1) (t : Script) (none : t.calls ≡ []) (old mid : Option (List ℕ)) (kept : Keeps old mid) where
  pub no_call : (a b : Option (List ℕ)) → OfLines a b (λ lines _. with_lines s lines ≡ Some t) → IfSome a (λ input. Prints (script_of (lines_of input)) old mid)
  no_call None b over = tt
  no_call (Some xs) None over = absurd over
  no_call (Some xs) (Some ys) over = nothing (script_of (lines_of xs)) t old mid kept (ap (λ u. with_lines u (lines_of xs)) (sym same) ∙ over) none

  bad_first : (number : ℕ) (lines left : List (List ℕ)) → TakesBadCall s t first number lines left → (before : PrintsBefore no_script 1 number lines old mid) × (before.rest ≡ left)
  bad_first number lines left bad =
      let made : with_lines no_script bad.front ≡ Some t = ap (λ u. with_lines u bad.front) (sym same) ∙ bad.makes in (
        record {
          front = bad.front;
          bad = bad.bad;
          rest = left;
          parts = bad.parts;
          numbered = bad.numbered ∙ ap (λ n. u64_saturate (n + length bad.front)) one;
          refused = more_lines no_script t bad.front (bad.bad ∷ []) made ∙ one_line t bad.bad ∙ bad.refused;
          prints = nothing (with_lines no_script bad.front) t old mid kept made none;
        },
        refl,
      )

  -- creating the laboratory failed
  pub no_laboratory : (n : ℕ) (act : Act) (config : Config) (a b : Option (List ℕ)) → OfLines a b (TakesCall s t first n act config) → OfLines a b (λ lines left. PrintsFront no_script Appends lines left old mid)
  no_laboratory n act config None b call = tt
  no_laboratory n act config (Some xs) None call = absurd call
  no_laboratory n act config (Some xs) (Some ys) call =
      nothing_of t (lines_of xs) (lines_of ys) call.front (call.line ∷ lines_of ys) old mid kept call.parts (inl (call.line, refl)) (ap (λ u. with_lines u call.front) (sym same) ∙ call.makes) none

  module _ (n : ℕ) (act : Act) (config : Config) (lab : Lab) (stands : LabStandsFor lab (start t.images t.words no_rates)) (new : Option (List ℕ)) where
    pub all_lines : (a b : Option (List ℕ)) → OfLines a b (TakesCall s t first n act config)
        → ((s : Script) (line : List ℕ) → Begins lab s line act config → IfSome b (λ input. Prints (with_lines s (line ∷ lines_of input)) mid new)) → IfSome a (λ input. Prints (script_of (lines_of input)) old new)
    all_lines None b call prints = tt
    all_lines (Some xs) None call prints = absurd call
    all_lines (Some xs) (Some ys) call prints =
        let made : with_lines no_script call.front ≡ Some t = ap (λ u. with_lines u call.front) (sym same) ∙ call.makes in
        prints_kept (script_of (lines_of xs)) old mid new kept
        (subst (λ (o : Option Script). Prints o mid new)
        (sym (ap script_of call.parts ∙ more_lines no_script t call.front (call.line ∷ lines_of ys) made))
        (prints t call.line (record { none = none; adds = call.adds; stands = stands })))

    pub front_lines : (ending : Ending) (a b c : Option (List ℕ)) → OfLines a b (TakesCall s t first n act config)
        → ((s : Script) (line : List ℕ) → Begins lab s line act config → OfLines b c (λ all left. PrintsUpTo ending s n (line ∷ all) left mid new)) → OfLines a c (λ lines left. PrintsUpTo ending no_script 1 lines left old new)
    front_lines ending None b c call prints = tt
    front_lines ending (Some xs) None c call prints = absurd call
    front_lines ending (Some xs) (Some ys) None call prints = absurd (prints t call.line (record { none = none; adds = call.adds; stands = stands }))
    front_lines ending (Some xs) (Some ys) (Some zs) call prints =
        behind no_script t call.front (lines_of xs) (call.line ∷ lines_of ys) (lines_of zs) old mid kept call.parts (ap (λ u. with_lines u call.front) (sym same) ∙ call.makes) ending 1 n new
        (call.numbered ∙ ap (λ k. u64_saturate (k + length call.front)) one)
        (prints t call.line (record { none = none; adds = call.adds; stands = stands }))

-- the same if no call was read; u is the script so far
module _ (s : Script) (same : s ≡ no_script) (old mid : Option (List ℕ)) (kept : Keeps old mid) where
  part_first : (u : Script) (none : u.calls ≡ []) (lines left : List (List ℕ)) → TakesPart s u lines left → PrintsFront no_script Appends lines left old mid
  part_first u none lines left part = nothing_of u lines left part.front part.rest old mid kept part.parts part.in_hand (ap (λ v. with_lines v part.front) (sym same) ∙ part.makes) none

  module _ (first : ℕ) (one : first ≡ 1) (t : Script) (none : t.calls ≡ []) where
    first_cut : (ending : Ending) (u : Script) (silent : u.calls ≡ []) (lines left : List (List ℕ)) → ((number : ℕ) → ending ≡ BadCall number → TakesBadCall s t first number lines left) → TakesPart s u lines left
        → PrintsUpTo ending no_script 1 lines left old mid
    first_cut (BadCall number) u silent lines left bad part = bad_first s same first one t none old mid kept number lines left (bad number refl)
    first_cut InputFailed u silent lines left bad part = part_first u silent lines left part
    first_cut NoMemory u silent lines left bad part = part_first u silent lines left part
    first_cut OutputFailed u silent lines left bad part = part_of_taken no_script lines left old mid (part_first u silent lines left part)
    first_cut Done u silent lines left bad part = tt
    first_cut BadImage u silent lines left bad part = tt
    first_cut Usage u silent lines left bad part = tt

    pub no_first : (ending : Ending) (a b : Option (List ℕ)) → ((number : ℕ) → ending ≡ BadCall number → OfLines a b (TakesBadCall s t first number)) → (u : Script) × (u.calls ≡ []) × OfLines a b (TakesPart s u)
        → OfLines a b (λ lines left. PrintsUpTo ending no_script 1 lines left old mid)
    no_first ending None b bad part = tt
    no_first ending (Some xs) None bad (u, silent, part) = absurd part
    no_first ending (Some xs) (Some ys) bad (u, silent, part) = first_cut ending u silent (lines_of xs) (lines_of ys) bad part
