-- How a script's run ends: what was read and printed, also if the last flush fails.
use Rattle.std.proofs.Common.{◌≡◌, ◌≢◌, ℕ, List, [], ◌∷◌, true, Option, Some, None, IfSome, IsSomeAnd, Result, Ok, Err, IfErr, OnOk, inl, inr, refl, sym, ap, subst}
use Rattle.std.proofs.KnownBytes.{Appends-kept}
use Rattle.std.proofs.lemmas.List.{append-nil}
use Rattle.std.specs.Io.KnownBytes.{Appends, Keeps}
use Rattle.blob_lab.specs.declared.ending.Ending.{Ending}
use Rattle.blob_lab.specs.declared.ending.Ending.TheVariants.{Done, InputFailed, OutputFailed, BadCall, BadImage, Usage, NoMemory}
use Rattle.blob_lab.specs.Endings.{is_cut}
use Rattle.blob_lab.specs.Reading.{IsReadOut}
use Rattle.blob_lab.specs.ScriptReading.{OfLines, PrintsFront, PrintsUpTo, with_part_first}
use Rattle.blob_lab.specs.Scripts.{Prints, PrintsBeforeLine, PrintsTaken, lines_of, no_script, script_of}
use Rattle.blob_lab.specs.Streams.{AppendsPart}
use Rattle.blob_lab.proofs.InHand.{by_bytes}
use Rattle.blob_lab.proofs.ScriptRuns.{part_of_taken}

-- of known bytes and the remaining ones, this is printed in full or up to a part of it
abbrev pub Taken : Option (List ℕ) → Option (List ℕ) → Option (List ℕ) → Option (List ℕ) → Type 0
Taken a b old new = IfSome a (λ bytes. IsSomeAnd b (λ left. PrintsTaken Appends bytes left old new))

abbrev pub TakenPart : Option (List ℕ) → Option (List ℕ) → Option (List ℕ) → Option (List ℕ) → Type 0
TakenPart a b old new = IfSome a (λ bytes. IsSomeAnd b (λ left. PrintsTaken AppendsPart bytes left old new))

module _ (old mid new : Option (List ℕ)) (kept : Keeps mid new) where
  front_kept : (Adds : Option (List ℕ) → Option (List ℕ) → List ℕ → Type 0) → ((bytes : List ℕ) → Adds old mid bytes → Adds old new bytes) → (lines left : List (List ℕ)) → PrintsFront no_script Adds lines left old mid
      → PrintsFront no_script Adds lines left old new
  front_kept Adds adds lines left p = record { front = p.front; rest = p.rest; parts = p.parts; in_hand = p.in_hand; printed = p.printed; prints = p.prints; added = adds p.printed p.added }

  taken_kept : (lines left : List (List ℕ)) → PrintsFront no_script Appends lines left old mid → PrintsFront no_script Appends lines left old new
  taken_kept = front_kept Appends (λ bytes added. Appends-kept old mid new bytes added kept)

  part_kept : (lines left : List (List ℕ)) → PrintsFront no_script AppendsPart lines left old mid → PrintsFront no_script AppendsPart lines left old new
  part_kept = front_kept AppendsPart (λ bytes part. (part.0, part.1, part.2, Appends-kept old mid new part.0 part.3 kept))

  cut_taken : (ending : Ending) (first : ℕ) (lines left : List (List ℕ)) → is_cut ending ≡ true → ending ≢ OutputFailed → PrintsUpTo ending no_script first lines left old mid → PrintsFront no_script Appends lines left old new
  cut_taken (BadCall number) first lines left cut other (before, is) =
      let (printed, prints, added) = before.prints in
      taken_kept lines left (record {
        front = before.front;
        rest = before.bad ∷ before.rest;
        parts = before.parts;
        in_hand = inl (before.bad, ap (λ l. before.bad ∷ l) is);
        printed = printed;
        prints = prints;
        added = added;
      })
  cut_taken InputFailed first lines left cut other p = taken_kept lines left p
  cut_taken NoMemory first lines left cut other p = taken_kept lines left p
  cut_taken OutputFailed first lines left cut other p = absurd (other refl)
  cut_taken Done first lines left cut other p = cc
  cut_taken BadImage first lines left cut other p = cc
  cut_taken Usage first lines left cut other p = cc

  cut_part : (ending : Ending) (first : ℕ) (lines left : List (List ℕ)) → is_cut ending ≡ true → PrintsUpTo ending no_script first lines left old mid → PrintsFront no_script AppendsPart lines left old new
  cut_part OutputFailed first lines left cut p = part_kept lines left p
  cut_part (BadCall number) first lines left cut p = part_of_taken no_script lines left old new (cut_taken (BadCall number) first lines left cut (λ e. cc) p)
  cut_part InputFailed first lines left cut p = part_of_taken no_script lines left old new (taken_kept lines left p)
  cut_part NoMemory first lines left cut p = part_of_taken no_script lines left old new (taken_kept lines left p)
  cut_part Done first lines left cut p = cc
  cut_part BadImage first lines left cut p = cc
  cut_part Usage first lines left cut p = cc

  pub ends_bad : (number : ℕ) (a b : Option (List ℕ)) → OfLines a b (λ lines left. PrintsUpTo (BadCall number) no_script 1 lines left old mid) → IfSome a (λ bytes. PrintsBeforeLine number bytes old new)
  ends_bad number None b up = tt
  ends_bad number (Some xs) None up = absurd up
  ends_bad number (Some xs) (Some ys) (p, is) =
      let (printed, prints, added) = p.prints in
      record { front = p.front; bad = p.bad; rest = p.rest; parts = p.parts; numbered = p.numbered; refused = p.refused; prints = (printed, prints, Appends-kept old mid new printed added kept) }

  pub ends_taken : (ending : Ending) (first : ℕ) (a b : Option (List ℕ)) → is_cut ending ≡ true → ending ≢ OutputFailed → OfLines a b (λ lines left. PrintsUpTo ending no_script first lines left old mid) → Taken a b old new
  ends_taken ending first None b cut other up = tt
  ends_taken ending first (Some xs) None cut other up = absurd up
  ends_taken ending first (Some xs) (Some ys) cut other up = by_bytes Appends xs ys old new (cut_taken ending first (lines_of xs) (lines_of ys) cut other up)

  pub ends_part : (ending : Ending) (first : ℕ) (a b : Option (List ℕ)) → is_cut ending ≡ true → OfLines a b (λ lines left. PrintsUpTo ending no_script first lines left old mid) → TakenPart a b old new
  ends_part ending first None b cut up = tt
  ends_part ending first (Some xs) None cut up = absurd up
  ends_part ending first (Some xs) (Some ys) cut up = by_bytes AppendsPart xs ys old new (cut_part ending first (lines_of xs) (lines_of ys) cut up)

-- everything was read and printed

none_left : (left : List ℕ) → left ≡ [] → [] ≡ lines_of left
none_left [] e = refl
none_left (b ∷ bs) e = cc

done_front : (xs ys : List ℕ) (old mid new : Option (List ℕ)) → Keeps mid new → ys ≡ [] → Prints (script_of (lines_of xs)) old mid → PrintsFront no_script Appends (lines_of xs) (lines_of ys) old new
done_front xs ys old mid new kept none (printed, prints, added) = taken_kept old mid new kept (lines_of xs) (lines_of ys) (record {
  front = lines_of xs;
  rest = [];
  parts = sym (append-nil (lines_of xs));
  in_hand = inr ([], subst (λ (l : List (List ℕ)). [] ≡ with_part_first [] l) (none_left ys none) refl);
  printed = printed;
  prints = prints;
  added = added;
})

pub ends_done : (a b old mid new : Option (List ℕ)) → Keeps mid new → IsReadOut a b → IfSome a (λ bytes. Prints (script_of (lines_of bytes)) old mid) → Taken a b old new
ends_done None b old mid new kept out p = tt
ends_done (Some xs) None old mid new kept out p = cc
ends_done (Some xs) (Some ys) old mid new kept out p = by_bytes Appends xs ys old new (done_front xs ys old mid new kept (cc out) p)

pub ends_flush_failed : {T : Type 0} (ran : Result T Ending) (a b old mid new : Option (List ℕ)) → Keeps mid new → IfErr ran (λ ending. is_cut ending ≡ true) → OnOk ran (IsReadOut a b)
    → OnOk ran (IfSome a (λ bytes. Prints (script_of (lines_of bytes)) old mid)) → IfErr ran (λ ending. OfLines a b (λ lines left. PrintsUpTo ending no_script 1 lines left old mid)) → TakenPart a b old new
ends_flush_failed (Err ending) a b old mid new kept cut out all up = ends_part old mid new kept ending 1 a b cut up
ends_flush_failed (Ok x) None b old mid new kept cut out all up = tt
ends_flush_failed (Ok x) (Some xs) None old mid new kept cut out all up = cc
ends_flush_failed (Ok x) (Some xs) (Some ys) old mid new kept cut out all up =
    by_bytes AppendsPart xs ys old new (part_of_taken no_script (lines_of xs) (lines_of ys) old new (done_front xs ys old mid new kept (cc out) all))
