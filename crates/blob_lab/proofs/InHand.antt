-- Bytes of at most one line, before the remaining ones.
use Rattle.std.proofs.Common.{◌≡◌, ◌≢◌, ℕ, zero, suc, ◌-◌, ◌==◌, List, [], ◌∷◌, ◌++◌, All, Bool, true, false, length, take, inl, inr, refl, sym, ap, ◌∙◌, subst, cond, append_assoc, eq-eqb, Option, arith}
use Rattle.std.proofs.lemmas.List.{append-nil}
use Rattle.std.proofs.Math.ListN.{length-append}
use Rattle.std.proofs.Math.Seq.{take-append_seam}
use Rattle.std.specs.Io.{StopsAt}
use Rattle.std.specs.List.{AllByRecursion, onto_first}
use Rattle.blob_lab.specs.ScriptReading.{TakesOne, PrintsFront, with_part_first}
use Rattle.blob_lab.specs.Scripts.{PrintsTaken, lines_of, no_script}

-- these bytes have no line feed
abbrev IsFeedless : List ℕ → Type 0
IsFeedless [] = Unit {0}
IsFeedless (byte ∷ bytes) = ((byte == 10) ≡ false) × IsFeedless bytes

-- Lines have none.

onto_feedless : (b : ℕ) (lines : List (List ℕ)) → (b == 10) ≡ false → AllByRecursion IsFeedless lines → AllByRecursion IsFeedless (onto_first b lines)
onto_feedless b [] h all = ((h, tt), tt)
onto_feedless b (line ∷ lines) h all = ((h, all.0), all.1)

first_feedless : (b : ℕ) (bs : List ℕ) (test : Bool) → (b == 10) ≡ test → AllByRecursion IsFeedless (lines_of bs) → AllByRecursion IsFeedless (cond test ([] ∷ lines_of bs) (onto_first b (lines_of bs)))
first_feedless b bs true h all = (tt, all)
first_feedless b bs false h all = onto_feedless b (lines_of bs) h all

lines_feedless : (bytes : List ℕ) → AllByRecursion IsFeedless (lines_of bytes)
lines_feedless [] = tt
lines_feedless (b ∷ bs) = first_feedless b bs (b == 10) refl (lines_feedless bs)

behind_feedless : (front rest : List (List ℕ)) → AllByRecursion IsFeedless (front ++ rest) → AllByRecursion IsFeedless rest
behind_feedless [] rest all = all
behind_feedless (line ∷ front) rest all = behind_feedless front rest all.1

front_feedless : (front rest : List ℕ) → IsFeedless (front ++ rest) → IsFeedless front
front_feedless [] rest h = tt
front_feedless (b ∷ bs) rest h = (h.0, front_feedless bs rest h.1)

each_other : (bytes : List ℕ) → IsFeedless bytes → All (λ x. x ≢ 10) bytes
each_other [] h k d lt = absurd (omega arith)
each_other (b ∷ bs) h zero d lt = λ e. let same : (b == 10) ≡ true = eq-eqb b 10 e in let other = h.0 in cc
each_other (b ∷ bs) h (suc k) d lt = each_other bs h.1 k d (omega arith)

take_feedless : (n : ℕ) (bytes : List ℕ) → IsFeedless bytes → IsFeedless (take n bytes)
take_feedless zero bytes h = tt
take_feedless (suc n) [] h = tt
take_feedless (suc n) (b ∷ bs) h = (h.0, take_feedless n bs h.1)

-- Bytes without a line feed start a line.

begins : (part left line : List ℕ) (more : List (List ℕ)) → IsFeedless part → lines_of left ≡ line ∷ more → lines_of (part ++ left) ≡ (part ++ line) ∷ more
begins [] left line more h e = e
begins (b ∷ bs) left line more h e =
    ap (λ t. cond t ([] ∷ lines_of (bs ++ left)) (onto_first b (lines_of (bs ++ left)))) h.0
    ∙ ap (onto_first b) (begins bs left line more h.1 e)

abbrev InHand : List (List ℕ) → List ℕ → Type 0
InHand lines left = (hand : List ℕ) × (lines ≡ lines_of (hand ++ left)) × StopsAt hand 10

whole_line : (line left : List ℕ) → IsFeedless line → InHand (line ∷ lines_of left) left
whole_line line left h =
    let short : length (line ++ 10 ∷ []) - 1 ≡ length line = omega (arith, length-append line (10 ∷ [])) in (
      line ++ 10 ∷ [],
      sym (ap lines_of (append_assoc line (10 ∷ []) left) ∙ begins line (10 ∷ left) [] (lines_of left) h refl ∙ ap (λ l. l ∷ lines_of left) (append-nil line)),
      subst (All (λ x. x ≢ 10)) (sym (ap (λ n. take n (line ++ 10 ∷ [])) short ∙ take-append_seam line (10 ∷ []))) (each_other line h),
    )

part_of_line : (part left : List ℕ) (lines : List (List ℕ)) → lines_of left ≡ lines → AllByRecursion IsFeedless (with_part_first part lines) → InHand (with_part_first part lines) left
part_of_line part left [] e all = ([], sym e, each_other [] tt)
part_of_line part left (line ∷ more) e all =
    let h : IsFeedless part = front_feedless part line all.0 in
    (part, sym (begins part left line more h e), each_other (take (length part - 1) part) (take_feedless (length part - 1) part h))

in_hand : (lines : List (List ℕ)) (left : List ℕ) → AllByRecursion IsFeedless lines → TakesOne lines (lines_of left) → InHand lines left
in_hand lines left all (inl (line, e)) =
    let all' : AllByRecursion IsFeedless (line ∷ lines_of left) = subst (AllByRecursion IsFeedless) e all in
    subst (λ (l : List (List ℕ)). InHand l left) (sym e) (whole_line line left all'.0)
in_hand lines left all (inr (part, e)) =
    subst (λ (l : List (List ℕ)). InHand l left) (sym e) (part_of_line part left (lines_of left) refl (subst (AllByRecursion IsFeedless) e all))

-- the output of a script's lines, by its bytes
pub by_bytes : (Adds : Option (List ℕ) → Option (List ℕ) → List ℕ → Type 0) (bytes left : List ℕ) (old new : Option (List ℕ)) → PrintsFront no_script Adds (lines_of bytes) (lines_of left) old new → PrintsTaken Adds bytes left old new
by_bytes Adds bytes left old new p =
    let (hand, is, one) = in_hand p.rest left (behind_feedless p.front p.rest (subst (AllByRecursion IsFeedless) p.parts (lines_feedless bytes))) p.in_hand in
    record {
      front = p.front;
      hand = hand;
      parts = p.parts ∙ ap (λ l. p.front ++ l) is;
      one = one;
      printed = p.printed;
      prints = p.prints;
      added = p.added;
    }
