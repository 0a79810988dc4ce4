-- Splitting off lines from the start of the input.
use Rattle.std.proofs.Common.{◌≡◌, ◌≢◌, ℕ, suc, ◌==◌, List, [], ◌∷◌, ◌++◌, All, Bool, true, false, Option, Some, None, IfSome, length, take, get_or, inl, inr, refl, sym, ap, ◌∙◌, subst, cond, arith}
use Rattle.std.proofs.Math.Numerals.{sub-one}
use Rattle.std.proofs.lemmas.Bool.{eqb-true, lt-ltb}
use Rattle.std.specs.Io.BufRead.{DropsThrough, take_through, drop_through, strip_last, first_piece}
use Rattle.std.specs.Io.{StopsAt}
use Rattle.std.specs.Io.KnownBytes.{Consumes}
use Rattle.blob_lab.specs.ScriptReading.{OfLines, TakesLine, TakesOne, with_part_first}
use Rattle.blob_lab.specs.Scripts.{lines_of}
use Rattle.std.specs.List.{onto_first}

strip_cons : (x y : ℕ) (ys : List ℕ) → strip_last 10 (x ∷ y ∷ ys) ≡ x ∷ strip_last 10 (y ∷ ys)
strip_cons x y ys = simp (sub-one, lt-ltb 0 (suc (suc (length ys))) (omega arith), lt-ltb 0 (suc (length ys)) (omega arith))
    (elim (get_or (y ∷ ys) (length ys) 0 == 10) as (λ t. cond t (x ∷ take (length ys) (y ∷ ys)) (x ∷ y ∷ ys) ≡ x ∷ cond t (take (length ys) (y ∷ ys)) (y ∷ ys)) [ true ↦ refl | false ↦ refl ])

-- a byte before a line of more bytes
piece_cons : (b c : ℕ) (cs : List ℕ) → (b == 10) ≡ false → first_piece 10 (b ∷ c ∷ cs) ≡ b ∷ first_piece 10 (c ∷ cs)
piece_cons b c cs h =
    ap (λ t. strip_last 10 (cond t (b ∷ []) (b ∷ take_through 10 (c ∷ cs)))) h
    ∙ elim (c == 10) as (λ t. strip_last 10 (b ∷ cond t (c ∷ []) (c ∷ take_through 10 cs)) ≡ b ∷ strip_last 10 (cond t (c ∷ []) (c ∷ take_through 10 cs))) [
      | true ↦ strip_cons b c []
      | false ↦ strip_cons b c (take_through 10 cs)
    ]

first_is : (b : ℕ) (bs : List ℕ) (test : Bool) → (b == 10) ≡ test → lines_of (b ∷ bs) ≡ first_piece 10 (b ∷ bs) ∷ lines_of (drop_through 10 (b ∷ bs))
first_is b bs true h = simp h
first_is b [] false h = simp h
first_is b (c ∷ cs) false h =
    let after = lines_of (drop_through 10 (c ∷ cs)) in
    ap (λ t. cond t ([] ∷ lines_of (c ∷ cs)) (onto_first b (lines_of (c ∷ cs)))) h
    ∙ ap (onto_first b) (first_is c cs (c == 10) refl)
    ∙ ap (λ l. l ∷ after) (sym (piece_cons b c cs h))
    ∙ ap (λ t. first_piece 10 (b ∷ c ∷ cs) ∷ lines_of (cond t (c ∷ cs) (drop_through 10 (c ∷ cs)))) (sym h)

pub lines_cons : (b : ℕ) (bs : List ℕ) → lines_of (b ∷ bs) ≡ first_piece 10 (b ∷ bs) ∷ lines_of (drop_through 10 (b ∷ bs))
lines_cons b bs = first_is b bs (b == 10) refl

-- a line was read
pub takes_line : (old new : Option (List ℕ)) (line : List ℕ) → IfSome old (λ xs. line ≡ first_piece 10 xs) → DropsThrough old new 10 → IfSome old (λ xs. xs ≢ []) → OfLines old new (TakesLine line)
takes_line None new line first drops some = tt
takes_line (Some []) new line first drops some = absurd (some refl)
takes_line (Some (b ∷ bs)) None line first drops some = absurd (cc)
takes_line (Some (b ∷ bs)) (Some ys) line first drops some =
    let left : ys ≡ drop_through 10 (b ∷ bs) = cc drops in
    lines_cons b bs ∙ ap (λ l. l ∷ lines_of (drop_through 10 (b ∷ bs))) (sym first) ∙ ap (λ zs. line ∷ lines_of zs) (sym left)

-- A part of a line.

pub part_nil : (lines : List (List ℕ)) → lines ≡ with_part_first [] lines
part_nil [] = refl
part_nil (line ∷ lines) = refl

one_byte_more : (b : ℕ) (lines left : List (List ℕ)) → TakesOne lines left → TakesOne (onto_first b lines) left
one_byte_more b lines left (inl (line, e)) = inl (b ∷ line, ap (onto_first b) e)
one_byte_more b lines [] (inr (part, e)) = inl (b ∷ [], ap (onto_first b) e)
one_byte_more b lines (line ∷ left) (inr (part, e)) = inr (b ∷ part, ap (onto_first b) e)

begun_with : (b : ℕ) (bs : List ℕ) (left : List (List ℕ)) (test : Bool) → (b == 10) ≡ test → (test ≡ true → lines_of bs ≡ left) → (test ≡ false → TakesOne (lines_of bs) left) → TakesOne (lines_of (b ∷ bs)) left
begun_with b bs left true h last more = inl ([], ap (λ t. cond t ([] ∷ lines_of bs) (onto_first b (lines_of bs))) h ∙ ap (λ l. [] ∷ l) (last refl))
begun_with b bs left false h last more = subst (λ lines. TakesOne lines left) (ap (λ t. cond t ([] ∷ lines_of bs) (onto_first b (lines_of bs))) (sym h)) (one_byte_more b (lines_of bs) left (more refl))

-- the bytes of at most one line come before the remaining ones
begun : (hand left : List ℕ) → StopsAt hand 10 → TakesOne (lines_of (hand ++ left)) (lines_of left)
begun [] left one = inr ([], part_nil (lines_of left))
begun (b ∷ []) left one = begun_with b left (lines_of left) (b == 10) refl (λ _. refl) (λ _. inr ([], part_nil (lines_of left)))
begun (b ∷ c ∷ cs) left one =
    let all : All (λ x. x ≢ 10) (take (suc (length cs)) (b ∷ c ∷ cs)) = subst (λ n. All (λ x. x ≢ 10) (take n (b ∷ c ∷ cs))) (sub-one (suc (suc (length cs)))) one in
    let later : StopsAt (c ∷ cs) 10 = subst (λ n. All (λ x. x ≢ 10) (take n (c ∷ cs))) (sym (sub-one (suc (length cs)))) (λ k d lt. all (suc k) d (omega arith)) in
    begun_with b (c ∷ cs ++ left) (lines_of left) (b == 10) refl (λ is. absurd (all 0 0 (omega arith) (eqb-true b 10 is))) (λ _. begun (c ∷ cs) left later)

pub takes_one : (old new : Option (List ℕ)) → (part : List ℕ) × StopsAt part 10 × Consumes old new part → OfLines old new TakesOne
takes_one None new (part, one, is) = tt
takes_one (Some xs) None (part, one, is) = absurd is
takes_one (Some xs) (Some ys) (part, one, is) = subst (λ bytes. TakesOne (lines_of bytes) (lines_of ys)) (sym is) (begun part ys one)

-- one line was taken
pub taken_whole : (old new : Option (List ℕ)) (line : List ℕ) → OfLines old new (TakesLine line) → OfLines old new TakesOne
taken_whole None new line taken = tt
taken_whole (Some xs) None line taken = absurd taken
taken_whole (Some xs) (Some ys) line taken = inl (line, taken)
