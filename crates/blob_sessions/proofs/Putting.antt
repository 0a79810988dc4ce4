-- Texts put one after another.
use Rattle.std.proofs.Common.{rules, Bool, map, if◌then◌else◌, ◌≡◌, ◌+◌, ◌-◌, ◌<◌, ◌≤◌, ◌^◌, ℕ, List, [], ◌∷◌, ◌++◌, Option, Some, None, Vec, length, take, drop, get_or, refl, sym, ap, ◌∙◌, subst, arith, append_assoc}
use Rattle.std.specs.Fmt.{decimal}
use Rattle.std.specs.Global.{Global}
use Rattle.std.specs.List.{flat_map}
use Rattle.std.specs.Prelude.{codes}
use Rattle.std.proofs.lemmas.List.{length-append, append-nil, drop-drop, take_more, places}
use Rattle.std.proofs.lemmas.List.Concat.{flat_map-append, flat_map_single}
use Rattle.std.proofs.lemmas.List.Folds.{flat_map-map, length-flat_map-take}
use Rattle.std.proofs.lemmas.Slice.{take-put_mid, drop-put_mid}
use borrow.Rule.Slice.PartMut.{put_mid, same_len_mid}
use Rattle.hex.specs.Hex.{encode_lower, lower_digits}
use Rattle.hex.proofs.HexLemmas.{length-encode_with}
use Rattle.blob_script.proofs.HexFields.{none, some}
use Rattle.blob_script.specs.Replies.{hex_field, reply_line, row_field}
use Rattle.blob_script.specs.declared.reply.Reply.{Reply}
use Rattle.blob_script.specs.declared.reply.Reply.TheVariants.{Crashed}
use Rattle.blob_draws.specs.Rows.{row_in, rows_of, table_of}
use Rattle.blob_draws.specs.declared.selections.Selections.{Selections}
use Rattle.blob_sessions.specs.ReplyTexts.{Puts, PutsTo}

drop_further : (m e : ℕ) (xs ys : List ℕ) → m ≤ e → drop m xs ≡ drop m ys → drop e xs ≡ drop e ys
drop_further m e xs ys le same =
    let is : m + (e - m) ≡ e = omega (arith, le) in
    ap (λ k. drop k xs) (sym is) ∙ sym (drop-drop (e - m) m xs) ∙ ap (drop (e - m)) same ∙ drop-drop (e - m) m ys ∙ ap (λ k. drop k ys) is

-- nothing is put
pub puts_nothing : (at : ℕ) (room : List ℕ) → PutsTo at [] room room at
puts_nothing at room = record {
  ends = omega arith;
  len = refl;
  written = λ h. sym (append-nil (take at room));
  behind = λ h. refl;
}

-- one text after another
pub puts_both : (at : ℕ) (a b old mid new : List ℕ) (m e : ℕ) → PutsTo at a old mid m → PutsTo m b mid new e → PutsTo at (a ++ b) old new e
puts_both at a b old mid new m e p q =
    let sum = length-append a b in let pe = p.ends in let qe = q.ends in let pl = p.len in
    record {
      ends = omega (arith, pe, qe, sum);
      len = q.len ∙ p.len;
      written = λ h. q.written (omega (arith, pl, h)) ∙ ap (λ xs. xs ++ b) (p.written (omega (arith, qe, h))) ∙ append_assoc (take at old) a b;
      behind = λ h. q.behind (omega (arith, pl, h)) ∙ drop_further m e mid old (omega (arith, qe)) (p.behind (omega (arith, qe, h)));
    }

-- the second one, whatever it returns
pub puts_then : (at : ℕ) (a b old mid new : List ℕ) (m : ℕ) (result : Option ℕ) → PutsTo at a old mid m → Puts m b mid new result → Puts at (a ++ b) old new result
puts_then at a b old mid new m None p q = let sum = length-append a b in let pe = p.ends in omega (arith, q, pe, sum)
puts_then at a b old mid new m (Some e) p q = puts_both at a b old mid new m e p q

-- the first one overflowed
pub overflows_first : (at : ℕ) (a b old mid new : List ℕ) → 2 ^ 64 ≤ at + length a → Puts at (a ++ b) old new None
overflows_first at a b old mid new h = let sum = length-append a b in omega (arith, h, sum)

-- the text of one more element
pub puts_one_more : {X : Type 0} (f : X → List ℕ) (xs : List X) (i : ℕ) (d : X) (at : ℕ) (old mid new : List ℕ) (m e : ℕ) → i < length xs
    → PutsTo at (flat_map f (take i xs)) old mid m → PutsTo m (f (get_or xs i d)) mid new e → PutsTo at (flat_map f (take (i + 1) xs)) old new e
puts_one_more f xs i d at old mid new m e lt p q =
    let x = get_or xs i d in
    let text : flat_map f (take (i + 1) xs) ≡ flat_map f (take i xs) ++ f x =
    ap (flat_map f) (take_more xs i d lt) ∙ flat_map-append f (take i xs) (x ∷ []) ∙ ap (λ ys. flat_map f (take i xs) ++ ys) (append-nil (f x)) in
    subst (λ t. PutsTo at t old new e) (sym text) (puts_both at (flat_map f (take i xs)) (f x) old mid new m e p q)

-- the text of an element overflowed, and so does that of all
pub overflows_at : {X : Type 0} (f : X → List ℕ) (xs : List X) (i : ℕ) (d : X) (at : ℕ) (old mid : List ℕ) (m : ℕ) → i < length xs
    → PutsTo at (flat_map f (take i xs)) old mid m → 2 ^ 64 ≤ m + length (f (get_or xs i d)) → 2 ^ 64 ≤ at + length (flat_map f xs)
overflows_at f xs i d at old mid m lt p h =
    let all = length-flat_map-take f xs i d lt in let pe = p.ends in omega (arith, all, pe, h)

-- a text that was copied into the middle
pub puts_mid : (at : ℕ) (text old : List ℕ) (e : ℕ) → e ≡ at + length text → e ≤ length old → PutsTo at text old (put_mid at (e - at) old text) e
puts_mid at text old e ends fits = record {
  ends = ends;
  len = same_len_mid at (e - at) old text (search (rules, places, ends, fits));
  written = λ h. take-put_mid at (e - at) old text e ends (omega (arith, ends, fits));
  behind = λ h. drop-put_mid at (e - at) old text e (omega (arith, ends)) (omega (arith, ends, fits)) (omega (arith, ends));
}

-- it doesn't fit
pub puts_too_long : (at : ℕ) (text old : List ℕ) (e : ℕ) → e ≡ at + length text → length old < e → PutsTo at text old old e
puts_too_long at text old e ends long = record {
  ends = ends;
  len = refl;
  written = λ h. absurd (omega (arith, long, h));
  behind = λ h. refl;
}

pub puts_copied : (at : ℕ) (text copy old : List ℕ) (e : ℕ) → copy ≡ text → e ≡ at + length text → e ≤ length old → PutsTo at text old (put_mid at (e - at) old copy) e
puts_copied at text copy old e same ends fits = subst (λ c. PutsTo at text old (put_mid at (e - at) old c) e) (sym same) (puts_mid at text old e ends fits)

pub digits_len : (bytes : List ℕ) → length (encode_lower bytes) ≡ length bytes + length bytes
digits_len bytes = let e = length-encode_with lower_digits bytes in omega (arith, e)

-- the same for an item that was read apart
pub puts_item : {X : Type 0} (f : X → List ℕ) (xs : List X) (i : ℕ) (x : X) (text : List ℕ) (at : ℕ) (old mid new : List ℕ) (m e : ℕ) → i < length xs → x ≡ get_or xs i x → text ≡ f x
    → PutsTo at (flat_map f (take i xs)) old mid m → PutsTo m text mid new e → PutsTo at (flat_map f (take (i + 1) xs)) old new e
puts_item f xs i x text at old mid new m e lt is reads p q =
    puts_one_more f xs i x at old mid new m e lt p (subst (λ t. PutsTo m t mid new e) (reads ∙ ap f is) q)

pub overflows_at_item : {X : Type 0} (f : X → List ℕ) (xs : List X) (i : ℕ) (x : X) (text : List ℕ) (at : ℕ) (old mid : List ℕ) (m : ℕ) → i < length xs → x ≡ get_or xs i x → text ≡ f x
    → PutsTo at (flat_map f (take i xs)) old mid m → 2 ^ 64 ≤ m + length text → 2 ^ 64 ≤ at + length (flat_map f xs)
overflows_at_item f xs i x text at old mid m lt is reads p h =
    overflows_at f xs i x at old mid m lt p (let same : length text ≡ length (f (get_or xs i x)) = ap length (reads ∙ ap f is) in omega (arith, h, same))

-- a row: its number, and its choices
pub puts_row : (at number : ℕ) (choices : List Bool) (front old mid new : List ℕ) (m : ℕ) (result : Option ℕ) → front ≡ 32 ∷ (decimal number ++ 58 ∷ [])
    → PutsTo at front old mid m → Puts m (flat_map (λ kept. (if kept then 49 else 48) ∷ []) choices) mid new result → Puts at (row_field (number, choices)) old new result
puts_row at number choices front old mid new m result is p q =
    let text : front ++ flat_map (λ kept. (if kept then 49 else 48) ∷ []) choices ≡ row_field (number, choices) =
    ap (λ xs. front ++ xs) (flat_map_single (λ kept. if kept then 49 else 48) choices) ∙ ap (λ xs. xs ++ map (λ kept. if kept then 49 else 48) choices) is in
    subst (λ t. Puts at t old new result) text (puts_then at front (flat_map (λ kept. (if kept then 49 else 48) ∷ []) choices) old mid new m result p q)

-- bytes as a field, by whether there are any
pub no_digits : (bytes : List ℕ) → length bytes ≡ 0 → hex_field bytes ≡ codes "-"
no_digits bytes h = none bytes h

pub some_digits : (bytes : List ℕ) → (length bytes ≡ 0 → ⊥) → hex_field bytes ≡ encode_lower bytes
some_digits bytes h = some bytes h

-- the line of a crash
pub puts_crashed : (reply : Reply) (selections : Selections) (rows : List (ℕ × Vec Bool Global)) (old mid new : List ℕ) (m : ℕ) (result : Option ℕ) → reply ≡ Crashed selections → rows ≡ rows_of selections
    → PutsTo 0 (codes "crashed") old mid m → Puts m (flat_map (λ row. row_field (row_in row)) rows) mid new result → Puts 0 (reply_line reply) old new result
puts_crashed reply selections rows old mid new m result is same p q =
    let text : flat_map (λ row. row_field (row_in row)) rows ≡ flat_map row_field (table_of selections) = sym (flat_map-map row_field row_in rows) ∙ ap (λ rs. flat_map row_field (map row_in rs)) same in
    subst (λ r. Puts 0 (reply_line r) old new result) (sym is)
    (puts_then 0 (codes "crashed") (flat_map row_field (table_of selections)) old mid new m result p (subst (λ t. Puts m t mid new result) text q))
