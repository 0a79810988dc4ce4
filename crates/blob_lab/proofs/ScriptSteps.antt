-- The lines of a script, one after another: the script so far, and how one more line extends it.
use Rattle.std.proofs.Common.{◌≡◌, ℕ, ◌+◌, List, [], ◌∷◌, ◌++◌, Option, Some, None, option_and_then, length, refl, sym, ap, ◌∙◌, append_assoc, arith}
use Rattle.std.proofs.lemmas.List.{append-nil}
use Rattle.std.proofs.Math.ListN.{length-append}
use Rattle.std.specs.Io.Iter.{u64_saturate}
use Rattle.blob_draws.specs.declared.config.Config.{Config}
use Rattle.blob_script.specs.Acts.{Act}
use Rattle.blob_script.specs.Scripts.{with_call}
use Rattle.blob_lab.specs.ScriptReading.{OfLines, TakesLine, TakesOne, TakesCall, TakesBadCall, TakesPart}
use Rattle.blob_lab.specs.Scripts.{Script, lines_of, with_line, with_lines}

after_line : (o : Option Script) (f g : Script → Option Script) (t : Script) (r : Option Script) → ((u : Script) → f u ≡ Some t → g u ≡ r) → option_and_then f o ≡ Some t → option_and_then g o ≡ r
after_line None f g t r h e = absurd (cc)
after_line (Some u) f g t r h e = h u e

pub more_lines : (s t : Script) (front rest : List (List ℕ)) → with_lines s front ≡ Some t → with_lines s (front ++ rest) ≡ with_lines t rest
more_lines s t [] rest e = let same : s ≡ t = cc e in ap (λ u. with_lines u rest) same
more_lines s t (line ∷ lines) rest e = after_line (with_line s line) (λ u. with_lines u lines) (λ u. with_lines u (lines ++ rest)) t (with_lines t rest) (λ u. more_lines u t lines rest) e

pub one_line : (s : Script) (line : List ℕ) → with_lines s (line ∷ []) ≡ with_line s line
one_line s line = elim (with_line s line) as (λ o. option_and_then (λ t. Some t) o ≡ o) [ None ↦ refl | Some t ↦ refl ]

-- the lines so far extend s to t; the first has the number `first`, the next one `next`, unless numbers saturate
pub record TakesFront (s t : Script) (first next : ℕ) (lines rest : List (List ℕ)) : Type 0 where
  pub front : List (List ℕ)
  pub parts : lines ≡ front ++ rest
  pub makes : with_lines s front ≡ Some t
  pub counted : u64_saturate next ≡ u64_saturate (first + length front)

pub no_line : (old : Option (List ℕ)) (s : Script) (first : ℕ) → OfLines old old (TakesFront s s first first)
no_line None s first = tt
no_line (Some xs) s first = record { front = []; parts = refl; makes = refl; counted = ap u64_saturate (omega arith) }

-- one more line
module _ (s t : Script) (first n n' : ℕ) (line : List ℕ) where
  pub line_more : (old mid new : Option (List ℕ)) (u : Script) → OfLines old mid (TakesFront s t first (n + 1)) → OfLines mid new (TakesLine line) → with_line t line ≡ Some u
      → n' ≡ u64_saturate (n + 1) → OfLines old new (TakesFront s u first (n' + 1))
  line_more None mid new u taken is makes counted = tt
  line_more (Some xs) None new u taken is makes counted = absurd taken
  line_more (Some xs) (Some ys) None u taken is makes counted = absurd is
  line_more (Some xs) (Some ys) (Some zs) u taken is makes counted = record {
    front = taken.front ++ line ∷ [];
    parts = taken.parts ∙ ap (λ l. taken.front ++ l) is ∙ sym (append_assoc taken.front (line ∷ []) (lines_of zs));
    makes = more_lines s t taken.front (line ∷ []) taken.makes ∙ one_line t line ∙ makes;
    counted = rw (length-append taken.front (line ∷ [])) (omega (arith, taken.counted));
  }

  pub line_call : (old mid new : Option (List ℕ)) (act : Act) (config : Config) → OfLines old mid (TakesFront s t first (n + 1)) → OfLines mid new (TakesLine line)
      → with_line t line ≡ Some (with_call (record t { config = config }) act) → n' ≡ u64_saturate (n + 1) → OfLines old new (TakesCall s t first n' act config)
  line_call None mid new act config taken is makes counted = tt
  line_call (Some xs) None new act config taken is makes counted = absurd taken
  line_call (Some xs) (Some ys) None act config taken is makes counted = absurd is
  line_call (Some xs) (Some ys) (Some zs) act config taken is makes counted = record {
    front = taken.front;
    line = line;
    parts = taken.parts ∙ ap (λ l. taken.front ++ l) is;
    makes = taken.makes;
    adds = makes;
    numbered = counted ∙ taken.counted;
  }

  pub line_bad : (old mid new : Option (List ℕ)) → OfLines old mid (TakesFront s t first (n + 1)) → OfLines mid new (TakesLine line) → with_line t line ≡ None
      → n' ≡ u64_saturate (n + 1) → OfLines old new (TakesBadCall s t first n')
  line_bad None mid new taken is refused counted = tt
  line_bad (Some xs) None new taken is refused counted = absurd taken
  line_bad (Some xs) (Some ys) None taken is refused counted = absurd is
  line_bad (Some xs) (Some ys) (Some zs) taken is refused counted = record {
    front = taken.front;
    bad = line;
    parts = taken.parts ∙ ap (λ l. taken.front ++ l) is;
    makes = taken.makes;
    refused = refused;
    numbered = counted ∙ taken.counted;
  }

pub lines_over : (s t : Script) (first next : ℕ) (old mid new : Option (List ℕ)) → OfLines old mid (TakesFront s t first next) → OfLines mid new (λ lines _. lines ≡ []) → OfLines old new (λ lines _. with_lines s lines ≡ Some t)
lines_over s t first next None mid new taken over = tt
lines_over s t first next (Some xs) None new taken over = absurd taken
lines_over s t first next (Some xs) (Some ys) None taken over = absurd over
lines_over s t first next (Some xs) (Some ys) (Some zs) taken over = ap (with_lines s) (taken.parts ∙ ap (λ l. taken.front ++ l) over ∙ append-nil taken.front) ∙ taken.makes

-- a part of a line, after the lines so far
pub line_part : (s t : Script) (first next : ℕ) (old mid new : Option (List ℕ)) → OfLines old mid (TakesFront s t first next) → OfLines mid new TakesOne → OfLines old new (TakesPart s t)
line_part s t first next None mid new taken one = tt
line_part s t first next (Some xs) None new taken one = absurd taken
line_part s t first next (Some xs) (Some ys) None taken one = absurd one
line_part s t first next (Some xs) (Some ys) (Some zs) taken one = record { front = taken.front; rest = lines_of ys; parts = taken.parts; makes = taken.makes; in_hand = one }
