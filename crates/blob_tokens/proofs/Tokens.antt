-- Splitting off tokens from the start of a line.
use Rattle.std.proofs.Common.{◌≡◌, ◌==◌, ℕ, ◌<◌, List, [], ◌∷◌, Bool, not, true, false, length, refl, sym, ap, ◌∙◌, arith, cond}
use Rattle.std.specs.List.{filter, slice_split, position_or_len, before_first, after_first}
use Rattle.std.proofs.lemmas.List.Splits.{slice_split_first, slice_split_none}
use Rattle.std.proofs.lemmas.List.Sums.{fails_before_first}
use Rattle.std.proofs.lemmas.List.Elements.{All-from_get_or}
use Rattle.blob_tokens.specs.Tokens.{is_empty, tokens}

abbrev pub is_space : ℕ → Bool
is_space byte = byte == 32

abbrev pub has_bytes : List ℕ → Bool
has_bytes bytes = not (is_empty bytes)

filter_cons : (t : List ℕ) (ts : List (List ℕ)) → filter has_bytes (t ∷ ts) ≡ cond (has_bytes t) (t ∷ filter has_bytes ts) (filter has_bytes ts)
filter_cons [] ts = refl
filter_cons (b ∷ bs) ts = refl

-- up to the first space
pub tokens_split : (s : List ℕ) → position_or_len is_space s < length s
    → tokens s ≡ cond (has_bytes (before_first is_space s)) (before_first is_space s ∷ tokens (after_first is_space s)) (tokens (after_first is_space s))
tokens_split s h = ap (filter has_bytes) (slice_split_first is_space s 0 h) ∙ filter_cons (before_first is_space s) (slice_split is_space (after_first is_space s))

-- without a space
pub tokens_none : (s : List ℕ) → position_or_len is_space s ≡ length s → tokens s ≡ cond (has_bytes s) (s ∷ []) []
tokens_none s h = ap (filter has_bytes) (slice_split_none is_space s (All-from_get_or (λ b. is_space b ≡ false) s 0 (λ i l. fails_before_first is_space s i 0 (omega arith)))) ∙ filter_cons s []

pub tokens_skip : (s t u : List ℕ) → position_or_len is_space s < length s → t ≡ before_first is_space s → u ≡ after_first is_space s → has_bytes t ≡ false → tokens s ≡ tokens u
tokens_skip s t u h e f n = tokens_split s h ∙ ap (λ b. cond b (before_first is_space s ∷ tokens (after_first is_space s)) (tokens (after_first is_space s))) (ap has_bytes (sym e) ∙ n) ∙ ap tokens (sym f)

pub tokens_take : (s t u : List ℕ) → position_or_len is_space s < length s → t ≡ before_first is_space s → u ≡ after_first is_space s → has_bytes t ≡ true → tokens s ≡ t ∷ tokens u
tokens_take s t u h e f y =
    tokens_split s h ∙ ap (λ b. cond b (before_first is_space s ∷ tokens (after_first is_space s)) (tokens (after_first is_space s))) (ap has_bytes (sym e) ∙ y)
    ∙ ap (λ w. w ∷ tokens (after_first is_space s)) (sym e) ∙ ap (λ w. t ∷ tokens w) (sym f)

pub empty_has_none : (t : List ℕ) → length t ≡ 0 → has_bytes t ≡ false
empty_has_none [] e = refl
empty_has_none (b ∷ bs) e = cc

pub nonempty_has : (t : List ℕ) → (length t ≡ 0 → ⊥) → has_bytes t ≡ true
nonempty_has [] e = absurd (e refl)
nonempty_has (b ∷ bs) e = refl
