-- The words of a line, read one by one.
use Rattle.std.proofs.Common.{◌≡◌, ℕ, List, [], ◌∷◌, ◌++◌, length, Option, Some, None, option_map, refl, sym, ap, ◌∙◌, append-nil}
use Rattle.std.specs.Option.{option_and_then}
use Rattle.blob_tokens.specs.Forms.{all_tokens, words}
use Rattle.blob_tokens.specs.Tokens.{word_of}

-- words already parsed, then the rest
abbrev pub behind : List ℕ → Option (List ℕ) → Option (List ℕ)
behind front rest = option_map (λ ws. front ++ ws) rest

-- a token that isn't a word
pub words_stop : (front : List ℕ) (token : List ℕ) (tokens : List (List ℕ)) → word_of token ≡ None → behind front (all_tokens word_of (token ∷ tokens)) ≡ None
words_stop front token tokens is = ap (λ found. behind front (option_and_then (λ w. option_map (λ ws. w ∷ ws) (all_tokens word_of tokens)) found)) is

pub words_bad : (tokens : List (List ℕ)) → all_tokens word_of tokens ≡ None → words tokens ≡ None
words_bad [] none = refl
words_bad (token ∷ tokens) none = ap (option_map (λ read. (read, []))) none

not_empty : (word : ℕ) (rest : Option (List ℕ)) → option_map (λ ws. word ∷ ws) rest ≡ Some [] → ⊥
not_empty word None is = cc
not_empty word (Some ws) is = cc

not_empty_of : (found : Option ℕ) (rest : Option (List ℕ)) → option_and_then (λ w. option_map (λ ws. w ∷ ws) rest) found ≡ Some [] → ⊥
not_empty_of None rest is = cc
not_empty_of (Some word) rest is = not_empty word rest is

pub words_missing : (tokens : List (List ℕ)) → all_tokens word_of tokens ≡ Some [] → words tokens ≡ None
words_missing [] none = refl
words_missing (token ∷ tokens) none = absurd (not_empty_of (word_of token) (all_tokens word_of tokens) none)

pub words_all : (tokens : List (List ℕ)) (read : List ℕ) → all_tokens word_of tokens ≡ Some read → (length read ≡ 0 → ⊥) → words tokens ≡ Some (read, [])
words_all [] read all some = absurd (some (cc))
words_all (token ∷ tokens) read all some = ap (option_map (λ ws. (ws, []))) all

-- the end of the words
pub words_end : (front : List ℕ) (found : Option (List ℕ)) → behind front (Some []) ≡ found → found ≡ Some front
words_end front found is = sym is ∙ ap Some (append-nil front)
