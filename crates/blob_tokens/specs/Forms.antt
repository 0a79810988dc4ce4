-- Forms: parsers for the tokens of a line, first token first.
use Rattle.std.specs.Prelude.{ℕ, List, [], ◌∷◌, Option, Some, None, option_map, option_and_then, if◌then◌else◌}
use Rattle.std.specs.Result.{result_ok}
use Rattle.std.specs.Str.{bytes_eq}
use Rattle.blob_tokens.specs.Tokens.{bytes_of, is_empty, number_of, word_of}

-- the value of the first tokens and the remaining tokens, or None if they don't match the form
abbrev pub Form : Type 0 → Type 0
Form X = List (List ℕ) → Option (X × List (List ℕ))

-- one form, then another that may use its value
infixl 10 ◌>>=◌
abbrev pub ◌>>=◌ : {X Y : Type 0} → Form X → (X → Form Y) → Form Y
form >>= next = λ tokens. option_and_then (λ read. next read.0 read.1) (form tokens)

-- this value, without a token
abbrev pub gives : {X : Type 0} → X → Form X
gives x tokens = Some (x, tokens)

-- the same for a value that may be missing
abbrev pub gives_some : {X : Type 0} → Option X → Form X
gives_some found tokens = option_map (λ x. (x, tokens)) found

abbrev pub no_form : {X : Type 0} → Form X
no_form tokens = None

-- the next token, converted by `meaning`
abbrev pub token : {X : Type 0} → (List ℕ → Option X) → Form X
token meaning [] = None
token meaning (next ∷ tokens) = gives_some (meaning next) tokens

-- x if no token remains, otherwise the form
abbrev pub at_end : {X : Type 0} → X → Form X → Form X
at_end x form tokens = if is_empty tokens then Some (x, tokens) else form tokens

-- the form, after which no token may remain
abbrev pub whole : {X : Type 0} → Form X → List (List ℕ) → Option X
whole form tokens = option_and_then (λ read. if is_empty read.1 then Some read.0 else None) (form tokens)

-- the form of a word in a table, or else another one
abbrev pub form_in_table : {X : Type 0} → List (List ℕ × Form X) → Form X → List ℕ → Form X
form_in_table [] otherwise word = otherwise
form_in_table (row ∷ rows) otherwise word = if bytes_eq word row.0 then row.1 else form_in_table rows otherwise word

abbrev pub text : Form (List ℕ)
text = token Some

-- a word, then its form in a table
abbrev pub by_word : {X : Type 0} → List (List ℕ × Form X) → Form X
by_word rows [] = None
by_word rows (word ∷ tokens) = form_in_table rows no_form word tokens

abbrev pub hex : Form (List ℕ)
hex = token (λ next. result_ok (bytes_of next))

-- a name, if a token remains
abbrev pub name : Form (Option (List ℕ))
name = at_end None (do bytes ← hex; gives (Some bytes))

abbrev pub digits : Form ℕ
digits = token number_of

-- all remaining tokens, converted by `meaning`
abbrev pub all_tokens : {X : Type 0} → (List ℕ → Option X) → List (List ℕ) → Option (List X)
all_tokens meaning [] = Some []
all_tokens meaning (next ∷ tokens) = option_and_then (λ x. option_map (λ xs. x ∷ xs) (all_tokens meaning tokens)) (meaning next)

-- at least one word
abbrev pub words : Form (List ℕ)
words tokens = if is_empty tokens then None else option_map (λ read. (read, [])) (all_tokens word_of tokens)
