-- The meaning of a line, step by step.
use Rattle.std.proofs.Common.{◌≡◌, ◌==◌, ℕ, List, [], ◌∷◌, Bool, true, false, Option, Some, None, if◌then◌else◌, slice_index, refl, sym, ap, ◌∙◌, cond, option_and_then, IsUtf8}
use Rattle.std.specs.Str.{is_utf8, byte}
use Rattle.std.proofs.lemmas.Str.{is_utf8-from_IsUtf8, IsUtf8-from_is_utf8}
use Rattle.blob_script.specs.Acts.{Act}
use Rattle.blob_script.specs.CallLines.{call}
use Rattle.blob_tokens.specs.Forms.{◌>>=◌, gives}
use Rattle.blob_script.specs.Lines.{Said, Blank, Call, said_of, line_of, statement}
use Rattle.blob_tokens.specs.Tokens.{is_empty, tokens}

abbrev pub is_comment : List ℕ → Bool
is_comment word = slice_index word 0 == byte "#"

abbrev pub unless_left : {X : Type 0} → X → List (List ℕ) → Option X
unless_left x tokens = if is_empty tokens then Some x else None

pub not_ended : {X : Type 0} (x : X) (tokens : List (List ℕ)) → (tokens ≡ [] → ⊥) → unless_left x tokens ≡ None
not_ended x [] some = absurd (some refl)
not_ended x (token ∷ tokens) some = refl

false_of : (test : Bool) → (test ≡ true → ⊥) → test ≡ false
false_of true h = absurd (h refl)
false_of false h = refl

pub line_no_text : (line : List ℕ) → (IsUtf8 line → ⊥) → line_of line ≡ None
line_no_text line h = ap (λ b. cond b (said_of (tokens line)) None) (false_of (is_utf8 line) (λ e. h (IsUtf8-from_is_utf8 line e)))

-- a text line, by its tokens
pub line_said : (line text : List ℕ) (read : List (List ℕ)) → IsUtf8 line → text ≡ line → read ≡ tokens text → line_of line ≡ said_of read
line_said line text read utf8 same all =
    ap (λ b. cond b (said_of (tokens line)) None) (is_utf8-from_IsUtf8 line utf8)
    ∙ ap (λ t. said_of (tokens t)) (sym same) ∙ ap said_of (sym all)

pub said_comment : (word : List ℕ) (rest : List (List ℕ)) → is_comment word ≡ true → said_of (word ∷ rest) ≡ Some Blank
said_comment word rest h = ap (λ b. cond b (Some Blank) (option_and_then (λ read. unless_left read.0 read.1) (statement word rest))) h

pub said_statement : (word : List ℕ) (rest : List (List ℕ)) (said : Said) (left : List (List ℕ)) → is_comment word ≡ false
    → statement word rest ≡ Some (said, left) → said_of (word ∷ rest) ≡ unless_left said left
said_statement word rest said left h read =
    ap (λ b. cond b (Some Blank) (option_and_then (λ read. unless_left read.0 read.1) (statement word rest))) h
    ∙ ap (option_and_then (λ read. unless_left read.0 read.1)) read

-- a line with a call
pub call_said : (word : List ℕ) (tokens : List (List ℕ)) (act : Act) (rest : List (List ℕ)) → call word tokens ≡ Some (act, rest)
    → (do asked ← call word; gives (Call asked)) tokens ≡ Some (Call act, rest)
call_said word tokens act rest is = ap (option_and_then (λ (read : Act × List (List ℕ)). Some (Call read.0, read.1))) is
