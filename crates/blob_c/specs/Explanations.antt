-- What is written of a whole script that is explained.
use Rattle.std.specs.Prelude.{◌≡◌, ◌⊎◌, ℕ, List, [], Some, length}
use Rattle.blob_explain.specs.Explanations.{ExplainsBefore, ExplainsScript}

-- these bytes are a script, and this explains its output
abbrev pub ExplainsWhole : List ℕ → List ℕ → Type 0
ExplainsWhole script text = ExplainsScript script (Some []) (Some text)

-- this explains the output of the lines before the bad line of this number
abbrev pub ExplainsUntil : List ℕ → ℕ → List ℕ → Type 0
ExplainsUntil script line text = ExplainsBefore line script (Some []) (Some text)

-- of the whole script, with 0 for a line, or before the bad line of this number
abbrev pub RunExplains : List ℕ → ℕ → List ℕ → Type 0
RunExplains script line text = ((line ≡ 0) × ExplainsWhole script text) ⊎ ExplainsUntil script line text

-- the explanation has `len` bytes
abbrev pub NeedsRoom : List ℕ → ℕ → ℕ → Type 0
NeedsRoom script line len = (text : List ℕ) × RunExplains script line text × (length text ≡ len)
