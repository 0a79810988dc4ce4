use Rattle.std.proofs.Common.{◌≡◌, length}
use Rattle.blob_tokens.specs.Forms.{all_tokens}
use Rattle.blob_tokens.specs.Tokens.{word_of}
use Rattle.blob_script.proofs.WordLists.{behind}
use Rattle.blob_script.proofs.script.line.words.Given as goal

abbrev pub invariant-loop-token : goal.invariant-loop-token
invariant-loop-token l = behind l.words.items (all_tokens word_of l.tokens) ≡ all_tokens word_of l.initial.tokens

abbrev pub decreases-loop-token : goal.decreases-loop-token
decreases-loop-token l = length l.tokens
