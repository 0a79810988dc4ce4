use Rattle.std.proofs.Common.{◌≡◌, length}
use Rattle.blob_file_scripts.specs.PathTokens.{unescaped}
use Rattle.blob_file_scripts.proofs.Unescaping.{behind}
use Rattle.blob_file_scripts.proofs.path_text.unescape.Given as goal

-- the bytes so far, and those of what is left
abbrev pub invariant-loop-first : goal.invariant-loop-first
invariant-loop-first l = behind l.path.items (unescaped l.left) ≡ unescaped l.text

abbrev pub decreases-loop-first : goal.decreases-loop-first
decreases-loop-first l = length l.left
