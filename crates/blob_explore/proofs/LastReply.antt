-- The text of the last reply of a run.
use Rattle.std.proofs.Common.{◌≡◌, ◌<◌, ◌+◌, ◌-◌, ℕ, arith, true, List, ◌++◌, drop, length, ap, ◌∙◌}
use Rattle.std.proofs.lemmas.List.{length-append}
use Rattle.std.proofs.Math.Seq.{drop-append-add}
use Rattle.blob_script.specs.declared.reply.Reply.{Reply}
use Rattle.blob_explore.specs.Outcomes.{replies_text, reply_lines}

pub last_own : (shared own : List Reply) → 0 < length own → replies_text true (shared ++ own) ≡ reply_lines (drop (length own - 1) own)
last_own shared own some =
    let at : length (shared ++ own) - 1 ≡ length shared + (length own - 1) = omega (arith, some, length-append shared own) in
    ap (λ (n : ℕ). reply_lines (drop n (shared ++ own))) at ∙ ap reply_lines (drop-append-add shared own (length own - 1))
