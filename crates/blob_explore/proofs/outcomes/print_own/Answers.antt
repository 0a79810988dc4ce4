use Rattle.std.proofs.Common.{rules, arith, ◌≡◌, ◌<◌, ◌++◌, true, length, sym, ap, ◌∙◌, subst, string_bytes}
use Rattle.std.proofs.lemmas.Result.{IfOk-weaker}
use Rattle.blob_explore.specs.Outcomes.{replies_text, reply_lines, shared_text}
use Rattle.blob_explore.proofs.LastReply.{last_own}
use Rattle.blob_explore.proofs.outcomes.print_own.Goals as goal

pub returns-else-is_empty-clause-ok : goal.returns-else-is_empty-clause-ok
returns-else-is_empty-clause-ok c =
    let shared = c.args.shared.now in
    let own = c.args.replies.now in
    let some : 0 < length own = search (rules, arith) in
    let only : c.args.last ≡ true = search rules in
    IfOk-weaker c.print_lines-else-is_empty.result _ _ (λ text is.
    subst (λ last. replies_text last (shared ++ own) ≡ shared_text last shared ++ string_bytes text) (sym only)
    (last_own shared own some ∙ ap reply_lines (sym c.last_of-else-is_empty.ensures) ∙ sym is))
    c.print_lines-else-is_empty.ensures.ok
