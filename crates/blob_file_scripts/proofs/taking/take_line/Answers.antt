use Rattle.std.proofs.Common.{rules, ◌≡◌, ◌∙◌, ℕ, List, Option, Some, ap, option_map, string_bytes, subst, String}
use Rattle.std.specs.Global.{Global}
use Rattle.blob_tokens.specs.Tokens.{tokens}
use Rattle.blob_file_scripts.specs.Takes.{DoesLine, IsCodeOf, with_reply}
use Rattle.blob_file_scripts.proofs.taking.take_line.Goals as goal

pub returns-in_ok-add_reply-in-Some : goal.returns-in_ok-add_reply-in-Some
returns-in_ok-add_reply-in-Some c =
    let code : List ℕ = c.without_comment-code.result.now in
    let whole : c.in-Ok.line.now ≡ c.args.line.now = search rules in
    let printed : string_bytes c.add_reply.new.text ≡ with_reply c.args.last (string_bytes c.args.text.now) (Some (string_bytes c.in-Some.reply)) =
    c.in_ok-add_reply-in-Some.ensures ∙ ap (λ (t : List ℕ). with_reply c.args.last (string_bytes c.args.text.now) (Some t)) c.as_str.ensures.value in
    record {
      code = code;
      is = subst (λ (l : List ℕ). IsCodeOf l code) whole c.without_comment-code.ensures;
      reply = Some (string_bytes c.in-Some.reply);
      does = subst (λ (r : Option (String Global)). DoesLine (tokens code) c.args.files.now c.reply_to.new.files (option_map string_bytes r)) c.in-Some.is c.in_ok-reply.ensures;
      prints = printed;
    }
