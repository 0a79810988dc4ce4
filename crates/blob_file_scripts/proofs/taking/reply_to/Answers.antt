use Rattle.std.proofs.Common.{rules, ◌≡◌, [], Some, string_bytes}
use Rattle.blob_tokens.specs.Tokens.{tokens}
use Rattle.blob_file_scripts.specs.CallLines.{said_by, said_of}
use Rattle.blob_file_scripts.proofs.TakenLines.{call_made}
use Rattle.blob_file_scripts.proofs.taking.reply_to.Goals as goal

pub returns-in-Some : goal.returns-in-Some
returns-in-Some c =
    let said = said_by c.in-Some.call in
    let is : said_of (tokens c.args.line.now) ≡ Some (Some said) = search rules in
    let none : string_bytes c.new-reply.result ≡ [] = search rules in
    call_made (tokens c.args.line.now) said c.args.files.now c.answer.new.files (string_bytes c.new-reply.result) (string_bytes c.answer.new.line) is none c.in_ok-answer-in-Some.ensures
