use Rattle.std.proofs.Common.{◌≡◌, ◌∙◌, ℕ, List, Ok, IfSome, sym, ap, subst}
use Rattle.std.specs.Io.BufRead.{first_piece}
use Rattle.blob_lab.specs.ResolveReplies.{by_refusal, resolution_line}
use Rattle.blob_lab.specs.Streams.{reader_of, writer_of}
use Rattle.blob_lab.proofs.ResolvedLines.{is_reply, replied, replied_line}
use Rattle.blob_lab.proofs.resolutions.resolving.resolve_line.Goals as goal

pub returns-clause-replied : goal.returns-clause-replied
returns-clause-replied g c =
    let input = g.R.Read.remaining (reader_of c.args.input.now) in
    let w0 = g.W.Write.contents (writer_of c.args.output.now) in
    let w1 = g.W.Write.contents (writer_of c.read_line.new.output) in
    let w2 = g.W.Write.contents (writer_of c.write_line.new.self) in
    let w3 = g.W.Write.contents (writer_of c.flush.new.self) in
    let line = c.as_slice.result.now in
    let image = c.as_slice-2.result.now in
    let answer = c.resolved-answer.result in
    replied c.flush.result input line w0 w3 (subst (λ (l : List ℕ). IfSome input (λ bytes. l ≡ first_piece 10 bytes)) (sym c.as_slice.ensures.value) c.in_ok-line.ensures.line)
    (replied_line line image (resolution_line (by_refusal answer)) w0 w1 w2 w3 (c.in_ok-image.ensures.bytes ∙ ap Ok (sym c.as_slice-2.ensures.value)) (is_reply answer image c.resolved-answer.ensures)
    c.read_line.ensures.kept c.in_ok-write_line.ensures.written c.flush.ensures.kept)
