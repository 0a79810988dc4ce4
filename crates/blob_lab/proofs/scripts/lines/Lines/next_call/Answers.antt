use Rattle.std.proofs.Common.{rules, Err, ◌≡◌, ◌+◌, ℕ, List, refl, ap, ◌∙◌, sym, subst}
use Rattle.std.proofs.KnownBytes.{Keeps-trans}
use Rattle.blob_script.specs.Acts.{act_of}
use Rattle.blob_script.specs.Lines.{line_of}
use Rattle.blob_script.specs.Readers.{MakesCall, MakesNoCall, Refuses, has_begun, lines_read}
use Rattle.blob_lab.specs.ScriptReading.{OfLines, TakesBadCall, TakesLine}
use Rattle.blob_lab.specs.Streams.{reader_of}
use Rattle.blob_lab.proofs.ReaderSteps.{a_call, bad_call, in_hand, no_call, none_read, none_taken, so_far, still_read}
use Rattle.blob_lab.proofs.ScriptSteps.{line_part, lines_over}
use Rattle.blob_lab.proofs.StreamSteps.{tells_behind}
use Rattle.blob_lab.proofs.scripts.lines.Lines.next_call.Goals as goal

pub lines-init : goal.lines-init
lines-init g c = record {
  known = search rules;
  taken = λ s h. none_taken (g.R.Read.remaining (reader_of c.args.input.now)) c.args.self.now.reader s h;
  read = λ s h. none_read c.args.self.now.reader s h;
  begun = refl;
  sound = (refl, refl);
  written = search rules;
  fewer = search rules;
}

-- The next line wasn't read.

pub returns-in_err-next_line-clause-part : goal.returns-in_err-next_line-clause-part
returns-in_err-next_line-clause-part g c =
    let is : c.from_residual.result ≡ Err c.in_err-next_line.field-0.0 = search rules in
    let r = c.args.self.now.reader in
    rw is (λ s h.
    rw c.in_err-next_line.ensures.same (line_part s (so_far r c.lines.self.reader s) (lines_read r + 1) (lines_read c.lines.self.reader + 1)
    (g.R.Read.remaining (reader_of c.args.input.now)) (g.R.Read.remaining (reader_of c.lines.input)) (g.R.Read.remaining (reader_of c.next_line.new.input)) (c.lines.invariant.taken s h) c.in_err-next_line.ensures.part))

pub returns-in_err-next_line-clause-told : goal.returns-in_err-next_line-clause-told
returns-in_err-next_line-clause-told g c =
    let is : c.from_residual.result ≡ Err c.in_err-next_line.field-0.0 = search rules in
    rw is (tells_behind c.args.input.now c.lines.input c.next_line.new.input c.args.output.now c.lines.output c.next_line.new.output c.lines.invariant.sound c.in_err-next_line.field-0.0 c.in_err-next_line.ensures.told)

-- The end of the input.

pub returns-then-not-branch-clause-over : goal.returns-then-not-branch-clause-over
returns-then-not-branch-clause-over g c =
    let r = c.args.self.now.reader in λ s h.
    rw c.in_ok-next_line.ensures.same (lines_over s (so_far r c.lines.self.reader s) (lines_read r + 1) (lines_read c.lines.self.reader + 1)
    (g.R.Read.remaining (reader_of c.args.input.now)) (g.R.Read.remaining (reader_of c.lines.input)) (g.R.Read.remaining (reader_of c.next_line.new.input)) (c.lines.invariant.taken s h) (search rules))

-- A line was read.

pub returns-in-Ok-Some-clause-call : goal.returns-in-Ok-Some-clause-call
returns-in-Ok-Some-clause-call g c = λ s h.
    let m = c.next_line.new.self.reader in
    let line = c.as_slice.result.now in
    let b = g.R.Read.remaining (reader_of c.lines.input) in
    let d = g.R.Read.remaining (reader_of c.next_line.new.input) in
    let is : OfLines b d (TakesLine line) = subst (λ (l : List ℕ). OfLines b d (TakesLine l)) (sym c.as_slice.ensures.value) (search rules) in
    let makes : MakesCall m (line_of line) (act_of c.in-Ok-Some.call) c.read.new.self = search rules in
    a_call c.args.self.now.reader c.lines.self.reader m c.read.new.self c.in_ok-next_line.ensures.same s line (g.R.Read.remaining (reader_of c.args.input.now)) b d
    c.lines.invariant.begun (c.lines.invariant.taken s h) (c.lines.invariant.read s h) is c.read.ensures.number (act_of c.in-Ok-Some.call) makes

pub returns-in-Err-BadCall-clause-bad : goal.returns-in-Err-BadCall-clause-bad
returns-in-Err-BadCall-clause-bad g c = λ number e s h.
    let m = c.next_line.new.self.reader in
    let line = c.as_slice.result.now in
    let r'' = c.read.new.self in
    let b = g.R.Read.remaining (reader_of c.lines.input) in
    let d = g.R.Read.remaining (reader_of c.next_line.new.input) in
    let is : OfLines b d (TakesLine line) = subst (λ (l : List ℕ). OfLines b d (TakesLine l)) (sym c.as_slice.ensures.value) (search rules) in
    let refuses : Refuses m (line_of line) = c.in-Err-BadCall.ensures.bad (ap Err c.in-Err-BadCall.field-0-is) in
    let same : lines_read r'' ≡ number = sym c.number.ensures ∙ (cc e) in
    subst (λ (n : ℕ). OfLines (g.R.Read.remaining (reader_of c.args.input.now)) d (TakesBadCall s (so_far c.args.self.now.reader r'' s) (lines_read c.args.self.now.reader + 1) n)) same
    (bad_call c.args.self.now.reader c.lines.self.reader m r'' c.in_ok-next_line.ensures.same s line (g.R.Read.remaining (reader_of c.args.input.now)) b d
    c.lines.invariant.begun (c.lines.invariant.taken s h) (c.lines.invariant.read s h) is c.read.ensures.number refuses (search rules))

pub returns-in-Err-BadCall-clause-part : goal.returns-in-Err-BadCall-clause-part
returns-in-Err-BadCall-clause-part g c = λ s h.
    let b = g.R.Read.remaining (reader_of c.lines.input) in
    let d = g.R.Read.remaining (reader_of c.next_line.new.input) in
    let line = c.as_slice.result.now in
    let is : OfLines b d (TakesLine line) = subst (λ (l : List ℕ). OfLines b d (TakesLine l)) (sym c.as_slice.ensures.value) (search rules) in
    in_hand c.args.self.now.reader c.lines.self.reader c.next_line.new.self.reader c.read.new.self c.in_ok-next_line.ensures.same s line (g.R.Read.remaining (reader_of c.args.input.now)) b d
    c.lines.invariant.begun (c.lines.invariant.taken s h) (c.lines.invariant.read s h) is c.read.ensures.number (search rules)

pub returns-in-Err-NoMemory-clause-part : goal.returns-in-Err-NoMemory-clause-part
returns-in-Err-NoMemory-clause-part g c = λ s h.
    let b = g.R.Read.remaining (reader_of c.lines.input) in
    let d = g.R.Read.remaining (reader_of c.next_line.new.input) in
    let line = c.as_slice.result.now in
    let is : OfLines b d (TakesLine line) = subst (λ (l : List ℕ). OfLines b d (TakesLine l)) (sym c.as_slice.ensures.value) (search rules) in
    in_hand c.args.self.now.reader c.lines.self.reader c.next_line.new.self.reader c.read.new.self c.in_ok-next_line.ensures.same s line (g.R.Read.remaining (reader_of c.args.input.now)) b d
    c.lines.invariant.begun (c.lines.invariant.taken s h) (c.lines.invariant.read s h) is c.read.ensures.number (search rules)

pub lines-preserved : goal.lines-preserved
lines-preserved g c =
    let r = c.args.self.now.reader in
    let m = c.next_line.new.self.reader in
    let r'' = c.read.new.self in
    let line = c.as_slice.result.now in
    let b = g.R.Read.remaining (reader_of c.lines.input) in
    let d = g.R.Read.remaining (reader_of c.next_line.new.input) in
    let is : OfLines b d (TakesLine line) = subst (λ (l : List ℕ). OfLines b d (TakesLine l)) (sym c.as_slice.ensures.value) (search rules) in
    let makes : MakesNoCall m (line_of line) r'' = search rules in
    let told = c.in_ok-next_line.ensures.told in
    record {
      known = search rules;
      taken = λ s h. no_call r c.lines.self.reader m r'' c.in_ok-next_line.ensures.same s line (g.R.Read.remaining (reader_of c.args.input.now)) b d
          c.lines.invariant.begun (c.lines.invariant.taken s h) (c.lines.invariant.read s h) is c.read.ensures.number makes;
      read = λ s h. still_read r c.lines.self.reader m r'' c.in_ok-next_line.ensures.same s line (g.R.Read.remaining (reader_of c.args.input.now)) b d
          c.lines.invariant.begun (c.lines.invariant.taken s h) (c.lines.invariant.read s h) is c.read.ensures.number makes;
      begun = makes.begun ∙ ap has_begun c.in_ok-next_line.ensures.same ∙ c.lines.invariant.begun;
      sound = (told.0 ∙ c.lines.invariant.sound.0, told.1 ∙ c.lines.invariant.sound.1);
      written = Keeps-trans _ _ _ c.lines.invariant.written c.in_ok-next_line.ensures.kept;
      fewer = search rules;
    }
