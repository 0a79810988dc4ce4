use Rattle.std.proofs.Common.{string_bytes}
use Rattle.blob_file_scripts.proofs.TakenLines.{first_more, none_taken}
use Rattle.blob_file_scripts.proofs.taking.take_first.Goals as goal

pub loop-taken-init : goal.loop-taken-init
loop-taken-init c = none_taken c.args.last c.args.script.now c.args.files.now (string_bytes c.args.text.now)

pub loop-taken-preserved : goal.loop-taken-preserved
loop-taken-preserved c =
    first_more c.args.last c.args.script.now c.loop-taken.rest.now c.in-Some.line.now c.in-Some.others.now c.args.files.now c.loop-taken.files c.take_numbered.new.files
    (string_bytes c.args.text.now) (string_bytes c.loop-taken.text) (string_bytes c.take_numbered.new.text) c.loop-taken.invariant c.in-Some.ensures.line c.in_ok-take_numbered.ensures
