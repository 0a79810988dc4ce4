use Rattle.blob_fs.proofs.States.{keeps_as, keeps_opened, keeps_twice}
use Rattle.std.proofs.Common.{refl}
use Rattle.blob_fs.proofs.Standing.{standing_store}
use Rattle.blob_fs.proofs.file_system.FileSystem.bytes_of.Goals as goal

pub returns-in_default : goal.returns-in_default
returns-in_default g c = keeps_as _ (keeps_twice c.begin_call.ensures.keeps c.draw_nothing.ensures) refl refl refl refl

pub returns-in_err-resize : goal.returns-in_err-resize
returns-in_err-resize g c = keeps_as _ (keeps_twice c.begin_call.ensures.keeps c.draw_nothing.ensures) refl refl refl refl

pub returns-then-len-eq0 : goal.returns-then-len-eq0
returns-then-len-eq0 g c = keeps_as _ (keeps_twice c.begin_call.ensures.keeps c.draw_nothing.ensures) refl refl refl refl

pub invariant_of-self-2 : goal.invariant_of-self-2
invariant_of-self-2 g c = standing_store c.draw_nothing.new.self c.read_into.new.store c.read_into.ensures.still c.read_into.ensures.keeps

pub returns-in_err-read_into : goal.returns-in_err-read_into
returns-in_err-read_into g c =
    keeps_opened _ (keeps_twice c.begin_call.ensures.keeps c.draw_nothing.ensures) refl refl refl c.read_into.ensures.keeps c.read_into.ensures.still

pub returns : goal.returns
returns g c =
    keeps_opened _ (keeps_twice c.begin_call.ensures.keeps c.draw_nothing.ensures) refl refl refl c.read_into.ensures.keeps c.read_into.ensures.still
