use Rattle.std.proofs.Common.{◌≡◌, Some, rules}
use Rattle.blob_fs.specs.Acts.{Close, Open}
use Rattle.blob_fs.specs.declared.reply.Reply.TheVariants as replies
use Rattle.blob_file_scripts.specs.Answers.{Does, Opened}
use Rattle.blob_file_scripts.proofs.Answering.{map_ok}
use Rattle.blob_file_scripts.proofs.answers.on_path.Goals as goal

pub returns : goal.returns
returns c =
    let f = c.in-Some.file in
    let opened : c.make.new.self.last ≡ Some (replies.Opened f) = search rules in
    let opens : Does (Open c.args.path.now) c.args.files.now c.make.new.self = c.make.ensures.makes in
    let closes : Does (Close f) c.on_open-printed.new.files c.make-2.new.self = c.make-2.ensures.makes in
    map_ok c.on_open-printed.result (λ made. Opened f c.make.new.self c.on_open-printed.new.files opens opened made closes) c.on_open-printed.ensures
