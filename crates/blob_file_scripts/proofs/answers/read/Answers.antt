use Rattle.std.proofs.Common.{◌≡◌, ◌-◌, arith, length, min, rules, Some}
use Rattle.std.proofs.lemmas.Grind.{common_steps}
use Rattle.blob_fs.specs.Acts.{Size}
use Rattle.blob_fs.specs.declared.reply.Reply.TheVariants as replies
use Rattle.blob_file_scripts.specs.Answers.{Does, Done, Refused}
use Rattle.blob_file_scripts.proofs.Answering.{does_read_at, map_ok}
use Rattle.blob_file_scripts.proofs.answers.read.Goals as goal

pub returns-in_default-last_size : goal.returns-in_default-last_size
returns-in_default-last_size c =
    let size = c.in-Some.size in
    let asks : Does (Size c.args.file) c.args.files.now c.make.new.self = c.make.ensures.makes in
    let asked : c.make.new.self.last ≡ Some (replies.Size size) = search rules in
    let most : length c.deref_mut.result.now ≡ min c.args.len (size - c.args.offset) = grind (arith, common_steps) in
    let does = does_read_at c.args.file c.number.result c.args.offset (length c.deref_mut.result.now) (min c.args.len (size - c.args.offset)) c.make.new.self c.read.new.self c.read.result (search rules) most c.read.ensures.reads in
    map_ok c.print_last-in_default-last_size.result (λ prints. Refused c.make.new.self size asks asked (record { does = does; prints = prints })) c.print_last-in_default-last_size.ensures

pub returns : goal.returns
returns c =
    let size = c.in-Some.size in
    let asks : Does (Size c.args.file) c.args.files.now c.make.new.self = c.make.ensures.makes in
    let asked : c.make.new.self.last ≡ Some (replies.Size size) = search rules in
    let most : length c.deref_mut.result.now ≡ min c.args.len (size - c.args.offset) = grind (arith, common_steps) in
    let does = does_read_at c.args.file c.number.result c.args.offset (length c.deref_mut.result.now) (min c.args.len (size - c.args.offset)) c.make.new.self c.read.new.self c.read.result (search rules) most c.read.ensures.reads in
    let last : c.read.new.self.last ≡ Some (replies.Size c.in-Some-last_size.count) = search rules in
    let len : length c.deref.result.now ≡ min c.in-Some-last_size.count (min c.args.len (size - c.args.offset)) = grind (arith, common_steps) in
    map_ok c.print_hex.result (λ printed. Done c.make.new.self size asks asked does (record { bytes = c.deref.result.now; count = c.in-Some-last_size.count; read = last; len = len; is = grind (arith, common_steps) })) c.print_hex.ensures
