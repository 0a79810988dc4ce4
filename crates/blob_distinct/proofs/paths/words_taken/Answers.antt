use Rattle.std.proofs.Common.{rules, ◌≡◌, ◌-◌, ◌++◌, length, take, replicate}
use Rattle.blob_distinct.proofs.PathWords.{extended}
use Rattle.blob_distinct.proofs.paths.words_taken.Goals as goal

pub returns : goal.returns
returns c =
    let words = c.in_ok-words.words.items in
    let grown : c.resize.new.self.items ≡ take c.args.taken words ++ replicate (c.args.taken - length words) 0 = search rules in
    extended c.args.taken c.args.explorer.now words c.resize.new.self.items c.in_ok-words.ensures grown
