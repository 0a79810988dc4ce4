use Rattle.std.proofs.Common.{rules, ◌≡◌, ◌+◌, ◌-◌, ◌^◌, ◌++◌, ◌∷◌, [], length, take, replicate}
use Rattle.blob_distinct.proofs.PathWords.{along}
use Rattle.blob_distinct.proofs.paths.words_along.Goals as goal

pub returns-clause-words : goal.returns-clause-words
returns-clause-words c =
    let words = c.in_ok-words.words.items in
    let len : c.in-Some.len ≡ length words + c.args.spare = search rules in
    let grown : c.resize.new.self.items ≡ take c.in-Some.len words ++ replicate (c.in-Some.len - length words) 0 = search rules in
    let all : c.push.new.self.items ≡ c.resize.new.self.items ++ (2 ^ 64 - 1) ∷ [] = search rules in
    along c.args.explorer.now c.args.spare c.in-Some.len words c.resize.new.self.items c.push.new.self.items c.in_ok-words.ensures len grown all
