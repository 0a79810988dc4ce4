use Rattle.std.proofs.Common.{◌≡◌, ◌∷◌, false, true, rules}
use Rattle.blob_file_scripts.specs.PathTokens.{StartsEscaped}
use Rattle.blob_file_sessions.specs.PathTokens.{is_plain}
use Rattle.blob_file_scripts.proofs.Unescaping.{reads_escape, reads_plain}
use Rattle.blob_file_scripts.proofs.path_text.unescape.Goals as goal

pub loop-first-preserved-then-is_plain : goal.loop-first-preserved-then-is_plain
loop-first-preserved-then-is_plain c =
    let is : c.loop-first.left.now ≡ c.in-Some.first.now ∷ c.in-Some.rest.now = search rules in
    let here : is_plain c.in-Some.first.now ≡ true = cc in
    reads_plain c.loop-first.path.items c.loop-first.left.now c.args.text.now c.push.new.self.items c.in-Some.first.now c.in-Some.rest.now is here (search rules) c.loop-first.invariant

pub loop-first-preserved : goal.loop-first-preserved
loop-first-preserved c =
    let is : c.loop-first.left.now ≡ c.in-Some.first.now ∷ c.in-Some.rest.now = search rules in
    let here : is_plain c.in-Some.first.now ≡ false = cc in
    let starts : StartsEscaped c.loop-first.left.now c.in_ok-byte.byte c.in_ok-byte.rest.now = search rules in
    reads_escape c.loop-first.path.items c.loop-first.left.now c.args.text.now c.push-else-is_plain.new.self.items c.in-Some.first.now c.in-Some.rest.now c.in_ok-byte.byte c.in_ok-byte.rest.now is here starts (search rules) c.loop-first.invariant
