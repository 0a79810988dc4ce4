use Rattle.std.proofs.Common.{refl, arith, sym}
use Rattle.blob_fs.proofs.Below.{above_next, above_none, above_root, none_at_all, none_next}
use Rattle.blob_fs.proofs.file_system.FileSystem.check_not_below.Goals as goal

pub loop-init : goal.loop-init
loop-init g c = record { here = refl; none = λ steps low e. absurd (omega (arith, low)) }

pub loop-preserved : goal.loop-preserved
loop-preserved g c =
    let map = c.args.self.now.directories in
    let loop = c.loop.invariant in
    record {
      here = above_next map c.args.inode c.args.directory c.loop.counter c.loop.at c.in-Some.above.now loop.here (sym c.in-Some.ensures.value) c.if-above-eq-ROOT.false;
      none = none_next map c.args.inode c.args.directory c.loop.counter c.loop.at loop.none loop.here c.if-at-inode.false;
    }

pub returns-in_default : goal.returns-in_default
returns-in_default g c = λ steps _.
    let map = c.args.self.now.directories in
    let loop = c.loop.invariant in
    none_at_all map c.args.inode c.args.directory c.loop.counter c.loop.at loop.none loop.here c.if-at-inode.false
    (above_none map c.args.inode c.args.directory c.loop.counter c.loop.at loop.here (sym c.in_default.ensures.value)) steps

pub returns-then-above-eq-ROOT : goal.returns-then-above-eq-ROOT
returns-then-above-eq-ROOT g c = λ steps _.
    let map = c.args.self.now.directories in
    let loop = c.loop.invariant in
    none_at_all map c.args.inode c.args.directory c.loop.counter c.loop.at loop.none loop.here c.if-at-inode.false
    (above_root map c.args.inode c.args.directory c.loop.counter c.loop.at c.in-Some.above.now loop.here (sym c.in-Some.ensures.value) c.if-above-eq-ROOT.true) steps
