use Rattle.std.proofs.Common.{refl}
use Rattle.blob_directory.specs.Paths.{path_names}
use Rattle.blob_fs.specs.Files.{names_of}
use Rattle.blob_fs.proofs.Walking.{leads_to, walk_begins, walked_more, walked_on}
use Rattle.blob_fs.proofs.file_system.FileSystem.directory_of.Goals as goal

pub loop-next-init : goal.loop-next-init
loop-next-init g c = walk_begins (names_of c.args.self.now) c.args.path.now (path_names c.args.path.now) refl

pub loop-next-preserved : goal.loop-next-preserved
loop-next-preserved g c =
    walked_more (names_of c.args.self.now) c.args.path.now c.loop-next.directory c.in_ok-directory.directory c.in-Some.next.0.now (path_names c.in-Some.next.1.now)
    (walked_on (names_of c.args.self.now) c.args.path.now c.loop-next.directory _ _ c.loop-next.invariant c.in-Some.ensures.names) c.in_ok-directory.ensures

pub returns : goal.returns
returns g c = leads_to (names_of c.args.self.now) c.args.path.now c.loop-next.directory (path_names c.loop-next.left.now) c.loop-next.invariant c.in_default.ensures.none
