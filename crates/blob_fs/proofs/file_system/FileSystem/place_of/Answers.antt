use Rattle.std.proofs.Common.{◌∷◌}
use Rattle.blob_directory.specs.Paths.{path_names}
use Rattle.blob_fs.specs.Files.{names_of}
use Rattle.blob_fs.proofs.Walking.{is_place, walk_begins, walked_more, walked_on}
use Rattle.blob_fs.proofs.file_system.FileSystem.place_of.Goals as goal

pub loop-next-init : goal.loop-next-init
loop-next-init g c = walk_begins (names_of c.args.self.now) c.args.path.now (c.in-Some.name.now ∷ path_names c.in-Some.left.now) c.in-Some.ensures.names

pub loop-next-preserved : goal.loop-next-preserved
loop-next-preserved g c =
    walked_on (names_of c.args.self.now) c.args.path.now c.in_ok-directory.directory _ _
    (walked_more (names_of c.args.self.now) c.args.path.now c.loop-next.directory c.in_ok-directory.directory c.loop-next.name.now (path_names c.loop-next.left.now) c.loop-next.invariant c.in_ok-directory.ensures)
    c.in-Some-first_name.ensures.names

pub returns : goal.returns
returns g c = is_place (names_of c.args.self.now) c.args.path.now c.loop-next.directory c.loop-next.name.now (path_names c.loop-next.left.now) c.loop-next.invariant c.in_default-first_name.ensures.none
