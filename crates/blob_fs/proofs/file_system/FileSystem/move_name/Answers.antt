use Rattle.blob_fs.specs.Files.{about_move, names_of}
use Rattle.blob_fs.proofs.Named.{edit_is, moved_on}
use Rattle.std.proofs.Common.{Bool, ap, refl}
use Rattle.blob_fs.proofs.Noting.{noted_between}
use Rattle.blob_fs.proofs.States.{rest_after}
use Rattle.blob_fs.proofs.file_system.FileSystem.move_name.Goals as goal

pub returns-clause-rest : goal.returns-clause-rest
returns-clause-rest g c = rest_after c.make.ensures.rest c.place.ensures.keeps

pub make-requires : goal.make-requires
make-requires g c =
    let fs = c.args.self.now in
    record {
      fits = moved_on (names_of fs) _ fs.files _ _ c.args.moved c.requires.bound (edit_is (names_of fs) _ _ c.moving.ensures) fs.named;
    }

pub returns-clause-noted : goal.returns-clause-noted
returns-clause-noted g c =
    noted_between c.args.self.now.store c.args.self.now.store c.make.new.self.store c.place.new.self.store _ _ _ _ _ _
    c.moving.ensures (ap (λ (b : Bool). record (about_move c.args.moved c.args.from.1 c.args.to.1) { moves_file = b }) c.is_file.ensures) refl refl c.in_ok-make.ensures.noted c.place.ensures.store
