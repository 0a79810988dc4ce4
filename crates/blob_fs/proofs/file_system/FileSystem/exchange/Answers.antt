use Rattle.blob_fs.specs.Files.{names_of}
use Rattle.blob_fs.proofs.Named.{edit_is, exchanged}
use Rattle.std.proofs.Common.{refl, ◌∙◌}
use Rattle.blob_fs.proofs.Noting.{noted_between}
use Rattle.blob_fs.proofs.States.{keeps_twice, rest_after}
use Rattle.blob_fs.proofs.file_system.FileSystem.exchange.Goals as goal

pub returns-clause-rest : goal.returns-clause-rest
returns-clause-rest g c = rest_after c.make.ensures.rest (keeps_twice c.place.ensures.keeps c.place-2.ensures.keeps)

pub make-requires : goal.make-requires
make-requires g c =
    let fs = c.args.self.now in
    record {
      fits = exchanged (names_of fs) _ fs.files _ _ c.args.moved c.args.was c.requires.bound c.requires.taken c.requires.differ (edit_is (names_of fs) _ _ c.exchanging.ensures) fs.named;
    }

pub returns-clause-noted : goal.returns-clause-noted
returns-clause-noted g c =
    noted_between c.args.self.now.store c.args.self.now.store c.make.new.self.store c.place-2.new.self.store _ _ _ _ _ _
    c.exchanging.ensures refl refl refl c.in_ok-make.ensures.noted (c.place-2.ensures.store ∙ c.place.ensures.store)
