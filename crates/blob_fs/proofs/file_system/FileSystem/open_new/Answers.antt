use Rattle.std.proofs.Common.{List, subst, sym, ◌∙◌}
use Rattle.blob_directory.specs.Records.{Found}
use Rattle.blob_journal.specs.Bindings.{MayName}
use Rattle.blob_fs.specs.Files.{table_of}
use Rattle.blob_fs.proofs.Named.{most_table}
use Rattle.blob_fs.proofs.States.{keeps_but_then, keeps_twice}
use Rattle.blob_fs.proofs.file_system.FileSystem.open_new.Goals as goal

pub returns-in-Ok-clause-keeps : goal.returns-in-Ok-clause-keeps
returns-in-Ok-clause-keeps g c = keeps_but_then c.add_file.ensures.keeps c.add_descriptor.ensures.keeps

pub returns-in-Err-clause-keeps : goal.returns-in-Err-clause-keeps
returns-in-Err-clause-keeps g c =
    keeps_but_then c.add_file.ensures.keeps (keeps_twice c.add_descriptor.ensures.keeps c.remove_file.ensures.keeps)

pub remove_file-requires : goal.remove_file-requires
remove_file-requires g c =
    record {
      unnamed = most_table (table_of c.args.self.now) (table_of c.add_descriptor.new.self) c.args.inode 0 (c.add_descriptor.ensures.keeps.names ∙ c.add_file.ensures.keeps.names) c.requires.unnamed;
      unfound = subst (λ (l : List Found). MayName l c.args.inode → ⊥) (sym (c.add_descriptor.ensures.keeps.told ∙ c.add_file.ensures.keeps.told)) c.requires.unfound;
    }

pub returns-in-Ok-clause-links : goal.returns-in-Ok-clause-links
returns-in-Ok-clause-links g c = c.add_descriptor.ensures.links c.args.inode ∙ c.in_ok-add_file.ensures.links
