-- A boxed file after a borrow of the file ends.
use denote.RattleType.{RattleType}
use Rattle.std.specs.Borrow.{Fml, Lends, MutBor}
use Rattle.blob_fs.specs.contracts.boxed_file.BoxedFile.{the_row}
use Rattle.blob_fs.specs.contracts.file_system.File as file
use Rattle.blob_fs.specs.declared.file_system.File.{File}

-- the type of a file in the logic
abbrev pub file_row : RattleType
file_row = file.the_row

-- it is the last file that was written through r
abbrev pub LendsFile : MutBor File → MutBor File → Fml
LendsFile s r = Lends the_row file_row s r (λ w. w)
