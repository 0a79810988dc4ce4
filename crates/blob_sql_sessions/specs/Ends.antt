-- Sessions of a database that begins in two empty files.
use Rattle.std.specs.Prelude.{List, Vec, String}
use Rattle.std.specs.Global.{Global}
use Rattle.sqlite_disk.specs.declared.Disk.{Ghosts}
use Rattle.sqlite_store.specs.declared.store.FileStore.{FileStore}
use Rattle.sqlite_trees.specs.Tree.{Trees}
use Rattle.sqlite.specs.Held.{Held}
use Rattle.sqlite.specs.Files.{IsEmpty, file_state, over_files}
use Rattle.sql_sessions.specs.declared.sessions.Session.{Session}
use Rattle.sql_sessions.specs.Runs.{SessionsMake, all_texts}

-- from a database with no rows to the one that is open in the end
abbrev pub LeadFromNothing : {D : Type 0} {g : Ghosts D} → List Session → List (Vec (String Global) Global) → Held (FileStore D g) → Type 0
LeadFromNothing {D} {g} sessions asked conn =
    ∥ ((first : Trees) × IsEmpty first × SessionsMake (over_files {D = D} {g = g}) sessions (all_texts asked) first (file_state conn).committed.trees) ∥₁
