use Rattle.std.proofs.Common.{subst}
use Rattle.blob_directory.specs.Tables.{HasAll, HasOnly, bound}
use Rattle.blob_directory.specs.declared.table.Table.{Table}
use Rattle.blob_fs.proofs.file_system.FileSystem.list_at.Goals as goal

pub returns-clause-only : goal.returns-clause-only
returns-clause-only g c = subst (λ (t : Table). HasOnly (bound t) c.args.directory c.in_ok-names_in.field-0.items) c.names.ensures c.in_ok-names_in.ensures.told

pub returns-clause-all : goal.returns-clause-all
returns-clause-all g c = subst (λ (t : Table). HasAll (bound t) c.args.directory c.in_ok-names_in.field-0.items) c.names.ensures c.in_ok-names_in.ensures.all
