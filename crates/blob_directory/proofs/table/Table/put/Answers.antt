use Rattle.std.proofs.Common.{Some}
use Rattle.blob_directory.specs.Tables.{cell}
use Rattle.blob_directory.proofs.Maps.{found_after, set_flat}
use Rattle.blob_directory.proofs.table.Table.put.Goals as goal

pub returns-clause-put : goal.returns-clause-put
returns-clause-put c = λ e. set_flat (cell c.args.self.now) (cell (record { alloc = c.args.self.now.alloc; entries = c.insert.new.self })) c.args.entry.items (Some c.args.to)
    (found_after c.args.entry.items c.args.self.now.entries c.insert.new.self (Some c.args.to) c.in_ok-insert.ensures.updates) e
