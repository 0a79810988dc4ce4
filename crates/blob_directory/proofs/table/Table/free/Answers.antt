use Rattle.std.proofs.Common.{None}
use Rattle.blob_directory.specs.Tables.{cell}
use Rattle.blob_directory.proofs.Maps.{found_after, set_flat}
use Rattle.blob_directory.proofs.table.Table.free.Goals as goal

pub returns : goal.returns
returns c = λ e. set_flat (cell c.args.self.now) (cell (record { alloc = c.args.self.now.alloc; entries = c.remove.new.self })) c.args.entry.now None
    (found_after c.args.entry.now c.args.self.now.entries c.remove.new.self None c.remove.ensures.updates) e
