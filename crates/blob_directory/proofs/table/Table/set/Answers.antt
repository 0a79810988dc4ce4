use Rattle.std.proofs.Common.{Some, refl, rules}
use Rattle.blob_directory.specs.Tables.{cell}
use Rattle.blob_directory.proofs.Maps.{found_after, set_flat, still_some}
use Rattle.blob_directory.proofs.table.Table.set.Goals as goal

pub returns-clause-set : goal.returns-clause-set
returns-clause-set c = λ h e. set_flat (cell c.args.self.now) (cell (record { alloc = c.args.self.now.alloc; entries = c.get_mut.follows.lender c.args.to })) c.args.entry.now (Some c.args.to)
    (found_after c.args.entry.now c.args.self.now.entries (c.get_mut.follows.lender c.args.to) (Some c.args.to) ((c.get_mut.follows.holds c.args.to).3 (search rules))) e

pub returns-clause-keeps : goal.returns-clause-keeps
returns-clause-keeps c = still_some (cell c.args.self.now) (cell (record { alloc = c.args.self.now.alloc; entries = c.get_mut.follows.lender c.args.to })) c.args.entry.now (Some c.args.to)
    (found_after c.args.entry.now c.args.self.now.entries (c.get_mut.follows.lender c.args.to) (Some c.args.to) ((c.get_mut.follows.holds c.args.to).3 (search rules))) refl
