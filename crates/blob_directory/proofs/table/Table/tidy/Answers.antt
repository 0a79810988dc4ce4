use Rattle.std.proofs.Common.{◌≡◌, None, refl, rules}
use Rattle.blob_directory.specs.Tables.{bound, cell}
use Rattle.blob_directory.proofs.Maps.{found_after, same_flat}
use Rattle.blob_directory.proofs.table.Table.tidy.Goals as goal

pub returns-then-is_none : goal.returns-then-is_none
returns-then-is_none c =
    let nothing : bound c.args.self.now c.args.entry.now ≡ None = search rules in
    same_flat (cell c.args.self.now) (cell (record { alloc = c.args.self.now.alloc; entries = c.remove.new.self })) c.args.entry.now None
    (found_after c.args.entry.now c.args.self.now.entries c.remove.new.self None c.remove.ensures.updates)
    nothing refl
