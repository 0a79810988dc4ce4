use Rattle.std.proofs.Common.{◌≡◌, ◌∙◌, Some, None, false, ap, refl, is_some, rules}
use Rattle.blob_directory.specs.Tables.{bound, cell}
use Rattle.blob_directory.proofs.Maps.{found_after, same_flat, still_some, flat_of_none}
use Rattle.blob_directory.proofs.table.Table.prepare_entry.Goals as goal

pub returns-clause-same : goal.returns-clause-same
returns-clause-same c =
    let absent : is_some (cell c.args.self.now c.args.entry.now) ≡ false = search rules in
    same_flat (cell c.args.self.now) (cell (record { alloc = c.args.self.now.alloc; entries = c.insert.new.self })) c.in_ok-key.key.items (Some None)
    (found_after c.in_ok-key.key.items c.args.self.now.entries c.insert.new.self (Some None) c.in_ok-insert.ensures.updates)
    (ap (bound c.args.self.now) c.in_ok-key.ensures.items ∙ flat_of_none (cell c.args.self.now c.args.entry.now) absent) refl

pub returns-clause-keeps : goal.returns-clause-keeps
returns-clause-keeps c = still_some (cell c.args.self.now) (cell (record { alloc = c.args.self.now.alloc; entries = c.insert.new.self })) c.in_ok-key.key.items (Some None)
    (found_after c.in_ok-key.key.items c.args.self.now.entries c.insert.new.self (Some None) c.in_ok-insert.ensures.updates) refl
