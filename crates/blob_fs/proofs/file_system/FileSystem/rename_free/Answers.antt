use Rattle.blob_fs.proofs.Calls.{on_ok}
use Rattle.blob_fs.proofs.Renaming.{free_other, keeps, nothing, renames_moved, replaces}
use Rattle.blob_fs.proofs.States.{keeps_self, rest_of}
use Rattle.blob_fs.proofs.file_system.FileSystem.rename_free.Goals as goal

pub returns-in-Exchange : goal.returns-in-Exchange
returns-in-Exchange g c = record { renamed = tt; refused = nothing c.args.self.now; rest = rest_of (keeps_self c.args.self.now) }

pub returns-in-Replace : goal.returns-in-Replace
returns-in-Replace g c = record {
  renamed = on_ok c.move_name.result c.move_name.ensures.made c.move_name.ensures.noted (λ m n.
      renames_moved c.args.how _ _ _ _ c.args.moved c.args.self.now c.move_name.new.self c.requires.bound (free_other _ c.args.moved c.requires.free) (replaces c.args.how c.in-Replace.is) (λ _. c.requires.free) m n);
  refused = c.move_name.ensures.refused;
  rest = c.move_name.ensures.rest;
}

pub returns-in-NoReplace : goal.returns-in-NoReplace
returns-in-NoReplace g c =
    let r = c.move_name-in-NoReplace.ensures in
    record {
      renamed = on_ok c.move_name-in-NoReplace.result r.made r.noted (λ m n.
          renames_moved c.args.how _ _ _ _ c.args.moved c.args.self.now c.move_name-in-NoReplace.new.self c.requires.bound (free_other _ c.args.moved c.requires.free) (keeps c.args.how c.in-NoReplace.is) (λ _. c.requires.free) m n);
      refused = r.refused;
      rest = r.rest;
    }
