use Rattle.blob_fs.proofs.Calls.{on_ok}
use Rattle.blob_fs.proofs.Renaming.{may_exchange, may_replace, nothing, renames_exchanged, renames_moved, renames_same, replaces, taken_other}
use Rattle.blob_fs.proofs.States.{keeps_self, rest_of}
use Rattle.blob_fs.proofs.file_system.FileSystem.rename_taken.Goals as goal

pub returns-in-NoReplace : goal.returns-in-NoReplace
returns-in-NoReplace g c = record { renamed = tt; refused = nothing c.args.self.now; rest = rest_of (keeps_self c.args.self.now) }

pub returns-then-is_same : goal.returns-then-is_same
returns-then-is_same g c = record {
  renamed = renames_same c.args.how _ _ _ _ c.args.bound.0 c.args.bound.1 c.args.self.now c.requires.bound c.requires.taken c.if-is_same.ensures (may_replace c.args.how c.in-Replace.is);
  refused = tt;
  rest = rest_of (keeps_self c.args.self.now);
}

pub returns-else-is_same : goal.returns-else-is_same
returns-else-is_same g c = record {
  renamed = on_ok c.replace.result c.replace.ensures.made c.replace.ensures.noted (λ m n.
      renames_moved c.args.how _ _ _ _ c.args.bound.0 c.args.self.now c.replace.new.self c.requires.bound
      (taken_other _ c.args.bound.1 c.args.bound.0 c.requires.taken c.if-is_same.ensures) (replaces c.args.how c.in-Replace.is) (λ keeps. absurd (may_replace c.args.how c.in-Replace.is keeps)) m n);
  refused = c.replace.ensures.refused;
  rest = c.replace.ensures.rest;
}

pub returns-then-is_same-2 : goal.returns-then-is_same-2
returns-then-is_same-2 g c = record {
  renamed = renames_same c.args.how _ _ _ _ c.args.bound.0 c.args.bound.1 c.args.self.now c.requires.bound c.requires.taken c.if-is_same-2.ensures (may_exchange c.args.how c.in-Exchange.is);
  refused = tt;
  rest = rest_of (keeps_self c.args.self.now);
}

pub returns-else-is_same-2 : goal.returns-else-is_same-2
returns-else-is_same-2 g c = record {
  renamed = on_ok c.exchange.result c.exchange.ensures.made c.exchange.ensures.noted (λ m n.
      renames_exchanged c.args.how _ _ _ _ c.args.bound.0 c.args.bound.1 c.args.self.now c.exchange.new.self c.requires.bound c.requires.taken c.if-is_same-2.ensures c.in-Exchange.is m n);
  refused = c.exchange.ensures.refused;
  rest = c.exchange.ensures.rest;
}
