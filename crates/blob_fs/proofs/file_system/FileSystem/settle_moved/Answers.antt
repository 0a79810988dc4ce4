use Rattle.std.proofs.Common.{refl}
use Rattle.blob_fs.proofs.Settling.{settles_kept}
use Rattle.blob_fs.proofs.States.{rest_twice}
use Rattle.blob_fs.proofs.file_system.FileSystem.settle_moved.Goals as goal

pub returns-clause-settled : goal.returns-clause-settled
returns-clause-settled g c = record {
  between = c.bind_moved.new.self;
  told = c.bind_moved.ensures.told;
  bound = c.in_ok-bind_moved.ensures.bound;
  settled = c.in_ok-settle_by.ensures.settled;
}

pub returns-in_err-bind_moved-clause-some : goal.returns-in_err-bind_moved-clause-some
returns-in_err-bind_moved-clause-some g c = record { between = c.bind_moved.new.self; told = c.bind_moved.ensures.told; some = settles_kept _ _ refl }

pub returns-in_err-settle_by-clause-rest : goal.returns-in_err-settle_by-clause-rest
returns-in_err-settle_by-clause-rest g c = rest_twice c.bind_moved.ensures.rest c.settle_by.ensures.rest

pub returns-clause-rest : goal.returns-clause-rest
returns-clause-rest g c = rest_twice c.bind_moved.ensures.rest c.settle_by.ensures.rest
