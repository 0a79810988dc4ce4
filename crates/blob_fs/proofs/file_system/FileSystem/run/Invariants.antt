use Rattle.std.proofs.Common.{◌≡◌, ◌≤◌, length, take, vec_capacity, vec_len}
use Rattle.blob_fs.specs.Calls.{DoesAll}
use Rattle.blob_fs.specs.Files.{GrowsTold}
use Rattle.blob_fs.proofs.file_system.FileSystem.run.Given as goal

abbrev pub invariant-loop-call : goal.invariant-loop-call
invariant-loop-call g l = record {
  done : DoesAll (take l.call-index l.calls) l.oks.items l.fn.self l.self;
  grows : GrowsTold l.fn.self l.self;
  count : vec_len l.oks ≡ l.call-index;
  room : length l.calls ≤ vec_capacity l.oks;
}
