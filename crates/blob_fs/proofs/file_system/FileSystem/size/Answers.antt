use Rattle.std.proofs.Common.{Some, ap, sym, ◌∙◌}
use Rattle.blob_fs.proofs.file_system.FileSystem.size.Goals as goal

pub returns-in-Some : goal.returns-in-Some
returns-in-Some g c = record {
  inode = c.in_ok-inode.inode;
  was = c.as_ref.result.now;
  is = record { opened = c.in_ok-inode.ensures; there = sym (ap Some c.as_ref.ensures ∙ c.in-Some.ensures.value) };
  size = sym c.size.ensures;
}
