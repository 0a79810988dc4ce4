use Rattle.std.proofs.Common.{Some, ap, sym, ◌∙◌}
use Rattle.std.proofs.lemmas.Bool.{leb-true}
use Rattle.blob_fs.specs.Tracked.{freed_in}
use Rattle.blob_fs.proofs.Tracked.{freed_gone}
use Rattle.blob_fs.proofs.file_system.FileSystem.is_gone_by.Goals as goal

pub returns-then-file : goal.returns-then-file
returns-then-file g c = λ is. record {
  limit = c.as_ref-file.result.now.gone_at;
  freed = ap freed_in (sym (ap Some c.as_ref-file.ensures ∙ c.in-Some.ensures.value)) ∙ freed_gone c.as_ref-file.result.now c.if-file.true;
  before = leb-true _ _ is;
}
