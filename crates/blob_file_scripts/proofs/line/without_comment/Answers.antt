use Rattle.std.proofs.Common.{Some, None, refl}
use Rattle.blob_file_scripts.proofs.line.without_comment.Goals as goal

pub returns-in-Some : goal.returns-in-Some
returns-in-Some c = let at = c.in-Some.ensures.cases in (Some (at.0, at.1), at.2, at.3)

pub returns-in-None : goal.returns-in-None
returns-in-None c = (None, c.in-None.ensures.cases, refl)
