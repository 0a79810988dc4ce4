use Rattle.blob_directory.proofs.Copied.{copied_at, same_option}
use Rattle.blob_directory.proofs.table.Table.copy.Goals as goal

pub returns : goal.returns
returns c = λ i e. copied_at _ (same_option _ (λ y h. absurd h) (λ x h. absurd h) (λ x y h. h)) c.args.self.now.entries c.in_ok-clone.field-0 c.in_ok-clone.ensures.cases e i
