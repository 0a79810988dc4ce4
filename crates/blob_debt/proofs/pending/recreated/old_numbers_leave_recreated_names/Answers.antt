use Rattle.std.proofs.Common.{◌∷◌, ap, refl, if◌then◌else◌}
use Rattle.blob_debt.specs.History.{Settle, Settled, Clear, clear_event, Fail, Failed, Close, Closed, events}
use Rattle.blob_debt.proofs.Recreation.{newer, no_count}
use Rattle.blob_debt.proofs.pending.recreated.old_numbers_leave_recreated_names.Goals as goal

pub returns-clause-settle : goal.returns-clause-settle
returns-clause-settle c = λ h earlier p n f token l dirty failed. no_count h p n (Settle token dirty failed) (ap (λ b. if b then Settled dirty failed ∷ events h p n else events h p n) ((newer h earlier p n f).token token l))

pub returns-clause-clear : goal.returns-clause-clear
returns-clause-clear c = λ h earlier p n f g l outcome. no_count h p n (Clear g outcome) (ap (λ b. if b then clear_event outcome ∷ events h p n else events h p n) ((newer h earlier p n f).generation g l))

pub returns-clause-fail : goal.returns-clause-fail
returns-clause-fail c = λ h earlier p n f g l e. no_count h p n (Fail g e) (ap (λ b. if b then Failed e ∷ events h p n else events h p n) ((newer h earlier p n f).generation g l))

pub returns-clause-close : goal.returns-clause-close
returns-clause-close c = λ h earlier p n f g l. no_count h p n (Close g) (ap (λ b. if b then Closed ∷ events h p n else events h p n) ((newer h earlier p n f).generation g l))

pub returns-clause-release : goal.returns-clause-release
returns-clause-release c = λ h earlier p n f g l. rw ((newer h earlier p n f).generation g l) refl

pub returns-clause-debt : goal.returns-clause-debt
returns-clause-debt c = λ h earlier p n f g l. rw ((newer h earlier p n f).generation g l) refl
