-- What a call leaves as it was of the store: its blobs, the numbers that it has given, and its fault rates.
use Rattle.std.specs.Prelude.{ℕ, List}
use Rattle.blob_faulty.specs.Keeps.{OverMemory}
use Rattle.blob_journal.specs.Currents.{FindsNoMore, FindsNoMoreBeside, KeepsCurrent, KeepsFiles, KeepsNext, KeepsOthers}
use Rattle.blob_journal.specs.Incarnations.{KeepsIncarnations}
use Rattle.blob_journal.specs.Limits.{KeepsAccepted, SameFaults}

-- each incarnation stays current, and no more may be found of it; no number is given again, and the rates are the same
pub record KeepsStore {R : Type 0} (before after : OverMemory R) : Type 0 where
  pub current : KeepsCurrent before after
  pub incarnations : KeepsIncarnations before after
  pub files : KeepsFiles before after
  pub left : FindsNoMore before after
  pub next : KeepsNext before after
  pub accepted : KeepsAccepted before after
  pub faults : SameFaults before after

-- so it is of any other name
pub record KeepsStoreBut {R : Type 0} (p n : List ℕ) (before after : OverMemory R) : Type 0 where
  pub current : KeepsOthers p n before after
  pub files : KeepsFiles before after
  pub left : FindsNoMoreBeside p n before after
  pub next : KeepsNext before after
  pub accepted : KeepsAccepted before after
  pub faults : SameFaults before after
