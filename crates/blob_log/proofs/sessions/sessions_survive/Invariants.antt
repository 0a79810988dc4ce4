use Rattle.std.proofs.Common.{◌≡◌, length, take}
use Rattle.blob_model.specs.Files.{Files}
use Rattle.blob_model.specs.Opened.{IsNamed}
use Rattle.blob_faulty.specs.Keeps.{IsFor}
use Rattle.blob_log.specs.Held.{HoldsRecords, Survive, log_place, record_bytes}
use Rattle.blob_log.specs.Runs.{RunTo}
use Rattle.blob_log.proofs.Surviving.{Answered}
use Rattle.blob_log.proofs.sessions.sessions_survive.Given as goal

abbrev pub invariant-loop-entries : goal.invariant-loop-entries
invariant-loop-entries g l = record {
  held : (files : Files) → IsFor l.fn.store files → HoldsRecords l.log l.store (record_bytes l.before.items);
  named : IsNamed (log_place l.log) l.partition l.name;
  count : length l.done.items ≡ l.entries-index;
  answered : Answered l.done.items l.sessions;
  ran : RunTo g.R.Rng.stream l.partition l.name l.fn.store l.done.items (take l.entries-index l.sessions) l.log (record_bytes l.before.items) l.store;
  survive : (files : Files) → IsFor l.fn.store files → Survive l.done.items l.sessions (record_bytes l.before.items);
}
