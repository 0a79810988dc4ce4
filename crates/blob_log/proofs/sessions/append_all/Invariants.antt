use Rattle.std.proofs.Common.{◌≡◌, ◌++◌, ℕ, List, length, take}
use Rattle.blob_log.specs.Runs.{AppendsAll}
use Rattle.blob_log.specs.Held.{HoldsRecords, log_place, record_bytes, acknowledged_records}
use Rattle.blob_log.proofs.sessions.append_all.Given as goal

abbrev pub invariant-loop-entry : goal.invariant-loop-entry
invariant-loop-entry g l = record {
  held : (records : List (List ℕ)) → HoldsRecords l.fn.log l.fn.store records → HoldsRecords l.log l.store (records ++ acknowledged_records l.answers.items (record_bytes l.entries));
  count : length l.answers.items ≡ l.entry-index;
  place : log_place l.log ≡ log_place l.fn.log;
  ran : AppendsAll g.R.Rng.stream l.fn.log l.fn.store (record_bytes (take l.entry-index l.entries)) l.answers.items l.log l.store;
}
