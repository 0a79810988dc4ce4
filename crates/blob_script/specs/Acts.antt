-- The calls of a laboratory as data of the definitions.
use Rattle.std.specs.Prelude.{ℕ, List, Bool, ◌||◌, nat_lt, Option, Some, None, if◌then◌else◌, option_map}
use Rattle.std.specs.Range.{range_inclusive_start, range_inclusive_end, range_inclusive_exhausted}
use Rattle.std.specs.String.{string_bytes}
use Rattle.std.specs.declared.ops.RangeInclusive.{RangeInclusive}
use Rattle.blob_header.specs.declared.version.BlobVersion.{BlobVersion}
use Rattle.blob_draws.specs.declared.config.Config.{Config}
use Rattle.blob_script.specs.declared.call.Call.{Call}
use Rattle.blob_script.specs.declared.call.Call.TheVariants as call

-- a call through a handle
pub data Ask : Type 0 where
  Read : ℕ → ℕ → Ask
  Write : ℕ → List ℕ → Bool → Ask  -- the last is true for a SYNC write
  Resize : ℕ → Ask
  Size Sync StartSync : Ask

-- the first and the last accepted version
abbrev pub AcceptedVersions : Type 0
AcceptedVersions = ℕ × ℕ

pub data Act : Type 0 where
  Configure : Config → Act
  Open : List ℕ → List ℕ → Option AcceptedVersions → Act  -- partition, name and versions; None for an empty range
  OpenLoose : List ℕ → List ℕ → Option AcceptedVersions → Act
  Admit : List ℕ → List ℕ → Act
  Close : ℕ → Act
  Through : ℕ → Ask → Act  -- a call through the handle with this number
  Finish : ℕ → Act
  Remove : List ℕ → Option (List ℕ) → Act
  Scan : List ℕ → Act
  Crash Reopen : Act

-- a range is empty if it is exhausted or its start is greater than its end
abbrev pub accepted_versions : Bool → ℕ → ℕ → Option AcceptedVersions
accepted_versions exhausted first last = if exhausted || nat_lt last first then None else Some (first, last)

-- the versions of a range
abbrev pub versions_of : RangeInclusive BlobVersion → Option AcceptedVersions
versions_of versions = accepted_versions (range_inclusive_exhausted versions) (range_inclusive_start versions).0 (range_inclusive_end versions).0

abbrev pub act_of : Call → Act
act_of (call.Configure config) = Configure config
act_of (call.Open partition name versions) = Open (string_bytes partition) name.items (versions_of versions)
act_of (call.OpenLoose partition name versions) = OpenLoose (string_bytes partition) name.items (versions_of versions)
act_of (call.Admit partition name) = Admit (string_bytes partition) name.items
act_of (call.Close handle) = Close handle
act_of (call.Read handle offset len) = Through handle (Read offset len)
act_of (call.Write handle offset bytes sync) = Through handle (Write offset bytes.items sync)
act_of (call.Resize handle len) = Through handle (Resize len)
act_of (call.Size handle) = Through handle Size
act_of (call.Sync handle) = Through handle Sync
act_of (call.StartSync handle) = Through handle StartSync
act_of (call.Finish number) = Finish number
act_of (call.Remove partition name) = Remove (string_bytes partition) (option_map (λ n. n.items) name)
act_of (call.Scan partition) = Scan (string_bytes partition)
act_of call.Crash = Crash
act_of call.Reopen = Reopen
