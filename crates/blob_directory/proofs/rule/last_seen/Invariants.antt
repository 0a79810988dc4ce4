use Rattle.std.proofs.Common.{◌≡◌, None, take}
use Rattle.std.specs.List.{fold}
use Rattle.blob_directory.specs.Rules.{later_seen}
use Rattle.blob_directory.proofs.rule.last_seen.Given as goal

abbrev pub invariant-loop-edit : goal.invariant-loop-edit
invariant-loop-edit l = l.last ≡ fold later_seen None (take l.edit-index l.edits)
