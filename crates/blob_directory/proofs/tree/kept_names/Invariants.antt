use Rattle.std.proofs.Common.{◌≡◌, ◌++◌, length}
use Rattle.blob_directory.specs.Names.{Same, all_edited}
use Rattle.blob_directory.specs.Profiles.{all_counts, counts_in, kept_edits, names_told, with_seen}
use Rattle.blob_directory.specs.Records.{edits_from}
use Rattle.blob_directory.specs.Rules.{rule_of}
use Rattle.blob_directory.specs.Tables.{bound}
use Rattle.blob_directory.proofs.tree.kept_names.Given as goal

-- what is left to apply gives the names of the whole journal
abbrev pub invariant-loop-found : goal.invariant-loop-found
invariant-loop-found l = record {
  kept : l.kept.items ++ all_counts (rule_of l.fn.keeps l.edits) l.is_lost (with_seen (rule_of l.fn.keeps l.edits) l.is_behind (length l.kept.items) (edits_from (length l.kept.items) l.left)) ≡ counts_in (rule_of l.fn.keeps l.edits) l.bytes;
  names : Same (all_edited (bound l.names) (kept_edits (rule_of l.fn.keeps l.edits) l.is_lost (with_seen (rule_of l.fn.keeps l.edits) l.is_behind (length l.kept.items) (edits_from (length l.kept.items) l.left)))) (names_told (rule_of l.fn.keeps l.edits) l.bytes);
}

abbrev pub decreases-loop-found : goal.decreases-loop-found
decreases-loop-found l = length l.left
