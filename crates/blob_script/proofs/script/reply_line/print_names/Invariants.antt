use Rattle.std.proofs.Common.{◌≡◌, ◌++◌, take, string_bytes}
use Rattle.std.specs.Prelude.{codes}
use Rattle.std.specs.List.{flat_map}
use Rattle.blob_script.specs.Replies.{hex_field}
use Rattle.blob_script.proofs.script.reply_line.print_names.Given as goal

abbrev pub invariant-loop-name : goal.invariant-loop-name
invariant-loop-name l = string_bytes l.line ≡ string_bytes l.initial.line ++ flat_map (λ name. codes " " ++ hex_field name.items) (take l.name-index l.names)
