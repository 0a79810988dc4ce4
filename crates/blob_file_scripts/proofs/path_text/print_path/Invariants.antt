use Rattle.std.proofs.Common.{◌≡◌, ◌++◌, take, string_bytes}
use Rattle.std.specs.List.{flat_map}
use Rattle.blob_file_sessions.specs.PathTokens.{byte_token}
use Rattle.blob_file_scripts.proofs.path_text.print_path.Given as goal

abbrev pub invariant-loop-byte : goal.invariant-loop-byte
invariant-loop-byte l = string_bytes l.line ≡ string_bytes l.initial.line ++ flat_map byte_token (take l.byte-index l.path)
