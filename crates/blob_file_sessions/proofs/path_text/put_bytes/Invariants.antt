use Rattle.std.proofs.Common.{take}
use Rattle.std.specs.List.{flat_map}
use Rattle.blob_sessions.specs.ReplyTexts.{PutsTo}
use Rattle.blob_file_sessions.specs.PathTokens.{byte_token}
use Rattle.blob_file_sessions.proofs.path_text.put_bytes.Given as goal

abbrev pub invariant-loop-byte : goal.invariant-loop-byte
invariant-loop-byte l = PutsTo l.at (flat_map byte_token (take l.byte-index l.path)) l.fn.into l.into l.end
