-- A reply as a line, without its line feed.
use Rattle.std.specs.Prelude.{ℕ, Bool, List, Vec, ◌++◌, map, codes, if◌then◌else◌}
use Rattle.std.specs.Global.{Global}
use Rattle.std.specs.List.{flat_map}
use Rattle.std.specs.Fmt.{decimal}
use Rattle.hex.specs.Hex.{encode_lower}
use Rattle.blob_model.specs.Draws.{Row}
use Rattle.blob_header.specs.Refusals.{refusal_of}
use Rattle.blob_header.specs.ReplyLines.{field_of, refusal_line}
use Rattle.blob_draws.specs.Rows.{table_of}
use Rattle.blob_script.specs.declared.reply.Reply.{Reply}
use Rattle.blob_script.specs.declared.reply.Reply.TheVariants.{Done, Opened, Bytes, Size, Names, Started, Crashed, Failed, NoHandle, EmptyRange}

-- bytes in lower-case hex, or `-` if there are none
abbrev pub hex_field : List ℕ → List ℕ
hex_field bytes = field_of (encode_lower bytes)

-- a space and the hex of each name
abbrev pub name_fields : List (Vec ℕ Global) → List ℕ
name_fields names = flat_map (λ name. codes " " ++ hex_field name.items) names

-- each choice as `1` or `0`
abbrev pub choice_digits : List Bool → List ℕ
choice_digits choices = map (λ kept. if kept then 49 else 48) choices

-- a space, the write's number, a colon and its choices
abbrev pub row_field : Row → List ℕ
row_field row = codes " " ++ decimal row.0 ++ codes ":" ++ choice_digits row.1

abbrev pub reply_line : Reply → List ℕ
reply_line Done = codes "ok"
reply_line (Opened handle size version) = codes "opened " ++ decimal handle ++ codes " " ++ decimal size ++ codes " " ++ decimal version.0
reply_line (Bytes bytes) = codes "bytes " ++ hex_field bytes.items
reply_line (Size size) = codes "size " ++ decimal size
reply_line (Names names) = codes "names" ++ name_fields names.items
reply_line (Started number) = codes "started " ++ decimal number
reply_line (Crashed selections) = codes "crashed" ++ flat_map row_field (table_of selections)
reply_line (Failed e) = refusal_line (refusal_of e)
reply_line NoHandle = codes "error NoHandle"
reply_line EmptyRange = codes "error EmptyRange"
