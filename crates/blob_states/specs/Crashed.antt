-- What a crash leaves, by the words that it draws, and how it is printed.
use Rattle.std.specs.Prelude.{ℕ, List, ◌++◌, codes, Option, Some, None}
use Rattle.std.specs.List.{flat_map}
use Rattle.rand_core.specs.Stream.{Stream}
use Rattle.blob_model.specs.Draws.{Row, draw_rows}
use Rattle.blob_model.specs.Files.{Files, all_needs, reopen}
use Rattle.blob_memory.specs.Listing.{raw_only}
use Rattle.blob_script.specs.Acts.{Crash}
use Rattle.blob_script.specs.Replies.{hex_field}
use Rattle.blob_lab_model.specs.After.{apply_act}
use Rattle.blob_lab_model.specs.States.{State}
use Rattle.blob_choices.specs.Outcomes.{with_stream}
use Rattle.blob_states.specs.Recorded.{Name}

-- the files after a crash that draws from this stream
abbrev pub crashed : State → Stream → Files
crashed v s = (apply_act (with_stream v s) Crash None).files

-- the draws of the crash. Each has two outcomes, whatever the settings: a crash draws no size
abbrev pub crash_draws : State → Stream → List Row × Stream
crash_draws v s = draw_rows s (all_needs v.files.log)

-- the durable bytes of a name's file, with the header, as a rebuilt store has them
abbrev pub durable_file : Files → List ℕ → List ℕ → Option (List ℕ)
durable_file f p n = raw_only ((reopen f).directory.file p n)

-- the line of a script that sets a file to these bytes
abbrev pub image_line : List ℕ → List ℕ → List ℕ → List ℕ
image_line p n bytes = codes "image " ++ p ++ codes " " ++ hex_field n ++ codes " " ++ hex_field bytes ++ codes "\n"

abbrev pub file_line : Name → Option (List ℕ) → List ℕ
file_line name None = codes ""
file_line name (Some bytes) = image_line name.0 name.1 bytes

-- the lines of the files of these names, by the bytes of each
abbrev pub image_lines : (List ℕ → List ℕ → Option (List ℕ)) → List Name → List ℕ
image_lines bytes names = flat_map (λ name. file_line name (bytes name.0 name.1)) names

-- the lines of what a crash leaves
abbrev pub lines_left : State → List Name → Stream → List ℕ
lines_left v names s = image_lines (durable_file (crashed v s)) names
