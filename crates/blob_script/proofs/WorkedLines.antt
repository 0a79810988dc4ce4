-- Worked examples: lines with their meaning, and lines without one.
use Rattle.std.proofs.Common.{◌≡◌, ℕ, List, [], ◌∷◌, false, Some, None, refl}
use Rattle.std.specs.Prelude.{codes}
use Rattle.std.specs.Str.{is_utf8, chars}
use Rattle.hex.specs.Hex.{decode_pairs}
use lib.Utf8.{encode}
use Rattle.blob_model.specs.declared.mode.PartialWriteMode.TheVariants.{Sectors}
use Rattle.blob_script.specs.declared.script.setting.Setting.TheVariants as setting
use Rattle.blob_script.specs.Acts as act
use Rattle.blob_script.specs.Lines.{Said, Blank, Given, Seed, Configure, Call, line_of}

abbrev says : List ℕ → Said → Type 0
says line said = line_of line ≡ Some said

abbrev says_nothing : List ℕ → Type 0
says_nothing line = line_of line ≡ None

write : says (codes "write 0 2 5859") (Call (act.Through 0 (act.Write 2 (88 ∷ 89 ∷ []) false)))
unfolding is_utf8 chars encode decode_pairs
write = refl

open_alone : says (codes "open p 62") (Call (act.Open (codes "p") (98 ∷ []) (Some (0, 0))))
unfolding is_utf8 chars encode decode_pairs
open_alone = refl

open_up_to : says (codes "open p 62 0 3") (Call (act.Open (codes "p") (98 ∷ []) (Some (0, 3))))
unfolding is_utf8 chars encode decode_pairs
open_up_to = refl

-- versions in descending order are an empty range
open_none : says (codes "  loose  - -  5 3 ") (Call (act.OpenLoose (codes "-") [] None))
unfolding is_utf8 chars encode decode_pairs
open_none = refl

resize : says (codes "resize 1 007") (Call (act.Through 1 (act.Resize 7)))
unfolding is_utf8 chars encode decode_pairs
resize = refl

remove : says (codes "remove p") (Call (act.Remove (codes "p") None))
unfolding is_utf8 chars encode decode_pairs
remove = refl

config : says (codes "config write 0 1 1 1 sectors 512")
    (Configure (setting.Write (record { failure_rate = record { numerator = 0; denominator = 1 }; retention_rate = record { numerator = 1; denominator = 1 }; mode = Sectors 512 })))
unfolding is_utf8 chars encode decode_pairs
config = refl

seed : says (codes "seed 18446744073709551615") (Seed 18446744073709551615)
unfolding is_utf8 chars encode decode_pairs
seed = refl

words : says (codes "words 1 max") (Given (1 ∷ 18446744073709551615 ∷ []))
unfolding is_utf8 chars encode decode_pairs
words = refl

comment : says (codes "  # x") Blank
unfolding is_utf8 chars encode decode_pairs
comment = refl

empty : says [] Blank
unfolding is_utf8 chars encode decode_pairs
empty = refl

token_missing : says_nothing (codes "write 0 2")
unfolding is_utf8 chars encode decode_pairs
token_missing = refl

token_surplus : says_nothing (codes "close 0 0")
unfolding is_utf8 chars encode decode_pairs
token_surplus = refl

no_word : says_nothing (codes "words")
unfolding is_utf8 chars encode decode_pairs
no_word = refl

greater_than_one : says_nothing (codes "config sync 2 1")
unfolding is_utf8 chars encode decode_pairs
greater_than_one = refl

version_out_of_range : says_nothing (codes "open p 62 0 65536")
unfolding is_utf8 chars encode decode_pairs
version_out_of_range = refl

no_comment_behind_a_call : says_nothing (codes "reopen #")
unfolding is_utf8 chars encode decode_pairs
no_comment_behind_a_call = refl

-- a comment that isn't UTF-8
no_text : says_nothing (35 ∷ 255 ∷ [])
unfolding is_utf8 chars encode decode_pairs
no_text = refl
