-- Worked examples: the lines of some texts, some scripts, and texts that aren't scripts.
use Rattle.std.proofs.Common.{◌≡◌, [], ◌∷◌, ◌++◌, Some, None, refl}
use Rattle.std.specs.Prelude.{codes}
use Rattle.std.specs.Str.{is_utf8, chars}
use Rattle.hex.specs.Hex.{decode_pairs}
use lib.Utf8.{encode}
use Rattle.blob_script.specs.Acts.{Close, Configure, Reopen}
use Rattle.blob_lab.specs.Scripts.{lines_of, no_script, script_of}
use Rattle.blob_lab_model.specs.Scripted.{only, behind_seeded}
use Rattle.blob_script.specs.Settings.{no_rates}

no_line : lines_of [] ≡ []
no_line = refl

-- an empty line counts
three_lines : lines_of (codes "a" ++ 10 ∷ 10 ∷ codes "b" ++ 10 ∷ []) ≡ codes "a" ∷ [] ∷ codes "b" ∷ []
three_lines = refl

-- the last line without a line feed
unended : lines_of (codes "a" ++ 10 ∷ codes "bc") ≡ codes "a" ∷ codes "bc" ∷ []
unended = refl

blank_lines : script_of (codes "# x" ∷ [] ∷ []) ≡ Some no_script
unfolding is_utf8 chars encode decode_pairs
blank_lines = refl

words_and_calls : script_of (codes "words 7" ∷ codes "close 0" ∷ codes "reopen" ∷ [])
    ≡ Some (record { images = []; words = only (7 ∷ []); config = no_rates; calls = Close 0 ∷ Reopen ∷ [] })
unfolding is_utf8 chars encode decode_pairs
words_and_calls = refl

setting_is_a_call : script_of (codes "config clear" ∷ []) ≡ Some (record { images = []; words = only []; config = no_rates; calls = Configure no_rates ∷ [] })
unfolding is_utf8 chars encode decode_pairs
setting_is_a_call = refl

-- words after a call
words_too_late : script_of (codes "close 0" ∷ codes "words 7" ∷ []) ≡ None
unfolding is_utf8 chars encode decode_pairs
words_too_late = refl

-- one seed, among the words; a second one isn't a script
seed_and_words : script_of (codes "words 7" ∷ codes "seed 042" ∷ codes "words 8" ∷ []) ≡ Some (record { images = []; words = behind_seeded (7 ∷ 8 ∷ []) 42; config = no_rates; calls = [] })
unfolding is_utf8 chars encode decode_pairs
seed_and_words = refl

second_seed : script_of (codes "seed 1" ∷ codes "seed 1" ∷ []) ≡ None
unfolding is_utf8 chars encode decode_pairs
second_seed = refl

seed_too_late : script_of (codes "close 0" ∷ codes "seed 1" ∷ []) ≡ None
unfolding is_utf8 chars encode decode_pairs
seed_too_late = refl

bad_call : script_of (codes "close 0" ∷ codes "frob" ∷ []) ≡ None
unfolding is_utf8 chars encode decode_pairs
bad_call = refl
