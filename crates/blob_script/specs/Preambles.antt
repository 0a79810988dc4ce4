-- What a script gives before its calls: raw images, and the words of the generator.
use Rattle.std.specs.Prelude.{ℕ, List, map, Option, Some, None, String, Vec, string_bytes}
use Rattle.std.specs.Global.{Global}
use Rattle.blob_script.specs.declared.script.preamble.Preamble.{Preamble}

-- a raw blob: partition, name and bytes
abbrev pub Image : Type 0
Image = List ℕ × List ℕ × List ℕ

abbrev pub images_of : List (String Global × Vec ℕ Global × Vec ℕ Global) → List Image
images_of images = map (λ i. (string_bytes i.0, i.1.items, i.2.items)) images

-- the words of a script, and the seed of the words after them
pub record Words : Type 0 where
  pub given : List ℕ
  pub seed : Option ℕ

-- these words, then zeros forever
abbrev pub only : List ℕ → Words
only given = record { given = given; seed = None }

-- these words, then those of a seed
abbrev pub behind_seeded : List ℕ → ℕ → Words
behind_seeded given seed = record { given = given; seed = Some seed }

-- the words and the seed of a preamble
abbrev pub words_of : Preamble → Words
words_of p = record { given = p.words.items; seed = p.seed }
