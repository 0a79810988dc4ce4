-- The state of a laboratory: its files, configuration, generator, open names, handles and started syncs.
use Rattle.std.specs.Prelude.{◌<◌, ℕ, List, [], true, false, All, Option, Some, None, length, IfSome, option_map, fold}
use Rattle.rand_core.specs.Stream.{Stream}
use Rattle.blob_model.specs.Directory.{Directory, Raw, with_file, with_partition}
use Rattle.blob_model.specs.Files.{Files, wrap, durable_at}
use Rattle.blob_model.specs.Places.{Place}
use Rattle.blob_header.specs.Refusals.{Refusal}
use Rattle.blob_draws.specs.declared.config.Config.{Config}
use Rattle.blob_opens.specs.OpenNames.{OpenNames, Registration, none_open}
use Rattle.rand_xoshiro.specs.SplitMix64.{splitmix_seed}
use Rattle.rand_xoshiro.specs.Xoshiro256.{of_seed}
use Rattle.blob_lab_model.specs.Scripted.{Words, scripted_stream}
pub use Rattle.blob_script.specs.Preambles.{Image}

-- an open handle
pub record Held : Type 0 where
  pub place : Place  -- the incarnation that it was opened on
  pub live : List ℕ
  pub size : ℕ  -- the tracked size
  pub registration : Option Registration  -- its exclusive open, if it has one

-- a started sync
pub record Started : Type 0 where
  pub outcome : Option Refusal  -- its error, if any

pub record State : Type 0 where
  pub files : Files
  pub config : Config
  pub stream : Stream  -- the rest of the generator's words
  pub names : OpenNames
  pub handles : List (Option Held)  -- each handle by its number, None if it is closed
  pub syncs : List (Option Started)  -- each started sync by its number, None if it is finished or dropped

-- a new handle on an incarnation
abbrev pub held_on : Files → Option Registration → Place → Held
held_on f registration o = record { place = o; live = durable_at f o; size = length (durable_at f o); registration = registration }

-- The start.

abbrev pub empty_directory : Directory
empty_directory = record { has_partition = λ p. false; file = λ p n. None; next = 0 }

abbrev pub with_image : Directory → Image → Directory
with_image d (p, n, bytes) = record { has_partition = with_partition d.has_partition p true; file = with_file d.file p n (Some (Raw bytes)); next = d.next }

-- sets the images one after another
abbrev pub start_on : List Image → Stream → Config → State
start_on images stream config =
    let files = wrap (fold with_image empty_directory images) (λ o. []) 0 0 in
    record { files = files; config = config; stream = stream; names = none_open 0; handles = []; syncs = [] }

abbrev pub start : List Image → Words → Config → State
start images words config = start_on images (scripted_stream (words.given, option_map (λ seed. of_seed (splitmix_seed 32 seed)) words.seed)) config

-- the incarnation of each handle has a number below the next one
abbrev pub AreGiven : ℕ → List (Option Held) → Type 0
AreGiven next handles = All (λ slot. IfSome slot (λ h. h.place.number < next)) handles
