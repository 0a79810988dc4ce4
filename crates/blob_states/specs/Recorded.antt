-- A recorded run: its start, the state after its first calls, and the names that may have a file then.
use Rattle.std.specs.Prelude.{◌≢◌, ℕ, List, take, map, String, Vec, Option, Some, None, string_bytes}
use Rattle.std.specs.Global.{Global}
use Rattle.std.specs.List.{AllByRecursion, Contains}
use Rattle.blob_model.specs.Files.{Files}
use Rattle.blob_script.specs.Acts.{Act}
use Rattle.blob_script.specs.Preambles.{Image, images_of, words_of}
use Rattle.blob_script.specs.Settings.{no_rates}
use Rattle.blob_lab_model.specs.Accepted.{opened_name}
use Rattle.blob_lab_model.specs.States.{State, start}
use Rattle.blob_choices.specs.Outcomes.{acts_of, run_outcome}
use Rattle.blob_states.specs.declared.recorded.Recorded.{Recorded}

-- the state after these calls, if no allocation fails
abbrev pub after_acts : State → List Act → State
after_acts v acts = let r = run_outcome v acts v.stream in r.0.1 r.1

-- the images of the run, and its first calls
abbrev pub first_images : Recorded → List Image
first_images run = images_of run.preamble.images.items

abbrev pub first_acts : Recorded → ℕ → List Act
first_acts run count = acts_of (take count run.calls.items)

-- the state after the first calls of the run, with the words and the seed of the record
abbrev pub state_after : Recorded → ℕ → State
state_after run count = after_acts (start (first_images run) (words_of run.preamble) no_rates) (first_acts run count)

-- a partition and a name in it
abbrev pub Name : Type 0
Name = List ℕ × List ℕ

abbrev pub name_of : String Global × Vec ℕ Global → Name
name_of name = (string_bytes name.0, name.1.items)

abbrev pub names_of : List (String Global × Vec ℕ Global) → List Name
names_of names = map name_of names

-- no name goes
abbrev pub KeepsNames : List Name → List Name → Type 0
KeepsNames old new = (name : Name) → Contains old name → Contains new name

-- the name of an image, and that of a call that opens one, are among these names
abbrev pub HasImage : List Name → Image → Type 0
HasImage names image = Contains names (image.0, image.1)

abbrev pub HasOpened : List Name → Option Name → Type 0
HasOpened names None = Unit {0}
HasOpened names (Some name) = Contains names name

abbrev pub HaveEachName : List Name → List Image → List Act → Type 0
HaveEachName names images acts =
    AllByRecursion (HasImage names) images × AllByRecursion (λ act. HasOpened names (opened_name act)) acts

-- these are the names of the run's images, and those that its first calls open
abbrev pub HaveNames : List Name → Recorded → ℕ → Type 0
HaveNames names run count = HaveEachName names (first_images run) (first_acts run count)

-- each name that has a file is one of these
abbrev pub HaveEachFile : List Name → Files → Type 0
HaveEachFile names f = (p n : List ℕ) → f.directory.file p n ≢ None → Contains names (p, n)
