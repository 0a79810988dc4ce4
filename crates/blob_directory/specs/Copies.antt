-- Copies of edits that nothing settled.
use Rattle.std.specs.Prelude.{◌≡◌, List}
use Rattle.std.specs.List.{AllZip}
use Rattle.blob_directory.specs.declared.unsettled.Unsettled.{Unsettled}
use Rattle.blob_directory.specs.Names.{edit_of}

-- the same changes of the same entries, and all else is equal
abbrev pub IsCopy : Unsettled → Unsettled → Type 0
IsCopy edit copy = (edit_of copy.edit ≡ edit_of edit.edit) × (copy ≡ record edit { edit = copy.edit })

-- so is each of a list
abbrev pub AreCopies : List Unsettled → List Unsettled → Type 0
AreCopies edits copies = AllZip IsCopy edits copies
