-- The list of the edits that nothing settled.
use Rattle.std.specs.Prelude.{◌<◌, List, vec_capacity, vec_len}
use Rattle.blob_directory.specs.declared.unsettled.Unsettled.{Unsettled}
use Rattle.blob_directory.specs.declared.unsettled_edits.UnsettledEdits.{UnsettledEdits}

abbrev pub edits_listed : UnsettledEdits → List Unsettled
edits_listed list = list.edits.items

-- there is space for one more
abbrev pub HasSpace : UnsettledEdits → Type 0
HasSpace list = vec_len list.edits < vec_capacity list.edits
