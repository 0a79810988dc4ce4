-- The line of a typed call, without its line feed.
use Rattle.std.specs.Prelude.{◌≡◌, ◌⊎◌, ◌≤◌, ◌^◌, ◌==◌, ◌&&◌, ◌++◌, ◌∷◌, [], ℕ, List, Option, None, Some, MatchOption, codes, if◌then◌else◌, length}
use Rattle.std.specs.Fmt.{decimal}
use Rattle.blob_header.specs.PartitionName.{is_partition_name}
use Rattle.blob_script.specs.Replies.{hex_field}
use Rattle.blob_sessions.specs.Names.{kind_words}
use Rattle.blob_sessions.specs.Parts.{CopiesBytes}
use Rattle.blob_sessions.specs.Sessions.{stopped}
use Rattle.blob_sessions.specs.Typed.{by_kind}
use Rattle.blob_statuses.specs.declared.ran.Ran.{Ran}
use Rattle.blob_statuses.specs.declared.ran.TheConstants.{BAD_CALL, UNPRINTED}
use Rattle.blob_sessions.specs.declared.kinds.TheConstants.{OPEN, OPEN_LOOSE, ADMIT, CLOSE, RESIZE, SIZE, SYNC, START_SYNC, FINISH, REMOVE_BLOB, REMOVE_PARTITION, SCAN, CRASH, REOPEN, READ, WRITE, WRITE_SYNC}
use Rattle.blob_sessions.specs.declared.line_text.Form.{Form}
use Rattle.blob_sessions.specs.declared.line_text.Form.TheVariants.{Named, Versions, Partition, Number, First, Last, Bytes, Whole}
use Rattle.blob_sessions.specs.declared.typed.TypedCall.{TypedCall}

-- a partition; `!` for one whose name isn't valid: it makes the same draw and gets the same refusal
abbrev pub partition_token : List ℕ → List ℕ
partition_token p = if is_partition_name p then p else codes "!"

-- what the line of a kind has after its word
abbrev pub forms : List (ℕ × Option Form)
forms =
    (OPEN, Some Versions)
    ∷ (OPEN_LOOSE, Some Versions)
    ∷ (ADMIT, Some Named)
    ∷ (CLOSE, Some Number)
    ∷ (RESIZE, Some First)
    ∷ (SIZE, Some Number)
    ∷ (SYNC, Some Number)
    ∷ (START_SYNC, Some Number)
    ∷ (FINISH, Some Number)
    ∷ (REMOVE_BLOB, Some Named)
    ∷ (REMOVE_PARTITION, Some Partition)
    ∷ (SCAN, Some Partition)
    ∷ (CRASH, Some Whole)
    ∷ (REOPEN, Some Whole)
    ∷ (READ, Some Last)
    ∷ (WRITE, Some Bytes)
    ∷ (WRITE_SYNC, Some Bytes)
    ∷ []

-- a space and a partition, bytes in hex, or a number
abbrev pub partition_field : List ℕ → List ℕ
partition_field p = codes " " ++ partition_token p

abbrev pub bytes_field : List ℕ → List ℕ
bytes_field bytes = codes " " ++ hex_field bytes

abbrev pub number_field : ℕ → List ℕ
number_field number = codes " " ++ decimal number

-- the accepted versions, unless they are the default one alone
abbrev pub versions_field : TypedCall → List ℕ
versions_field asked = if asked.first == 0 && asked.last == 0 then [] else number_field asked.first ++ number_field asked.last

-- the fields after the word
abbrev pub fields : Form → TypedCall → List ℕ → List ℕ → List ℕ
fields Named asked p n = partition_field p ++ bytes_field n
fields Versions asked p n = (partition_field p ++ bytes_field n) ++ versions_field asked
fields Partition asked p n = partition_field p
fields Number asked p n = number_field asked.number
fields First asked p n = number_field asked.number ++ number_field asked.first
fields Last asked p n = (number_field asked.number ++ number_field asked.first) ++ number_field asked.last
fields Bytes asked p n = (number_field asked.number ++ number_field asked.first) ++ bytes_field n
fields Whole asked p n = []

-- the line of a kind's call
abbrev pub line_in : Option (List ℕ) → Option Form → TypedCall → List ℕ → List ℕ → Option (List ℕ)
line_in (Some word) (Some form) asked p n = Some (word ++ fields form asked p n)
line_in word form asked p n = None

abbrev pub call_line : TypedCall → List ℕ → List ℕ → Option (List ℕ)
call_line asked p n = line_in (by_kind asked.kind kind_words) (by_kind asked.kind forms) asked p n

-- The line is copied, if the kind has one and it fits. `UNPRINTED`: its length doesn't fit in 64 bits.
abbrev pub CopiesLine : Option (List ℕ) → Ran → List ℕ → List ℕ → Type 0
CopiesLine line ran old new =
    MatchOption line ((ran ≡ stopped BAD_CALL) × (new ≡ old))
    (λ text. CopiesBytes text ran old new ⊎ ((ran ≡ stopped UNPRINTED) × (2 ^ 64 ≤ length text) × (new ≡ old)))
