-- The words of lines, by the numbers of what they name.
use Rattle.std.specs.Prelude.{ℕ, List, [], ◌∷◌, Option, Some, codes}
use Rattle.blob_sessions.specs.declared.kinds.TheConstants.{OPEN, OPEN_LOOSE, ADMIT, CLOSE, RESIZE, SIZE, SYNC, START_SYNC, FINISH, REMOVE_BLOB, REMOVE_PARTITION, SCAN, CRASH, REOPEN, READ, WRITE, WRITE_SYNC, CONFIGURE}
use Rattle.blob_statuses.specs.declared.refusals.TheConstants.{OFFSET_OVERFLOW, BLOB_INSUFFICIENT_LENGTH, PARTITION_NAME_INVALID, PARTITION_MISSING, BLOB_MISSING, BLOB_ALREADY_OPEN, BLOB_CORRUPT, BLOB_LAYOUT_MISMATCH, BLOB_VERSION_MISMATCH, BLOB_CLOSED, READ_FAILED, WRITE_FAILED, INJECTED, MEMORY, GENERATIONS_EXHAUSTED, NO_HANDLE, EMPTY_RANGE}

-- a table of words by numbers
abbrev pub Words : Type 0
Words = List (ℕ × Option (List ℕ))

-- the first words of the lines of calls, by kinds
abbrev pub kind_words : Words
kind_words =
    (OPEN, Some (codes "open"))
    ∷ (OPEN_LOOSE, Some (codes "loose"))
    ∷ (ADMIT, Some (codes "admit"))
    ∷ (CLOSE, Some (codes "close"))
    ∷ (RESIZE, Some (codes "resize"))
    ∷ (SIZE, Some (codes "size"))
    ∷ (SYNC, Some (codes "sync"))
    ∷ (START_SYNC, Some (codes "startsync"))
    ∷ (FINISH, Some (codes "finish"))
    ∷ (REMOVE_BLOB, Some (codes "remove"))
    ∷ (REMOVE_PARTITION, Some (codes "remove"))
    ∷ (SCAN, Some (codes "scan"))
    ∷ (CRASH, Some (codes "crash"))
    ∷ (REOPEN, Some (codes "reopen"))
    ∷ (READ, Some (codes "read"))
    ∷ (WRITE, Some (codes "write"))
    ∷ (WRITE_SYNC, Some (codes "writes"))
    ∷ (CONFIGURE, Some (codes "config"))
    ∷ []

-- the first words of refusals, by statuses
abbrev pub refusal_words : Words
refusal_words =
    (OFFSET_OVERFLOW, Some (codes "OffsetOverflow"))
    ∷ (BLOB_INSUFFICIENT_LENGTH, Some (codes "BlobInsufficientLength"))
    ∷ (PARTITION_NAME_INVALID, Some (codes "PartitionNameInvalid"))
    ∷ (PARTITION_MISSING, Some (codes "PartitionMissing"))
    ∷ (BLOB_MISSING, Some (codes "BlobMissing"))
    ∷ (BLOB_ALREADY_OPEN, Some (codes "BlobAlreadyOpen"))
    ∷ (BLOB_CORRUPT, Some (codes "BlobCorrupt"))
    ∷ (BLOB_LAYOUT_MISMATCH, Some (codes "BlobLayoutMismatch"))
    ∷ (BLOB_VERSION_MISMATCH, Some (codes "BlobVersionMismatch"))
    ∷ (BLOB_CLOSED, Some (codes "Closed"))
    ∷ (READ_FAILED, Some (codes "ReadFailed"))
    ∷ (WRITE_FAILED, Some (codes "WriteFailed"))
    ∷ (INJECTED, Some (codes "Injected"))
    ∷ (MEMORY, Some (codes "Memory"))
    ∷ (GENERATIONS_EXHAUSTED, Some (codes "GenerationsExhausted"))
    ∷ (NO_HANDLE, Some (codes "NoHandle"))
    ∷ (EMPTY_RANGE, Some (codes "EmptyRange"))
    ∷ []

-- the words of partial write modes, from 0
abbrev pub mode_words : Words
mode_words = (0, Some (codes "prefix")) ∷ (1, Some (codes "subset")) ∷ (2, Some (codes "sectors")) ∷ []
