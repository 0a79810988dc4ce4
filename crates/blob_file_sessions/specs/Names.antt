-- The words of lines of files, by the numbers of what they name, and all tables of words.
use Rattle.std.specs.Prelude.{◌≡◌, ℕ, List, [], ◌∷◌, Option, Some, MatchOption, option_and_then, codes, nat_lt, if◌then◌else◌}
use Rattle.blob_sessions.specs.Names as names
use Rattle.blob_sessions.specs.Names.{Words}
use Rattle.blob_sessions.specs.Parts.{CopiesBytes}
use Rattle.blob_sessions.specs.Sessions.{stopped}
use Rattle.blob_sessions.specs.Typed.{by_kind}
use Rattle.blob_statuses.specs.declared.ran.Ran.{Ran}
use Rattle.blob_statuses.specs.declared.ran.TheConstants.{OTHER_REPLY}
use Rattle.blob_file_sessions.specs.declared.kinds.TheConstants.{CREATE, OPEN, OPEN_TRUNCATED, LINK, UNLINK, RENAME, MAKE_DIRECTORY, REMOVE_DIRECTORY, LIST, SYNC_DIRECTORY, FIND, CREATE_AT, LINK_AT, UNLINK_AT, RENAME_AT, MAKE_DIRECTORY_AT, REMOVE_DIRECTORY_AT, LIST_AT, SYNC_DIRECTORY_AT, FIND_AT, OPEN_INODE, OPEN_INODE_TRUNCATED, CLOSE, TRUNCATE, SIZE, SYNC, SYNC_DATA, INODE_OF, READ, WRITE, SYNC_ALL, SETTLE, CRASH, TREE, COMMIT}
use Rattle.blob_file_sessions.specs.declared.names.Table.{Table}
use Rattle.blob_file_sessions.specs.declared.names.Table.TheVariants.{OfStore, OfFiles, OfRefusals, OfProfiles, OfModes, OfRenames}
use Rattle.blob_file_sessions.specs.declared.names.TheConstants.{KINDS, FILE_KINDS, REFUSALS, PROFILES, MODES, RENAMES}
use Rattle.blob_file_sessions.specs.declared.refusals.TheConstants.{EXISTS, NOT_FOUND, NOT_EMPTY, IS_DIRECTORY, NOT_DIRECTORY, NAME_TOO_LONG, INVALID_NAME, TOO_MANY_LINKS, STALE, NO_SPACE, LOOP, CRASHED}

-- the first words of the lines of calls by paths, by kinds
abbrev pub path_words : Words
path_words =
    (CREATE, Some (codes "create"))
    ∷ (OPEN, Some (codes "open"))
    ∷ (OPEN_TRUNCATED, Some (codes "open_truncated"))
    ∷ (LINK, Some (codes "link"))
    ∷ (UNLINK, Some (codes "unlink"))
    ∷ (RENAME, Some (codes "rename"))
    ∷ (MAKE_DIRECTORY, Some (codes "mkdir"))
    ∷ (REMOVE_DIRECTORY, Some (codes "rmdir"))
    ∷ (LIST, Some (codes "listdir"))
    ∷ (SYNC_DIRECTORY, Some (codes "fsyncdir"))
    ∷ (FIND, Some (codes "find"))
    ∷ []

-- those of calls by the numbers of directories and inodes
abbrev pub directory_words : Words
directory_words =
    (CREATE_AT, Some (codes "create_at"))
    ∷ (LINK_AT, Some (codes "link_at"))
    ∷ (UNLINK_AT, Some (codes "unlink_at"))
    ∷ (RENAME_AT, Some (codes "rename_at"))
    ∷ (MAKE_DIRECTORY_AT, Some (codes "mkdir_at"))
    ∷ (REMOVE_DIRECTORY_AT, Some (codes "rmdir_at"))
    ∷ (LIST_AT, Some (codes "listdir_at"))
    ∷ (SYNC_DIRECTORY_AT, Some (codes "fsyncdir_at"))
    ∷ (FIND_AT, Some (codes "find_at"))
    ∷ (OPEN_INODE, Some (codes "open_inode"))
    ∷ (OPEN_INODE_TRUNCATED, Some (codes "open_inode_truncated"))
    ∷ []

-- those of calls by descriptors and on the whole file system
abbrev pub other_words : Words
other_words =
    (CLOSE, Some (codes "close"))
    ∷ (TRUNCATE, Some (codes "truncate"))
    ∷ (SIZE, Some (codes "size"))
    ∷ (SYNC, Some (codes "fsync"))
    ∷ (SYNC_DATA, Some (codes "fdatasync"))
    ∷ (INODE_OF, Some (codes "inode_of"))
    ∷ (READ, Some (codes "read"))
    ∷ (WRITE, Some (codes "write"))
    ∷ (SYNC_ALL, Some (codes "sync"))
    ∷ (SETTLE, Some (codes "settle"))
    ∷ (CRASH, Some (codes "crash"))
    ∷ (TREE, Some (codes "tree"))
    ∷ (COMMIT, Some (codes "commit"))
    ∷ []

-- the first words of the lines of calls, by kinds
abbrev pub kind_word : ℕ → Option (List ℕ)
kind_word kind =
    if nat_lt kind 16 then by_kind kind path_words
    else if nat_lt kind 32 then by_kind kind directory_words
    else by_kind kind other_words

-- the words of refusals of files, by statuses
abbrev pub file_refusal_words : Words
file_refusal_words =
    (EXISTS, Some (codes "Exists"))
    ∷ (NOT_FOUND, Some (codes "NotFound"))
    ∷ (NOT_EMPTY, Some (codes "NotEmpty"))
    ∷ (IS_DIRECTORY, Some (codes "IsDirectory"))
    ∷ (NOT_DIRECTORY, Some (codes "NotDirectory"))
    ∷ (NAME_TOO_LONG, Some (codes "NameTooLong"))
    ∷ (INVALID_NAME, Some (codes "InvalidName"))
    ∷ (TOO_MANY_LINKS, Some (codes "TooManyLinks"))
    ∷ (STALE, Some (codes "Stale"))
    ∷ (NO_SPACE, Some (codes "NoSpace"))
    ∷ (LOOP, Some (codes "Loop"))
    ∷ (CRASHED, Some (codes "Crashed"))
    ∷ []

-- of all refusals: those of files have the statuses from 64 on
abbrev pub refusal_word : ℕ → Option (List ℕ)
refusal_word status = if nat_lt status 64 then by_kind status names.refusal_words else by_kind status file_refusal_words

-- the words of profiles, from 0
abbrev pub profile_words : Words
profile_words = (0, Some (codes "ext4")) ∷ (1, Some (codes "xfs")) ∷ (2, Some (codes "btrfs")) ∷ (3, Some (codes "posix")) ∷ []

-- what a rename does if the new name is taken: it replaces it, which has no word, is refused or exchanges both
abbrev pub rename_words : Words
rename_words = (0, Some []) ∷ (1, Some (codes "noreplace")) ∷ (2, Some (codes "exchange")) ∷ []

abbrev pub tables : List (ℕ × Option Table)
tables =
    (KINDS, Some OfStore)
    ∷ (FILE_KINDS, Some OfFiles)
    ∷ (REFUSALS, Some OfRefusals)
    ∷ (PROFILES, Some OfProfiles)
    ∷ (MODES, Some OfModes)
    ∷ (RENAMES, Some OfRenames)
    ∷ []

-- the word of a number in a table
abbrev pub word_of : Table → ℕ → Option (List ℕ)
word_of OfStore number = by_kind number names.kind_words
word_of OfFiles number = kind_word number
word_of OfRefusals number = refusal_word number
word_of OfProfiles number = by_kind number profile_words
word_of OfModes number = by_kind number names.mode_words
word_of OfRenames number = by_kind number rename_words

abbrev pub word_in : ℕ → ℕ → Option (List ℕ)
word_in table number = option_and_then (λ t. word_of t number) (by_kind table tables)

-- it is copied, if there is one and it fits
abbrev pub CopiesWord : ℕ → ℕ → Ran → List ℕ → List ℕ → Type 0
CopiesWord table number ran old new =
    MatchOption (word_in table number) ((ran ≡ stopped OTHER_REPLY) × (new ≡ old)) (λ word. CopiesBytes word ran old new)
