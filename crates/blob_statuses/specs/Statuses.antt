-- The status of a refusal.
use Rattle.std.specs.Prelude.{ℕ}
use Rattle.blob_header.specs.Refusals as refusals
use Rattle.blob_header.specs.Refusals.{Refusal, refusal_of}
use Rattle.blob_script.specs.declared.reply.Reply.{Reply}
use Rattle.blob_script.specs.declared.reply.Reply.TheVariants.{Failed, NoHandle}
use Rattle.blob_statuses.specs.declared.ran.TheConstants.{OTHER_REPLY}
use Rattle.blob_statuses.specs.declared.refusals.TheConstants.{OFFSET_OVERFLOW, BLOB_INSUFFICIENT_LENGTH, PARTITION_NAME_INVALID, PARTITION_MISSING, BLOB_MISSING, BLOB_ALREADY_OPEN, BLOB_CORRUPT, BLOB_LAYOUT_MISMATCH, BLOB_VERSION_MISMATCH, BLOB_CLOSED, READ_FAILED, WRITE_FAILED, INJECTED, MEMORY, GENERATIONS_EXHAUSTED, NO_HANDLE}

abbrev pub refusal_status : Refusal → ℕ
refusal_status refusals.OffsetOverflow = OFFSET_OVERFLOW
refusal_status refusals.BlobInsufficientLength = BLOB_INSUFFICIENT_LENGTH
refusal_status (refusals.PartitionNameInvalid partition) = PARTITION_NAME_INVALID
refusal_status (refusals.PartitionMissing partition) = PARTITION_MISSING
refusal_status (refusals.BlobMissing partition name) = BLOB_MISSING
refusal_status (refusals.BlobAlreadyOpen partition name) = BLOB_ALREADY_OPEN
refusal_status (refusals.BlobCorrupt partition name reason) = BLOB_CORRUPT
refusal_status (refusals.BlobLayoutMismatch first last found) = BLOB_LAYOUT_MISMATCH
refusal_status (refusals.BlobVersionMismatch first last found) = BLOB_VERSION_MISMATCH
refusal_status refusals.Closed = BLOB_CLOSED
refusal_status refusals.ReadFailed = READ_FAILED
refusal_status refusals.WriteFailed = WRITE_FAILED
refusal_status refusals.Injected = INJECTED
refusal_status refusals.Memory = MEMORY
refusal_status refusals.GenerationsExhausted = GENERATIONS_EXHAUSTED

-- why a write or a read was refused, by its reply
abbrev pub refused_status : Reply → ℕ
refused_status (Failed error) = refusal_status (refusal_of error)
refused_status NoHandle = NO_HANDLE
refused_status reply = OTHER_REPLY
