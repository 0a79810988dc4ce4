-- How a typed call ends, by how its call is built and made.
use Rattle.std.proofs.Common.{◌≡◌, ◌<◌, ℕ, List, true, Some, ap, ◌∙◌, sym, arith}
use Rattle.std.proofs.Math.Bool.{Bool-set}
use Rattle.blob_script.specs.Acts.{Act}
use Rattle.blob_script.specs.declared.reply.Reply.{Reply}
use Rattle.blob_script.specs.declared.reply.Reply.TheVariants.{Done, Opened, Bytes, Size, Names, Started, Crashed, Failed, NoHandle, EmptyRange}
use Rattle.blob_script.specs.Readers.{has_begun}
use Rattle.blob_lab_store.specs.declared.lab.Lab.{Lab}
use Rattle.blob_lab_store.specs.LabStands.{Performs}
use Rattle.blob_header.specs.Refusals as refusals
use Rattle.blob_header.specs.Refusals.{Refusal, refusal_of}
use Rattle.blob_sessions.specs.Applying.{Applies}
use Rattle.blob_sessions.specs.Sessions.{Makes, settings_of}
use Rattle.blob_statuses.specs.Statuses.{refusal_status}
use Rattle.blob_sessions.specs.Typed.{IsNoTypedCall, last_reply, typed_act, typed_reply, without_reply}
use Rattle.blob_sessions.specs.declared.kept.Kept.{Kept}
use Rattle.blob_statuses.specs.declared.ran.TheConstants.{BAD_CALL}
use Rattle.blob_sessions.specs.declared.typed.TypedCall.{TypedCall}
use Rattle.blob_sessions.specs.declared.typed.TypedReply.{TypedReply}

-- a refusal's status is none of those below 16
pub refusal_above : (r : Refusal) (s : ℕ) → s < 16 → refusal_status r ≡ s → ⊥
refusal_above refusals.OffsetOverflow s lt e = omega (arith, lt, e)
refusal_above refusals.BlobInsufficientLength s lt e = omega (arith, lt, e)
refusal_above (refusals.PartitionNameInvalid partition) s lt e = omega (arith, lt, e)
refusal_above (refusals.PartitionMissing partition) s lt e = omega (arith, lt, e)
refusal_above (refusals.BlobMissing partition name) s lt e = omega (arith, lt, e)
refusal_above (refusals.BlobAlreadyOpen partition name) s lt e = omega (arith, lt, e)
refusal_above (refusals.BlobCorrupt partition name reason) s lt e = omega (arith, lt, e)
refusal_above (refusals.BlobLayoutMismatch first last found) s lt e = omega (arith, lt, e)
refusal_above (refusals.BlobVersionMismatch first last found) s lt e = omega (arith, lt, e)
refusal_above refusals.Closed s lt e = omega (arith, lt, e)
refusal_above refusals.ReadFailed s lt e = omega (arith, lt, e)
refusal_above refusals.WriteFailed s lt e = omega (arith, lt, e)
refusal_above refusals.Injected s lt e = omega (arith, lt, e)
refusal_above refusals.Memory s lt e = omega (arith, lt, e)
refusal_above refusals.GenerationsExhausted s lt e = omega (arith, lt, e)

-- a call that was made has none of the statuses from 1 to 15
reply_above : (reply : Reply) (s : ℕ) → 0 < s → s < 16 → (typed_reply reply).status ≡ s → ⊥
reply_above Done s some lt e = omega (arith, some, e)
reply_above (Opened handle size version) s some lt e = omega (arith, some, e)
reply_above (Bytes bytes) s some lt e = omega (arith, some, e)
reply_above (Size size) s some lt e = omega (arith, some, e)
reply_above (Names names) s some lt e = omega (arith, some, e)
reply_above (Started number) s some lt e = omega (arith, some, e)
reply_above (Crashed selections) s some lt e = omega (arith, some, e)
reply_above (Failed error) s some lt e = refusal_above (refusal_of error) s lt e
reply_above NoHandle s some lt e = omega (arith, lt, e)
reply_above EmptyRange s some lt e = omega (arith, lt, e)

pub applied : (k k' : Kept) (asked : TypedCall) (partition name : List ℕ) (act : Act) (last : Reply) (reply : TypedReply) → typed_act asked partition name ≡ Some act → Makes k act last k' → settings_of k' ≡ settings_of k
    → reply ≡ last_reply k'.last → Applies k k' asked partition name reply
applied k k' asked partition name act last reply built makes settings is =
    let same : reply ≡ typed_reply last = is ∙ ap last_reply makes.last in let status : reply.status ≡ (typed_reply last).status = ap (λ r. r.status) same in record {
      made = λ made. (act, last, built, makes, same);
      bad = λ h. absurd (reply_above last BAD_CALL (omega arith) (omega arith) (sym status ∙ h));
      settings = settings;
    }

pub not_applied : (k k' : Kept) (asked : TypedCall) (partition name : List ℕ) (reply : TypedReply) → IsNoTypedCall asked partition name → k' ≡ k → reply ≡ without_reply BAD_CALL → Applies k k' asked partition name reply
not_applied k k' asked partition name reply none same is =
    let status : reply.status ≡ BAD_CALL = ap (λ r. r.status) is in record {
      made = λ made. absurd (made status);
      bad = λ h. (none, same, is);
      settings = ap settings_of same;
    }

-- two proofs that a reader's preamble has ended are equal
pub same_kept : (k : Kept) (begun : has_begun k.reader ≡ true) → record k { begun = begun } ≡ k
same_kept k begun = ap (λ b. record k { begun = b }) (Bool-set (has_begun k.reader) true begun k.begun)

-- the laboratory made the call
pub record IsPerformed (lab lab' : Lab) (asked : TypedCall) (partition name : List ℕ) (last : Reply) : Type 0 where
  pub act : Act
  pub built : typed_act asked partition name ≡ Some act
  pub performs : Performs lab act last lab'
