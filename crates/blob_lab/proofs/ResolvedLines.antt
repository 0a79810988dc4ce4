-- The reply to a line of hex, from what was read, decoded, resolved and written.
use Rattle.std.proofs.Common.{◌≡◌, ℕ, List, [], ◌∷◌, ◌++◌, Option, Some, None, ◌⊎◌, IfSome, Result, Ok, Err, IsErr, OnOk, inl, inr, sym, ap, subst}
use Rattle.std.specs.Io.BufRead.{first_piece}
use Rattle.std.specs.Io.KnownBytes.{Appends, Keeps}
use Rattle.std.proofs.KnownBytes.{Appends-kept}
use Rattle.hex.specs.Hex.{decode_of}
use Rattle.blob_header.specs.declared.error.Error.{Error}
use Rattle.blob_header.specs.declared.version.BlobVersion.{BlobVersion}
use Rattle.blob_header.specs.Refusals.{Memory}
use Rattle.blob_header.specs.ReplyLines.{refusal_line}
use Rattle.blob_header.specs.Resolve.{AnswersAs}
use Rattle.blob_lab.specs.ResolveReplies.{AnswersLine, by_refusal, resolution_line, resolved_image}
use Rattle.blob_lab.proofs.ScriptRuns.{kept_Appends}

-- the line of the resolution of these bytes, or `Memory` instead of an error
abbrev pub IsReplyTo : List ℕ → List ℕ → Type 0
IsReplyTo image reply = (reply ≡ resolution_line (resolved_image image)) ⊎ (IsErr (resolved_image image) × (reply ≡ refusal_line Memory))

pub is_reply : (answer : Result (Option (ℕ × BlobVersion × ℕ)) Error) (image : List ℕ) → AnswersAs answer (resolved_image image) → IsReplyTo image (resolution_line (by_refusal answer))
is_reply (Ok x) image e = inl (ap resolution_line (sym e))
is_reply (Err e) image (inl h) = inl (ap resolution_line (sym h))
is_reply (Err e) image (inr (refused, memory)) = inr (refused, ap refusal_line memory)

-- a line was decoded, and a reply to its bytes was written
pub replied_line : (line image reply : List ℕ) (w0 w1 w2 w3 : Option (List ℕ)) → decode_of line ≡ Ok image → IsReplyTo image reply → Keeps w0 w1 → Appends w1 w2 (reply ++ 10 ∷ []) → Keeps w2 w3 → AnswersLine line w0 w3
replied_line line image reply w0 w1 w2 w3 decoded is before written behind =
    let added : Appends w0 w3 (reply ++ 10 ∷ []) = Appends-kept w0 w2 w3 (reply ++ 10 ∷ []) (kept_Appends w0 w1 w2 (reply ++ 10 ∷ []) before written) behind in
    (image, reply, decoded, added, is)

pub replied : {T E : Type 0} (result : Result T E) (input : Option (List ℕ)) (line : List ℕ) (w0 w3 : Option (List ℕ)) → IfSome input (λ bytes. line ≡ first_piece 10 bytes) → AnswersLine line w0 w3
    → OnOk result (IfSome input (λ bytes. AnswersLine (first_piece 10 bytes) w0 w3))
replied (Err e) input line w0 w3 is answers = tt
replied (Ok x) None line w0 w3 is answers = tt
replied (Ok x) (Some bytes) line w0 w3 is answers = subst (λ (l : List ℕ). AnswersLine l w0 w3) is answers
