-- The resolution of a header.
use Rattle.std.proofs.Common.{◌≡◌, ◌∙◌, sym, ap, inr, ℕ, List, Bool, true, false, Option, Some, None, Result, Ok, Err, IfSome, arith}
use Rattle.std.specs.Bool.{OnFalse, OnTrue}
use Rattle.blob_header.specs.Parse.{Failure, InvalidMagic, UnsupportedLayoutVersion, LayoutMismatch, VersionMismatch, InvalidChecksum, InvalidPadding, Truncated, parse}
use Rattle.blob_header.specs.Resolve.{OfBlobs}
use Rattle.blob_header.specs.declared.version.BlobVersion.{BlobVersion}
use Rattle.blob_sessions.specs.Headers.{IsCreated, ParsesHeader, ResolvesHeader, accepted_by, header_reply, no_header}
use Rattle.blob_sessions.specs.declared.headers.Accepts.{Accepts}
use Rattle.blob_sessions.specs.declared.headers.ParsedHeader.{ParsedHeader}
use Rattle.blob_sessions.specs.declared.headers.TheConstants.{TO_CREATE}

pub on_true : (b : Bool) {P Q : Type 0} → (P → Q) → OnTrue b P → OnTrue b Q
on_true true f p = f p
on_true false f p = tt

pub on_false : (b : Bool) {P Q : Type 0} → (P → Q) → OnFalse b P → OnFalse b Q
on_false true f p = tt
on_false false f p = f p

if_some : {X : Type 0} (o : Option X) (P Q : X → Type 0) → ((x : X) → P x → Q x) → IfSome o P → IfSome o Q
if_some None P Q f p = tt
if_some (Some x) P Q f p = f x p

-- the reply to a parsed header has another status
not_created : (found : Result (ℕ × BlobVersion × ℕ) Failure) → header_reply found ≡ no_header TO_CREATE → ⊥
not_created (Ok found) e = omega (arith, ap (λ (h : ParsedHeader). h.status) e)
not_created (Err (InvalidMagic found)) e = omega (arith, ap (λ (h : ParsedHeader). h.status) e)
not_created (Err (UnsupportedLayoutVersion expected found)) e = omega (arith, ap (λ (h : ParsedHeader). h.status) e)
not_created (Err (LayoutMismatch oldest newest found)) e = omega (arith, ap (λ (h : ParsedHeader). h.status) e)
not_created (Err (VersionMismatch least greatest found)) e = omega (arith, ap (λ (h : ParsedHeader). h.status) e)
not_created (Err InvalidChecksum) e = omega (arith, ap (λ (h : ParsedHeader). h.status) e)
not_created (Err InvalidPadding) e = omega (arith, ap (λ (h : ParsedHeader). h.status) e)
not_created (Err (Truncated required_len raw_len)) e = omega (arith, ap (λ (h : ParsedHeader). h.status) e)

-- a blob with a header that parses
pub has_header : (raw : List ℕ) (raw_len : ℕ) (accepts : Accepts) (reply : ParsedHeader) → OfBlobs raw raw_len (λ blob. ¬ (IsCreated raw_len blob))
    → ParsesHeader raw raw_len accepts reply → ResolvesHeader raw raw_len accepts reply
has_header raw raw_len accepts reply not parses =
    if_some (accepted_by accepts) _ _
    (λ accepted (e : reply ≡ header_reply (parse raw raw_len accepted)). record {
      to_create = λ blob len front. (λ r. absurd (not_created (parse raw raw_len accepted) (sym e ∙ r)), λ x. absurd (not blob len front x));
      header = inr e;
    })
    parses
