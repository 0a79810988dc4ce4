-- Why an append and a recovery are refused.
use Rattle.std.proofs.Common.{◌≡◌, ℕ, ◌+◌, ◌^◌, ◌<◌, ◌≤◌, Bool, true, false, List, length, Option, Some, None, nat_lt, refl, sym, ◌∙◌, ap, subst, arith}
use Rattle.std.proofs.lemmas.Bool.{cond-false, le-ltb}
use Rattle.std.proofs.lemmas.Option.{none-some}
use Rattle.rand_core.specs.Stream.{Stream}
use Rattle.blob_header.specs.Header.{data_start}
use Rattle.blob_header.specs.Refusals.{Refusal, OffsetOverflow, BlobInsufficientLength}
use Rattle.blob_header.specs.declared.layout.Layout.{Layout}
use Rattle.blob_header.specs.declared.layout.Layout.TheVariants.{V0, V1}
use Rattle.blob_model.specs.Directory.{Directory}
use Rattle.blob_model.specs.Durable.{Durable}
use Rattle.blob_model.specs.Opening.{IsOpened, Continued, Begun}
use Rattle.blob_model.specs.Places.{Place}
use Rattle.blob_faulty.specs.Answers.{Allowed, injected_or}
use Rattle.blob_faulty.specs.Faults.{draw}
use Rattle.blob_faulty.specs.Keeps.{OverMemory}
use Rattle.blob_faulty.specs.Wrapper.{rng_of, config_of}
use Rattle.blob_memory.specs.Answers.{read_refusal, is_uncounted}
use Rattle.blob_log.specs.Frames.{frame}
use Rattle.blob_log.specs.Refused.{MayAppend, Asked, MayRecover, NotRead, opens}

pub asked : (end : ℕ) (entry : List ℕ) (writes : ℕ → List ℕ → Bool → Allowed) (bytes : List ℕ) (answer : Option Refusal) → bytes ≡ frame entry → writes end bytes true answer → MayAppend end entry writes answer
asked end entry writes bytes answer is may = Asked answer (subst (λ (b : List ℕ). writes end b true answer) is may)

-- an incarnation's bytes start after a header of at most 4096 bytes
start_of : (layout : Layout) → data_start layout ≤ 4096
start_of V0 = omega arith
start_of V1 = omega arith

pub starts : (d d' : Directory) (f f' : Durable) (p n : List ℕ) (first last : ℕ) (o : Place) (live : List ℕ) (version : ℕ) → IsOpened d f d' f' p n first last o live version → o.start ≤ 4096
starts d d' f f' p n first last o live version (Continued number layout opens place holds same kept) = omega (arith, ap (λ (a : Place). a.start) place, start_of layout)
starts d d' f f' p n first last o live version (Begun layout opens place made kept) = omega (arith, ap (λ (a : Place). a.start) place, start_of layout)

-- a read of all live bytes is refused by its draw alone
none_refused : (o : Place) (live : List ℕ) (len : ℕ) → o.start + len < 2 ^ 64 → len ≤ length live → read_refusal o live 0 len ≡ None
none_refused o live len counted within =
    cond-false (is_uncounted (0 + o.start + len)) (Some OffsetOverflow) _ (le-ltb _ _ (omega (arith, counted)))
    ∙ cond-false (nat_lt (length live) (0 + len)) (Some BlobInsufficientLength) None (le-ltb _ _ (omega (arith, within)))

pub not_read : {R : Type 0} (stream : R → Stream) (w s : OverMemory R) (p n : List ℕ) (o : Place) (live : List ℕ) (len : ℕ) (refusal : Refusal) → opens stream w p n None → config_of s ≡ config_of w
    → stream (rng_of s) ≡ (draw (config_of w).open_rate (stream (rng_of w))).1 → o.start + len < 2 ^ 64 → len ≤ length live
    → injected_or (draw (config_of s).read_rate (stream (rng_of s))).0 (λ answer. answer ≡ read_refusal o live 0 len) (Some refusal) → MayRecover stream w p n (Some refusal)
not_read stream w s p n o live len refusal opened config left counted within refused =
    go (draw (config_of w).read_rate (draw (config_of w).open_rate (stream (rng_of w))).1).0 refl (subst (λ (b : Bool). injected_or b (λ answer. answer ≡ read_refusal o live 0 len) (Some refusal)) same refused)
  where
    same : (draw (config_of s).read_rate (stream (rng_of s))).0 ≡ (draw (config_of w).read_rate (draw (config_of w).open_rate (stream (rng_of w))).1).0
    same = λ i. (draw (config i).read_rate (left i)).0

    go : (b : Bool) → (draw (config_of w).read_rate (draw (config_of w).open_rate (stream (rng_of w))).1).0 ≡ b → injected_or b (λ answer. answer ≡ read_refusal o live 0 len) (Some refusal) → MayRecover stream w p n (Some refusal)
    go true is h = subst (λ (a : Option Refusal). MayRecover stream w p n a) (sym h) (NotRead opened is)
    go false is h = absurd (none-some refusal (sym (none_refused o live len counted within) ∙ sym h))
