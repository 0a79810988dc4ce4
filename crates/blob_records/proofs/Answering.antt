-- Cases on what a call returned.
use Rattle.std.proofs.Common.{◌≡◌, ℕ, ◌+◌, ◌-◌, ◌≤◌, min, Bool, true, List, length, Option, Some, None, inr, refl, ap, ap₂, subst, arith, le-ltb}
use Rattle.std.specs.Prelude.{Result, Ok, Err, OnOk, IfOk, IsSome, if◌then◌else◌}
use Rattle.blob_header.specs.declared.error.Error.{Error}
use Rattle.blob_header.specs.Refusals.{BlobInsufficientLength, OffsetOverflow, Refusal, error_of, refused_if}
use Rattle.rand_core.specs.Stream.{Stream}
use Rattle.blob_model.specs.Directory.{Directory, current, is_current}
use Rattle.blob_model.proofs.Opened.{current_is}
use Rattle.blob_model.specs.Places.{Place}
use Rattle.blob_draws.specs.Answers.{injected_or}
use Rattle.blob_draws.specs.Faults.{draw}
use Rattle.blob_draws.specs.declared.config.Config.{Config}
use Rattle.blob_faulty.specs.Keeps.{OverMemory}
use Rattle.blob_faulty.specs.Wrapper.{config_of, inner_of, rng_of}
use Rattle.blob_memory.specs.Answers.{OrMemory, end_refusal, is_uncounted, missing, open_refusal, read_refusal, sync_refusal}
use Rattle.blob_memory.specs.Store.{directory}
use Rattle.blob_records.specs.Answers.{MayRecover}

pub at_ok : {T : Type 0} (r : Result T Error) (Q : Type 0) → (error_of r ≡ None → Q) → OnOk r Q
at_ok (Ok x) Q q = q refl
at_ok (Err e) Q q = tt

pub by_answer : (a : Option Refusal) (Q : Type 0) → (a ≡ None → Q) → (IsSome a → Q) → Q
by_answer None Q ok err = ok refl
by_answer (Some r) Q ok err = err refl

pub if_both : {T E : Type 0} (r : Result T E) (P Q S : T → Type 0) → IfOk r P → IfOk r Q → ((x : T) → P x → Q x → S x) → IfOk r S
if_both (Ok x) P Q S p q both = both x p q
if_both (Err e) P Q S p q both = tt

-- a sync of a current incarnation
pub sync_current : (d : Directory) (o : Place) (drawn : Bool) (answer : Option Refusal) → is_current d o ≡ true → injected_or drawn (OrMemory (sync_refusal d o)) answer → injected_or drawn (OrMemory None) answer
sync_current d o drawn answer now may =
    subst (λ (refusal : Option Refusal). injected_or drawn (OrMemory refusal) answer) (ap (λ (b : Bool). if b then None else Some (missing o)) now) may

-- a read up to the end of a slot or of the blob
pub read_within : (o : Place) (live : List ℕ) (drawn : Bool) (from there offset len : ℕ) (answer : Option Refusal) → from ≡ min offset (length live) → there ≡ min (length live - from) len
    → injected_or drawn (λ it. it ≡ read_refusal o live from there) answer → injected_or drawn (λ it. it ≡ end_refusal o (min (length live) (offset + len))) answer
read_within o live drawn from there offset len answer begins reads may =
    let end : from + o.start + there ≡ min (length live) (offset + len) + o.start = omega (arith, begins, reads) in
    let within = le-ltb (length live) (from + there) (omega (arith, begins, reads)) in
    subst (λ (refusal : Option Refusal). injected_or drawn (λ it. it ≡ refusal) answer)
    (ap₂ (λ (n : ℕ) (b : Bool). if is_uncounted n then Some OffsetOverflow else refused_if BlobInsufficientLength b) end within) may

-- an open that was accepted, and then a sync
pub recovers : {R : Type 0} (stream : R → Stream) (before after : OverMemory R) (p n : List ℕ) (o : Place) (answer : Option Refusal) → current (directory (inner_of after)) o.partition o.name ≡ Some o
    → injected_or (draw (config_of before).open_rate (stream (rng_of before))).0 (OrMemory (open_refusal (directory (inner_of before)) p n 0 0)) None
    → stream (rng_of after) ≡ (draw (config_of before).open_rate (stream (rng_of before))).1 → config_of after ≡ config_of before
    → injected_or (draw (config_of after).sync_rate (stream (rng_of after))).0 (OrMemory (sync_refusal (directory (inner_of after)) o)) answer → MayRecover stream before p n answer
recovers stream before after p n o answer now opened drawn config may =
    let d = directory (inner_of after) in
    inr (
      opened,
      subst (λ (b : Bool). injected_or b (OrMemory None) answer) (ap₂ (λ (c : Config) (s : Stream). (draw c.sync_rate s).0) config drawn)
          (sync_current d o (draw (config_of after).sync_rate (stream (rng_of after))).0 answer (current_is d o.partition o.name o now) may),
    )
