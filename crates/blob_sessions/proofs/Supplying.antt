-- What holds under the supply of power, by whether it permits the call.
use Rattle.std.proofs.Common.{◌≡◌, Bool, true, false, ap, ap₂, sym, ◌∙◌}
use Rattle.std.specs.Coded.{Coded-set, coded_bool}
use Rattle.std.specs.Prelude.{MatchBool}
use Rattle.blob_script.specs.Readers.{has_begun}
use Rattle.blob_statuses.specs.Powers.{after_call, permits}
use Rattle.blob_statuses.specs.declared.effect.Effect.{Effect}
use Rattle.blob_statuses.specs.declared.power.Power.{Power}
use Rattle.blob_sessions.specs.Supplies.{Supplied}
use Rattle.blob_sessions.specs.declared.kept.Kept.{Kept}

pub permitted : (b : Bool) (A B : Type 0) → b ≡ true → A → MatchBool b A B
permitted true A B is a = a
permitted false A B is a = absurd (cc)

pub refused : (b : Bool) (A B : Type 0) → b ≡ false → B → MatchBool b A B
refused true A B is b = absurd (cc)
refused false A B is b = b

-- A call that the power permitted, and what the power has made of it. That the reader has begun is one fact, however it is known.
pub supplied : (k made : Kept) (begun : has_begun made.reader ≡ true) (e e' : Effect) (done : Bool) (Made : Kept → Type 0) (Refused : Type 0) (after : Power) → e' ≡ e
    → permits k.power e' ≡ true → Made made → made.power ≡ k.power → after ≡ after_call made.power e' done
    → Supplied e done Made Refused k (record made { power = after; begun = begun })
supplied k made begun e e' done Made Refused after same on does power follow =
    permitted (permits k.power e) _ _ (ap (permits k.power) (sym same) ∙ on) (
      made,
      does,
      power,
      ap₂ (λ (p : Power) (b : has_begun made.reader ≡ true). record made { power = p; begun = b })
          (follow ∙ ap (λ (p : Power). after_call p e' done) power ∙ ap (λ (x : Effect). after_call k.power x done) same)
          (Coded-set coded_bool (has_begun made.reader) true begun made.begun),
    )
