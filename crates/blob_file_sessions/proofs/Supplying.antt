-- What holds of files under the supply of power, if it permits the call.
use Rattle.std.proofs.Common.{◌≡◌, Bool, true, ap, sym, ◌∙◌}
use Rattle.blob_statuses.specs.Powers.{after_call, permits}
use Rattle.blob_statuses.specs.declared.effect.Effect.{Effect}
use Rattle.blob_statuses.specs.declared.power.Power.{Power}
use Rattle.blob_sessions.proofs.Supplying.{permitted}
use Rattle.blob_file_sessions.specs.Supplies.{Supplied}
use Rattle.blob_file_sessions.specs.declared.kept.KeptFiles.{KeptFiles}

-- a call that the power permitted, and what the power has made of it
pub supplied : (k made : KeptFiles) (e e' : Effect) (done : Bool) (Made : KeptFiles → Type 0) (Refused : Type 0) (after : Power) → e' ≡ e → permits k.power e' ≡ true → Made made → made.power ≡ k.power
    → after ≡ after_call made.power e' done → Supplied e done Made Refused k (record made { power = after })
supplied k made e e' done Made Refused after same on does power follow =
    permitted (permits k.power e) _ _ (ap (permits k.power) (sym same) ∙ on)
    (made, does, power, ap (λ (p : Power). record made { power = p }) (follow ∙ ap (λ (p : Power). after_call p e' done) power ∙ ap (λ (x : Effect). after_call k.power x done) same))
