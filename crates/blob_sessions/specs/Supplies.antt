-- Calls of a session under its supply of power.
use Rattle.std.specs.Prelude.{◌≡◌, ◌==◌, ℕ, Bool, true, false, MatchBool}
use Rattle.blob_script.specs.Acts.{Act}
use Rattle.blob_script.specs.declared.reply.Reply.{Reply}
use Rattle.blob_statuses.specs.Powers.{after_call, counting_down, permits}
use Rattle.blob_statuses.specs.declared.effect.Effect.{Effect}
use Rattle.blob_statuses.specs.declared.power.Power.{Power}
use Rattle.blob_statuses.specs.declared.ran.TheConstants.{DONE, POWER_LOSS}
use Rattle.blob_sessions.specs.Effects.{effect_of}
use Rattle.blob_sessions.specs.Typed.{last_reply, typed_reply}
use Rattle.blob_sessions.specs.declared.kept.Kept.{Kept}
use Rattle.blob_sessions.specs.declared.supply.PowerState.{PowerState}

-- the power after the last call, which had this effect
abbrev pub after_last : Kept → Effect → Power
after_last k e = after_call k.power e ((last_reply k.last).status == DONE)

-- a call was made: the power permitted it, and has followed it
pub record FollowsCall (k : Kept) (act : Act) (reply : Reply) (k' : Kept) : Type 0 where
  pub permitted : permits k.power (effect_of act) ≡ true
  pub power : k'.power ≡ after_call k.power (effect_of act) ((typed_reply reply).status == DONE)

-- a call wasn't made, since the power doesn't permit it: nothing has changed
pub record IsOffFor (k : Kept) (act : Act) (k' : Kept) : Type 0 where
  pub refused : permits k.power (effect_of act) ≡ false
  pub same : k' ≡ record k { reader = k'.reader; begun = k'.begun }

-- A call with this effect: if the power permits it, it is made, and the power follows it. Otherwise it is refused, and nothing changes.
abbrev pub Supplied : Effect → Bool → (Kept → Type 0) → Type 0 → Kept → Kept → Type 0
Supplied e done Made Refused k k' =
    MatchBool (permits k.power e)
    ((made : Kept) × Made made × (made.power ≡ k.power) × (k' ≡ record made { power = after_call k.power e done }))
    (Refused × (k' ≡ k))

-- a supply, with a status
abbrev pub state_of : ℕ → Power → PowerState
state_of status p =
    record { status = status; is_off = p.is_off; has_crashed = p.has_crashed; is_counting = p.is_counting; changes = p.changes; left = p.left }

-- the power goes off after this number of changing calls, if it is on
abbrev pub CutsPower : Kept → Kept → ℕ → ℕ → Type 0
CutsPower k k' calls status =
    MatchBool k.power.is_off ((status ≡ POWER_LOSS) × (k' ≡ k)) ((status ≡ DONE) × (k' ≡ record k { power = counting_down k.power calls }))
