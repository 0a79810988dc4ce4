-- The supply of power of a session.
use Rattle.std.specs.Prelude.{ℕ, ◌+◌, ◌-◌, ◌^◌, Bool, true, false, nat_le, nat_lt, ◌==◌, if◌then◌else◌}
use Rattle.blob_statuses.specs.declared.effect.Effect.{Effect}
use Rattle.blob_statuses.specs.declared.effect.Role.{Role}
use Rattle.blob_statuses.specs.declared.effect.Role.TheVariants.{Ordinary, Looks, Sets, Closes, Crashes, Reopens, Restarts}
use Rattle.blob_statuses.specs.declared.power.Power.{Power}

-- a supply at first: on, and counting nothing
abbrev pub always_on : Power
always_on = record { changes = 0; left = 0; is_counting = false; is_off = false; has_crashed = false }

-- it goes off after this number of changing calls; with 0 it is off
abbrev pub counting_down : Power → ℕ → Power
counting_down p calls = record p { left = calls; is_counting = nat_lt 0 calls; is_off = calls == 0 }

-- it is on, and counts nothing
abbrev pub turned_on : Power → Power
turned_on p = record p { left = 0; is_counting = false; is_off = false; has_crashed = false }

-- Which calls are made while it is off: settings and the crash, and after the crash of a store closes and the reopening.
abbrev pub is_made_off : Power → Role → Bool
is_made_off p Sets = true
is_made_off p Crashes = true
is_made_off p Restarts = true
is_made_off p Closes = p.has_crashed
is_made_off p Reopens = p.has_crashed
is_made_off p Ordinary = false
is_made_off p Looks = false

-- a call is made if the power is on, or if it is one of these
abbrev pub permits : Power → Effect → Bool
permits p e = if p.is_off then is_made_off p e.role else true

-- one changing call less; after the last one it is off
abbrev pub spent : Power → Power
spent p = if nat_le p.left 1 then record p { left = 0; is_counting = false; is_off = true } else record p { left = p.left - 1 }

-- one more changing call
abbrev pub with_change : Power → Power
with_change p = if nat_lt p.changes (2 ^ 64 - 1) then record p { changes = p.changes + 1 } else p

-- a changing call
abbrev pub counted : Power → Power
counted p = if p.is_counting then spent (with_change p) else with_change p

-- A crash while it is off lets a store reopen, and the reopening turns it on. A crash of files turns it on.
abbrev pub after_role : Power → Role → Bool → Power
after_role p Crashes done = if done then record p { has_crashed = p.is_off } else p
after_role p Reopens done = if done then record p { is_off = false; has_crashed = false } else p
after_role p Restarts done = if done then record p { is_off = false } else p
after_role p Ordinary done = p
after_role p Looks done = p
after_role p Sets done = p
after_role p Closes done = p

-- what a call makes of it, by whether the call was done
abbrev pub after_call : Power → Effect → Bool → Power
after_call p e done = after_role (if e.changes then counted p else p) e.role done
