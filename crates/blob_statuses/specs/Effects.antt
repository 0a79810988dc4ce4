-- What a call may do, and what it is to the supply of power.
use Rattle.std.specs.Prelude.{ℕ, ◌+◌, Bool, true, false, if◌then◌else◌}
use Rattle.blob_statuses.specs.declared.effect.Effect.{Effect}
use Rattle.blob_statuses.specs.declared.effect.Role.{Role}
use Rattle.blob_statuses.specs.declared.effect.Role.TheVariants.{Ordinary, Looks, Sets, Closes, Crashes, Reopens, Restarts}
use Rattle.blob_statuses.specs.declared.effect.TheConstants.{CHANGES, DRAWS, SYNCS, LOOKS}

abbrev pub looks_bit : Role → ℕ
looks_bit Looks = LOOKS
looks_bit Ordinary = 0
looks_bit Sets = 0
looks_bit Closes = 0
looks_bit Crashes = 0
looks_bit Reopens = 0
looks_bit Restarts = 0

-- one bit for each thing that it may do
abbrev pub bits_of : Effect → ℕ
bits_of e = (if e.changes then CHANGES else 0) + (if e.draws then DRAWS else 0) + (if e.syncs then SYNCS else 0) + looks_bit e.role

-- an effect by what a call may do
abbrev pub effect : Bool → Bool → Bool → Role → Effect
effect changes draws syncs role = record { changes = changes; draws = draws; syncs = syncs; role = role }

-- it returns something and does nothing else
abbrev pub looks : Effect
looks = effect false false false Looks

-- it may draw, and does no more
abbrev pub reads : Effect
reads = effect false true false Ordinary

-- it does nothing that a crash, the generator or a sync shows
abbrev pub nothing : Effect
nothing = effect false false false Ordinary

-- what a crash leaves may differ after it
abbrev pub changes : Effect
changes = effect true false false Ordinary

abbrev pub changes_and_draws : Effect
changes_and_draws = effect true true false Ordinary

-- it makes something durable, without a draw
abbrev pub syncs : Effect
syncs = effect true false true Ordinary

abbrev pub syncs_and_draws : Effect
syncs_and_draws = effect true true true Ordinary

-- It makes something durable and doesn't count as a change: no program calls it.
abbrev pub settles : Effect
settles = effect false false true Ordinary
