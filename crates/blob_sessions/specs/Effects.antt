-- What each call of a store may do.
use Rattle.std.specs.Prelude.{ℕ, List, [], ◌∷◌, ◌++◌, ◌==◌, true, false, Option, Some, option_map, unwrap_or, if◌then◌else◌}
use Rattle.blob_script.specs.Acts as acts
use Rattle.blob_script.specs.Acts.{Act, Ask, Through}
use Rattle.blob_statuses.specs.Effects.{effect, looks, nothing, reads, changes, changes_and_draws, syncs_and_draws}
use Rattle.blob_statuses.specs.declared.effect.Effect.{Effect}
use Rattle.blob_statuses.specs.declared.effect.Role.TheVariants.{Ordinary, Sets, Closes, Crashes, Reopens}
use Rattle.blob_sessions.specs.Typed.{by_kind, named_acts, numbered_acts}
use Rattle.blob_sessions.specs.declared.kinds.TheConstants.{READ, WRITE, WRITE_SYNC, CONFIGURE}
use Rattle.blob_sessions.specs.declared.typed.TypedCall.{TypedCall}

-- of a call through a handle
abbrev pub ask_effect : Ask → Effect
ask_effect (acts.Read offset len) = reads
ask_effect (acts.Write offset bytes sync) = effect true true sync Ordinary
ask_effect (acts.Resize len) = changes_and_draws
ask_effect acts.Size = looks
ask_effect acts.Sync = syncs_and_draws
ask_effect acts.StartSync = syncs_and_draws

-- An open draws, and may create a blob. A crash and a reopening are what a power loss does: they don't count as changes.
abbrev pub effect_of : Act → Effect
effect_of (acts.Configure config) = effect false false false Sets
effect_of (acts.Open partition name versions) = changes_and_draws
effect_of (acts.OpenLoose partition name versions) = changes_and_draws
effect_of (acts.Admit partition name) = changes
effect_of (acts.Close handle) = effect false false false Closes
effect_of (Through handle ask) = ask_effect ask
effect_of (acts.Finish number) = changes
effect_of (acts.Remove partition name) = changes_and_draws
effect_of (acts.Scan partition) = reads
effect_of acts.Crash = effect false true false Crashes
effect_of acts.Reopen = effect false false false Reopens

-- a typed call of a kind, with numbers that don't matter
abbrev pub of_kind : ℕ → TypedCall
of_kind kind = record { kind = kind; number = 0; first = 0; last = 0 }

-- the calls that have functions of their own
abbrev pub other_acts : List (ℕ × Option Act)
other_acts =
    (READ, Some (Through 0 (acts.Read 0 0)))
    ∷ (WRITE, Some (Through 0 (acts.Write 0 [] false)))
    ∷ (WRITE_SYNC, Some (Through 0 (acts.Write 0 [] true)))
    ∷ []

-- a call of a kind
abbrev pub kind_act : ℕ → Option Act
kind_act kind = by_kind kind (named_acts (of_kind kind) [] [] ++ numbered_acts (of_kind kind) ++ other_acts)

-- of the calls of a kind; of an unknown kind nothing
abbrev pub kind_effect : ℕ → Effect
kind_effect kind = if kind == CONFIGURE then effect false false false Sets else unwrap_or (option_map effect_of (kind_act kind)) nothing
