-- What each call on files may do.
use Rattle.std.specs.Prelude.{ℕ, List, [], ◌==◌, true, false, Option, Some, option_map, unwrap_or, if◌then◌else◌}
use Rattle.blob_fs.specs.Acts as acts
use Rattle.blob_fs.specs.Acts.{Act}
use Rattle.blob_statuses.specs.Effects.{effect, looks, nothing, reads, changes, changes_and_draws, syncs, syncs_and_draws, settles}
use Rattle.blob_statuses.specs.declared.effect.Effect.{Effect}
use Rattle.blob_statuses.specs.declared.effect.Role.TheVariants.{Closes, Restarts}
use Rattle.blob_file_sessions.specs.Kinds.{call_of, descriptor}
use Rattle.blob_file_sessions.specs.declared.kinds.TheConstants.{READ, WRITE}
use Rattle.blob_file_sessions.specs.declared.call.FileCall.{FileCall}

-- A settling and a commit don't count as changes: no program calls them. A crash is what a power loss does.
abbrev pub effect_of : Act → Effect
effect_of (acts.Create p) = changes_and_draws
effect_of (acts.Open p) = nothing
effect_of (acts.OpenTruncated p) = changes_and_draws
effect_of (acts.Unlink p) = changes
effect_of (acts.MakeDirectory p) = changes
effect_of (acts.RemoveDirectory p) = changes
effect_of (acts.ListNames p) = looks
effect_of (acts.SyncDirectory p) = syncs
effect_of (acts.Find p) = looks
effect_of (acts.Link p to) = changes
effect_of (acts.Move p to how) = changes
effect_of (acts.CreateAt d name) = changes_and_draws
effect_of (acts.UnlinkAt d name) = changes
effect_of (acts.MakeDirectoryAt d name) = changes
effect_of (acts.RemoveDirectoryAt d name) = changes
effect_of (acts.FindAt d name) = looks
effect_of (acts.LinkAt inode d name) = changes
effect_of (acts.MoveAt from old to new how) = changes
effect_of (acts.ListAt d) = looks
effect_of (acts.SyncDirectoryAt d) = syncs
effect_of (acts.OpenInode inode) = nothing
effect_of (acts.OpenInodeTruncated inode) = changes_and_draws
effect_of (acts.Close f) = effect false false false Closes
effect_of (acts.Size f) = looks
effect_of (acts.Sync f) = syncs_and_draws
effect_of (acts.SyncData f) = syncs_and_draws
effect_of (acts.InodeOf f) = looks
effect_of (acts.Truncate f len) = changes_and_draws
effect_of (acts.Read f offset len) = reads
effect_of (acts.Write f offset bytes) = changes_and_draws
effect_of acts.SyncAll = syncs_and_draws
effect_of acts.Settle = settles
effect_of acts.Commit = settles
effect_of acts.Crash = effect false true false Restarts
effect_of acts.Tree = looks

-- a typed call of a kind, with numbers that don't matter
abbrev pub of_kind : ℕ → FileCall
of_kind kind = record { kind = kind; number = 0; first = 0; last = 0 }

-- a call of a kind; a read and a write have functions of their own
abbrev pub kind_act : ℕ → Option Act
kind_act kind =
    if kind == READ then Some (acts.Read (descriptor 0) 0 0)
    else if kind == WRITE then Some (acts.Write (descriptor 0) 0 [])
    else call_of (of_kind kind) [] []

-- of the calls of a kind; of an unknown kind nothing
abbrev pub kind_effect : ℕ → Effect
kind_effect kind = unwrap_or (option_map effect_of (kind_act kind)) nothing
