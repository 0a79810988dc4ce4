-- The statements of the laws of `laws.rt`.
use Rattle.std.specs.Prelude.{◌≡◌, ◌≢◌, ◌<◌, ◌≤◌, ◌-◌, ◌^◌, ℕ, true, false, List, ◌++◌, length, Option, Some, None}
use Rattle.rand_core.specs.Stream.{Stream}
use Rattle.blob_header.specs.PartitionName.{is_partition_name}
use Rattle.blob_header.specs.Refusals.{Refusal}
use Rattle.blob_header.specs.declared.layout.Layout.{Layout}
use Rattle.blob_header.specs.declared.version.BlobVersion.{BlobVersion}
use Rattle.blob_model.specs.Directory.{Incarnation, is_current}
use Rattle.blob_model.specs.Draws.{chosen_by, draw_rows}
use Rattle.blob_model.specs.Files.{Files, all_needs, durable_at, is_removed_by, log_of}
use Rattle.blob_model.specs.Log.{replay_log}
use Rattle.blob_model.specs.Opening.{Begins, place_of}
use Rattle.blob_model.specs.Places.{Place, same_place}
use Rattle.blob_draws.specs.Faults.{draw}
use Rattle.blob_draws.specs.declared.config.Config.{Config}
use Rattle.blob_opens.specs.OpenNames.{Registration}
use Rattle.blob_memory.specs.Answers.{missing}
use Rattle.blob_script.specs.declared.call.Call.{Call}
use Rattle.blob_script.specs.declared.reply.Reply.{Reply}
use Rattle.blob_script.specs.Acts.{Act, Ask, Crash, Open, Remove, Reopen, Size, StartSync, Through}
use Rattle.blob_script.specs.Told as told
use Rattle.blob_lab_model.specs.Accepted.{Accepts, HasFileOf, IsKept, IsToldOf, OpensAs, removes}
use Rattle.blob_lab_model.specs.After.{after_act, files_after}
use Rattle.blob_lab_model.specs.Answers.{answer, kept_at}
use Rattle.blob_lab_model.specs.Denials.{start_denial}
use Rattle.blob_lab_model.specs.Steps.{found_at, sync_denial}
use Rattle.blob_lab_model.specs.Fixed.{Persists}
use Rattle.blob_lab_model.specs.Reached.{NoneLoose, Reached, ReachedExclusively}
use Rattle.blob_lab_model.specs.Runs.{LeadsTo}
use Rattle.blob_lab_model.specs.Scripted.{Words}
use Rattle.blob_lab_model.specs.States.{Held, Image, State, held_on, start}

-- a crash replies with the rows that it draws for the writes that the log needs, and takes their words
abbrev pub CrashRepliesWithItsRows : Type 0
CrashRepliesWithItsRows = (v : State)
    → answer v Crash ≡ (told.Crashed (draw_rows v.stream (all_needs v.files.log)).0, (draw_rows v.stream (all_needs v.files.log)).1)

-- a crash changes no header
abbrev pub CrashKeepsHeaders : Type 0
CrashKeepsHeaders = (v : State) (refusal : Option Refusal) (rest : Stream) → (after_act v Crash refusal rest).files.directory ≡ v.files.directory

-- a crash leaves of each incarnation its base with the uncut log replayed over it, by the drawn rows
abbrev pub CrashReplaysTheLog : Type 0
CrashReplaysTheLog = (v : State) (rest : Stream) (o : Place)
    → durable_at (after_act v Crash None rest).files o ≡ replay_log (v.files.base o) (log_of v.files.log o) (chosen_by (draw_rows v.stream (all_needs v.files.log)).0)

-- another crash right after it changes nothing
abbrev pub CrashAgainChangesNothing : Type 0
CrashAgainChangesNothing = (v : State) (rest last : Stream) (o : Place)
    → durable_at (after_act (after_act v Crash None rest) Crash None last).files o ≡ durable_at (after_act v Crash None rest).files o

-- a newly opened handle reads the durable bytes
abbrev pub OpenReadsDurableBytes : Type 0
OpenReadsDurableBytes = (files : Files) (registration : Option Registration) (o : Place) → (held_on files registration o).live ≡ durable_at files o

-- and tracks their length
abbrev pub OpenTracksTheirLength : Type 0
OpenTracksTheirLength = (files : Files) (registration : Option Registration) (o : Place) → (held_on files registration o).size ≡ length (durable_at files o)

-- a removal doesn't change the base of any incarnation
abbrev pub RemovalKeepsBases : Type 0
RemovalKeepsBases = (v : State) (partition : List ℕ) (name : Option (List ℕ)) (refusal : Option Refusal) (rest : Stream) (o : Place)
    → (after_act v (Remove partition name) refusal rest).files.base o ≡ v.files.base o

-- nor the file of a name that it doesn't remove, including raw files
abbrev pub RemovalKeepsOtherFiles : Type 0
RemovalKeepsOtherFiles = (v : State) (partition : List ℕ) (name : Option (List ℕ)) (refusal : Option Refusal) (rest : Stream) (p n : List ℕ)
    → removes (Remove partition name) refusal p n ≡ false
    → (after_act v (Remove partition name) refusal rest).files.directory.file p n ≡ v.files.directory.file p n

-- nor the log of an incarnation that it doesn't end
abbrev pub RemovalKeepsOtherLogs : Type 0
RemovalKeepsOtherLogs = (v : State) (partition : List ℕ) (name : Option (List ℕ)) (refusal : Option Refusal) (rest : Stream) (o : Place)
    → is_removed_by v.files.directory partition name o ≡ false → log_of (after_act v (Remove partition name) refusal rest).files.log o ≡ log_of v.files.log o

-- the number of the next incarnation never decreases
abbrev pub NextNumberNeverDecreases : Type 0
NextNumberNeverDecreases = (v : State) (act : Act) (refusal : Option Refusal) (rest : Stream) → v.files.directory.next ≤ (after_act v act refusal rest).files.directory.next

-- an incarnation that isn't its name's current one doesn't become current by any call
abbrev pub StaleStaysStale : Type 0
StaleStaysStale = (v : State) (act : Act) (refusal : Option Refusal) (rest : Stream) (o : Place) → o.number < v.files.directory.next
    → is_current v.files.directory o ≡ false → is_current (after_act v act refusal rest).files.directory o ≡ false

-- nor by any calls in sequence
abbrev pub StaleStaysForEver : Type 0
StaleStaysForEver = (v w : State) (calls : List Call) (replies : List Reply) (o : Place) → LeadsTo v calls replies w → o.number < v.files.directory.next
    → is_current v.files.directory o ≡ false → is_current w.files.directory o ≡ false

-- a call through a handle changes no directory
abbrev pub AskKeepsTheDirectory : Type 0
AskKeepsTheDirectory = (v : State) (h : Held) (ask : Ask) (refusal : Option Refusal) → (files_after v h ask refusal).directory ≡ v.files.directory

-- a call through a handle changes durable bytes only of its own incarnation
abbrev pub AskKeepsOtherFiles : Type 0
AskKeepsOtherFiles = (v : State) (h : Held) (ask : Ask) (refusal : Option Refusal) (o : Place) → same_place h.place o ≡ false
    → durable_at (files_after v h ask refusal) o ≡ durable_at v.files o

-- a call through a stale handle changes the durable bytes of no current incarnation
abbrev pub StaleAskChangesNothing : Type 0
StaleAskChangesNothing = (v : State) (h : Held) (ask : Ask) (refusal : Option Refusal) (o : Place) → is_current v.files.directory h.place ≡ false
    → is_current v.files.directory o ≡ true → durable_at (files_after v h ask refusal) o ≡ durable_at v.files o

-- a started sync by a stale handle fails, if no fault is injected and a number is left for its marker
abbrev pub StaleStartIsRefused : Type 0
StaleStartIsRefused = (v : State) (h : Held) → is_current v.files.directory h.place ≡ false → (draw v.config.sync_rate v.stream).0 ≡ false
    → v.files.next_marker ≢ 2 ^ 64 - 1 → start_denial v h ≡ Some (missing h.place)

-- so does its sync, if no fault is injected
abbrev pub StaleSyncIsRefused : Type 0
StaleSyncIsRefused = (v : State) (h : Held) → is_current v.files.directory h.place ≡ false → (draw v.config.sync_rate v.stream).0 ≡ false
    → sync_denial v h ≡ Some (missing h.place)

-- regardless of its error, a started sync by a stale handle publishes nothing
abbrev pub StaleStartBeginsNothing : Type 0
StaleStartBeginsNothing = (v : State) (h : Held) (refusal : Option Refusal) → is_current v.files.directory h.place ≡ false
    → files_after v h StartSync refusal ≡ v.files

-- two runs in sequence are one run
abbrev pub RunsGoOn : Type 0
RunsGoOn = (v w u : State) (calls more : List Call) (replies rest : List Reply) → LeadsTo v calls replies w → LeadsTo w more rest u
    → LeadsTo v (calls ++ more) (replies ++ rest) u

-- the state of a new laboratory is reached exclusively
abbrev pub StartIsReachedExclusively : Type 0
StartIsReachedExclusively = (images : List Image) (words : Words) (config : Config) → ReachedExclusively (start images words config)

-- calls from a reached state lead to a reached state
abbrev pub ReachedRunsGoOn : Type 0
ReachedRunsGoOn = (v w : State) (calls : List Call) (replies : List Reply) → Reached v → LeadsTo v calls replies w → Reached w

-- from a state that is reached by exclusive opens only, calls with exclusive opens only lead to such a state
abbrev pub ExclusiveRunsGoOn : Type 0
ExclusiveRunsGoOn = (v w : State) (calls : List Call) (replies : List Reply) → ReachedExclusively v → NoneLoose calls → LeadsTo v calls replies w → ReachedExclusively w

-- and each byte that one of these calls fixes persists
abbrev pub FixedBytesPersist : Type 0
FixedBytesPersist = (v w : State) (calls : List Call) (replies : List Reply) → ReachedExclusively v → NoneLoose calls → LeadsTo v calls replies w → Persists v calls replies

-- a handle on its name's current incarnation tracks the length of its live bytes
abbrev pub CurrentSizeIsTracked : Type 0
CurrentSizeIsTracked = (v : State) (number : ℕ) (h : Held) → Reached v → kept_at v.handles number ≡ Some h → is_current v.files.directory h.place ≡ true
    → h.size ≡ length h.live

-- `Size` of a handle on its name's current incarnation returns the length of its live bytes
abbrev pub CurrentSizeIsTold : Type 0
CurrentSizeIsTold = (v : State) (number : ℕ) (h : Held) → Reached v → kept_at v.handles number ≡ Some h → is_current v.files.directory h.place ≡ true
    → (answer v (Through number Size)).0 ≡ told.Size (length h.live)

-- a name that an open accepted and no call removed since opens again, if the range includes its version, the name isn't
-- open, no fault is injected and numbers are left
abbrev pub KeptNamesOpen : Type 0
KeptNamesOpen = (v w : State) (p n : List ℕ) (version : BlobVersion) (first last : ℕ) → IsKept v p n version w → Accepts w w.stream first last version.0
    → w.names.registered p n ≡ None → OpensAs w p n first last version.0

-- such an open returns the version and the number of bytes of the file
abbrev pub AcceptedOpenIsTold : Type 0
AcceptedOpenIsTold = (w : State) (p n : List ℕ) (first last version size : ℕ) → is_partition_name p ≡ true → HasFileOf w.files p n version size
    → Accepts w w.stream first last version → w.names.registered p n ≡ None
    → (answer w (Open p n (Some (first, last)))).0 ≡ told.Opened (length w.handles) size version

-- in a rebuilt store, an open finds the durable bytes of the earlier current incarnation
abbrev pub RebuiltFilesAreFound : Type 0
RebuiltFilesAreFound = (v : State) (rest : Stream) (p n : List ℕ) (first last version number : ℕ) (layout : Layout) → Accepts v rest first last version
    → v.files.directory.file p n ≡ Some (Incarnation number layout version)
    → found_at (after_act v Reopen None rest) p n first last ≡ Begins layout version (durable_at v.files (place_of p n number layout))

-- and returns its version and the number of these bytes
abbrev pub RebuiltOpenIsTold : Type 0
RebuiltOpenIsTold = (v : State) (rest : Stream) (p n : List ℕ) (first last version number : ℕ) (layout : Layout) → Reached v → Accepts v rest first last version
    → v.files.directory.file p n ≡ Some (Incarnation number layout version)
    → (answer (after_act v Reopen None rest) (Open p n (Some (first, last)))).0 ≡ told.Opened (length v.handles) (length (durable_at v.files (place_of p n number layout))) version

-- so a kept name opens in a rebuilt store too
abbrev pub KeptNamesOpenAgain : Type 0
KeptNamesOpenAgain = (v w : State) (p n : List ℕ) (version : BlobVersion) (first last : ℕ) (rest : Stream) → IsKept v p n version w → Accepts w rest first last version.0
    → IsToldOf (after_act w Reopen None rest) p n version.0 (answer (after_act w Reopen None rest) (Open p n (Some (first, last)))).0
