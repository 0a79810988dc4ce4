-- The lines of calls.
use Rattle.std.specs.Prelude.{ℕ, List, [], ◌∷◌, Bool, true, false, Option, Some, codes}
use Rattle.blob_script.specs.Acts.{Act, AcceptedVersions, accepted_versions, Open, OpenLoose, Admit, Close, Through, Read, Write, Resize, Size, Sync, StartSync, Finish, Remove, Scan, Crash, Reopen}
use Rattle.blob_tokens.specs.Forms.{Form, ◌>>=◌, gives, no_form, form_in_table, token, at_end, text, hex, name, digits}
use Rattle.blob_tokens.specs.Tokens.{version_of}

-- the first and the last version, if tokens remain; otherwise only version 0
abbrev pub versions : Form (Option AcceptedVersions)
versions = at_end (Some (0, 0)) (do first ← token version_of; last ← token version_of; gives (accepted_versions false first last))

abbrev pub open_form : (List ℕ → List ℕ → Option AcceptedVersions → Act) → Form Act
open_form act = do partition ← text; name ← hex; accepts ← versions; gives (act partition name accepts)

-- a SYNC write if the flag is true
abbrev pub writing : Bool → Form Act
writing sync = do handle ← digits; offset ← digits; bytes ← hex; gives (Through handle (Write offset bytes sync))

-- the tokens after the word of a call
abbrev pub call : List ℕ → Form Act
call = form_in_table (
    (codes "open", open_form Open)
    ∷ (codes "loose", open_form OpenLoose)
    ∷ (codes "admit", do partition ← text; name ← hex; gives (Admit partition name))
    ∷ (codes "close", do handle ← digits; gives (Close handle))
    ∷ (codes "read", do handle ← digits; offset ← digits; len ← digits; gives (Through handle (Read offset len)))
    ∷ (codes "write", writing false)
    ∷ (codes "writes", writing true)
    ∷ (codes "resize", do handle ← digits; len ← digits; gives (Through handle (Resize len)))
    ∷ (codes "size", do handle ← digits; gives (Through handle Size))
    ∷ (codes "sync", do handle ← digits; gives (Through handle Sync))
    ∷ (codes "startsync", do handle ← digits; gives (Through handle StartSync))
    ∷ (codes "finish", do number ← digits; gives (Finish number))
    ∷ (codes "remove", do partition ← text; named ← name; gives (Remove partition named))
    ∷ (codes "scan", do partition ← text; gives (Scan partition))
    ∷ (codes "crash", gives Crash)
    ∷ (codes "reopen", gives Reopen) ∷ []) no_form
