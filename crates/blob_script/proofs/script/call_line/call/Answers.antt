use Rattle.std.proofs.Common.{refl}
use Rattle.blob_script.proofs.OtherWords.{passed}
use Rattle.blob_script.proofs.script.call_line.call.Goals as goal

pub returns-in_default-clause-bad : goal.returns-in_default-clause-bad
returns-in_default-clause-bad c = λ _.
    let is = c.in_default in
    passed _ _ _ _ _ is.not-open (passed _ _ _ _ _ is.not-loose (passed _ _ _ _ _ is.not-admit
    (passed _ _ _ _ _ is.not-close (passed _ _ _ _ _ is.not-read (passed _ _ _ _ _ is.not-write
    (passed _ _ _ _ _ is.not-writes (passed _ _ _ _ _ is.not-resize (passed _ _ _ _ _ is.not-size
    (passed _ _ _ _ _ is.not-sync (passed _ _ _ _ _ is.not-startsync (passed _ _ _ _ _ is.not-finish
    (passed _ _ _ _ _ is.not-remove (passed _ _ _ _ _ is.not-scan (passed _ _ _ _ _ is.not-crash
    (passed _ _ _ _ _ is.not-reopen refl)))))))))))))))
