use Rattle.std.proofs.Common.{refl, ap, ◌∙◌}
use Rattle.blob_script.specs.SettingLines.{setting}
use Rattle.blob_script.proofs.OtherWords.{passed}
use Rattle.blob_script.proofs.script.setting.read_setting.Goals as goal

pub returns-in_default-clause-none : goal.returns-in_default-clause-none
returns-in_default-clause-none c =
    let is = c.in_default in
    ap setting c.in_ok-next.ensures.some ∙
    passed _ _ _ _ _ is.not-open (passed _ _ _ _ _ is.not-read (passed _ _ _ _ _ is.not-write
    (passed _ _ _ _ _ is.not-sync (passed _ _ _ _ _ is.not-resize (passed _ _ _ _ _ is.not-remove
    (passed _ _ _ _ _ is.not-scan (passed _ _ _ _ _ is.not-clear refl)))))))
