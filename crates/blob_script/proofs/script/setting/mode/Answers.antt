use Rattle.std.proofs.Common.{refl, ap, ◌∙◌}
use Rattle.blob_script.specs.SettingLines.{mode}
use Rattle.blob_script.proofs.OtherWords.{passed}
use Rattle.blob_script.proofs.script.setting.mode.Goals as goal

pub returns-in_default-clause-none : goal.returns-in_default-clause-none
returns-in_default-clause-none c =
    let is = c.in_default in
    ap mode c.in_ok-next.ensures.some ∙
    passed _ _ _ _ _ is.not-prefix (passed _ _ _ _ _ is.not-subset (passed _ _ _ _ _ is.not-sectors refl))
