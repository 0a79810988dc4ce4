use Rattle.std.proofs.Common.{◌≡◌, ◌∙◌, ◌++◌, subst, sym, ap, refl}
use Rattle.std.specs.Int.{to_be_bytes, w16, w32}
use Rattle.blob_header.specs.Checksum.{crc32c}
use Rattle.blob_header.specs.Header.{prelude, region}
use Rattle.blob_header.specs.Register.{HasTaken}
use Rattle.blob_memory.proofs.Fed.{fed_none, fed_one}
use Rattle.blob_memory.proofs.audit.feed_header.Goals as goal

pub returns-in-V0 : goal.returns-in-V0
returns-in-V0 c = λ before h.
    let p : c.encode-prelude.result ≡ prelude c.args.layout c.args.version.0 = c.encode-prelude.ensures.bytes ∙ (λ i. (c.magic.ensures i ++ to_be_bytes w16 (c.layout_version.ensures i)) ++ to_be_bytes w16 c.args.version.0) in
    subst (λ l. HasTaken c.update.new.self l) (fed_none before c.encode-prelude.result c.args.version.0 (p ∙ ap (λ l. prelude l c.args.version.0) c.in-V0.is) ∙ ap (λ l. before ++ region l c.args.version.0) (sym c.in-V0.is)) (c.update.ensures before h)

pub returns-in-V1 : goal.returns-in-V1
returns-in-V1 c = λ before h.
    let p : c.encode-prelude.result ≡ prelude c.args.layout c.args.version.0 = c.encode-prelude.ensures.bytes ∙ (λ i. (c.magic.ensures i ++ to_be_bytes w16 (c.layout_version.ensures i)) ++ to_be_bytes w16 c.args.version.0) in
    let sum : c.to_be_bytes.result ≡ to_be_bytes w32 (crc32c c.encode-prelude.result) = c.to_be_bytes.ensures ∙ ap (to_be_bytes w32) c.checksum.ensures in
    subst (λ l. HasTaken c.update-in-V1-2.new.self l)
    (fed_one before c.encode-prelude.result c.to_be_bytes.result _ c.args.version.0 (p ∙ ap (λ l. prelude l c.args.version.0) c.in-V1.is) sum refl ∙ ap (λ l. before ++ region l c.args.version.0) (sym c.in-V1.is))
    (c.update-in-V1-2.ensures ((before ++ c.encode-prelude.result) ++ c.to_be_bytes.result) (c.update-in-V1.ensures (before ++ c.encode-prelude.result) (c.update.ensures before h)))
