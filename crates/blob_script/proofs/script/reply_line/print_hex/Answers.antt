use Rattle.std.proofs.Common.{IsUtf8, subst, sym}
use Rattle.std.proofs.lemmas.Str.{IsUtf8-had}
use Rattle.blob_tokens.proofs.HexDigits.{still_utf8}
use Rattle.blob_script.proofs.script.reply_line.print_hex.Goals as goal

pub from_utf8_unchecked-requires : goal.from_utf8_unchecked-requires
from_utf8_unchecked-requires c =
    let old = c.replace.result.bytes.items in
    let text = c.into_bytes-text.result.items in
    let utf8 : IsUtf8 text = subst (λ text. IsUtf8 text.items) (sym c.into_bytes-text.ensures.value) (IsUtf8-had old c.replace.result.ok) in
    still_utf8 c.append_digits-printed.result text c.append_digits-printed.new.text.items c.args.bytes.now utf8
    c.append_digits-printed.ensures.ok c.append_digits-printed.ensures.err
