use Rattle.std.proofs.Common.{rules, ◌≡◌, length, vec_len, arith}
use Rattle.blob_overlay.proofs.Overlays.{resized_to}
use Rattle.blob_overlay.proofs.overlay.set_len.Goals as goal

pub returns : goal.returns
returns c =
    let k : vec_len c.args.bytes.now ≡ length c.args.bytes.now.items = omega arith in record {
      items = resized_to _ _ _ _ k (search rules);
      capacity = search rules;
    }
