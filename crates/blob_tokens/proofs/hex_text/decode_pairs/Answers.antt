use Rattle.std.proofs.Common.{◌≡◌, ◌≤◌, ◌+◌, ◌*◌, ℕ, List, slice_index, Fits, w8, refl, ◌∙◌, subst, arith}
use Rattle.blob_tokens.specs.declared.hex_text.TheConstants.{HIGH, LOW}
use Rattle.std.specs.Simd.Lanes.{put_chunk}
use Rattle.std.proofs.lemmas.Simd.{length-put_chunk}
use Rattle.blob_tokens.proofs.HexDigits.{Decodes, high_of, low_of, pair_at, reads_step, reads_done}
use Rattle.blob_tokens.proofs.HexLanes.{block_step}
use Rattle.blob_tokens.proofs.hex_text.decode_pairs.Goals as goal

pub blocks-2-preserved : goal.blocks-2-preserved
blocks-2-preserved c =
    let text = c.args.digits.now in
    let bytes = put_chunk (16 * c.blocks-2.k) c.blocks-2.bytes c.sixteen-good.result.0 in
    let next : 16 * c.blocks-2.k + 16 ≡ 16 * (c.blocks-2.k + 1) = omega arith in
    record {
      decoded = subst (Decodes text bytes) next
          (block_step text c.blocks-2.bytes c.sixteen-good.result.0 (16 * c.blocks-2.k) (omega arith) (omega arith)
          (c.sixteen-good.ensures.good c.if-not-good.false) c.blocks-2.invariant.decoded);
      whole = omega (arith, length-put_chunk (16 * c.blocks-2.k) c.blocks-2.bytes c.sixteen-good.result.0);
    }

-- the table values of pair i
values_at : (text : List ℕ) (i : ℕ) → ((k : ℕ) → Fits w8 (slice_index text k)) → (value : ℕ) → value ≡ slice_index HIGH (slice_index text (2 * i)) + slice_index LOW (slice_index text (2 * i + 1))
    → (value ≡ high_of (slice_index text (2 * i)) + low_of (slice_index text (2 * i + 1))) × (value ≤ 512)
values_at text i fits value is =
    let at = pair_at (slice_index text (2 * i)) (slice_index text (2 * i + 1)) (omega (arith, fits (2 * i))) (omega (arith, fits (2 * i + 1))) in
    (is ∙ at.0, omega (arith, is, at.0, at.1))

pub overflow_add-value-in-pairs : goal.overflow_add-value-in-pairs
overflow_add-value-in-pairs c = omega (arith, (values_at c.args.digits.now c.pairs.i c.type_inv.digits _ refl).1)

pub pairs-preserved : goal.pairs-preserved
pairs-preserved c =
    reads_step c.args.digits.now c.pairs.bytes c.pairs.i c.pairs.seen _ (omega arith) (omega arith) (values_at c.args.digits.now c.pairs.i c.type_inv.digits _ refl).0 c.pairs.invariant

pub returns : goal.returns
returns c =
    reads_done c.args.digits.now c.pairs.bytes c.pairs.i c.pairs.seen _ (omega arith) (omega arith) (λ h. grind arith) (λ h. grind arith)
    c.pairs.invariant
