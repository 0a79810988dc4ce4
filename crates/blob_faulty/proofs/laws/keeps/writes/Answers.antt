use Rattle.std.proofs.Common.{◌∙◌, List, ap, arith, length, subst, ℕ}
use Rattle.blob_model.specs.Log.{Entry}
use Rattle.blob_model.proofs.Bytes.{lies_below}
use Rattle.blob_draws.specs.Recorded.{kept_entries}
use Rattle.blob_faulty.specs.Wrapper.{Adds, inner_of, rng_of, config_of, next_write_of}
use Rattle.blob_faulty.proofs.Keeping.{keeps_beside, keeps_more}
use Rattle.blob_faulty.proofs.Recording.{recorded_whole}
use Rattle.blob_faulty.proofs.laws.keeps.writes.Goals as goal

pub returns-clause-behind : goal.returns-clause-behind
returns-clause-behind g c = λ old new o held bytes offset sync answer named adds far k.
    keeps_beside g.S.Durable.place g.S.Durable.directory g.S.Durable.durable old new o held named k _ adds
    (λ q low. c.entries.ensures.in_range (config_of old) (next_write_of old) (g.R.Rng.stream (rng_of old)) sync q offset bytes answer (lies_below offset (length bytes) q (omega arith)))

pub returns-clause-whole : goal.returns-clause-whole
returns-clause-whole g c = λ b s offset bytes allowed. recorded_whole _ _ _ (config_of s) (next_write_of s) (g.R.Rng.stream (rng_of s)) offset bytes allowed

pub returns-clause-appended : goal.returns-clause-appended
returns-clause-appended g c = λ b old new o held bytes offset allowed named adds end k.
    let whole = recorded_whole _ _ _ (config_of old) (next_write_of old) (g.R.Rng.stream (rng_of old)) offset bytes allowed ∙ ap (λ (n : ℕ). kept_entries n bytes) end in
    keeps_more g.S.Durable.place g.S.Durable.directory g.S.Durable.durable old new o held named k bytes
    (subst (λ (es : List Entry). Adds g.S.Durable.place (g.S.Durable.directory (inner_of old)) (g.S.Durable.durable (inner_of old)) (g.S.Durable.durable (inner_of new)) old new o es) whole adds)
