use Rattle.std.proofs.Common.{List, ℕ, length, refl, sym, ◌∙◌, ap, subst, ◌≡◌, ◌⊎◌}
use Rattle.std.proofs.lemmas.Result.{on_ok_weaker}
use Rattle.blob_model.specs.Bytes.{resize}
use Rattle.blob_model.proofs.Bytes.{length-resized}
use Rattle.blob_header.specs.Refusals.{error_of}
use Rattle.blob_disk.proofs.Adding.{current_now, cut_so}
use Rattle.blob_disk.proofs.Outcomes.{at_place}
use Rattle.blob_disk.proofs.calls.resize.Goals as goal
use Rattle.blob_draws.specs.Faults.{resize_fate}
use Rattle.blob_draws.specs.Recorded.{recorded_resize}
use Rattle.blob_faulty.specs.Wrapper.{config_of, inner_of, inside, rng_of, size_of}
use Rattle.blob_memory.specs.Store.{durable, live, place}

pub returns : goal.returns
returns g c =
    let e = c.resize.ensures in
    let b = c.args.blob.now in
    let w = c.args.store.now in
    let stream = g.R.Rng.stream (rng_of w) in
    let answer = error_of c.resize.result in
    let fate = (resize_fate (config_of w).resize_rate (size_of b) c.args.len stream).0 in
    let es = recorded_resize fate c.args.len answer in
    let now = current_now b w c.requires.here in
    let s = cut_so b c.resize.new.self w c.resize.new.store es c.args.len c.requires.standing e.directory e.place e.leaves.numbers.config
    (e.leaves.size_after refl ∙ c.sizes.ensures.resizes fate (size_of b) (live (inside b)) c.args.len answer c.requires.tracked ∙ sym (ap (λ (x : List ℕ). length x) (e.leaves.live_after refl)))
    (subst (λ (x : List ℕ). (x ≡ live (inside b)) ⊎ (x ≡ resize (live (inside b)) c.args.len)) (sym (e.leaves.live_after refl)) (c.live_bytes.ensures.resizes (config_of w).resize_rate (size_of b) c.args.len stream (live (inside b)) answer c.requires.whole))
    (λ t x. c.entries.ensures.resizes (config_of w).resize_rate (size_of b) c.args.len stream answer t c.requires.whole x)
    (λ f stands. c.recorded.ensures.stands w c.resize.new.store (place (inside b)) es f now e.directory stands (e.leaves.recorded_after refl))
    (λ f t stands. c.recorded.ensures.left w c.resize.new.store (place (inside b)) es f t now e.directory stands (e.leaves.recorded_after refl))
    in
    record { len = on_ok_weaker c.resize.result (λ h. ap (λ (x : List ℕ). length x) h ∙ length-resized (live (inside b)) c.args.len) e.live; others = s.others; allowed = e.allowed; durable = ap (durable (inner_of c.resize.new.store)) e.place ∙ at_place e.durable (place (inside b)); keeps = s.keeps; crash = s.crash; leads = s.leads }
