use Rattle.std.proofs.Common.{rules, ◌≡◌, List, ℕ, Bool, length, refl, sym, ◌∙◌, ap, subst, true, false}
use Rattle.std.proofs.lemmas.Result.{on_ok_weaker}
use Rattle.blob_base.specs.Options.{is_sync}
use Rattle.blob_header.specs.Refusals.{error_of}
use Rattle.blob_model.specs.Live.{live_written}
use Rattle.blob_draws.specs.Answers.{allows_write}
use Rattle.blob_faulty.specs.OverMemory.{memory_handle}
use Rattle.blob_disk.proofs.Adding.{current_now, torn_follows, wrote}
use Rattle.blob_disk.proofs.Laying.{holds_written}
use Rattle.blob_disk.proofs.Outcomes.{at_place}
use Rattle.blob_disk.proofs.calls.write.Goals as goal
use Rattle.blob_faulty.specs.Outcomes.{WritesSome}
use Rattle.blob_draws.specs.Recorded.{recorded_write}
use Rattle.blob_faulty.specs.Wrapper.{config_of, inner_of, inside, next_write_of, rng_of, size_of}
use Rattle.blob_memory.specs.Store.{durable, live, place}
use Rattle.sqlite_disk.specs.Disk.{Holds}

pub returns : goal.returns
returns g c =
    let e = c.write_from.ensures in
    let b = c.args.blob.now in
    let w = c.args.store.now in
    let bytes = c.args.bytes.now in
    let stream = g.R.Rng.stream (rng_of w) in
    let answer = error_of c.write_from.result in
    let sync = is_sync c.default.result in
    let plain : sync ≡ false = first_of (search rules, cc) in
    let es = recorded_write (config_of w) (next_write_of w) stream sync c.args.at bytes answer in
    let now = current_now b w c.requires.here in
    let there = c.found.ensures b w c.args.at bytes sync answer now e.allowed in
    let s = wrote b c.write_from.new.self w c.write_from.new.store es c.args.at bytes c.requires.standing e.directory e.place e.leaves.config
    (e.leaves.size refl ∙ c.sizes.ensures.writes (config_of w) stream sync (size_of b) (live (inside b)) c.args.at bytes answer there c.requires.tracked ∙ sym (ap (λ (x : List ℕ). length x) (e.leaves.live_after refl)))
    (subst (λ (x : List ℕ). WritesSome c.args.at bytes (live (inside b)) x) (sym (e.leaves.live_after refl)) (c.live_bytes.ensures.writes (config_of w) stream sync (live (inside b)) c.args.at bytes answer there))
    (λ t. c.entries.ensures.writes (config_of w) (next_write_of w) stream sync c.args.at bytes answer t)
    (λ f stands. c.recorded.ensures.stands w c.write_from.new.store (place (inside b)) es f now e.directory stands (e.leaves.recorded refl))
    (λ f t stands. c.recorded.ensures.left w c.write_from.new.store (place (inside b)) es f t now e.directory stands (e.leaves.recorded refl))
    in
    record {
      written = on_ok_weaker c.write_from.result (λ h some. subst (λ (x : List ℕ). Holds x c.args.at bytes) (sym (h ∙ ap (λ (s : Bool). live_written s (live (inside b)) c.args.at bytes) plain)) (holds_written c.args.at bytes (live (inside b)) some)) e.live;
      others = s.others.torn;
      keeps = s.keeps;
      allowed = subst (λ (s : Bool). allows_write (memory_handle.allows_write (inside b) (inner_of w)) (memory_handle.allows_reserve (inside b) (inner_of w)) true (config_of w) (next_write_of w) stream c.args.at bytes s answer) plain e.allowed;
      durable = on_ok_weaker c.write_from.result (λ h. ap (durable (inner_of c.write_from.new.store)) e.place ∙ at_place (h plain) (place (inside b))) e.plain;
      mixes = s.others;
      mixed = s.crash;
      leads = s.leads;
      crash = torn_follows c.args.at bytes _ _ s.crash;
    }
