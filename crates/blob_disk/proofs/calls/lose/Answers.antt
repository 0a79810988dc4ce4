use Rattle.std.proofs.Common.{inl, inr, sym, ◌∙◌, ap, ◌≡◌, ◌⊎◌, List, [], Some, refl}
use Rattle.blob_model.specs.Files.{after_crash}
use Rattle.blob_model.specs.Pending.{Pending}
use Rattle.std.proofs.Math.Logic.{∥∥₁_map}
use Rattle.std.proofs.lemmas.Result.{on_ok_weaker}
use Rattle.blob_model.specs.Draws.{chosen_by}
use Rattle.blob_model.specs.Places.{Place}
use Rattle.blob_model.specs.Stands.{replayed_at}
use Rattle.rand_core.specs.Stream.{Stream}
use Rattle.blob_disk.proofs.Crashes.{draw_so, left_by_crash, left_so, may_crash, no_more}
use Rattle.blob_disk.specs.Crashes.{crash_draws, open_fails}
use Rattle.blob_draws.specs.declared.config.Config.{Config}
use Rattle.blob_faulty.specs.Keeps.{IsFor}
use Rattle.blob_model.specs.Draws.{Row}
use Rattle.blob_disk.proofs.Outcomes.{at_place, here_so, keeps_all, openable_so, same_outcomes, whole_so}
use Rattle.blob_disk.proofs.calls.lose.Goals as goal
use Rattle.blob_draws.specs.Rows.{table_of}
use Rattle.blob_faulty.specs.Wrapper.{inner_of, inside, pending_of}
use Rattle.blob_memory.specs.Store.{durable, live, place}

pub reopen-requires : goal.reopen-requires
reopen-requires g c = record {
  here = here_so c.args.blob.now c.args.blob.now c.args.store.now c.crash.new.self c.in-Ok.ensures.directory refl c.requires.here;
  openable = openable_so c.args.store.now c.crash.new.self c.in-Ok.ensures.directory c.requires.openable;
}

pub returns-in-Ok-clause-lost : goal.returns-in-Ok-clause-lost
returns-in-Ok-clause-lost g c =
    on_ok_weaker c.reopen.result (λ is. (chosen_by (table_of c.in-Ok.field-0), sym (c.in-Ok.ensures.durable (place (inside c.args.blob.now))) ∙ is)) c.reopen.ensures.found

pub returns-in-Ok-clause-left : goal.returns-in-Ok-clause-left
returns-in-Ok-clause-left g c =
    left_by_crash (live (inside c.args.blob.now)) (live (inside c.reopen.new.blob)) (pending_of (λ (o : Place). o) c.args.store.now (place (inside c.args.blob.now))) (durable (inner_of c.args.store.now) (place (inside c.args.blob.now))) (durable (inner_of c.crash.new.self) (place (inside c.args.blob.now))) (chosen_by (table_of c.in-Ok.field-0)) lost c.reopen.ensures.live
  where
    lost : (durable (inner_of c.crash.new.self) (place (inside c.args.blob.now))) ≡ replayed_at (chosen_by (table_of c.in-Ok.field-0)) (pending_of (λ (o : Place). o) c.args.store.now (place (inside c.args.blob.now))) (durable (inner_of c.args.store.now) (place (inside c.args.blob.now)))
    lost = c.in-Ok.ensures.durable (place (inside c.args.blob.now))

pub returns-in-Ok-clause-keeps : goal.returns-in-Ok-clause-keeps
returns-in-Ok-clause-keeps g c =
    let e = c.in-Ok.ensures in
    let k = c.reopen.ensures.keeps in
    record {
      standing = λ s. k.standing (∥∥₁_map s (λ f. (after_crash f.0 (chosen_by (table_of c.in-Ok.field-0)), e.stands f.0 f.1)));
      tracked = k.tracked;
      directory = k.directory ∙ e.directory;
      place = k.place;
      config = k.config ∙ e.numbers.config;
      here = λ h. k.here (here_so c.args.blob.now c.args.blob.now c.args.store.now c.crash.new.self e.directory refl h);
      openable = λ h. k.openable (openable_so c.args.store.now c.crash.new.self e.directory h);
      whole = λ h. k.whole (whole_so c.args.store.now c.crash.new.self e.numbers.config h);
    }

pub returns-in-Ok-clause-crash : goal.returns-in-Ok-clause-crash
returns-in-Ok-clause-crash g c =
    no_more (live (inside c.args.blob.now)) (live (inside c.reopen.new.blob)) (pending_of (λ (o : Place). o) c.args.store.now (place (inside c.args.blob.now))) (pending_of (λ (o : Place). o) c.reopen.new.store (place (inside c.reopen.new.blob))) (durable (inner_of c.args.store.now) (place (inside c.args.blob.now))) (durable (inner_of c.reopen.new.store) (place (inside c.reopen.new.blob))) (chosen_by (table_of c.in-Ok.field-0))
    (same ∙ lost) none (was c.reopen.ensures.live)
  where
    lost : (durable (inner_of c.crash.new.self) (place (inside c.args.blob.now))) ≡ replayed_at (chosen_by (table_of c.in-Ok.field-0)) (pending_of (λ (o : Place). o) c.args.store.now (place (inside c.args.blob.now))) (durable (inner_of c.args.store.now) (place (inside c.args.blob.now)))
    lost = c.in-Ok.ensures.durable (place (inside c.args.blob.now))

    same : durable (inner_of c.reopen.new.store) (place (inside c.reopen.new.blob)) ≡ durable (inner_of c.crash.new.self) (place (inside c.args.blob.now))
    same = ap (durable (inner_of c.reopen.new.store)) c.reopen.ensures.keeps.place ∙ at_place c.reopen.ensures.durable _

    none : pending_of (λ (o : Place). o) c.reopen.new.store (place (inside c.reopen.new.blob)) ≡ []
    none = c.reopen.ensures.records.pending _ ∙ ap (λ (f : Place → List Pending). f (place (inside c.reopen.new.blob))) c.in-Ok.ensures.emptied

    was : (live (inside c.reopen.new.blob) ≡ live (inside c.args.blob.now)) ⊎ (durable (inner_of c.crash.new.self) (place (inside c.args.blob.now)) ≡ Some (live (inside c.reopen.new.blob))) →
        (live (inside c.reopen.new.blob) ≡ live (inside c.args.blob.now)) ⊎ (durable (inner_of c.reopen.new.store) (place (inside c.reopen.new.blob)) ≡ Some (live (inside c.reopen.new.blob)))
    was (inl e) = inl e
    was (inr e) = inr (same ∙ e)

pub returns-clause-keeps : goal.returns-clause-keeps
returns-clause-keeps g c = keeps_all _ _ _ _ c.kept_records.ensures c.in-Err.ensures.directory c.in-Err.ensures.unchanged c.in-Err.ensures.records refl (λ h. h)

pub returns-clause-crash : goal.returns-clause-crash
returns-clause-crash g c = same_outcomes _ _ _ _ _ _ refl (c.in-Err.ensures.records.pending _) (at_place c.in-Err.ensures.unchanged _)

pub returns-in-Ok-clause-drawn : goal.returns-in-Ok-clause-drawn
returns-in-Ok-clause-drawn g c =
    on_ok_weaker c.reopen.result (λ is files stands.
    left_so (table_of c.in-Ok.field-0) (crash_draws g.R.Rng.stream c.args.store.now files).0 chosen_by (pending_of (λ (o : Place). o) c.args.store.now (place (inside c.args.blob.now))) (durable (inner_of c.args.store.now) (place (inside c.args.blob.now))) (Some (live (inside c.reopen.new.blob))) (ap (λ (p : List Row × Stream). p.0) (c.in-Ok.ensures.rows files stands))
    (sym (c.in-Ok.ensures.durable (place (inside c.args.blob.now))) ∙ is)) c.reopen.ensures.found

pub returns-in-Ok-clause-answer : goal.returns-in-Ok-clause-answer
returns-in-Ok-clause-answer g c =
    may_crash (IsFor c.args.store.now) _ (open_fails g.R.Rng.stream c.args.store.now) _
    (λ files stands. draw_so _ _ _ _ (sym (ap (λ (s : Config). s.open_rate) c.in-Ok.ensures.numbers.config)) (sym (ap (λ (p : List Row × Stream). p.1) (c.in-Ok.ensures.rows files stands))))
    c.reopen.ensures.answer
