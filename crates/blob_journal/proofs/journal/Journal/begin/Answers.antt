use Rattle.blob_model.specs.Live.{live_written}
use Rattle.blob_model.specs.Bytes.{write_live, overlay}
use Rattle.blob_header.specs.Refusals.{refusal_of, error_of}
use Rattle.std.proofs.Common.{◌≡◌, ◌∷◌, List, ℕ, arith, [], None, Some, ap, refl, true, ◌∙◌, rules, subst, sym}
use Rattle.std.specs.Prelude.{option_map}
use Rattle.std.proofs.lemmas.Bool.{cond-true, cond-false}
use Rattle.blob_model.specs.Durable.{Durable}
use Rattle.blob_model.specs.Places.{Place, same_place}
use Rattle.blob_model.specs.SamePlace.{same_self}
use Rattle.blob_memory.specs.Store.{durable, live, place, directory}
use Rattle.blob_faulty.specs.Wrapper.{inner_of, inside, config_of, next_write_of, rng_of}
use Rattle.blob_draws.specs.Recorded.{recorded_write}
use Rattle.blob_journal.specs.Currents.{left_at}
use Rattle.blob_journal.proofs.Overlays.{over_nothing}
use Rattle.blob_packed.proofs.Overlays.{live_overlay}
use Rattle.blob_journal.proofs.Standing.{fixed_by, kept_left}
use Rattle.blob_journal.proofs.Limits.{write_allowed}
use Rattle.blob_journal.specs.Limits.{IsLimit}
use Rattle.blob_journal.proofs.journal.Journal.begin.Goals as goal

pub returns-clause-bytes : goal.returns-clause-bytes
returns-clause-bytes g c =
    let at : Place = place (inside c.args.self.now.blob) in
    let before : Durable = durable (inner_of c.args.store.now) in
    λ empty.
    ap (λ (d : Durable). d at) (c.in_ok-write_from.ensures.synced refl)
    ∙ cond-true (same_place at at) (option_map (λ x. overlay x 0 c.args.bytes.now) (before at)) (before at) (same_self at)
    ∙ ap (option_map (λ x. overlay x 0 c.args.bytes.now)) empty
    ∙ ap Some (over_nothing c.args.bytes.now)

pub returns-clause-fixed : goal.returns-clause-fixed
returns-clause-fixed g c = λ r e.
    let w = c.in_ok-write_from.ensures in
    let store = c.args.store.now in
    let at : Place = place (inside c.args.self.now.blob) in
    let bytes = c.args.bytes.now in
    let before : Durable = durable (inner_of store) in
    let entries = recorded_write (config_of store) (next_write_of store) (g.R.Rng.stream (rng_of store)) true 0 bytes None in
    record {
      durable = ap (λ (d : Durable). d at) (w.synced refl)
          ∙ cond-true (same_place at at) (option_map (λ x. overlay x 0 bytes) (before at)) (before at) (same_self at)
          ∙ ap (option_map (λ x. overlay x 0 bytes)) e.durable
          ∙ ap Some (over_nothing bytes);
      left = λ t. kept_left t bytes entries (left_at store t at) (left_at c.write_from.new.store t at) (c.writes.ensures.whole c.args.self.now.blob store 0 bytes w.allowed)
          ((fixed_by store at [] e.durable e.pending).left t)
          (c.recorded.ensures.left store c.write_from.new.store at entries r.0 t e.current w.directory r.1 (w.leaves.recorded refl));
    }

pub returns-clause-live : goal.returns-clause-live
returns-clause-live g c = λ empty. live_begun (live (inside c.args.self.now.blob)) (live (inside c.write_from.new.self)) c.args.bytes.now (c.in_ok-write_from.ensures.live) empty
  where
    live_begun : (old new : List ℕ) (bytes : List ℕ) → new ≡ live_written true old 0 bytes → old ≡ [] → new ≡ bytes
    live_begun old new [] is empty = is ∙ empty
    live_begun old new (b ∷ bytes) is empty = is ∙ ap (λ (l : List ℕ). write_live l 0 (b ∷ bytes)) empty ∙ live_overlay [] 0 (b ∷ bytes) (omega arith) ∙ over_nothing (b ∷ bytes)

pub returns-clause-only : goal.returns-clause-only
returns-clause-only g c = λ o other. ap (λ (d : Durable). d o) (c.in_ok-write_from.ensures.synced refl) ∙ cond-false (same_place (place (inside c.args.self.now.blob)) o) _ _ other

pub returns-in_err-write_from-clause-errors : goal.returns-in_err-write_from-clause-errors
returns-in_err-write_from-clause-errors g c = λ quiet here.
    let old = c.args.store.now in
    let said : error_of c.from_residual.result ≡ error_of c.write_from.result = search rules in
    subst (IsLimit _) (sym said) (write_allowed _ (config_of old) _ _ (next_write_of old) (g.R.Rng.stream (rng_of old)) (directory (inner_of old)) (place (inside c.args.self.now.blob)) _ 0 c.args.bytes.now true (error_of c.write_from.result)
    quiet (λ s. here) c.write_from.ensures.allowed)

pub returns-in_err-write_from-clause-writes : goal.returns-in_err-write_from-clause-writes
returns-in_err-write_from-clause-writes g c =
    let w = c.in_err-write_from.ensures in
    let store = c.args.store.now in
    let stream = g.R.Rng.stream (rng_of store) in
    record {
      place = w.place;
      generation = refl;
      directory = w.directory;
      beside = λ given o test other k. c.other_blobs.ensures.recorded store c.write_from.new.store (place (inside c.args.self.now.blob)) o test
          (recorded_write (config_of store) (next_write_of store) stream true 0 c.args.bytes.now (Some (refusal_of c.in_err-write_from.field-0.0))) given other w.directory (w.leaves.recorded refl) k;
    }

pub returns-clause-writes : goal.returns-clause-writes
returns-clause-writes g c =
    let w = c.in_ok-write_from.ensures in
    let store = c.args.store.now in
    let stream = g.R.Rng.stream (rng_of store) in
    record {
      place = w.place;
      generation = refl;
      directory = w.directory;
      beside = λ given o test other k. c.other_blobs.ensures.recorded store c.write_from.new.store (place (inside c.args.self.now.blob)) o test
          (recorded_write (config_of store) (next_write_of store) stream true 0 c.args.bytes.now None) given other w.directory (w.leaves.recorded refl) k;
    }
