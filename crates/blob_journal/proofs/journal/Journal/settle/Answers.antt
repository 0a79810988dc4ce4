use Rattle.blob_journal.proofs.Records.{as_long, some_record}
use Rattle.blob_packed.proofs.Fits.{fit_again}
use Rattle.blob_journal.proofs.Found.{no_more_set, nothing_added, on_err, record_settled}
use Rattle.blob_journal.proofs.Draws.{refused_sync, refused_sync_live}
use Rattle.blob_journal.proofs.Currents.{named_current}
use Rattle.blob_packed.specs.Losses.{may_be_left}
use Rattle.blob_packed.specs.Records.{FitFrom, Record, packed, record_bytes}
use Rattle.blob_directory.specs.declared.unsettled.Unsettled.{Unsettled}
use Rattle.blob_journal.specs.Currents.{FindsOnly, left_at}
use Rattle.blob_faulty.specs.Outcomes.{IsNotMissing}
use Rattle.blob_draws.specs.Recorded.{kept_entries, recorded_write}
use Rattle.blob_memory.specs.Store.{live, directory, durable, place}
use Rattle.blob_model.specs.Live.{live_written}
use Rattle.blob_model.specs.Bytes.{write_live, overlay}
use Rattle.blob_header.specs.Refusals.{refusal_of}
use Rattle.std.proofs.Common.{◌∷◌, ◌++◌, ◌<◌, suc, [], Some, length, rules, subst, sym, ◌≡◌, ℕ, List, None, true, option_map, ap, ap₂, refl, ◌∙◌}
use Rattle.std.proofs.lemmas.Bool.{cond-true}
use Rattle.blob_model.specs.Directory.{is_current}
use Rattle.blob_model.specs.Durable.{Durable}
use Rattle.blob_model.specs.Files.{all_logged}
use Rattle.blob_model.specs.Places.{Place, same_place}
use Rattle.blob_model.specs.SamePlace.{same_self}
use Rattle.blob_memory.specs.declared.storage.Storage as memory
use Rattle.blob_faulty.specs.Keeps.{OverMemory}
use Rattle.blob_faulty.specs.Wrapper.{config_of, inner_of, inside, next_write_of, rng_of}
use Rattle.blob_directory.specs.Names.{edit_of}
use Rattle.blob_directory.specs.Records.{edit_bytes, record_of}
use Rattle.blob_journal.proofs.Settling.{settled_left}
use Rattle.blob_journal.proofs.journal.Journal.settle.Goals as goal

pub returns-clause-settled : goal.returns-clause-settled
returns-clause-settled g c =
    let w = c.in_ok-write_from.ensures in
    let store = c.args.store.now in
    let mid = c.set_config.new.self in
    let new = c.write_from.new.store in
    let at : Place = place (inside c.args.self.now.blob) in
    let edit : Unsettled = c.args.edit.now in
    let offset = edit.offset in
    let bytes = c.deref.result.now in
    let written : List ℕ = record_bytes edit.record (record_of (edit_of edit.edit) true) in
    let same : bytes ≡ written = c.deref.ensures.value ∙ c.in_ok-bytes.ensures in
    let inner : inner_of mid ≡ inner_of store = ap (λ (s : OverMemory g.row.R.Denot). inner_of s) c.set_config.ensures.set in
    let entries = recorded_write (config_of mid) (next_write_of mid) (g.R.Rng.stream (rng_of mid)) true offset bytes None in
    let still : is_current (directory (inner_of store)) at ≡ true → is_current (directory (inner_of mid)) at ≡ true = λ now. ap (λ (s : memory.Storage). is_current (directory s) at) inner ∙ now in
    record {
      durable = ap (λ (d : Durable). d at) (w.synced refl)
          ∙ cond-true (same_place at at) (option_map (λ x. overlay x offset bytes) (durable (inner_of mid) at)) (durable (inner_of mid) at) (same_self at)
          ∙ ap (λ (b : List ℕ). option_map (λ x. overlay x offset b) (durable (inner_of mid) at)) same
          ∙ ap (λ (s : memory.Storage). option_map (λ x. overlay x offset written) (durable s at)) inner;
      files = λ r now. (all_logged r.0 at entries, c.recorded.ensures.stands mid new at entries r.0 (still now) w.directory (c.set_config.ensures.files r.0 r.1) (w.leaves.recorded refl));
      left = λ r now t. settled_left t entries offset offset bytes written (left_at mid t at) (left_at store t at) (left_at new t at)
          (c.writes.ensures.whole c.args.self.now.blob mid offset bytes w.allowed) (some_record edit.record (record_of (edit_of edit.edit) true)) refl same
          (ap (λ (s : OverMemory g.row.R.Denot). left_at s t at) c.set_config.ensures.set)
          (c.recorded.ensures.left mid new at entries r.0 t (still now) w.directory (c.set_config.ensures.files r.0 r.1) (w.leaves.recorded refl));
    }

pub returns-in_err-write_from-clause-same : goal.returns-in_err-write_from-clause-same
returns-in_err-write_from-clause-same g c = on_err c.from_residual-in_err-write_from.result _ (λ rs h.
    let w = c.in_err-write_from.ensures in
    let store = c.args.store.now in
    let mid = c.set_config.new.self in
    let new = c.write_from.new.store in
    let stream = g.R.Rng.stream (rng_of mid) in
    let set = c.set_config.ensures.set in
    let at : Place = place (inside c.args.self.now.blob) in
    let edit : Unsettled = c.args.edit.now in
    let offset = edit.offset in
    let bytes = c.deref.result.now in
    let old : List ℕ = live (inside c.args.self.now.blob) in
    let refusal = refusal_of c.in_err-write_from.field-0.0 in
    let r : Record = record_of (edit_of edit.edit) true in
    let same : bytes ≡ record_bytes edit.record r = c.deref.ensures.value ∙ c.in_ok-bytes.ensures in
    let some : bytes ≡ [] → ⊥ = λ e. some_record edit.record r (sym same ∙ e) in
    let writes : (config_of mid).write_rate ≡ None = ap (λ (s : OverMemory g.row.R.Denot). (config_of s).write_rate) set ∙ first_of (search rules, cc) in
    let syncs : (config_of mid).sync_rate ≡ None = ap (λ (s : OverMemory g.row.R.Denot). (config_of s).sync_rate) set ∙ first_of (search rules, cc) in
    let inner : inner_of mid ≡ inner_of store = ap (λ (s : OverMemory g.row.R.Denot). inner_of s) set in
    let now : is_current (directory (inner_of mid)) at ≡ true =
    ap (λ (s : memory.Storage). is_current (directory s) at) inner ∙ named_current (directory (inner_of store)) at.partition at.name at h.found.here in
    let there : IsNotMissing (Some refusal) = c.found.ensures c.args.self.now.blob mid offset bytes true (Some refusal) now w.allowed in
    let live_same = w.leaves.live_after refl ∙ refused_sync_live (config_of mid) stream offset bytes refusal writes syncs some old there in
    let none = refused_sync (config_of mid) stream offset bytes refusal writes syncs some (next_write_of mid) in
    let es = recorded_write (config_of mid) (next_write_of mid) stream true offset bytes (Some refusal) in
    let k : FindsOnly mid at (may_be_left 0 rs) = no_more_set store mid c.default.result set at (may_be_left 0 rs) h.found in
    let found : FindsOnly new at (may_be_left 0 rs) = nothing_added mid new at es w.directory (w.leaves.recorded refl) (may_be_left 0 rs) none k in
    record {
      seen = live_same ∙ h.seen;
      count = h.count;
      end = ap (λ (l : List ℕ). length l) live_same ∙ h.end;
      fit = h.fit;
      found = subst (λ (o : Place). FindsOnly new o (may_be_left 0 rs)) (sym w.place) found;
    })

pub returns-clause-left : goal.returns-clause-left
returns-clause-left g c = λ rs e h.
    let w = c.in_ok-write_from.ensures in
    let store = c.args.store.now in
    let mid = c.set_config.new.self in
    let new = c.write_from.new.store in
    let set = c.set_config.ensures.set in
    let at : Place = place (inside c.args.self.now.blob) in
    let edit : Unsettled = c.args.edit.now in
    let offset = edit.offset in
    let bytes = c.deref.result.now in
    let old : List ℕ = live (inside c.args.self.now.blob) in
    let x : List ℕ = edit_bytes (edit_of edit.edit) in
    let same : bytes ≡ record_bytes edit.record (x, true) = c.deref.ensures.value ∙ c.in_ok-bytes.ensures in
    let here : bytes ≡ record_bytes (length e.before) (x, true) = same ∙ ap (λ (m : ℕ). record_bytes m (x, true)) e.number in
    let some : bytes ≡ [] → ⊥ = λ none. some_record edit.record (x, true) (sym same ∙ none) in
    let es = recorded_write (config_of mid) (next_write_of mid) (g.R.Rng.stream (rng_of mid)) true offset bytes None in
    let kept : es ≡ kept_entries offset bytes = c.writes.ensures.whole c.args.self.now.blob mid offset bytes w.allowed in
    let was : List Record = e.before ++ (x, e.settled) ∷ e.after in
    let rs' : List Record = e.before ++ (x, true) ∷ e.after in
    let k : FindsOnly mid at (may_be_left 0 was) = subst (λ (l : List Record). FindsOnly mid at (may_be_left 0 l)) e.is
    (no_more_set store mid c.default.result set at (may_be_left 0 rs) h.found) in
    let found : FindsOnly new at (may_be_left 0 rs') =
    record_settled mid new at es w.directory (w.leaves.recorded refl) c.records.ensures.settled_left e.before e.after x e.settled offset bytes e.offset here some kept k in
    let now : live (inside c.write_from.new.self) ≡ write_live old offset bytes = live_settled old (live (inside c.write_from.new.self)) offset bytes some w.live in
    let seen : live (inside c.write_from.new.self) ≡ packed rs' =
    now ∙ ap (λ (l : List ℕ). write_live l offset bytes) (h.seen ∙ ap packed e.is)
    ∙ ap₂ (λ (m : ℕ) (l : List ℕ). write_live (packed was) m l) e.offset here
    ∙ sym (c.records.ensures.settled e.before e.after x e.settled) in
    record {
      seen = seen;
      count = same_count e.before e.after (x, true) (x, e.settled) ∙ ap (λ (l : List Record). length l) (sym e.is) ∙ h.count;
      end = ap (λ (l : List ℕ). length l) seen ∙ as_long 0 e.before e.after x true e.settled
          ∙ ap (λ (l : List Record). length (packed l)) (sym e.is) ∙ ap (λ (l : List ℕ). length l) (sym h.seen) ∙ h.end;
      fit = fit_again 0 e.before e.after x e.settled true (subst (λ (l : List Record). FitFrom 0 l) e.is h.fit);
      found = subst (λ (o : Place). FindsOnly new o (may_be_left 0 rs')) (sym w.place) found;
    }
  where
    live_settled : (old new : List ℕ) (offset : ℕ) (bytes : List ℕ) → (bytes ≡ [] → ⊥) → new ≡ live_written true old offset bytes → new ≡ write_live old offset bytes
    live_settled old new offset [] some is = absurd (some refl)
    live_settled old new offset (b ∷ bytes) some is = is

    same_count : (before after : List Record) (r r' : Record) → length (before ++ r ∷ after) ≡ length (before ++ r' ∷ after)
    same_count [] after r r' = refl
    same_count (x ∷ before) after r r' = ap suc (same_count before after r r')

pub returns-in_err-write_from-clause-writes : goal.returns-in_err-write_from-clause-writes
returns-in_err-write_from-clause-writes g c =
    let w = c.in_err-write_from.ensures in
    let store = c.args.store.now in
    let mid = c.set_config.new.self in
    let set = c.set_config.ensures.set in
    let at : Place = place (inside c.args.self.now.blob) in
    let es = recorded_write (config_of mid) (next_write_of mid) (g.R.Rng.stream (rng_of mid)) true c.args.edit.now.offset c.deref.result.now (Some (refusal_of c.in_err-write_from.field-0.0)) in
    let inner : inner_of mid ≡ inner_of store = ap (λ (s : OverMemory g.row.R.Denot). inner_of s) set in
    record {
      place = w.place;
      generation = refl;
      directory = w.directory ∙ ap (λ (s : memory.Storage). directory s) inner;
      beside = λ given o test other k. c.other_blobs.ensures.recorded mid c.write_from.new.store at o test es (subst (λ (s : memory.Storage). at.number < (directory s).next) (sym inner) given) other w.directory (w.leaves.recorded refl)
          (no_more_set store mid c.default.result set o test k);
    }

pub returns-clause-writes : goal.returns-clause-writes
returns-clause-writes g c =
    let w = c.in_ok-write_from.ensures in
    let store = c.args.store.now in
    let mid = c.set_config.new.self in
    let set = c.set_config.ensures.set in
    let at : Place = place (inside c.args.self.now.blob) in
    let es = recorded_write (config_of mid) (next_write_of mid) (g.R.Rng.stream (rng_of mid)) true c.args.edit.now.offset c.deref.result.now None in
    let inner : inner_of mid ≡ inner_of store = ap (λ (s : OverMemory g.row.R.Denot). inner_of s) set in
    record {
      place = w.place;
      generation = refl;
      directory = w.directory ∙ ap (λ (s : memory.Storage). directory s) inner;
      beside = λ given o test other k. c.other_blobs.ensures.recorded mid c.write_from.new.store at o test es (subst (λ (s : memory.Storage). at.number < (directory s).next) (sym inner) given) other w.directory (w.leaves.recorded refl)
          (no_more_set store mid c.default.result set o test k);
    }
