use Rattle.blob_journal.proofs.Draws.{IsLoose, done_entries, refused_entries, refused_live}
use Rattle.std.proofs.Common.{◌≡◌, ◌++◌, ◌∷◌, [], ◌+◌, ℕ, List, Bool, false, None, Some, length, ap, refl, sym, subst, ◌∙◌, rules, ◌<◌, ◌≤◌, ◌-◌, ◌^◌, ap₂, arith, vec_len, Option}
use Rattle.blob_base.specs.Options.{is_sync}
use Rattle.blob_header.specs.Refusals.{refusal_of}
use Rattle.blob_model.specs.Places.{Place}
use Rattle.blob_model.specs.Bytes.{write_live}
use Rattle.blob_memory.specs.Store.{directory, live, place, durable}
use Rattle.blob_draws.specs.Recorded.{live_of_write, recorded_write}
use Rattle.blob_faulty.specs.Keeps.{OverMemory, IsFor}
use Rattle.blob_faulty.specs.Wrapper.{config_of, inner_of, inside, next_write_of, rng_of, Stands}
use Rattle.blob_directory.specs.Names.{edit_of}
use Rattle.blob_packed.specs.Losses.{may_be_left}
use Rattle.blob_packed.specs.Records.{packed, record_bytes}
use Rattle.blob_directory.specs.Records.{edit_bytes, record_of}
use Rattle.blob_journal.specs.Currents.{FindsOnly}
use Rattle.blob_journal.specs.Draws.{DrawsWhole, entries_of_record, kept_whole}
use Rattle.blob_journal.proofs.Found.{no_more_set, nothing_added, on_err, record_added}
use Rattle.blob_journal.proofs.Records.{as_short, fit_more, longer}
use Rattle.std.proofs.lemmas.List.{length_push}
use Rattle.blob_memory.specs.declared.storage.Storage as memory
use Rattle.blob_model.specs.Directory.{Directory}
use Rattle.blob_model.specs.Files.{all_logged}
use Rattle.blob_model.specs.Log.{Entry}
use Rattle.blob_model.specs.Rates.{Rate}
use Rattle.blob_model.specs.declared.mode.PartialWriteMode.{PartialWriteMode}
use Rattle.blob_draws.specs.Changes.{loose}
use Rattle.blob_draws.specs.Faults.{retention}
use Rattle.blob_journal.proofs.Writes.{recorded_loose}
use Rattle.blob_journal.proofs.journal.Journal.add.Goals as goal

pub returns-in_err-write_from-clause-refused : goal.returns-in_err-write_from-clause-refused
returns-in_err-write_from-clause-refused g c =
    let mid = c.set_config.new.self in
    let faults : DrawsWhole (config_of mid) = subst DrawsWhole (sym (ap (λ (s : OverMemory g.row.R.Denot). config_of s) c.set_config.ensures.set)) c.faults_of.ensures.whole in
    let plain : is_sync c.default.result ≡ false = first_of (search rules, cc) in
    on_err c.from_residual-in_err-write_from.result _ (c.in_err-write_from.ensures.leaves.live_after refl
    ∙ ap (λ (s : Bool). live_of_write (config_of mid) (g.R.Rng.stream (rng_of mid)) s (live (inside c.args.self.now.blob)) c.args.self.now.end c.deref.result.now (Some (refusal_of c.in_err-write_from.field-0.0))) plain
    ∙ refused_live (config_of mid) (g.R.Rng.stream (rng_of mid)) (live (inside c.args.self.now.blob)) c.args.self.now.end c.deref.result.now (refusal_of c.in_err-write_from.field-0.0) faults)

pub returns-in_err-write_from-clause-same : goal.returns-in_err-write_from-clause-same
returns-in_err-write_from-clause-same g c = on_err c.from_residual-in_err-write_from.result _ (λ rs h.
    let store = c.args.store.now in
    let mid = c.set_config.new.self in
    let new = c.write_from.new.store in
    let w = c.in_err-write_from.ensures in
    let at : Place = place (inside c.args.self.now.blob) in
    let offset = c.args.self.now.end in
    let refusal = refusal_of c.in_err-write_from.field-0.0 in
    let faults : DrawsWhole (config_of mid) = subst DrawsWhole (sym (ap (λ (s : OverMemory g.row.R.Denot). config_of s) c.set_config.ensures.set)) c.faults_of.ensures.whole in
    let plain : is_sync c.default.result ≡ false = first_of (search rules, cc) in
    let bytes = c.deref.result.now in
    let es = recorded_write (config_of mid) (next_write_of mid) (g.R.Rng.stream (rng_of mid)) (is_sync c.default.result) offset bytes (Some refusal) in
    let none = ap (λ (s : Bool). recorded_write (config_of mid) (next_write_of mid) (g.R.Rng.stream (rng_of mid)) s offset bytes (Some refusal)) plain
    ∙ refused_entries (config_of mid) (next_write_of mid) (g.R.Rng.stream (rng_of mid)) offset bytes refusal faults in
    let live_same = w.leaves.live_after refl
    ∙ ap (λ (s : Bool). live_of_write (config_of mid) (g.R.Rng.stream (rng_of mid)) s (live (inside c.args.self.now.blob)) offset bytes (Some refusal)) plain
    ∙ refused_live (config_of mid) (g.R.Rng.stream (rng_of mid)) (live (inside c.args.self.now.blob)) offset bytes refusal faults in
    let k : FindsOnly mid at (may_be_left 0 rs) = no_more_set store mid c.faults_of.result c.set_config.ensures.set at (may_be_left 0 rs) h.found in
    let found : FindsOnly new at (may_be_left 0 rs) = nothing_added mid new at es w.directory (w.leaves.recorded refl) (may_be_left 0 rs) none k in
    record {
      seen = live_same ∙ h.seen;
      count = h.count;
      end = ap (λ (l : List ℕ). length l) live_same ∙ h.end;
      fit = h.fit;
      found = subst (λ (o : Place). FindsOnly new o (may_be_left 0 rs)) (sym w.place) found;
    })

pub returns-clause-left : goal.returns-clause-left
returns-clause-left g c = λ rs h.
    let store = c.args.store.now in
    let mid = c.set_config.new.self in
    let new = c.write_from.new.store in
    let w = c.in_ok-write_from.ensures in
    let at : Place = place (inside c.args.self.now.blob) in
    let faults : DrawsWhole (config_of mid) = subst DrawsWhole (sym (ap (λ (s : OverMemory g.row.R.Denot). config_of s) c.set_config.ensures.set)) c.faults_of.ensures.whole in
    let plain : is_sync c.default.result ≡ false = first_of (search rules, cc) in
    let bytes = c.deref.result.now in
    let n = c.args.self.now.records in
    let offset = c.args.self.now.end in
    let old : List ℕ = live (inside c.args.self.now.blob) in
    let x : List ℕ = edit_bytes (edit_of c.args.edit.now) in
    let same : bytes ≡ record_bytes n (x, false) = c.deref.ensures.value ∙ c.in_ok-bytes.ensures in
    let here : bytes ≡ record_bytes (length rs) (x, false) = same ∙ ap (λ (m : ℕ). record_bytes m (x, false)) (sym h.count) in
    let there : offset ≡ length (packed rs) = sym h.end ∙ ap (λ (l : List ℕ). length l) h.seen in
    let es = recorded_write (config_of mid) (next_write_of mid) (g.R.Rng.stream (rng_of mid)) (is_sync c.default.result) offset bytes None in
    let loose : IsLoose offset bytes es = subst (λ (s : Bool). IsLoose offset bytes (recorded_write (config_of mid) (next_write_of mid) (g.R.Rng.stream (rng_of mid)) s offset bytes None)) (sym plain)
    (done_entries (config_of mid) (next_write_of mid) (g.R.Rng.stream (rng_of mid)) offset bytes faults) in
    let k : FindsOnly mid at (may_be_left 0 rs) = no_more_set store mid c.faults_of.result c.set_config.ensures.set at (may_be_left 0 rs) h.found in
    let long : length bytes ≡ vec_len c.in_ok-bytes.bytes = ap (λ (l : List ℕ). length l) c.deref.ensures.value ∙ sym c.in_ok-bytes.bytes.ok.0 in
    let one = (c.in-Some-checked_add.ensures).1 in
    let sum : c.in-Some-checked_add.end ≡ offset + length bytes = omega (arith, one, long) in
    let short : offset + length bytes ≤ 2 ^ 64 - 1 = omega (arith, sum) in
    let next = (c.in-Some.ensures).1 in
    let low : 0 + length rs < 2 ^ 64 = let count = h.count in omega (arith, count, next) in
    let less = as_short n x false in
    let size : length bytes ≡ length (record_bytes n (x, false)) = ap (λ (l : List ℕ). length l) same in
    let plus : length rs ≡ 0 + length rs = omega arith in
    let all : length (record_bytes n (x, false)) ≡ length (record_bytes (0 + length rs) (x, false)) = ap (λ (m : ℕ). length (record_bytes m (x, false))) (sym h.count ∙ plus) in
    let found = record_added mid new at es w.directory (w.leaves.recorded refl) c.records.ensures.more_left rs x offset bytes there here short loose k in
    let now : live (inside c.write_from.new.self) ≡ write_live old offset bytes = first_of (search rules, cc) in
    let seen : live (inside c.write_from.new.self) ≡ packed (rs ++ (x, false) ∷ []) =
    now ∙ ap (λ (l : List ℕ). write_live l offset bytes) h.seen ∙ ap₂ (λ (m : ℕ) (l : List ℕ). write_live (packed rs) m l) there here ∙ sym (c.records.ensures.more rs (x, false)) in
    record {
      seen = seen;
      count = length_push rs (x, false) ∙ ap (λ (m : ℕ). m + 1) h.count ∙ sym next;
      end = ap (λ (l : List ℕ). length l) seen ∙ longer 0 rs (x, false) ∙ ap₂ (λ (a b : ℕ). a + b) (sym there) (sym (size ∙ all)) ∙ sym sum;
      fit = fit_more 0 rs (x, false) h.fit low (omega (arith, less, size, short));
      found = subst (λ (o : Place). FindsOnly new o (may_be_left 0 (rs ++ (x, false) ∷ []))) (sym w.place) found;
    }

pub returns-clause-logged : goal.returns-clause-logged
returns-clause-logged g c = λ given files for.
    let store = c.args.store.now in
    let mid = c.set_config.new.self in
    let set = c.set_config.ensures.set in
    let new = c.write_from.new.store in
    let w = c.in_ok-write_from.ensures in
    let at : Place = place (inside c.args.self.now.blob) in
    let plain : is_sync c.default.result ≡ false = first_of (search rules, cc) in
    let bytes = c.deref.result.now in
    let n = c.args.self.now.records in
    let offset = c.args.self.now.end in
    let stream = g.R.Rng.stream (rng_of mid) in
    let edit = edit_of c.args.edit.now in
    let same : bytes ≡ record_bytes n (record_of edit false) = c.deref.ensures.value ∙ c.in_ok-bytes.ensures in
    let kept : retention (config_of mid).write_rate ≡ kept_whole c.args.rate = ap (λ (s : OverMemory g.row.R.Denot). retention (config_of s).write_rate) set ∙ c.faults_of.ensures.kept in
    let next : next_write_of mid ≡ next_write_of store = ap (λ (s : OverMemory g.row.R.Denot). next_write_of s) set in
    let inner : inner_of mid ≡ inner_of store = ap (λ (s : OverMemory g.row.R.Denot). inner_of s) set in
    let is : recorded_write (config_of mid) (next_write_of mid) stream (is_sync c.default.result) offset bytes None ≡ entries_of_record c.args.rate edit (next_write_of store) n offset =
    recorded_loose _ _ _ (config_of mid) (next_write_of mid) stream offset bytes (is_sync c.default.result) plain w.allowed
    ∙ ap₂ (λ (k : Option (PartialWriteMode × Rate)) (m : ℕ). loose k m offset bytes) kept next
    ∙ ap (loose (kept_whole c.args.rate) (next_write_of store) offset) same in
    let more = w.leaves.done refl files (subst (λ (s : memory.Storage). at.number < (directory s).next) (sym inner) given) (c.set_config.ensures.files files for) in
    subst (λ (es : List Entry). IsFor new (all_logged files at es)) is
    (subst (λ (d : Directory). Stands (λ (o : Place). o) d (durable (inner_of new)) new (all_logged files at (recorded_write (config_of mid) (next_write_of mid) stream (is_sync c.default.result) offset bytes None))) (sym w.directory) more)

pub returns-in_err-write_from-clause-writes : goal.returns-in_err-write_from-clause-writes
returns-in_err-write_from-clause-writes g c =
    let w = c.in_err-write_from.ensures in
    let store = c.args.store.now in
    let mid = c.set_config.new.self in
    let set = c.set_config.ensures.set in
    let at : Place = place (inside c.args.self.now.blob) in
    let es = recorded_write (config_of mid) (next_write_of mid) (g.R.Rng.stream (rng_of mid)) (is_sync c.default.result) c.args.self.now.end c.deref.result.now (Some (refusal_of c.in_err-write_from.field-0.0)) in
    let inner : inner_of mid ≡ inner_of store = ap (λ (s : OverMemory g.row.R.Denot). inner_of s) set in
    record {
      place = w.place;
      generation = refl;
      directory = w.directory ∙ ap (λ (s : memory.Storage). directory s) inner;
      beside = λ given o test other k. c.other_blobs.ensures.recorded mid c.write_from.new.store at o test es (subst (λ (s : memory.Storage). at.number < (directory s).next) (sym inner) given) other w.directory (w.leaves.recorded refl)
          (no_more_set store mid c.faults_of.result set o test k);
    }

pub returns-clause-writes : goal.returns-clause-writes
returns-clause-writes g c =
    let w = c.in_ok-write_from.ensures in
    let store = c.args.store.now in
    let mid = c.set_config.new.self in
    let set = c.set_config.ensures.set in
    let at : Place = place (inside c.args.self.now.blob) in
    let es = recorded_write (config_of mid) (next_write_of mid) (g.R.Rng.stream (rng_of mid)) (is_sync c.default.result) c.args.self.now.end c.deref.result.now None in
    let inner : inner_of mid ≡ inner_of store = ap (λ (s : OverMemory g.row.R.Denot). inner_of s) set in
    record {
      place = w.place;
      generation = refl;
      directory = w.directory ∙ ap (λ (s : memory.Storage). directory s) inner;
      beside = λ given o test other k. c.other_blobs.ensures.recorded mid c.write_from.new.store at o test es (subst (λ (s : memory.Storage). at.number < (directory s).next) (sym inner) given) other w.directory (w.leaves.recorded refl)
          (no_more_set store mid c.faults_of.result set o test k);
    }
