use Rattle.std.proofs.Common.{arith, rules, ◌≡◌, ℕ, ◌*◌, List, length, Bool, false, refl, sym, ◌∙◌, ap, ap₂, subst}
use Rattle.std.proofs.lemmas.Result.{on_ok_weaker}
use Rattle.blob_base.specs.Options.{is_sync}
use Rattle.blob_header.specs.Refusals.{error_of}
use Rattle.blob_model.specs.Live.{live_written}
use Rattle.blob_model.specs.Places.{Place}
use Rattle.blob_model.proofs.Opened.{current_is}
use Rattle.blob_draws.specs.Faults.{retention}
use Rattle.blob_faulty.specs.Allowed.{MayWrite}
use Rattle.blob_faulty.specs.Fits.{LaysFitting}
use Rattle.blob_faulty.specs.OverMemory.{memory_handle}
use Rattle.blob_records.specs.Answers.{Asked, Uncounted}
use Rattle.blob_faulty.specs.Outcomes.{IsNotMissing}
use Rattle.blob_faulty.specs.Wrapper.{config_of, inner_of, inside, rng_of, size_of}
use Rattle.blob_memory.specs.Store.{directory, live}
use Rattle.blob_records.specs.Records.{FindsOnly, place_of, record_in}
use Rattle.blob_records.proofs.Putting.{live_put, passes_put, read_beside, read_done, read_put}
use Rattle.blob_records.proofs.records.Records.put.Goals as goal

pub returns-clause-found : goal.returns-clause-found
returns-clause-found g c = λ i test was put.
    let r = c.args.self.now in
    let w = c.args.store.now in
    let b = c.args.bytes.now in
    let e = c.write_from.ensures in
    let o = place_of r in
    let k = retention (config_of w).write_rate in
    let stream = g.R.Rng.stream (rng_of w) in
    let answer = error_of c.write_from.result in
    let sync = is_sync c.default.result in
    let plain : sync ≡ false = first_of (search rules, cc) in
    let at : c.in-Some.offset ≡ c.args.index * r.len = (c.in-Some.ensures).1 in
    let there : IsNotMissing answer = c.found.ensures r.blob w c.in-Some.offset b sync answer (current_is (directory (inner_of w)) o.partition o.name o was.found.here) e.allowed in
    let test_of : List ℕ → Bool = λ bytes. test (record_in r.len bytes i) in
    let found = c.written.ensures w c.write_from.new.store o test_of test_of c.in-Some.offset b sync answer e.directory (e.leaves.recorded refl)
    (λ x y passes lays. let l = subst (λ (n : ℕ). LaysFitting (config_of w) n b x y) at lays in passes_put k r.len c.args.index b x y l.0 c.requires.len c.requires.whole l.1 l.2 i test put passes) was.found in
    let laid = live_put c.writes.ensures (config_of w) stream (live (inside r.blob)) (live (inside c.write_from.new.self)) c.in-Some.offset (c.args.index * r.len) b sync answer there at plain (e.leaves.live_after refl) in
    record {
      found = subst (λ (p : Place). FindsOnly c.write_from.new.store p r.len i test) (sym e.place) found;
      read = read_put k r.len c.args.index b (live (inside r.blob)) (live (inside c.write_from.new.self)) c.requires.len c.requires.whole laid i test put was.read;
      size = e.leaves.size refl ∙ c.sizes.ensures.writes (config_of w) stream sync (size_of r.blob) (live (inside r.blob)) c.in-Some.offset b answer there was.size ∙ sym (ap (λ (x : List ℕ). length x) (e.leaves.live_after refl));
    }

pub returns-clause-read : goal.returns-clause-read
returns-clause-read g c =
    let r = c.args.self.now in
    let b = c.args.bytes.now in
    let sync = is_sync c.default.result in
    let plain : sync ≡ false = first_of (search rules, cc) in
    let at : c.in-Some.offset ≡ c.args.index * r.len = (c.in-Some.ensures).1 in
    on_ok_weaker c.write_from.result
    (λ is. ap (λ (x : List ℕ). record_in r.len x c.args.index) (is ∙ ap₂ (λ (s : Bool) (n : ℕ). live_written s (live (inside r.blob)) n b) plain at)
    ∙ read_done r.len c.args.index b (live (inside r.blob)) c.requires.len)
    c.write_from.ensures.live

pub returns-clause-others : goal.returns-clause-others
returns-clause-others g c = λ now i other.
    let r = c.args.self.now in
    let w = c.args.store.now in
    let b = c.args.bytes.now in
    let e = c.write_from.ensures in
    let o = place_of r in
    let stream = g.R.Rng.stream (rng_of w) in
    let answer = error_of c.write_from.result in
    let sync = is_sync c.default.result in
    let plain : sync ≡ false = first_of (search rules, cc) in
    let at : c.in-Some.offset ≡ c.args.index * r.len = (c.in-Some.ensures).1 in
    let there : IsNotMissing answer = c.found.ensures r.blob w c.in-Some.offset b sync answer (current_is (directory (inner_of w)) o.partition o.name o now.found.here) e.allowed in
    read_beside (retention (config_of w).write_rate) r.len c.args.index b (live (inside r.blob)) (live (inside c.write_from.new.self)) c.requires.len
    (live_put c.writes.ensures (config_of w) stream (live (inside r.blob)) (live (inside c.write_from.new.self)) c.in-Some.offset (c.args.index * r.len) b sync answer there at plain (e.leaves.live_after refl)) i other

pub returns-clause-answer : goal.returns-clause-answer
returns-clause-answer g c =
    let r = c.args.self.now in
    let w = c.args.store.now in
    let b = c.args.bytes.now in
    let answer = error_of c.write_from.result in
    let plain : is_sync c.default.result ≡ false = first_of (search rules, cc) in
    Asked answer (subst (λ (n : ℕ). MayWrite memory_handle r.blob w g.R.Rng.stream n b false answer) (c.in-Some.ensures).1
    (subst (λ (s : Bool). MayWrite memory_handle r.blob w g.R.Rng.stream c.in-Some.offset b s answer) plain c.write_from.ensures.allowed))

pub returns-in_default-clause-answer : goal.returns-in_default-clause-answer
returns-in_default-clause-answer g c = Uncounted (omega (arith, c.in_default.ensures))
