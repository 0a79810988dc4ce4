use Rattle.std.proofs.Common.{rules, ◌≡◌, ◌∙◌, ap, sym, List, ℕ, [], Option, Some, None, subst}
use Rattle.std.proofs.lemmas.Grind.{merely}
use Rattle.std.proofs.lemmas.Option.{none-some}
use Rattle.std.specs.Prelude.{codes}
use Rattle.blob_model.specs.Directory.{Directory}
use Rattle.blob_model.specs.Durable.{Durable}
use Rattle.blob_model.specs.Files.{Files, wrap, after_open}
use Rattle.blob_model.specs.Places.{Place}
use Rattle.blob_model.specs.Rates.{Rate}
use Rattle.blob_header.specs.Refusals.{error_of, refusal_of}
use Rattle.blob_disk.proofs.BlobDisk.new.Goals as goal
use Rattle.blob_disk.proofs.Opening.{memory_alone, opens_again, refused_alone}
use Rattle.blob_disk.proofs.Outcomes.{configured_here, configured_openable, configured_whole}
use Rattle.blob_faulty.specs.Certain.{IsNever}
use Rattle.blob_draws.specs.Faults.{draw}
use Rattle.blob_faulty.specs.Keeps.{OverMemory}
use Rattle.blob_faulty.specs.Wrapper.{config_of, inner_of, rng_of, Stands}
use Rattle.blob_memory.specs.Store.{directory, durable}

pub invariant_of-result : goal.invariant_of-result
invariant_of-result g c =
    let e = c.in_ok-blob.ensures in
    let is_empty : (o : Place) (x : List ℕ) → durable c.new-memory.result o ≡ Some x → [] ≡ x = λ o x h. absurd (none-some x (sym (ap (λ (f : Durable). f o) c.new-memory.ensures.durable) ∙ h)) in
    let w : Files = wrap (directory c.new-memory.result) (λ _. []) 0 0 in
    let made : Stands (λ (o : Place). o) (directory (inner_of c.new-store.result)) (durable (inner_of c.new-store.result)) c.new-store.result w =
    subst (λ m. Stands (λ (o : Place). o) (directory m) (durable m) c.new-store.result w) (sym c.new-store.ensures.inner) (c.new-store.ensures.files (λ _. []) is_empty) in
    let s = c.opens.ensures.accepted c.new-store.result c.open.new.self (codes "disk") (codes "0") 0 0 _ _ _ e.opened e.leaves w made in
    let here = c.accepted_opens.ensures.current _ _ _ _ (codes "disk") (codes "0") _ _ _ _ _ e.opened in
    let set = c.set_config.ensures.set in
    record {
      standing = merely (after_open w (codes "disk") (codes "0") 0 0, c.set_config.ensures.files (after_open w (codes "disk") (codes "0") 0 0) s);
      tracked = e.kept_size.0 ∙ e.size;
      here = configured_here c.in_ok-blob.blob c.open.new.self c.set_config.new.self c.args.config set here;
      openable = configured_openable c.open.new.self c.set_config.new.self c.args.config set (opens_again _ _ _ _ _ _ e.opened);
      whole = configured_whole c.open.new.self c.set_config.new.self c.args.config set c.requires;
    }

pub returns-clause-empty : goal.returns-clause-empty
returns-clause-empty g c =
    let missing : (directory (inner_of c.new-store.result)).file (codes "disk") (codes "0") ≡ None =
    ap (λ m. (directory m).file (codes "disk") (codes "0")) c.new-store.ensures.inner ∙ ap (λ (d : Directory). d.file (codes "disk") (codes "0")) c.new-memory.ensures.directory in
    c.accepted_opens.ensures.missing_names_begin_empty _ _ _ _ (codes "disk") (codes "0") 0 0 _ _ _ c.in_ok-blob.ensures.opened missing

pub returns-in_err-blob-clause-memory : goal.returns-in_err-blob-clause-memory
returns-in_err-blob-clause-memory g c =
    let s = c.new-store.result in
    let answer = refusal_of c.in_err-blob.field-0.0 in
    let said : error_of c.from_residual.result ≡ Some answer = search rules in
    let unset : (config_of s).open_rate ≡ None = search rules in
    let never : IsNever (config_of s).open_rate = subst (λ (rate : Option Rate). IsNever rate) (sym unset) tt in
    let made : directory (inner_of s) ≡ directory c.new-memory.result = ap directory c.new-store.ensures.inner in
    let asked = (c.without_faults.ensures.opens s (codes "disk") (codes "0") 0 0 (Some answer) never).0 c.in_err-blob.ensures.allowed in
    refused_alone c.from_residual.result (said ∙ memory_alone (directory (inner_of s)) answer (made ∙ c.new-memory.ensures.directory) asked)

pub returns-clause-stream : goal.returns-clause-stream
returns-clause-stream g c =
    let unset : (config_of c.new-store.result).open_rate ≡ None = search rules in
    ap (λ (w : OverMemory _). g.R.Rng.stream (rng_of w)) c.set_config.ensures.set
    ∙ c.in_ok-blob.ensures.leaves.drawn
    ∙ ap (λ (rate : Option Rate). (draw rate (g.R.Rng.stream (rng_of c.new-store.result))).1) unset
    ∙ ap (λ r. g.R.Rng.stream r) c.new-store.ensures.rng
