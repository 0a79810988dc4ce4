use Rattle.std.proofs.Common.{◌≡◌, ℕ, List, [], Some, None, ap, ◌∙◌, arith, refl, subst, sym}
use Rattle.std.specs.Prelude.{codes}
use Rattle.std.specs.Int.{w64, to_be_bytes}
use Rattle.blob_model.specs.Directory.{Directory}
use Rattle.blob_model.specs.Files.{wrap}
use Rattle.blob_model.specs.Places.{Place}
use Rattle.blob_packed.specs.Records.{IsPacked, found_from}
use Rattle.blob_directory.specs.Records.{found_in}
use Rattle.blob_memory.specs.Store.{directory, place}
use Rattle.blob_memory.specs.declared.storage.Storage as memory
use Rattle.blob_faulty.specs.Wrapper.{inner_of, inside}
use Rattle.blob_journal.specs.Currents.{IsFixed, Represents, pending_at}
use Rattle.blob_journal.specs.Limits.{AcceptsOpens}
use Rattle.blob_journal.proofs.Found.{fixed_kept}
use Rattle.blob_journal.proofs.Standing.{fixed_by}
use Rattle.blob_journal.proofs.journaled.Journaled.new.Goals as goal

pub invariant_of-result : goal.invariant_of-result
unfolding found_from
invariant_of-result g c =
    let store = c.new-store.result in
    let opened = c.open.new.store in
    let journal = c.in_ok-journal.journal in
    let bytes = c.in_ok-journal.field-0-1 in
    let o = c.in_ok-journal.ensures in
    let at : Place = place (inside journal.blob) in
    let empty : (directory (inner_of store)).file (codes "j") (to_be_bytes w64 0) ≡ None =
    ap (λ (s : memory.Storage). (directory s).file (codes "j") (to_be_bytes w64 0)) c.new-store.ensures.inner ∙ ap (λ (d : Directory). d.file (codes "j") (to_be_bytes w64 0)) c.new-memory.ensures.directory in
    let none : bytes.items ≡ [] = o.begun empty in
    let files : Represents opened = c.open.ensures.keeps.files (wrap _ _ 0 0, c.new-store.ensures.represents) in
    let pending : pending_at opened at ≡ [] = c.open.ensures.pending at ∙ ap (λ (f : Place → _). f at) c.new-store.ensures.pending in
    let packed : IsPacked 0 [] = record { records = []; is = refl; counted = refl; fit = tt } in
    let fixed : IsFixed opened at [] = fixed_by opened at [] (o.durable ∙ ap Some none) pending in
    record {
      partition = o.partition;
      name = o.name;
      current = o.current;
      given = omega arith;
      numbered = omega (arith, o.generation);
      accepted = c.open.ensures.keeps.accepted (subst (λ (d : Directory). AcceptsOpens d) (sym (ap directory c.new-store.ensures.inner ∙ c.new-memory.ensures.directory)) (λ p n. refl));
      kept = ∣ fixed_kept c.records.ensures.left opened journal _ [] 0 files o.current o.given fixed (o.bytes ∙ none) packed o.records o.end tt c.new-2.ensures ∣₁;
    }

pub returns-clause-told : goal.returns-clause-told
unfolding found_from
returns-clause-told g c =
    let store = c.new-store.result in
    let journal = c.in_ok-journal.journal in
    let bytes = c.in_ok-journal.field-0-1 in
    let o = c.in_ok-journal.ensures in
    let empty : (directory (inner_of store)).file (codes "j") (to_be_bytes w64 0) ≡ None =
    ap (λ (s : memory.Storage). (directory s).file (codes "j") (to_be_bytes w64 0)) c.new-store.ensures.inner ∙ ap (λ (d : Directory). d.file (codes "j") (to_be_bytes w64 0)) c.new-memory.ensures.directory in
    let none : bytes.items ≡ [] = o.begun empty in
    ap (λ (l : List ℕ). found_in l) (o.bytes ∙ none)
