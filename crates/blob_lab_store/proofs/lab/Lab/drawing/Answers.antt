use Rattle.std.proofs.Common.{◌≡◌, ◌∷◌, ◌++◌, ◌∙◌, [], None, Some, Option, Bool, true, false, cond, ℕ, List, String, Vec, Global, ap, refl, rules, subst, sym, string_bytes}
use Rattle.std.proofs.lemmas.Iterator.Adapters.{YieldsList-from_vec}
use Rattle.std.proofs.lemmas.Iterator.Consumers.{YieldsList-end}
use Rattle.std.proofs.lemmas.List.{map-append, map-id}
use Rattle.blob_model.specs.Directory.{Directory}
use Rattle.blob_model.specs.Durable.{Durable}
use Rattle.blob_model.specs.Files.{wrap}
use Rattle.blob_model.specs.Places.{Place}
use Rattle.blob_faulty.specs.Wrapper.{Stands, inner_of as store_of}
use Rattle.blob_memory.specs.Contents.{directory_raw}
use Rattle.blob_memory.specs.Store.{directory, durable}
use Rattle.blob_memory.specs.declared.storage.Storage as memory
use Rattle.blob_lab_store.specs.LabStands.{Wrapper}
use Rattle.blob_faulty.specs.Keeps.{IsFor}
use Rattle.blob_lab_model.specs.Scripted.{scripted_stream}
use Rattle.blob_lab_model.specs.States.{Image, empty_directory, with_image}
use Rattle.blob_lab_model.specs.Steps.{with_images}
use Rattle.blob_lab_store.specs.Tables.{images_of}
use Rattle.blob_lab_store.proofs.lab.Lab.drawing.Goals as goal

-- the last image is set on what the earlier ones made
set_last : (d : Directory) (is : List Image) (i : Image) → with_images d (is ++ i ∷ []) ≡ with_image (with_images d is) i
set_last d [] i = refl
set_last d (j ∷ is) i = set_last (with_image d j) is i

still_none : {X : Type 0} (b : Bool) (x : Option X) → x ≡ None → cond b None x ≡ None
still_none true x e = refl
still_none false x e = e

nothing_durable : (f : Durable) → ((o : Place) → f o ≡ None) → (o : Place) (x : List ℕ) → f o ≡ Some x → [] ≡ x
nothing_durable f none o x e = let n = none o in absurd (cc)

-- a newly made wrapper represents the files of its store's directory
made_for : (w : Wrapper) (s : memory.Storage) (d : Directory) → store_of w ≡ s → directory s ≡ d → Stands (λ o. o) (directory s) (durable s) w (wrap (directory s) (λ o. []) 0 0) → IsFor w (wrap d (λ o. []) 0 0)
made_for w s d store names h = subst (λ (e : Directory). IsFor w (wrap e (λ o. []) 0 0)) names (subst (λ (q : memory.Storage). Stands (λ o. o) (directory q) (durable q) w (wrap (directory s) (λ o. []) 0 0)) (sym store) h)

pub loop-partition-preserved : goal.loop-partition-preserved
loop-partition-preserved c =
    let partition = c.in-Some.partition in
    let name = c.in-Some.name in
    let bytes = c.in-Some.bytes in
    let before = images_of c.loop-partition.yielded in
    let done = c.in_ok-set_raw_blob.ensures in
    record {
      directory =
          done.directory
          ∙ ap (λ (d : Directory). directory_raw d c.deref.result.now c.deref-in-loop-partition.result.now bytes.items) c.loop-partition.invariant.directory
          ∙ ap (λ (p : List ℕ). directory_raw (with_images empty_directory before) p c.deref-in-loop-partition.result.now bytes.items) c.deref.ensures
          ∙ ap (λ (n : List ℕ). directory_raw (with_images empty_directory before) (string_bytes partition) n bytes.items) c.deref-in-loop-partition.ensures.value
          ∙ sym (set_last empty_directory before (string_bytes partition, name.items, bytes.items))
          ∙ ap (with_images empty_directory) (sym (map-append (λ (i : String Global × Vec ℕ Global × Vec ℕ Global). (string_bytes i.0, i.1.items, i.2.items)) c.loop-partition.yielded ((partition, name, bytes) ∷ [])));
      durable = λ o. ap (λ (f : Durable). f o) done.durable ∙ still_none _ _ (c.loop-partition.invariant.durable o);
    }

pub returns-clause-stands : goal.returns-clause-stands
returns-clause-stands c =
    let inv = c.loop-partition.invariant in
    let end = YieldsList-end (YieldsList-from_vec {s = c.into_iter-partition-iterator.result} c.args.images.items (search rules) (search rules)) c.loop-partition.yielded c.loop-partition.partition-iterator c.loop-partition.yielded_by c.next.result c.next.new.self c.in-None.is c.next.ensures.steps in
    let all : c.loop-partition.yielded ≡ c.args.images.items = sym (map-id c.loop-partition.yielded) ∙ end.0 in
    record {
      wrapper = record {
        files = made_for c.new.result c.loop-partition.store _ c.new.ensures.inner (inv.directory ∙ ap (λ (is : List (String Global × Vec ℕ Global × Vec ℕ Global)). with_images empty_directory (images_of is)) all) (c.new.ensures.files (λ o. []) (nothing_durable (durable c.loop-partition.store) inv.durable));
        config = c.new.ensures.config;
        stream = ap scripted_stream c.new.ensures.rng;
      };
      names = c.new-2.ensures;
      handles = c.new-3.ensures;
      syncs = c.new-4.ensures;
      given = search rules;
    }

pub loop-partition-init : goal.loop-partition-init
loop-partition-init c = record { directory = c.new-store.ensures.directory; durable = λ o. ap (λ (f : Durable). f o) c.new-store.ensures.durable }
