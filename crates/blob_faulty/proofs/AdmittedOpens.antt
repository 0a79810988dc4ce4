-- An open of a wrapper over the memory store, followed by an admission of the name.
use Rattle.std.proofs.Common.{◌≡◌, ℕ, ◌<◌, List, [], length, Option, Some, None, sym, ◌∙◌, ap, subst, cond}
use Rattle.std.proofs.lemmas.Bool.{false≢true}
use Rattle.std.proofs.lemmas.Option.{none-some}
use Rattle.std.specs.Prelude.{MatchBool}
use Rattle.rand_core.specs.Stream.{Stream}
use Rattle.blob_header.specs.Fronts.{BeginsWith}
use Rattle.blob_header.specs.Refusals.{Refusal}
use Rattle.blob_model.specs.Directory.{current}
use Rattle.blob_model.specs.Files.{Files, after_open, admit}
use Rattle.blob_model.specs.Opened.{IsNamed}
use Rattle.blob_model.specs.Opening.{IsOpened}
use Rattle.blob_model.specs.Pending.{Pending}
use Rattle.blob_model.specs.Places.{Place, same_place}
use Rattle.blob_model.specs.Stands.{retire}
use Rattle.blob_model.proofs.NameSteps.{read_by_open}
use Rattle.blob_model.proofs.Opened.{current_opened, named_opened, goes_on}
use Rattle.blob_draws.specs.Faults.{draw}
use Rattle.blob_faulty.specs.Admitted.{Admits, AdmittedOpenLeaves, FindsKept, OpensAdmitted, OpensAlone}
use Rattle.blob_faulty.specs.declared.blob.Blob.{Blob}
use Rattle.blob_faulty.specs.Keeps.{OverMemory, IsFor, Keeps}
use Rattle.blob_faulty.specs.Names.{OpenLeaves}
use Rattle.blob_faulty.specs.Wrapper.{inner_of, rng_of, config_of, pending_of, inside, size_of}
use Rattle.blob_memory.specs.Store.{directory, durable, place, live}
use Rattle.blob_memory.specs.declared.blob.Blob as memory_blob
use Rattle.blob_memory.specs.declared.storage.Storage as memory
use Rattle.blob_faulty.proofs.Keeping.{keeps_found, kept_front, current_named}

-- the same lists, retired
retired_same : (f g : Place → List Pending) (c : Option Place) (a : Place) → ((o : Place) → f o ≡ g o) → retire f c a ≡ retire g c a
retired_same f g None a same = same a
retired_same f g (Some o) a same = ap (λ (x : List Pending). cond (same_place o a) [] x) (same a)

-- what it leaves of draws, pending lists and numbers
pub leaves_admitted : {R : Type 0} (stream : R → Stream) (p n : List ℕ) (before mid after : OverMemory R) → OpenLeaves (λ o. o) stream (λ _. Unit {0}) before mid → Admits mid after p n → AdmittedOpenLeaves (λ o. o) directory stream (λ _. Unit {0}) p n None before after
leaves_admitted stream p n before mid after w now = record {
  drawn = ap stream now.rng ∙ w.drawn;
  inner = subst (λ (s : memory.Storage). MatchBool (draw (config_of before).open_rate (stream (rng_of before))).0 (s ≡ inner_of before) (Unit {0})) (sym now.inner) w.inner;
  retired = λ e o.
      now.pending o
      ∙ retired_same (pending_of (λ a. a) mid) (pending_of (λ a. a) before) (current (directory (inner_of mid)) p n) o w.records.pending
      ∙ ap (λ (s : memory.Storage). retire (pending_of (λ a. a) before) (current (directory s) p n) o) (sym now.inner);
  kept = λ some. absurd (false≢true some);
  numbers = record {
    next_write = now.numbers.next_write ∙ w.records.numbers.next_write;
    next_marker = now.numbers.next_marker ∙ w.records.numbers.next_marker;
    config = now.numbers.config ∙ w.records.numbers.config;
  };
}

-- an open that no admission follows
pub leaves_alone : {R : Type 0} (stream : R → Stream) (p n : List ℕ) (before after : OverMemory R) (r : Refusal) → OpenLeaves (λ o. o) stream (λ _. Unit {0}) before after →
    AdmittedOpenLeaves (λ o. o) directory stream (λ _. Unit {0}) p n (Some r) before after
leaves_alone stream p n before after r w = record {
  drawn = w.drawn;
  inner = w.inner;
  retired = λ none. absurd (none-some r (sym none));
  kept = λ some. w.records.pending;
  numbers = w.records.numbers;
}

-- what is kept: `mid` is the wrapper between the two
module _ {R : Type 0} (p n : List ℕ) (first last : ℕ) (before mid after : OverMemory R) (o : Place) (live : List ℕ) (version : ℕ)
    (opens : IsOpened (directory (inner_of before)) (durable (inner_of before)) (directory (inner_of mid)) (durable (inner_of mid)) p n first last o live version)
    (steps : OpensAlone before mid p n first last) (inside : inner_of after ≡ inner_of mid) (stands : (f : Files) → IsFor mid f → IsFor after (admit f p n)) where
  pub opened_admitted : IsOpened (directory (inner_of before)) (durable (inner_of before)) (directory (inner_of after)) (durable (inner_of after)) p n first last o live version
  opened_admitted =
      subst (λ (s : memory.Storage). IsOpened (directory (inner_of before)) (durable (inner_of before)) (directory s) (durable s) p n first last o live version) (sym inside) opens

  pub files_admitted : OpensAdmitted before after p n first last
  files_admitted f s = stands _ (steps f s)

  holds : durable (inner_of mid) o ≡ Some live
  holds = read_by_open _ _ _ _ _ _ _ _ _ _ _ opens

  -- all that it found
  pub keeps_all_found : ((s : memory.Storage) (a : Place) (bytes : List ℕ) → durable s a ≡ Some bytes → a.number < (directory s).next) → (f : Files) → IsFor before f → Keeps after o live
  keeps_all_found given f s =
      keeps_found (λ o. o) directory durable mid after o live p n (after_open f p n first last) (steps f s) inside (stands _ (steps f s)) (named_opened _ _ _ _ _ _ _ _ _ _ _ opens) (current_opened _ _ _ _ _ _ _ _ _ _ _ opens) holds
      (given (inner_of mid) o live holds)

  -- it found all that was kept
  pub found_kept : (a : Place) (bytes : List ℕ) → IsNamed a p n → Keeps before a bytes → (o ≡ a) × BeginsWith bytes live
  found_kept a bytes named k =
      let on = goes_on _ _ _ _ _ _ _ _ _ _ _ a opens (current_named (directory (inner_of before)) a p n named k.here) in
      (on.same, kept_front (λ o. o) directory durable before a bytes live k on.found)

-- the whole of it
pub finds_kept : {R : Type 0} (p n : List ℕ) (first last : ℕ) (before mid after : OverMemory R) (b : Blob memory_blob.Blob) (len version : ℕ) →
    IsOpened (directory (inner_of before)) (durable (inner_of before)) (directory (inner_of mid)) (durable (inner_of mid)) p n first last (place (inside b)) (live (inside b)) version →
    OpensAlone before mid p n first last → Admits mid after p n → ((s : memory.Storage) (a : Place) (bytes : List ℕ) → durable s a ≡ Some bytes → a.number < (directory s).next) →
    len ≡ length (live (inside b)) → size_of b ≡ len → FindsKept before after p n first last b len version
finds_kept p n first last before mid after b len version opens steps admits given size tracked = record {
  opened = opened_admitted p n first last before mid after _ _ _ opens steps admits.inner admits.stands;
  size = size;
  tracked = tracked;
  files = files_admitted p n first last before mid after _ _ _ opens steps admits.inner admits.stands;
  fixed = keeps_all_found p n first last before mid after _ _ _ opens steps admits.inner admits.stands given;
  found = found_kept p n first last before mid after _ _ _ opens steps admits.inner admits.stands;
}

-- for the versions that two numbers are
pub at_versions : (X : ℕ → ℕ → Type 0) (first last a b : ℕ) → first ≡ a → last ≡ b → X first last → X a b
at_versions X first last a b start end x = subst (λ (k : ℕ). X a k) end (subst (λ (k : ℕ). X k last) start x)
