-- Changes of a journal's bytes, one after another.
use Rattle.std.proofs.Common.{◌≡◌, ◌∷◌, ◌+◌, ◌<◌, ℕ, List, [], Option, Some, None, option_map, length, get_or, take, true, false, refl, sym, ap, ap₂, subst, ◌∙◌}
use Rattle.std.proofs.lemmas.Bool.{cond-false, cond-true}
use Rattle.std.proofs.lemmas.List.Sums.{fold_more}
use Rattle.blob_model.specs.Bytes.{overlay}
use Rattle.blob_model.specs.Directory.{Directory, is_current}
use Rattle.blob_model.specs.Log.{Choices, Entry, replay_log}
use Rattle.blob_model.specs.Pending.{Pending}
use Rattle.blob_model.specs.Places.{Place}
use Rattle.blob_model.specs.Stands.{replayed_at}
use Rattle.blob_memory.specs.Store.{directory, durable}
use Rattle.blob_draws.specs.Recorded.{kept_entries}
use Rattle.blob_faulty.specs.Keeps.{OverMemory}
use Rattle.blob_faulty.specs.Wrapper.{inner_of}
use Rattle.blob_directory.specs.declared.unsettled.Unsettled.{Unsettled}
use Rattle.blob_journal.specs.Currents.{KeepsFiles, left_at, pending_at}
use Rattle.blob_journal.specs.Settling.{Changes, all_settled, with_marked, with_settled}

mapped_same : (v : Option (List ℕ)) → option_map (λ x. x) v ≡ v
mapped_same None = refl
mapped_same (Some x) = refl

mapped_twice : (f h : List ℕ → List ℕ) (v : Option (List ℕ)) → option_map h (option_map f v) ≡ option_map (λ x. h (f x)) v
mapped_twice f h None = refl
mapped_twice f h (Some x) = refl

mapped_alike : (f h : List ℕ → List ℕ) (v : Option (List ℕ)) → ((x : List ℕ) → f x ≡ h x) → option_map f v ≡ option_map h v
mapped_alike f h None same = refl
mapped_alike f h (Some x) same = ap Some (same x)

-- nothing changes
pub changes_none : {R : Type 0} (store : OverMemory R) (o : Place) → Changes store store o (λ x. x)
changes_none store o = record {
  durable = sym (mapped_same (durable (inner_of store) o));
  files = λ r now. r;
  left = λ r now t. sym (mapped_same (left_at store t o));
}

-- one change and then another
pub changes_more : {R : Type 0} (a b c : OverMemory R) (o : Place) (f h : List ℕ → List ℕ) → directory (inner_of b) ≡ directory (inner_of a) → Changes a b o f → Changes b c o h → Changes a c o (λ x. h (f x))
changes_more a b c o f h same x y =
    let still : is_current (directory (inner_of a)) o ≡ true → is_current (directory (inner_of b)) o ≡ true = λ now. ap (λ (d : Directory). is_current d o) same ∙ now in
    record {
      durable = y.durable ∙ ap (option_map h) x.durable ∙ mapped_twice f h (durable (inner_of a) o);
      files = λ r now. y.files (x.files r now) (still now);
      left = λ r now t. y.left (x.files r now) (still now) t ∙ ap (option_map h) (x.left r now t) ∙ mapped_twice f h (left_at a t o);
    }

pub changes_alike : {R : Type 0} (a b : OverMemory R) (o : Place) (f h : List ℕ → List ℕ) → ((x : List ℕ) → f x ≡ h x) → Changes a b o f → Changes a b o h
changes_alike a b o f h same x = record {
  durable = x.durable ∙ mapped_alike f h (durable (inner_of a) o) same;
  files = x.files;
  left = λ r now t. x.left r now t ∙ mapped_alike f h (left_at a t o) same;
}

-- a SYNC write of some bytes
pub kept_over : (t : Choices) (offset : ℕ) (bytes x : List ℕ) → (bytes ≡ [] → ⊥) → replay_log x (kept_entries offset bytes) t ≡ overlay x offset bytes
kept_over t offset [] x some = absurd (some refl)
kept_over t offset (b ∷ bytes) x some = refl

pub settled_left : (t : Choices) (entries : List Entry) (offset at : ℕ) (bytes written : List ℕ) (mid before after : Option (List ℕ)) → entries ≡ kept_entries offset bytes → (written ≡ [] → ⊥)
    → offset ≡ at → bytes ≡ written → mid ≡ before → after ≡ option_map (λ x. replay_log x entries t) mid → after ≡ option_map (λ x. overlay x at written) before
settled_left t entries offset at bytes written mid before after kept some there same old is =
    is
    ∙ ap (λ (es : List Entry). option_map (λ x. replay_log x es t) mid) kept
    ∙ mapped_alike (λ x. replay_log x (kept_entries offset bytes) t) (λ x. overlay x offset bytes) mid (λ x. kept_over t offset bytes x (λ e. some (sym same ∙ e)))
    ∙ ap₂ (λ (n : ℕ) (b : List ℕ). option_map (λ x. overlay x n b) mid) there same
    ∙ ap (λ (v : Option (List ℕ)). option_map (λ x. overlay x at written) v) old

-- one more edit of a list
pub one_more : (edits : List Unsettled) (k : ℕ) (item : Unsettled) → k < length edits → item ≡ get_or edits k item → (x : List ℕ)
    → with_marked (all_settled (take k edits) x) item ≡ all_settled (take (k + 1) edits) x
one_more edits k item low is x = ap (with_marked (all_settled (take k edits) x)) is ∙ sym (fold_more with_marked x edits k item low)

module _ {R : Type 0} (edits : List Unsettled) (k : ℕ) (item : Unsettled) (low : k < length edits) (is : item ≡ get_or edits k item) where
  pub marked_more : (a b c : OverMemory R) (o at : Place) → at ≡ o → directory (inner_of b) ≡ directory (inner_of a) → item.is_wanted ≡ true
      → Changes a b o (all_settled (take k edits)) → Changes b c at (with_settled item) → Changes a c o (all_settled (take (k + 1) edits))
  marked_more a b c o at there same wanted x y =
      let f : List ℕ → List ℕ = all_settled (take k edits) in
      let h : List ℕ → List ℕ = with_settled item in
      changes_alike a c o (λ x. h (f x)) (all_settled (take (k + 1) edits)) (λ x. sym (cond-true item.is_wanted (h (f x)) (f x) wanted) ∙ one_more edits k item low is x)
      (changes_more a b c o f h same x (subst (λ (p : Place). Changes b c p h) there y))

  pub unmarked_more : (a b : OverMemory R) (o : Place) → item.is_wanted ≡ false → Changes a b o (all_settled (take k edits)) → Changes a b o (all_settled (take (k + 1) edits))
  unmarked_more a b o unwanted x =
      let f : List ℕ → List ℕ = all_settled (take k edits) in
      changes_alike a b o f (all_settled (take (k + 1) edits))
      (λ x. sym (cond-false item.is_wanted (with_settled item (f x)) (f x) unwanted) ∙ one_more edits k item low is x) x

-- calls that keep the journal, before a change and after it
pub changes_before : {R : Type 0} (a b c : OverMemory R) (o : Place) (f : List ℕ → List ℕ) → durable (inner_of b) o ≡ durable (inner_of a) o → pending_at b o ≡ pending_at a o → KeepsFiles a b
    → is_current (directory (inner_of b)) o ≡ true → Changes b c o f → Changes a c o f
changes_before a b c o f same pending keeps current x = record {
  durable = x.durable ∙ ap (option_map f) same;
  files = λ r now. x.files (keeps r) current;
  left = λ r now t. x.left (keeps r) current t ∙ ap (option_map f) (ap₂ (λ (q : List Pending) (v : Option (List ℕ)). replayed_at t q v) pending same);
}

pub changes_then : {R : Type 0} (a b c : OverMemory R) (o : Place) (f : List ℕ → List ℕ) → durable (inner_of c) o ≡ durable (inner_of b) o → pending_at c o ≡ pending_at b o → KeepsFiles b c
    → Changes a b o f → Changes a c o f
changes_then a b c o f same pending keeps x = record {
  durable = same ∙ x.durable;
  files = λ r now. keeps (x.files r now);
  left = λ r now t. ap₂ (λ (q : List Pending) (v : Option (List ℕ)). replayed_at t q v) pending same ∙ x.left r now t;
}
