-- A settled edit that no later one touches, through calls and crashes.
use Rattle.std.proofs.Common.{◌≡◌, ℕ, suc, Bool, true, false, ◌||◌, List, [], ◌∷◌, ◌++◌, Some, None, length, drop, refl, ap, subst, ◌∙◌}
use Rattle.std.specs.Prelude.{if◌then◌else◌}
use Rattle.blob_directory.specs.Names.{Edit}
use Rattle.blob_directory.specs.Records.{Found}
use Rattle.blob_directory.specs.Settled.{AreSettled, IsBeside, changes_entry}
use Rattle.blob_directory.proofs.Settled.{settled_by}
use Rattle.blob_journal.specs.Told.{Grows, SettledIsKept, SettledStays, Stays, after_loss, edit_in, was_settled}

-- what is lost, in two parts
loss_parts : (chosen : ℕ → Bool) (n : ℕ) (before rest : List Found) → (m : ℕ) × (after_loss chosen n (before ++ rest) ≡ after_loss chosen n before ++ after_loss chosen m rest)
loss_parts chosen n [] rest = (n, refl)
loss_parts chosen n (None ∷ before) rest = let h = loss_parts chosen (suc n) before rest in (h.0, ap (λ (l : List Found). None ∷ l) h.1)
loss_parts chosen n (Some (edit, settled) ∷ before) rest =
    let h = loss_parts chosen (suc n) before rest in (h.0, ap (λ (l : List Found). (if settled || chosen n then Some (edit, settled) else None) ∷ l) h.1)

lost_beside : (chosen : ℕ → Bool) (n : ℕ) (e : List ℕ) (found : List Found) → IsBeside e found → IsBeside e (after_loss chosen n found)
lost_beside chosen n e [] h = tt
lost_beside chosen n e (None ∷ found) h = lost_beside chosen (suc n) e found h
lost_beside chosen n e (Some (edit, settled) ∷ found) h = one (settled || chosen n) edit settled (after_loss chosen (suc n) found) h.0 (lost_beside chosen (suc n) e found h.1)
  where
    one : (b : Bool) (edit : Edit) (settled : Bool) (rest : List Found) → changes_entry e edit ≡ false → IsBeside e rest → IsBeside e ((if b then Some (edit, settled) else None) ∷ rest)
    one true edit settled rest other beside = (other, beside)
    one false edit settled rest other beside = beside

pub settled_is_kept : SettledIsKept
settled_is_kept rule chosen told edit e last =
    let parts = loss_parts chosen 0 last.before (Some (edit, true) ∷ last.after) in
    settled_by rule (after_loss chosen 0 told) (after_loss chosen 0 last.before) (after_loss chosen (suc parts.0) last.after) edit e
    (ap (after_loss chosen 0) last.is ∙ parts.1) last.changes (lost_beside chosen (suc parts.0) e last.after last.beside)

-- the same edit, still settled
the_same : (edit : Edit) (f : Found) → edit_in f ≡ Some edit → was_settled f ≡ true → f ≡ Some (edit, true)
the_same edit None is settled = cc
the_same edit (Some (x, true)) is settled = let same : x ≡ edit = cc in ap (λ (y : Edit). Some (y, true)) same
the_same edit (Some (x, false)) is settled = cc

stays_beside : (e : List ℕ) (f f' : Found) (rest rest' : List Found) → Stays f f' → IsBeside e (f ∷ rest) → (IsBeside e rest → IsBeside e rest') → IsBeside e (f' ∷ rest')
stays_beside e None None rest rest' s h more = more h
stays_beside e None (Some (x, settled)) rest rest' s h more = let no = s.0 in cc
stays_beside e (Some (y, was)) None rest rest' s h more = let no = s.0 in cc
stays_beside e (Some (y, was)) (Some (x, settled)) rest rest' s h more =
    let is = s.0 in
    let same : x ≡ y = cc in
    (ap (changes_entry e) same ∙ h.0, more h.1)

grown_beside : (e : List ℕ) (a b : List Found) → Grows a b → IsBeside e a → IsBeside e (drop (length a) b) → IsBeside e b
grown_beside e [] b g h more = more
grown_beside e (f ∷ a) [] g h more = absurd g
grown_beside e (f ∷ a) (f' ∷ b) g h more = stays_beside e f f' a b g.0 h (λ rest. grown_beside e a b g.1 rest more)

record Parts (told : List Found) (edit : Edit) (e : List ℕ) : Type 0 where
  before : List Found
  after : List Found
  is : told ≡ before ++ Some (edit, true) ∷ after
  beside : IsBeside e after

grown_parts : (before after told' : List Found) (edit : Edit) (e : List ℕ) → IsBeside e after → Grows (before ++ Some (edit, true) ∷ after) told' → IsBeside e (drop (length (before ++ Some (edit, true) ∷ after)) told') → Parts told' edit e
grown_parts [] after [] edit e beside g more = absurd g
grown_parts [] after (f' ∷ told') edit e beside g more = record {
  before = [];
  after = told';
  is = ap (λ (f : Found). f ∷ told') (the_same edit f' g.0.0 (g.0.1 refl));
  beside = grown_beside e after told' g.1 beside more;
}
grown_parts (f ∷ before) after [] edit e beside g more = absurd g
grown_parts (f ∷ before) after (f' ∷ told') edit e beside g more =
    let p = grown_parts before after told' edit e beside g.1 more in
    record { before = f' ∷ p.before; after = p.after; is = ap (λ (l : List Found). f' ∷ l) p.is; beside = p.beside }

pub settled_stays : SettledStays
settled_stays told told' edit e last g more =
    let p = grown_parts last.before last.after told' edit e last.beside (subst (λ (l : List Found). Grows l told') last.is g) (subst (λ (l : List Found). IsBeside e (drop (length l) told')) last.is more) in
    record { before = p.before; after = p.after; is = p.is; changes = last.changes; beside = p.beside }

-- nothing is lost of edits that are all settled
pub none_lost : (chosen : ℕ → Bool) (n : ℕ) (told : List Found) → AreSettled told → after_loss chosen n told ≡ told
none_lost chosen n [] h = refl
none_lost chosen n (None ∷ told) h = ap (λ (l : List Found). None ∷ l) (none_lost chosen (suc n) told h)
none_lost chosen n (Some (edit, true) ∷ told) h = ap (λ (l : List Found). Some (edit, true) ∷ l) (none_lost chosen (suc n) told h.1)
none_lost chosen n (Some (edit, false) ∷ told) h = let no = h.0 in absurd (cc)
