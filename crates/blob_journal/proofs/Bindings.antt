-- Which files a crash may find a name of, by the edits that were told.
use Rattle.std.proofs.Common.{◌≡◌, ◌⊎◌, inl, inr, ⊎_elim, ℕ, zero, suc, ◌+◌, ◌≤◌, Bool, true, false, not, ◌&&◌, ◌||◌, List, [], ◌∷◌, ◌++◌, Some, None, length, take, refl, sym, ◌∙◌, ap, ap₂, subst, arith, append-nil}
use Rattle.std.specs.Prelude.{if◌then◌else◌, Option}
use Rattle.std.specs.Str.{bytes_eq}
use Rattle.blob_directory.specs.declared.edit.Binding.{Binding}
use Rattle.blob_directory.specs.Names.{Edit, Names, all_edited, binds_any, changed, edited, file}
use Rattle.blob_directory.specs.Profiles.{Rule, kept_edits, with_seen}
use Rattle.blob_directory.specs.Records.{Found}
use Rattle.blob_directory.specs.Rules.{any}
use Rattle.blob_directory.specs.Settled.{AreSettled}
use Rattle.blob_directory.proofs.Rules.{seen_any}
use Rattle.blob_journal.specs.Bindings.{FreedIsNotNamed, FreedNow, FreedOneMore, FreedSettled, KeepsBelow, KeptMayName, MayNameOneMore, MayNameSettled, WithinGiven, WithinOneMore, WithinSettled, edits_in}
use Rattle.blob_journal.specs.Told.{Grows, Stays, after_loss, names_kept, settle_one, settled_in, was_settled}

-- the edits that a crash keeps by `any`
abbrev edits_left : (ℕ → Bool) → ℕ → List Found → List Edit
edits_left chosen n [] = []
edits_left chosen n (None ∷ told) = edits_left chosen (suc n) told
edits_left chosen n (Some (edit, settled) ∷ told) =
    if settled || chosen n then edit ∷ edits_left chosen (suc n) told else edits_left chosen (suc n) told

left_kept : (chosen : ℕ → Bool) (n : ℕ) (told : List Found)
    → kept_edits any false (after_loss chosen n told) ≡ edits_left chosen n told
left_kept chosen n [] = refl
left_kept chosen n (None ∷ told) = left_kept chosen (suc n) told
left_kept chosen n (Some (edit, true) ∷ told) = ap (λ (l : List Edit). edit ∷ l) (left_kept chosen (suc n) told)
left_kept chosen n (Some (edit, false) ∷ told) =
    one (chosen n) (after_loss chosen (suc n) told) (edits_left chosen (suc n) told) (left_kept chosen (suc n) told)
  where
    one : (b : Bool) (rest : List Found) (more : List Edit) → kept_edits any false rest ≡ more
        → kept_edits any false ((if b then Some (edit, false) else None) ∷ rest) ≡ (if b then edit ∷ more else more)
    one true rest more is = ap (λ (l : List Edit). edit ∷ l) is
    one false rest more is = is

-- the names that they give
abbrev names_of : List Edit → Names
names_of edits = all_edited (λ _. None) edits

left_names : (chosen : ℕ → Bool) (told : List Found) (e : List ℕ) → names_kept any chosen told e ≡ names_of (edits_left chosen 0 told) e
left_names chosen told e =
    ap (λ (l : List Found). names_of (kept_edits any false l) e) (seen_any false 0 (after_loss chosen 0 told))
    ∙ ap (λ (l : List Edit). names_of l e) (left_kept chosen 0 told)

-- Whatever a crash keeps by a rule, another crash keeps by `any`.

-- a choice for the first record, and for those behind it
abbrev first : Bool → (ℕ → Bool) → ℕ → Bool
first b chosen zero = b
first b chosen (suc i) = chosen i

left_behind : (chosen : ℕ → Bool) (n : ℕ) (told : List Found) → edits_left chosen (suc n) told ≡ edits_left (λ i. chosen (suc i)) n told
left_behind chosen n [] = refl
left_behind chosen n (None ∷ told) = left_behind chosen (suc n) told
left_behind chosen n (Some (edit, settled) ∷ told) =
    ap (λ (l : List Edit). if settled || chosen (suc n) then edit ∷ l else l) (left_behind chosen (suc n) told)

left_first : (b : Bool) (chosen : ℕ → Bool) (told : List Found) → edits_left (first b chosen) 1 told ≡ edits_left chosen 0 told
left_first b chosen told = left_behind (first b chosen) 0 told

any_left : (rule : Rule) (lost behind : Bool) (chosen : ℕ → Bool) (n : ℕ) (told : List Found)
    → (c : ℕ → Bool) × (kept_edits rule lost (with_seen rule behind n (after_loss chosen n told)) ≡ edits_left c 0 told)
any_left rule lost behind chosen n [] = (chosen, refl)
any_left rule lost behind chosen n (None ∷ told) =
    let h = any_left rule (lost || rule.is_prefix) (behind || rule.is_followed n) chosen (suc n) told in
    (first false h.0, h.1 ∙ sym (left_first false h.0 told))
any_left rule lost behind chosen n (Some (edit, true) ∷ told) =
    let h = any_left rule lost behind chosen (suc n) told in
    (first false h.0, ap (λ (l : List Edit). edit ∷ l) (h.1 ∙ sym (left_first false h.0 told)))
any_left rule lost behind chosen n (Some (edit, false) ∷ told) =
    one (chosen n) (any_left rule lost behind chosen (suc n) told)
    (any_left rule (lost || rule.is_prefix) (behind || rule.is_followed n) chosen (suc n) told)
  where
    later : List Found
    later = after_loss chosen (suc n) told

    one : (b : Bool) → (c : ℕ → Bool) × (kept_edits rule lost (with_seen rule behind (suc n) later) ≡ edits_left c 0 told)
        → (c : ℕ → Bool) × (kept_edits rule (lost || rule.is_prefix) (with_seen rule (behind || rule.is_followed n) (suc n) later) ≡ edits_left c 0 told)
        → (c : ℕ → Bool) × (kept_edits rule lost (with_seen rule behind n ((if b then Some (edit, false) else None) ∷ later)) ≡ edits_left c 0 (Some (edit, false) ∷ told))
    one true h gone =
        let counts : Bool = (rule.is_seen n && (binds_any edit || (rule.is_followed n && not behind))) || not lost in
        (first counts h.0, ap (λ (l : List Edit). if counts then edit ∷ l else l) (h.1 ∙ sym (left_first counts h.0 told)))
    one false h gone = (first false gone.0, gone.1 ∙ sym (left_first false gone.0 told))

pub kept_may_name : KeptMayName
kept_may_name rule chosen told e inode h =
    let k = any_left rule false false chosen 0 told in
    record { chosen = k.0; entry = e; is = left_names k.0 told e ∙ ap (λ (l : List Edit). names_of l e) (sym k.1) ∙ h }

-- One more edit.

-- an edit leaves the entry, or binds it alike whatever it was bound to
edit_alike : (a b : Names) (edit : Edit) (e : List ℕ)
    → ((edited a edit e ≡ a e) × (edited b edit e ≡ b e)) ⊎ (edited a edit e ≡ edited b edit e)
edit_alike a b [] e = inl (refl, refl)
edit_alike a b (c ∷ edit) e = one (bytes_eq c.0 e) (edit_alike (changed a c) (changed b c) edit e)
  where
    one : (now : Bool)
        → ((edited a (c ∷ edit) e ≡ (if now then c.1 else a e)) × (edited b (c ∷ edit) e ≡ (if now then c.1 else b e)))
        ⊎ (edited a (c ∷ edit) e ≡ edited b (c ∷ edit) e)
        → ((edited a (c ∷ edit) e ≡ a e) × (edited b (c ∷ edit) e ≡ b e)) ⊎ (edited a (c ∷ edit) e ≡ edited b (c ∷ edit) e)
    one now (inr h) = inr h
    one true (inl h) = inr (h.0 ∙ sym h.1)
    one false (inl h) = inl h

all_last : (names : Names) (edits : List Edit) (edit : Edit) (e : List ℕ)
    → all_edited names (edits ++ edit ∷ []) e ≡ edited (all_edited names edits) edit e
all_last names [] edit e = refl
all_last names (x ∷ edits) edit e = all_last (edited names x) edits edit e

left_last : (chosen : ℕ → Bool) (n : ℕ) (told : List Found) (edit : Edit)
    → (b : Bool) × (edits_left chosen n (told ++ Some (edit, false) ∷ []) ≡ edits_left chosen n told ++ (if b then edit ∷ [] else []))
left_last chosen n [] edit = (chosen n, refl)
left_last chosen n (None ∷ told) edit = left_last chosen (suc n) told edit
left_last chosen n (Some (x, settled) ∷ told) edit =
    let h = left_last chosen (suc n) told edit in
    let all : List Edit = edits_left chosen (suc n) (told ++ Some (edit, false) ∷ []) in
    (h.0, one (settled || chosen n) all (edits_left chosen (suc n) told) (if h.0 then edit ∷ [] else []) h.1)
  where
    one : (b : Bool) (all front back : List Edit) → all ≡ front ++ back
        → (if b then x ∷ all else all) ≡ (if b then x ∷ front else front) ++ back
    one true all front back is = ap (λ (l : List Edit). x ∷ l) is
    one false all front back is = is

-- what is found was found before, or the edit binds it
one_more : (chosen : ℕ → Bool) (told : List Found) (edit : Edit) (names : Names) (e : List ℕ) (to : Option Binding)
    → names_kept any chosen (told ++ Some (edit, false) ∷ []) e ≡ to
    → (names_kept any chosen told e ≡ to) ⊎ (edited names edit e ≡ to)
one_more chosen told edit names e to h =
    let last = left_last chosen 0 told edit in
    one last.0
    (ap (λ (l : List Edit). names_of l e) (sym last.1) ∙ sym (left_names chosen (told ++ Some (edit, false) ∷ []) e) ∙ h)
  where
    one : (b : Bool) → names_of (edits_left chosen 0 told ++ (if b then edit ∷ [] else [])) e ≡ to
        → (names_kept any chosen told e ≡ to) ⊎ (edited names edit e ≡ to)
    one true is =
        let before : Names = names_of (edits_left chosen 0 told) in
        let now : edited before edit e ≡ to = sym (all_last (λ _. None) (edits_left chosen 0 told) edit e) ∙ is in
        ⊎_elim
        (λ same. inl (left_names chosen told e ∙ sym same.0 ∙ now))
        (λ alike. inr (sym alike ∙ now))
        (edit_alike before names edit e)
    one false is =
        inl (left_names chosen told e ∙ ap (λ (l : List Edit). names_of l e) (sym (append-nil (edits_left chosen 0 told))) ∙ is)

pub may_name_one_more : MayNameOneMore
may_name_one_more told edit names inode m =
    ⊎_elim
    (λ before. inl (record { chosen = m.chosen; entry = m.entry; is = before }))
    (λ now. inr (m.entry, now))
    (one_more m.chosen told edit names m.entry (Some (file inode)) m.is)

keeps_front : (limit : ℕ) (chosen : ℕ → Bool) (n : ℕ) (told more : List Found) → KeepsBelow limit chosen n (told ++ more)
    → KeepsBelow limit chosen n told
keeps_front limit chosen n [] more h = tt
keeps_front limit chosen n (None ∷ told) more h = keeps_front limit chosen (suc n) told more h
keeps_front limit chosen n (Some (edit, settled) ∷ told) more h = (h.0, keeps_front limit chosen (suc n) told more h.1)

pub freed_one_more : FreedOneMore
freed_one_more limit told edit names inode other freed chosen e keeps h =
    ⊎_elim
    (λ before. freed chosen e (keeps_front limit chosen 0 told (Some (edit, false) ∷ []) keeps) before)
    (λ now. other e now)
    (one_more chosen told edit names e (Some (file inode)) h)

-- An edit before a sync, and after it.

-- the same of the records behind the first
settled_behind : (which : ℕ → Bool) (n : ℕ) (told : List Found) → settled_in which (suc n) told ≡ settled_in (λ i. which (suc i)) n told
settled_behind which n [] = refl
settled_behind which n (f ∷ told) = ap (λ (l : List Found). settle_one (which (suc n)) f ∷ l) (settled_behind which (suc n) told)

settles_one : (f f' : Found) → Stays f f' → f' ≡ settle_one (was_settled f') f
settles_one None None h = refl
settles_one None (Some (x, settled)) h = let no = h.0 in cc
settles_one (Some (y, was)) None h = let no = h.0 in cc
settles_one (Some (y, true)) (Some (x, settled)) h =
    let is = h.0 in
    let same : x ≡ y = cc in
    ap₂ (λ (z : Edit) (t : Bool). Some (z, t)) same (h.1 refl)
settles_one (Some (y, false)) (Some (x, settled)) h =
    let is = h.0 in
    let same : x ≡ y = cc in
    ap (λ (z : Edit). Some (z, settled)) same

-- which edits it settles
settled_by : (told told' : List Found) → Grows told told' → length told' ≡ length told
    → (which : ℕ → Bool) × (told' ≡ settled_in which 0 told)
settled_by [] [] g long = (λ _. false, refl)
settled_by [] (f' ∷ told') g long = absurd (omega (arith, long))
settled_by (f ∷ told) [] g long = absurd g
settled_by (f ∷ told) (f' ∷ told') g long =
    let h = settled_by told told' g.1 (omega (arith, long)) in
    let which : ℕ → Bool = first (was_settled f') h.0 in
    (which, ap₂ (λ (x : Found) (l : List Found). x ∷ l) (settles_one f f' g.0) (h.1 ∙ sym (settled_behind which 0 told)))

either_way : (a b c : Bool) → ((a || b) || c) ≡ (a || (b || c))
either_way true b c = refl
either_way false b c = refl

left_settled : (chosen which : ℕ → Bool) (n : ℕ) (told : List Found)
    → edits_left chosen n (settled_in which n told) ≡ edits_left (λ i. which i || chosen i) n told
left_settled chosen which n [] = refl
left_settled chosen which n (None ∷ told) = left_settled chosen which (suc n) told
left_settled chosen which n (Some (edit, settled) ∷ told) =
    ap₂ (λ (b : Bool) (l : List Edit). if b then edit ∷ l else l) (either_way settled (which n) (chosen n))
    (left_settled chosen which (suc n) told)

keeps_settled : (limit : ℕ) (chosen which : ℕ → Bool) (n : ℕ) (told : List Found)
    → KeepsBelow limit chosen n (settled_in which n told) → KeepsBelow limit (λ i. which i || chosen i) n told
keeps_settled limit chosen which n [] h = tt
keeps_settled limit chosen which n (None ∷ told) h = keeps_settled limit chosen which (suc n) told h
keeps_settled limit chosen which n (Some (edit, settled) ∷ told) h =
    (λ low. sym (either_way settled (which n) (chosen n)) ∙ h.0 low, keeps_settled limit chosen which (suc n) told h.1)

-- a crash before it may leave the names that one after it leaves
names_settled : (chosen which : ℕ → Bool) (told told' : List Found) (e : List ℕ) → told' ≡ settled_in which 0 told
    → names_kept any (λ i. which i || chosen i) told e ≡ names_kept any chosen told' e
names_settled chosen which told told' e is =
    left_names (λ i. which i || chosen i) told e
    ∙ ap (λ (l : List Edit). names_of l e) (sym (left_settled chosen which 0 told))
    ∙ sym (left_names chosen (settled_in which 0 told) e)
    ∙ ap (λ (l : List Found). names_kept any chosen l e) (sym is)

pub may_name_settled : MayNameSettled
may_name_settled told told' inode s m =
    let w = settled_by told told' s.grows s.length in
    record {
      chosen = λ i. w.0 i || m.chosen i;
      entry = m.entry;
      is = names_settled m.chosen w.0 told told' m.entry w.1 ∙ m.is;
    }

pub freed_settled : FreedSettled
freed_settled limit told told' inode s freed chosen e keeps h =
    let w = settled_by told told' s.grows s.length in
    freed (λ i. w.0 i || chosen i) e
    (keeps_settled limit chosen w.0 0 told (subst (λ (l : List Found). KeepsBelow limit chosen 0 l) w.1 keeps))
    (names_settled chosen w.0 told told' e w.1 ∙ h)

-- A crash that loses no edit.

edits_last : (told : List Found) (edit : Edit) → edits_in (told ++ Some (edit, false) ∷ []) ≡ edits_in told ++ edit ∷ []
edits_last [] edit = refl
edits_last (None ∷ told) edit = edits_last told edit
edits_last (Some (x, settled) ∷ told) edit = ap (λ (l : List Edit). x ∷ l) (edits_last told edit)

pub within_one_more : WithinOneMore
within_one_more told edit names names' more within e to h =
    let before : Names = names_of (edits_in told) in
    let all : names_of (edits_in told ++ edit ∷ []) e ≡ Some to = ap (λ (l : List Edit). names_of l e) (sym (edits_last told edit)) ∙ h in
    let now : edited before edit e ≡ Some to = sym (all_last (λ _. None) (edits_in told) edit e) ∙ all in
    ⊎_elim
    (λ same. more e to (same.1 ∙ within e to (sym same.0 ∙ now)))
    (λ alike. more e to (sym alike ∙ now))
    (edit_alike before names edit e)

edits_settled : (which : ℕ → Bool) (n : ℕ) (told : List Found) → edits_in (settled_in which n told) ≡ edits_in told
edits_settled which n [] = refl
edits_settled which n (None ∷ told) = edits_settled which (suc n) told
edits_settled which n (Some (edit, settled) ∷ told) = ap (λ (l : List Edit). edit ∷ l) (edits_settled which (suc n) told)

pub within_settled : WithinSettled
within_settled told told' names s within e to h =
    let w = settled_by told told' s.grows s.length in
    within e to (ap (λ (l : List Edit). names_of l e) (sym (ap edits_in w.1 ∙ edits_settled w.0 0 told)) ∙ h)

all_chosen : (n : ℕ) (told : List Found) → edits_left (λ _. true) n told ≡ edits_in told
all_chosen n [] = refl
all_chosen n (None ∷ told) = all_chosen (suc n) told
all_chosen n (Some (edit, true) ∷ told) = ap (λ (l : List Edit). edit ∷ l) (all_chosen (suc n) told)
all_chosen n (Some (edit, false) ∷ told) = ap (λ (l : List Edit). edit ∷ l) (all_chosen (suc n) told)

pub within_given : WithinGiven
within_given told names given e to h =
    sym (given any (λ _. true) e) ∙ left_names (λ _. true) told e
    ∙ ap (λ (l : List Edit). names_of l e) (all_chosen 0 told) ∙ h

all_left : (limit : ℕ) (chosen : ℕ → Bool) (n : ℕ) (told : List Found) → n + length told ≤ limit
    → KeepsBelow limit chosen n told → edits_left chosen n told ≡ edits_in told
all_left limit chosen n [] low h = refl
all_left limit chosen n (None ∷ told) low h = all_left limit chosen (suc n) told (omega (arith, low)) h
all_left limit chosen n (Some (edit, settled) ∷ told) low h =
    ap₂ (λ (b : Bool) (l : List Edit). if b then edit ∷ l else l) (h.0 (omega (arith, low)))
    (all_left limit chosen (suc n) told (omega (arith, low)) h.1)

pub freed_now : FreedNow
freed_now told names inode within none chosen e keeps h =
    let left : edits_left chosen 0 told ≡ edits_in told = all_left (length told) chosen 0 told (omega arith) keeps in
    none e (within e (file inode) (ap (λ (l : List Edit). names_of l e) (sym left) ∙ sym (left_names chosen told e) ∙ h))

-- A crash loses no settled edit.

keeps_past : (limit : ℕ) (chosen : ℕ → Bool) (k : ℕ) (told : List Found) → limit ≤ k → KeepsBelow limit chosen k told
keeps_past limit chosen k [] high = tt
keeps_past limit chosen k (None ∷ told) high = keeps_past limit chosen (suc k) told (omega (arith, high))
keeps_past limit chosen k (Some (edit, settled) ∷ told) high =
    (λ low. absurd (omega (arith, low, high)), keeps_past limit chosen (suc k) told (omega (arith, high)))

settled_below : (limit : ℕ) (chosen : ℕ → Bool) (k n : ℕ) (told : List Found) → limit ≤ k + n → AreSettled (take n told)
    → KeepsBelow limit chosen k told
settled_below limit chosen k zero told high h = keeps_past limit chosen k told (omega (arith, high))
settled_below limit chosen k (suc n) [] high h = tt
settled_below limit chosen k (suc n) (None ∷ told) high h = settled_below limit chosen (suc k) n told (omega (arith, high)) h
settled_below limit chosen k (suc n) (Some (edit, settled) ∷ told) high h =
    (λ _. ap (λ (b : Bool). b || chosen k) h.0, settled_below limit chosen (suc k) n told (omega (arith, high)) h.1)

pub freed_is_not_named : FreedIsNotNamed
freed_is_not_named limit n told inode low settled freed m =
    freed m.chosen m.entry (settled_below limit m.chosen 0 n told (omega (arith, low)) settled) m.is
