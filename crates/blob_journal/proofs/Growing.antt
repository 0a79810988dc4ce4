-- What calls make of the edits that a journal was told.
use Rattle.std.proofs.Common.{◌≡◌, ℕ, suc, ◌+◌, ◌<◌, Bool, true, false, ◌&&◌, ◌||◌, List, [], ◌∷◌, ◌++◌, Some, None, length, get_or, take, refl, sym, ◌∙◌, ap, ap₂}
use Rattle.std.specs.Prelude.{nat_eq}
use Rattle.std.specs.List.{list_any}
use Rattle.std.specs.Coded.{Coded, Coded-set, Unit-prop, ×_prop, →_prop, coded×, coded_bool, coded_list, coded_option, coded_ℕ}
use Rattle.std.proofs.lemmas.Bool.{false≢true}
use Rattle.std.proofs.lemmas.List.{take_more}
use Rattle.blob_directory.specs.declared.unsettled.Unsettled.{Unsettled}
use Rattle.blob_directory.specs.contracts.edit.Binding as binding
use Rattle.blob_directory.specs.Names.{Edit}
use Rattle.blob_directory.specs.Records.{Found}
use Rattle.blob_journal.specs.Told.{Grows, edit_in, is_marked_in, settle_one, settled_in, was_settled}

-- settling twice, and nothing

settle_twice : (a b : Bool) (f : Found) → settle_one b (settle_one a f) ≡ settle_one (a || b) f
settle_twice a b None = refl
settle_twice true b (Some (edit, true)) = refl
settle_twice true b (Some (edit, false)) = refl
settle_twice false b (Some (edit, true)) = refl
settle_twice false b (Some (edit, false)) = refl

pub settled_twice : (a b c : ℕ → Bool) (n : ℕ) (told : List Found) → ((i : ℕ) → (a i || b i) ≡ c i) → settled_in b n (settled_in a n told) ≡ settled_in c n told
settled_twice a b c n [] both = refl
settled_twice a b c n (f ∷ told) both =
    ap₂ (λ (x : Found) (l : List Found). x ∷ l) (settle_twice (a n) (b n) f ∙ ap (λ (t : Bool). settle_one t f) (both n)) (settled_twice a b c (suc n) told both)

pub settled_none : (a : ℕ → Bool) (n : ℕ) (told : List Found) → ((i : ℕ) → a i ≡ false) → settled_in a n told ≡ told
settled_none a n [] none = refl
settled_none a n (f ∷ told) none = ap₂ (λ (x : Found) (l : List Found). x ∷ l) (ap (λ (t : Bool). settle_one t f) (none n) ∙ unsettled f) (settled_none a (suc n) told none)
  where
    unsettled : (f : Found) → settle_one false f ≡ f
    unsettled None = refl
    unsettled (Some (edit, true)) = refl
    unsettled (Some (edit, false)) = refl

-- one more edit of a list that is marked or not

pub any_append : (test : Unsettled → Bool) (xs ys : List Unsettled) → list_any test (xs ++ ys) ≡ (list_any test xs || list_any test ys)
any_append test [] ys = refl
any_append test (x ∷ xs) ys = ap (λ (b : Bool). test x || b) (any_append test xs ys) ∙ grouped (test x) (list_any test xs) (list_any test ys)
  where
    grouped : (a b c : Bool) → (a || (b || c)) ≡ ((a || b) || c)
    grouped true b c = refl
    grouped false b c = refl

pub marked_more : (edits : List Unsettled) (k : ℕ) (item : Unsettled) (i : ℕ) → k < length edits → item ≡ get_or edits k item
    → is_marked_in (take (k + 1) edits) i ≡ (is_marked_in (take k edits) i || (item.is_wanted && nat_eq item.record i))
marked_more edits k item i low is =
    ap (λ (l : List Unsettled). is_marked_in l i) (take_more edits k item low ∙ ap (λ (x : Unsettled). take k edits ++ x ∷ []) (sym is))
    ∙ any_append (λ e. e.is_wanted && nat_eq e.record i) (take k edits) (item ∷ [])
    ∙ ap (λ (b : Bool). is_marked_in (take k edits) i || b) (or_false (item.is_wanted && nat_eq item.record i))
  where
    or_false : (b : Bool) → (b || false) ≡ b
    or_false true = refl
    or_false false = refl

-- A list grows.

still_settled : (now : Bool) (f : Found) → was_settled f ≡ true → was_settled (settle_one now f) ≡ true
still_settled now None h = h
still_settled now (Some (edit, true)) h = refl
still_settled now (Some (edit, false)) h = absurd (false≢true h)

same_edit : (now : Bool) (f : Found) → edit_in (settle_one now f) ≡ edit_in f
same_edit now None = refl
same_edit now (Some (edit, settled)) = refl

pub grows_same : (told : List Found) → Grows told told
grows_same [] = tt
grows_same (f ∷ told) = ((refl, λ h. h), grows_same told)

pub grows_twice : (a b c : List Found) → Grows a b → Grows b c → Grows a c
grows_twice [] b c g h = tt
grows_twice (f ∷ a) [] c g h = absurd g
grows_twice (f ∷ a) (f' ∷ b) [] g h = absurd h
grows_twice (f ∷ a) (f' ∷ b) (f'' ∷ c) g h = ((h.0.0 ∙ g.0.0, λ s. h.0.1 (g.0.1 s)), grows_twice a b c g.1 h.1)

pub grows_settled : (which : ℕ → Bool) (n : ℕ) (told : List Found) → Grows told (settled_in which n told)
grows_settled which n [] = tt
grows_settled which n (f ∷ told) = ((same_edit (which n) f, still_settled (which n) f), grows_settled which (suc n) told)

pub grows_added : (told more : List Found) → Grows told (told ++ more)
grows_added [] more = tt
grows_added (f ∷ told) more = ((refl, λ h. h), grows_added told more)

-- equal edits, and lists that grow, have one proof

abbrev pub edit_code : Coded Edit
edit_code = coded_list (coded× (coded_list coded_ℕ) (coded_option (binding.the_row).coded))

abbrev pub found_code : Coded Found
found_code = coded_option (coded× edit_code coded_bool)

pub told_prop : (a b : List Found) → IsProp (a ≡ b)
told_prop a b = Coded-set (coded_list found_code) a b

pub grows_prop : (a b : List Found) → IsProp (Grows a b)
grows_prop [] b = Unit-prop
grows_prop (f ∷ a) [] = λ x y. absurd x
grows_prop (f ∷ a) (f' ∷ b) =
    let edit : IsProp (edit_in f' ≡ edit_in f) = Coded-set (coded_option edit_code) (edit_in f') (edit_in f) in
    let flag : IsProp (was_settled f ≡ true → was_settled f' ≡ true) = →_prop (Coded-set coded_bool (was_settled f') true) in
    let rest : IsProp (Grows a b) = grows_prop a b in
    ×_prop (×_prop edit flag) rest
