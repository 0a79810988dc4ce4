-- The names that a journal of settled records gives.
use Rattle.std.proofs.Common.{◌≡◌, ℕ, suc, ◌+◌, ◌<◌, ◌^◌, List, [], ◌∷◌, ◌++◌, Bool, true, false, Option, None, Some, Vec, Global, length, take, map, get_or, is_some, append-nil, refl, sym, ap, ap₂, subst, ◌∙◌, ◌⊎◌, inl, inr, ⊎_elim, arith, append_assoc, length-append, if◌then◌else◌}
use Rattle.std.specs.List.{All, Contains}
use Rattle.std.specs.Cmp.Lexicographic.{bytes_decides}
use Rattle.std.specs.Str.{bytes_eq}
use Rattle.std.specs.BTreeMap.{is_at}
use Rattle.std.specs.Cmp.{Equal-is}
use Rattle.std.specs.Map.{lookup}
use Rattle.std.specs.Ordering.{is_eq, nat_cmp}
use Rattle.std.proofs.lemmas.Map.Lookups.{exact_unsigned}
use Rattle.std.proofs.lemmas.Bool.{cases_Bool, cond-true, cond-false, false≢true}
use Rattle.std.proofs.lemmas.List.{take_more}
use Rattle.std.proofs.lemmas.List.Elements.{All-append, All-cons, All-contains, All-head, All-nil, All-tail, Contains-append_cases, Contains-append_left, Contains-append_right, Contains-push}
use Rattle.blob_packed.specs.Records.{FitFrom, IsPacked, Record, packed, packed_from, record_bytes}
use Rattle.blob_packed.proofs.Fits.{fit_append}
use Rattle.blob_packed.proofs.Losses.{packed_append}
use Rattle.blob_packed.proofs.Scans.{packed_are_found}
use Rattle.blob_directory.specs.declared.edit.Binding.{Binding}
use Rattle.blob_directory.specs.Checkpoints.{Bindings, FitRecords, bindings_in, settled_records}
use Rattle.blob_directory.specs.Names.{Edit, Names, Same, all_edited, changed, entry}
use Rattle.blob_directory.specs.Settled.{AreSettled}
use Rattle.blob_directory.specs.Tables.{HasName}
use Rattle.blob_directory.specs.Profiles.{Rule, edits_of, kept_edits, names_told, with_seen}
use Rattle.blob_directory.specs.Records.{FitsRecord, Found, edit_bytes, edit_found, edit_told, found_in, has_edit, record_of}
use Rattle.blob_directory.proofs.Rules.{seen_settled}
use Rattle.blob_directory.proofs.Records.{round_trip}

abbrev pub edit_for : List ℕ × Binding → Edit
edit_for b = (b.0, Some b.1) ∷ []

abbrev pub edits_for : Bindings → List Edit
edits_for [] = []
edits_for (b ∷ bs) = edit_for b ∷ edits_for bs

abbrev pub founds_for : Bindings → List Found
founds_for [] = []
founds_for (b ∷ bs) = Some (edit_for b, true) ∷ founds_for bs

pub records_append : (xs ys : Bindings) → settled_records (xs ++ ys) ≡ settled_records xs ++ settled_records ys
records_append [] ys = refl
records_append (x ∷ xs) ys = ap (λ l. record_of (edit_for x) true ∷ l) (records_append xs ys)

-- one more record
pub packed_more : (n m : ℕ) (before bytes bytes' : List ℕ) (xs : List Record) (r : Record) → m ≡ n + length xs → bytes ≡ before ++ packed_from n xs → bytes' ≡ bytes ++ record_bytes m r
    → bytes' ≡ before ++ packed_from n (xs ++ r ∷ [])
packed_more n m before bytes bytes' xs r e is more =
    more ∙ ap (λ l. l ++ record_bytes m r) is ∙ append_assoc before (packed_from n xs) (record_bytes m r)
    ∙ ap (λ l. before ++ (packed_from n xs ++ l)) (sym (append-nil (record_bytes m r)))
    ∙ ap (λ l. before ++ l) (sym (packed_append m n xs (r ∷ []) e))

pub fit_more : (n m : ℕ) (xs : List Record) (r : Record) → m ≡ n + length xs → FitFrom n xs → m < 2 ^ 64 → length r.0 < 2 ^ 64 → FitFrom n (xs ++ r ∷ [])
fit_more n m xs r e fit low short = fit_append m n xs (r ∷ []) e fit (low, short, tt)

-- the records have these edits, settled
all_records : (bs : Bindings) → All (λ b. FitsRecord (edit_for b)) bs → map edit_found (map (λ r. Some r) (settled_records bs)) ≡ founds_for bs
all_records [] fit = refl
all_records (b ∷ bs) fit =
    ap₂ (λ x y. x ∷ y) (round_trip (edit_for b) true (All-head (λ b. FitsRecord (edit_for b)) b bs fit))
    (all_records bs (All-tail (λ b. FitsRecord (edit_for b)) b bs fit))

all_kept : (rule : Rule) (bs : Bindings) → kept_edits rule false (founds_for bs) ≡ edits_for bs
all_kept rule [] = refl
all_kept rule (b ∷ bs) = ap (λ l. edit_for b ∷ l) (all_kept rule bs)

all_settled : (bs : Bindings) → AreSettled (founds_for bs)
all_settled [] = tt
all_settled (b ∷ bs) = (refl, all_settled bs)

-- the names of settled records
pub records_told : (rule : Rule) (bs : Bindings) → FitFrom 0 (settled_records bs) → All (λ b. FitsRecord (edit_for b)) bs → edits_of rule (packed (settled_records bs)) ≡ edits_for bs
records_told rule bs room fit =
    ap (λ l. kept_edits rule false (with_seen rule false 0 (map edit_found l))) (packed_are_found (settled_records bs) room)
    ∙ ap (λ l. kept_edits rule false (with_seen rule false 0 l)) (all_records bs fit)
    ∙ ap (kept_edits rule false) (seen_settled rule false 0 (founds_for bs) (all_settled bs))
    ∙ all_kept rule bs

-- what edits that bind as some names do leave
module _ (names : Names) where
  bound_after : (a : Names) (b : List ℕ × Binding) (e : List ℕ) (to : Binding) → changed a (b.0, Some b.1) e ≡ Some to → ((b.0 ≡ e) × (b.1 ≡ to)) ⊎ (a e ≡ Some to)
  bound_after a b e to h = ⊎_elim
      (λ y.
      let both : Some b.1 ≡ Some to = sym (cond-true (bytes_eq b.0 e) (Some b.1) (a e) y) ∙ h in
      let one : b.1 ≡ to = cc in
      inl ((bytes_decides b.0 e).0 y, one))
      (λ n. inr (sym (cond-false (bytes_eq b.0 e) (Some b.1) (a e) n) ∙ h))
      (cases_Bool (bytes_eq b.0 e))

  pub sound_after : (bs : Bindings) (a : Names) → All (λ b. names b.0 ≡ Some b.1) bs → ((e : List ℕ) (to : Binding) → a e ≡ Some to → names e ≡ Some to)
      → (e : List ℕ) (to : Binding) → all_edited a (edits_for bs) e ≡ Some to → names e ≡ Some to
  sound_after [] a all before e to h = before e to h
  sound_after (b ∷ bs) a all before e to h =
      let P = λ (b : List ℕ × Binding). names b.0 ≡ Some b.1 in
      let here : names b.0 ≡ Some b.1 = All-head P b bs all in
      sound_after bs (changed a (b.0, Some b.1)) (All-tail P b bs all)
      (λ x t g. ⊎_elim (λ y. ap names (sym y.0) ∙ here ∙ ap Some y.1) (λ y. before x t y) (bound_after a b x t g))
      e to h

  stays : (bs : Bindings) (a : Names) → All (λ b. names b.0 ≡ Some b.1) bs → (e : List ℕ) (to : Binding) → names e ≡ Some to → a e ≡ Some to → all_edited a (edits_for bs) e ≡ Some to
  stays [] a all e to has h = h
  stays (b ∷ bs) a all e to has h =
      let P = λ (b : List ℕ × Binding). names b.0 ≡ Some b.1 in
      let here : names b.0 ≡ Some b.1 = All-head P b bs all in
      stays bs (changed a (b.0, Some b.1)) (All-tail P b bs all) e to has
      (⊎_elim
      (λ y. cond-true (bytes_eq b.0 e) (Some b.1) (a e) y ∙ sym here ∙ ap names ((bytes_decides b.0 e).0 y) ∙ has)
      (λ n. cond-false (bytes_eq b.0 e) (Some b.1) (a e) n ∙ h)
      (cases_Bool (bytes_eq b.0 e)))

  only : (b x : List ℕ × Binding) → Contains (b ∷ []) x → x ≡ b
  only b x h = All-contains (λ y. y ≡ b) (b ∷ []) x (All-cons (λ y. y ≡ b) b [] refl (All-nil (λ y. y ≡ b))) h

  pub all_after : (bs : Bindings) (a : Names) → All (λ b. names b.0 ≡ Some b.1) bs → (e : List ℕ) (to : Binding) → names e ≡ Some to → Contains bs (e, to) → all_edited a (edits_for bs) e ≡ Some to
  all_after [] a all e to has h = absurd (All-contains (λ y. ⊥) [] (e, to) (All-nil (λ y. ⊥)) h)
  all_after (b ∷ bs) a all e to has h =
      let P = λ (b : List ℕ × Binding). names b.0 ≡ Some b.1 in
      let rest : All P bs = All-tail P b bs all in
      ⊎_elim
      (λ y.
      let is : (e, to) ≡ b = only b (e, to) y in
      let key : b.0 ≡ e = sym (ap (λ (x : List ℕ × Binding). x.0) is) in
      let value : b.1 ≡ to = sym (ap (λ (x : List ℕ × Binding). x.1) is) in
      stays bs (changed a (b.0, Some b.1)) rest e to has (cond-true (bytes_eq b.0 e) (Some b.1) (a e) ((bytes_decides b.0 e).1 key) ∙ ap Some value))
      (λ more. all_after bs (changed a (b.0, Some b.1)) rest e to has more)
      (Contains-append_cases (b ∷ []) bs (e, to) h)

  -- a journal of settled records for each of the names gives the names
  by_cases : (told : Names) → ((e : List ℕ) (to : Binding) → told e ≡ Some to → names e ≡ Some to) → ((e : List ℕ) (to : Binding) → names e ≡ Some to → told e ≡ Some to)
      → (e : List ℕ) (x y : Option Binding) → told e ≡ x → names e ≡ y → told e ≡ names e
  by_cases told sound all e x (Some to) t n = all e to n ∙ sym n
  by_cases told sound all e None None t n = t ∙ sym n
  by_cases told sound all e (Some to) None t n = let both : None ≡ Some to = sym n ∙ sound e to t in absurd (cc)

  pub checkpoint_gives : (bs : Bindings) → FitFrom 0 (settled_records bs) → FitRecords names → All (λ b. names b.0 ≡ Some b.1) bs
      → ((e : List ℕ) (to : Binding) → names e ≡ Some to → Contains bs (e, to)) → (rule : Rule) → Same (names_told rule (packed (settled_records bs))) names
  checkpoint_gives bs room fit sound all rule =
      let journal : List ℕ = packed (settled_records bs) in
      let fits : All (λ b. FitsRecord (edit_for b)) bs = λ k d h. fit _ _ (sound k d h) in
      let told : names_told rule journal ≡ all_edited (λ _. None) (edits_for bs) = ap (all_edited (λ _. None)) (records_told rule bs room fits) in
      let none : (e : List ℕ) (to : Binding) → None ≡ Some to → names e ≡ Some to = λ e to h. absurd (cc) in
      λ e. by_cases (names_told rule journal)
      (λ x to h. sound_after bs (λ _. None) sound none x to (sym (ap (λ (t : Names). t x) told) ∙ h))
      (λ x to h. ap (λ (t : Names). t x) told ∙ all_after bs (λ _. None) sound x to h (all x to h))
      e (names_told rule journal e) (names e) refl refl

abbrev pub Listed : Type 0
Listed = List (Vec ℕ Global × Binding)

bindings_append : (d : ℕ) (xs ys : Listed) → bindings_in d (xs ++ ys) ≡ bindings_in d xs ++ bindings_in d ys
bindings_append d [] ys = refl
bindings_append d (x ∷ xs) ys = ap (λ l. (entry d x.0.items, x.1) ∷ l) (bindings_append d xs ys)

pub records_long : (d : ℕ) (names : Listed) → length (settled_records (bindings_in d names)) ≡ length names
records_long d [] = refl
records_long d (n ∷ names) = ap suc (records_long d names)

-- one more name's record
pub next_name : (d : ℕ) (names : Listed) (i : ℕ) (n : Vec ℕ Global × Binding) → i < length names → n ≡ get_or names i n
    → settled_records (bindings_in d (take (i + 1) names)) ≡ settled_records (bindings_in d (take i names)) ++ record_of ((entry d n.0.items, Some n.1) ∷ []) true ∷ []
next_name d names i n h is =
    let more : take (i + 1) names ≡ take i names ++ n ∷ [] = take_more names i n h ∙ ap (λ x. take i names ++ x ∷ []) (sym is) in
    ap (λ l. settled_records (bindings_in d l)) more
    ∙ ap settled_records (bindings_append d (take i names) (n ∷ []))
    ∙ records_append (bindings_in d (take i names)) ((entry d n.0.items, n.1) ∷ [])

bindings_sound : (names : Names) (d : ℕ) (ns : Listed) → All (λ n. names (entry d n.0.items) ≡ Some n.1) ns → All (λ b. names b.0 ≡ Some b.1) (bindings_in d ns)
bindings_sound names d [] all = All-nil (λ b. names b.0 ≡ Some b.1)
bindings_sound names d (n ∷ ns) all =
    let P = λ (n : Vec ℕ Global × Binding). names (entry d n.0.items) ≡ Some n.1 in
    All-cons (λ b. names b.0 ≡ Some b.1) (entry d n.0.items, n.1) (bindings_in d ns) (All-head P n ns all) (bindings_sound names d ns (All-tail P n ns all))

only_name : (n x : Vec ℕ Global × Binding) → Contains (n ∷ []) x → x ≡ n
only_name n x h = All-contains (λ y. y ≡ n) (n ∷ []) x (All-cons (λ y. y ≡ n) n [] refl (All-nil (λ y. y ≡ n))) h

has_binding : (d : ℕ) (ns : Listed) (n : Vec ℕ Global × Binding) → Contains ns n → Contains (bindings_in d ns) (entry d n.0.items, n.1)
has_binding d [] n h = absurd (All-contains (λ y. ⊥) [] n (All-nil (λ y. ⊥)) h)
has_binding d (m ∷ ns) n h =
    let first : List (List ℕ × Binding) = (entry d m.0.items, m.1) ∷ [] in
    ⊎_elim
    (λ y. subst (λ (x : Vec ℕ Global × Binding). Contains (first ++ bindings_in d ns) (entry d x.0.items, x.1)) (sym (only_name m n y))
    (Contains-append_left first (bindings_in d ns) (entry d m.0.items, m.1) (Contains-push [] (entry d m.0.items, m.1))))
    (λ more. Contains-append_right first (bindings_in d ns) (entry d n.0.items, n.1) (has_binding d ns n more))
    (Contains-append_cases (m ∷ []) ns n h)

-- the keys have this one
abbrev pub AmongKeys : List (ℕ × ℕ) → ℕ → Type 0
AmongKeys [] d = ⊥
AmongKeys (e ∷ es) d = (e.0 ≡ d) ⊎ AmongKeys es d

pub among_keys : (es : List (ℕ × ℕ)) (d : ℕ) → is_some (lookup (is_at (nat_cmp d)) es) ≡ true → AmongKeys es d
among_keys [] d h = absurd (false≢true h)
among_keys (e ∷ es) d h = ⊎_elim
    (λ y. inl (sym (exact_unsigned d e.0 ((Equal-is (nat_cmp d e.0)).0 y))))
    (λ n. inr (among_keys es d (ap is_some (sym (cond-false (is_eq (nat_cmp d e.0)) (Some e.1) (lookup (is_at (nat_cmp d)) es) n)) ∙ h)))
    (cases_Bool (is_eq (nat_cmp d e.0)))

-- the bytes are so many records of the names, except those in directories that are left
pub record Written (names : Names) (has : ℕ → Bool) (left : List (ℕ × ℕ)) (bytes : List ℕ) (number : ℕ) : Type 0 where
  pub list : Bindings
  pub is : bytes ≡ packed (settled_records list)
  pub counted : length (settled_records list) ≡ number
  pub room : FitFrom 0 (settled_records list)
  pub sound : All (λ b. names b.0 ≡ Some b.1) list
  pub all : (d : ℕ) (name : List ℕ) (to : Binding) → has d ≡ true → names (entry d name) ≡ Some to → Contains list (entry d name, to) ⊎ AmongKeys left d

pub written_none : (names : Names) (has : ℕ → Bool) (left : List (ℕ × ℕ)) (bytes : List ℕ) → bytes ≡ [] → ((d : ℕ) → has d ≡ true → AmongKeys left d) → Written names has left bytes 0
written_none names has left bytes none all = record {
  list = [];
  is = none;
  counted = refl;
  room = tt;
  sound = All-nil (λ b. names b.0 ≡ Some b.1);
  all = λ d name to h _. inr (all d h);
}

pub written_more : (names : Names) (has : ℕ → Bool) (t u : List (ℕ × ℕ)) (e : ℕ × ℕ) (bytes bytes' : List ℕ) (number number' : ℕ) (ns : Listed)
    → t ≡ e ∷ u → bytes' ≡ bytes ++ packed_from number (settled_records (bindings_in e.0 ns)) → number' ≡ number + length ns → FitFrom number (settled_records (bindings_in e.0 ns))
    → All (λ n. names (entry e.0 n.0.items) ≡ Some n.1) ns
    → ((name : List ℕ) (to : Binding) → names (entry e.0 name) ≡ Some to → HasName ns name to) → Written names has t bytes number → Written names has u bytes' number'
written_more names has t u e bytes bytes' number number' ns more made count room told all w =
    let new : Bindings = bindings_in e.0 ns in
    let first : List Record = settled_records w.list in
    let second : List Record = settled_records new in
    let both : settled_records (w.list ++ new) ≡ first ++ second = records_append w.list new in
    let next : number ≡ 0 + length first = omega (arith, w.counted) in
    let long : length second ≡ length ns = records_long e.0 ns in
    let added : length (first ++ second) ≡ length first + length second = length-append first second in
    record {
      list = w.list ++ new;
      is = made ∙ ap (λ l. l ++ packed_from number second) w.is ∙ sym (packed_append number 0 first second next) ∙ ap (λ (l : List Record). packed l) (sym both);
      counted = ap (λ (l : List Record). length l) both ∙ (let all_of : length (first ++ second) ≡ number' = omega (arith, count, w.counted, long, added) in all_of);
      room = subst (λ (l : List Record). FitFrom 0 l) (sym both) (fit_append number 0 first second next w.room room);
      sound = All-append (λ b. names b.0 ≡ Some b.1) w.list new w.sound (bindings_sound names e.0 ns told);
      all = λ d name to h bound. ⊎_elim
          (λ x. inl (Contains-append_left w.list new (entry d name, to) x))
          (λ x. ⊎_elim
          (λ here.
          let n = all name to (ap (λ k. names (entry k name)) here ∙ bound) in
          let found : Contains new (entry e.0 n.0.0.items, n.0.1) = has_binding e.0 ns n.0 n.1 in
          let same : Contains new (entry d name, to) = subst (λ k. Contains new (entry k name, to)) here (subst (λ b. Contains new (entry e.0 name, b)) n.3 (subst (λ l. Contains new (entry e.0 l, n.0.1)) n.2 found)) in
          inl (Contains-append_right w.list new (entry d name, to) same))
          (λ behind. inr behind)
          (subst (λ l. AmongKeys l d) more x))
          (w.all d name to h bound);
    }

pub written_all : (names : Names) (has : ℕ → Bool) (left : List (ℕ × ℕ)) (bytes : List ℕ) (number : ℕ) → left ≡ [] → Written names has left bytes number → FitRecords names
    → ((e : List ℕ) (to : Binding) → names e ≡ Some to → (d : ℕ) × (name : List ℕ) × (e ≡ entry d name) × (has d ≡ true))
    → (rule : Rule) → Same (names_told rule bytes) names
written_all names has left bytes number none w fit places rule =
    subst (λ l. Same (names_told rule l) names) (sym w.is)
    (checkpoint_gives names w.list w.room fit w.sound
    (λ e to h.
    let at = places e to h in
    subst (λ k. Contains w.list (k, to)) (sym at.2)
    (⊎_elim (λ x. x) (λ x. absurd (subst (λ l. AmongKeys l at.0) none x)) (w.all at.0 at.1 to at.3 (ap names (sym at.2) ∙ h))))
    rule)

pub written_packed : (names : Names) (has : ℕ → Bool) (left : List (ℕ × ℕ)) (bytes : List ℕ) (number : ℕ) → Written names has left bytes number → IsPacked number bytes
written_packed names has left bytes number w = record { records = settled_records w.list; is = w.is; counted = w.counted; fit = w.room }

-- a settled record has no edit that isn't settled
flagged : (b : Bool) (edit : Edit) (found : List Found) → AreSettled found → AreSettled ((if b then Some (edit, true) else None) ∷ found)
flagged true edit found h = (refl, h)
flagged false edit found h = h

records_settled : (bs : Bindings) → AreSettled (map edit_found (map (λ r. Some r) (settled_records bs)))
records_settled [] = tt
records_settled (b ∷ bs) =
    let bytes : List ℕ = edit_bytes (edit_for b) in
    flagged (has_edit bytes) (edit_told bytes) (map edit_found (map (λ r. Some r) (settled_records bs))) (records_settled bs)

pub written_settled : (names : Names) (has : ℕ → Bool) (left : List (ℕ × ℕ)) (bytes : List ℕ) (number : ℕ) → Written names has left bytes number → AreSettled (found_in bytes)
written_settled names has left bytes number w =
    subst AreSettled (sym (ap found_in w.is ∙ ap (map edit_found) (packed_are_found (settled_records w.list) w.room))) (records_settled w.list)
