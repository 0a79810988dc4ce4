-- Edits of which a sync settles none.
use Rattle.std.proofs.Common.{◌≡◌, ℕ, zero, suc, ◌<◌, Bool, true, false, not, ◌&&◌, ◌||◌, List, [], ◌∷◌, ◌++◌, length, map, refl, sym, ap, ap₂, ◌∙◌, arith, nat_eq}
use Rattle.std.specs.Prelude.{is_some, slice_index_or}
use Rattle.std.specs.List.{Contains, fold, list_all}
use Rattle.std.proofs.lemmas.Bool.{and_parts, cond-false}
use Rattle.blob_directory.specs.Indexes.{about_any, unwanted}
use Rattle.blob_directory.specs.Logs.{logged_after, with_logged}
use Rattle.blob_directory.specs.Names.{Names, edit_of, edited}
use Rattle.blob_directory.specs.Syncs.{is_in, is_number, is_of, moved_into, touches, unbound}
use Rattle.blob_directory.specs.declared.profile.Settles.{Settles}
use Rattle.blob_directory.specs.declared.profile.Settles.TheVariants as settles
use Rattle.blob_directory.specs.declared.unsettled.About.{About}
use Rattle.blob_directory.specs.declared.unsettled.Unsettled.{Unsettled}
use Rattle.blob_journal.specs.Settling.{all_settled, with_marked, with_settled}
use Rattle.blob_journal.specs.Told.{is_marked_in}

false_by_not : (b : Bool) → not b ≡ true → b ≡ false
false_by_not true h = sym h
false_by_not false h = refl

-- no record is settled
pub settled_same : (edits : List Unsettled) → list_all unwanted edits ≡ true → (bytes : List ℕ) → all_settled edits bytes ≡ bytes
settled_same [] none bytes = refl
settled_same (e ∷ edits) none bytes =
    let parts = and_parts (unwanted e) (list_all unwanted edits) none in
    ap (λ (b : List ℕ). fold with_marked b edits) (cond-false e.is_wanted (with_settled e bytes) bytes (false_by_not e.is_wanted parts.0))
    ∙ settled_same edits parts.1 bytes

pub marked_none : (edits : List Unsettled) → list_all unwanted edits ≡ true → (i : ℕ) → is_marked_in edits i ≡ false
marked_none [] none i = refl
marked_none (e ∷ edits) none i =
    let parts = and_parts (unwanted e) (list_all unwanted edits) none in
    ap₂ (λ (a b : Bool). (a && nat_eq e.record i) || b) (false_by_not e.is_wanted parts.0) (marked_none edits parts.1 i)

-- the log has no more names
logged_same : (edits : List Unsettled) → list_all unwanted edits ≡ true → (names : Names) → fold with_logged names edits ≡ names
logged_same [] none names = refl
logged_same (e ∷ edits) none names =
    let parts = and_parts (unwanted e) (list_all unwanted edits) none in
    ap (λ (n : Names). fold with_logged n edits) (cond-false e.is_wanted (edited names (edit_of e.edit)) names (false_by_not e.is_wanted parts.0))
    ∙ logged_same edits parts.1 names

pub logged_none : (rule : Settles) (edits : List Unsettled) (names : Names) → list_all unwanted edits ≡ true → (e : List ℕ) → logged_after rule [] names e ≡ logged_after rule edits names e
logged_none settles.Own edits names none e = refl
logged_none settles.Names edits names none e = ap (λ (n : Names). n e) (sym (logged_same edits none names))
logged_none settles.UpToLast edits names none e = refl
logged_none settles.UpToLastOrSize edits names none e = refl
logged_none settles.All edits names none e = refl

-- Edits of which none is about a directory.

or_none : (a b : Bool) → (a || b) ≡ false → (a ≡ false) × (b ≡ false)
or_none true b h = absurd (let e : true ≡ false = h in cc)
or_none false b h = (refl, h)

and_none : (a : Bool) → (a && true) ≡ false → a ≡ false
and_none true h = h
and_none false h = refl

not_moved_by : (m w : Bool) (rest : Bool) → w ≡ false → (m && w && rest) ≡ false
not_moved_by true true rest h = absurd (let e : true ≡ false = h in cc)
not_moved_by true false rest h = refl
not_moved_by false w rest h = refl

not_moved : (d : ℕ) (a : About) → touches false d a ≡ false → moved_into d a ≡ false
not_moved d a h =
    let parts = or_none (is_of d a) (is_in d a) (and_none (is_of d a || is_in d a) h) in
    not_moved_by a.moves_file (is_number a.other_directory d) (not (nat_eq a.directory d)) (or_none (nat_eq a.directory d) (is_number a.other_directory d) parts.1).1

pub unbound_none : (d : ℕ) (edits : List Unsettled) → about_any d edits ≡ false → map (unbound d) edits ≡ edits
unbound_none d [] h = refl
unbound_none d (e ∷ edits) h =
    let parts = or_none (touches false d e.about) (about_any d edits) h in
    ap₂ (λ (x : Unsettled) (l : List Unsettled). x ∷ l) (cond-false (moved_into d e.about) _ e (not_moved d e.about parts.0)) (unbound_none d edits parts.1)

none_at : (d : ℕ) (edits : List Unsettled) → about_any d edits ≡ false → (k : ℕ) (e : Unsettled) → k < length edits → moved_into d (slice_index_or edits k e).about ≡ false
none_at d [] h k e low = absurd (omega (arith, low))
none_at d (x ∷ edits) h zero e low = not_moved d x.about (or_none (touches false d x.about) (about_any d edits) h).0
none_at d (x ∷ edits) h (suc k) e low = none_at d edits (or_none (touches false d x.about) (about_any d edits) h).1 k e (omega (arith, low))

pub none_moved : (d : ℕ) (edits : List Unsettled) → about_any d edits ≡ false → (e : Unsettled) → Contains edits e → moved_into d e.about ≡ false
none_moved d edits h e there = ap (λ (u : Unsettled). moved_into d u.about) (sym there.2) ∙ none_at d edits h there.0 e there.1
