-- Sessions of a log, one more at a time.
use Rattle.std.proofs.Common.{◌≡◌, ℕ, ◌<◌, List, [], ◌∷◌, ◌++◌, Bool, true, false, refl, sym, ap, ◌∙◌, subst, length, get_or, append-nil, append_assoc, arith, if◌then◌else◌}
use Rattle.std.specs.Global.{Global}
use Rattle.std.specs.Prelude.{All, Vec, Result, Ok, Err, OnOk, OnErr, is_ok, zip}
use Rattle.std.proofs.lemmas.List.{get_or-map, length-map}
use Rattle.std.proofs.lemmas.List.Elements.{All-push, All-weaker}
use Rattle.blob_header.specs.Fronts.{BeginsWith}
use Rattle.blob_log.specs.declared.sessions.Session.{Session}
use Rattle.blob_log.specs.Held.{Survive, record_bytes, acknowledged_records, trusted_records}

-- what an append leaves, by whether it returned Ok
pub answered : {T E : Type 0} (r : Result T E) (Before After : List (List ℕ) → Type 0) (entry : List ℕ) → OnOk r ((rs : List (List ℕ)) → Before rs → After (rs ++ entry ∷ [])) → OnErr r ((rs : List (List ℕ)) → Before rs → After rs)
    → (rs : List (List ℕ)) → Before rs → After (rs ++ (if is_ok r then entry ∷ [] else []))
answered (Ok x) Before After entry ok err rs b = ok rs b
answered (Err e) Before After entry ok err rs b = subst After (sym (append-nil rs)) (err rs b)

-- one more answer
acknowledged_more : (answers : List Bool) (entries : List (List ℕ)) (b : Bool) → length answers < length entries
    → acknowledged_records (answers ++ b ∷ []) entries ≡ acknowledged_records answers entries ++ (if b then get_or entries (length answers) [] ∷ [] else [])
acknowledged_more [] [] b lt = absurd (omega arith)
acknowledged_more [] (e ∷ es) true lt = refl
acknowledged_more [] (e ∷ es) false lt = refl
acknowledged_more (a ∷ answers) [] b lt = absurd (omega arith)
acknowledged_more (true ∷ answers) (e ∷ es) b lt = ap (λ (l : List (List ℕ)). e ∷ l) (acknowledged_more answers es b (omega arith))
acknowledged_more (false ∷ answers) (e ∷ es) b lt = acknowledged_more answers es b (omega arith)

pub acknowledged_next : (front : List (List ℕ)) (answers answers' : List Bool) (entries : List (Vec ℕ Global)) (k : ℕ) (e : Vec ℕ Global) (b : Bool) → length answers ≡ k → k < length entries → e ≡ get_or entries k e → answers' ≡ answers ++ b ∷ []
    → (front ++ acknowledged_records answers (record_bytes entries)) ++ (if b then e.items ∷ [] else []) ≡ front ++ acknowledged_records answers' (record_bytes entries)
acknowledged_next front answers answers' entries k e b count lt is now =
    let f : Vec ℕ Global → List ℕ = λ v. v.items in
    let at : get_or (record_bytes entries) (length answers) [] ≡ e.items = ap (λ (i : ℕ). get_or (record_bytes entries) i []) count ∙ get_or-map f entries k e [] lt ∙ ap f (sym is) in
    append_assoc front (acknowledged_records answers (record_bytes entries)) (if b then e.items ∷ [] else [])
    ∙ ap (λ (x : List ℕ). front ++ (acknowledged_records answers (record_bytes entries) ++ (if b then x ∷ [] else []))) (sym at)
    ∙ ap (λ (l : List (List ℕ)). front ++ l) (sym (acknowledged_more answers (record_bytes entries) b (omega (arith, length-map entries f))))
    ∙ ap (λ (l : List Bool). front ++ acknowledged_records l (record_bytes entries)) (sym now)

-- one more session

zip_more : {X Y : Type 0} (xs : List X) (x : X) (ys : List Y) (y : Y) → length xs < length ys → y ≡ get_or ys (length xs) y → zip (xs ++ x ∷ []) ys ≡ zip xs ys ++ (x, y) ∷ []
zip_more [] x [] y lt is = absurd (omega arith)
zip_more {X} {Y} [] x (z ∷ ys) y lt is = ap (λ (w : Y). (x, w) ∷ []) (sym is)
zip_more (w ∷ xs) x [] y lt is = absurd (omega arith)
zip_more {X} {Y} (w ∷ xs) x (z ∷ ys) y lt is = ap (λ (l : List (X × Y)). (w, z) ∷ l) (zip_more xs x ys y (omega arith) is)

further : (front middle all : List (List ℕ)) → BeginsWith front middle → BeginsWith middle all → BeginsWith front all
further front middle all (rest, is) (more, be) = (rest ++ more, sym (append_assoc front rest more) ∙ ap (λ (l : List (List ℕ)). l ++ more) is ∙ be)

pub survive_more : (done done' : List Session) (s : Session) (asked : List (Vec (Vec ℕ Global) Global)) (k : ℕ) (entries : Vec (Vec ℕ Global) Global) (after : List (List ℕ))
    → Survive done asked (record_bytes s.before.items) → length done ≡ k → k < length asked → entries ≡ get_or asked k entries → done' ≡ done ++ s ∷ []
    → BeginsWith (trusted_records (s, entries)) after → Survive done' asked after
survive_more done done' s asked k entries after before count lt is now found =
    let all = All-push (λ t. BeginsWith (trusted_records t) after) (zip done asked) (s, entries)
    (All-weaker (λ t. BeginsWith (trusted_records t) (record_bytes s.before.items)) (λ t. BeginsWith (trusted_records t) after)
    (λ t h. further (trusted_records t) (record_bytes s.before.items) after h (further (record_bytes s.before.items) (trusted_records (s, entries)) after (acknowledged_records s.answers.items (record_bytes entries.items), refl) found))
    (zip done asked) before) found in
    subst (λ (l : List Session). Survive l asked after) (sym now)
    (subst (λ (l : List (Session × Vec (Vec ℕ Global) Global)). All (λ t. BeginsWith (trusted_records t) after) l)
    (sym (zip_more done s asked entries (omega arith) (is ∙ ap (λ (i : ℕ). get_or asked i entries) (sym count)))) all)

-- and each with an answer for each record
abbrev pub Answered : List Session → List (Vec (Vec ℕ Global) Global) → Type 0
Answered done asked = All (λ t. length t.0.answers.items ≡ length t.1.items) (zip done asked)

pub answered_more : (done done' : List Session) (s : Session) (asked : List (Vec (Vec ℕ Global) Global)) (k : ℕ) (entries : Vec (Vec ℕ Global) Global) → Answered done asked → length done ≡ k → k < length asked
    → entries ≡ get_or asked k entries → done' ≡ done ++ s ∷ [] → length s.answers.items ≡ length entries.items → Answered done' asked
answered_more done done' s asked k entries before count lt is now new =
    subst (λ (l : List Session). Answered l asked) (sym now)
    (subst (λ (l : List (Session × Vec (Vec ℕ Global) Global)). All (λ t. length t.0.answers.items ≡ length t.1.items) l)
    (sym (zip_more done s asked entries (omega arith) (is ∙ ap (λ (i : ℕ). get_or asked i entries) (sym count))))
    (All-push (λ t. length t.0.answers.items ≡ length t.1.items) (zip done asked) (s, entries) before new))
