-- The names of some images and calls, after one more.
use Rattle.std.proofs.Common.{◌≡◌, ◌<◌, ℕ, zero, suc, List, [], ◌∷◌, ◌++◌, ◌+◌, map, length, get_or, take, Option, Some, None, refl, sym, ap, ◌∙◌, subst, arith}
use Rattle.std.specs.Prelude.{String, Vec, string_bytes}
use Rattle.std.specs.Global.{Global}
use Rattle.std.specs.List.{AllByRecursion, Contains}
use Rattle.std.proofs.lemmas.List.{map-append, take_more}
use Rattle.std.proofs.lemmas.List.Elements.{Contains-append_left, Contains-push}
use Rattle.blob_script.specs.declared.call.Call.{Call}
use Rattle.blob_script.specs.Acts.{Act, act_of}
use Rattle.blob_script.specs.Preambles.{Image, images_of}
use Rattle.blob_lab_model.specs.Accepted.{opened_name}
use Rattle.blob_choices.specs.Outcomes.{acts_of}
use Rattle.blob_distinct.specs.Images.{image_of}
use Rattle.blob_states.specs.Recorded.{HasImage, HasOpened, HaveNames, KeepsNames, Name, first_images, name_of, names_of}
use Rattle.blob_states.specs.declared.recorded.Recorded.{Recorded}

pub acts_more : (calls : List Call) (call : Call) → acts_of (calls ++ call ∷ []) ≡ acts_of calls ++ act_of call ∷ []
acts_more [] call = refl
acts_more (x ∷ calls) call = ap (λ (acts : List Act). act_of x ∷ acts) (acts_more calls call)

pub all_more : {X : Type 0} (P : X → Type 0) (xs : List X) (x : X) → AllByRecursion P xs → P x → AllByRecursion P (xs ++ x ∷ [])
all_more P [] x all one = (one, tt)
all_more P (y ∷ xs) x all one = (all.0, all_more P xs x all.1 one)

pub images_kept : (old new : List Name) → KeepsNames old new → (images : List Image) → AllByRecursion (HasImage old) images → AllByRecursion (HasImage new) images
images_kept old new kept [] all = tt
images_kept old new kept (image ∷ images) all = (kept (image.0, image.1) all.0, images_kept old new kept images all.1)

opened_kept : (old new : List Name) → KeepsNames old new → (name : Option Name) → HasOpened old name → HasOpened new name
opened_kept old new kept None has = tt
opened_kept old new kept (Some name) has = kept name has

pub acts_kept : (old new : List Name) → KeepsNames old new → (acts : List Act) → AllByRecursion (λ act. HasOpened old (opened_name act)) acts
    → AllByRecursion (λ act. HasOpened new (opened_name act)) acts
acts_kept old new kept [] all = tt
acts_kept old new kept (act ∷ acts) all = (opened_kept old new kept (opened_name act) all.0, acts_kept old new kept acts all.1)

at_map : {X Y : Type 0} (f : X → Y) (x : X) (xs : List X) → Contains xs x → Contains (map f xs) (f x)
at_map f x [] (i, lt, same) = absurd (omega arith)
at_map f x (y ∷ ys) (zero, lt, same) = (zero, omega arith, ap f same)
at_map f x (y ∷ ys) (suc i, lt, same) = let (j, below, e) = at_map f x ys (i, omega arith, same) in (suc j, omega (arith, below), e)

-- a name that was found
pub known : (names : List (String Global × Vec ℕ Global)) (i : ℕ) (x : String Global × Vec ℕ Global) (p n : List ℕ) → i < length names → x ≡ get_or names i x → string_bytes x.0 ≡ p → x.1.items ≡ n
    → Contains (names_of names) (p, n)
known names i x p n lt is first second = subst (Contains (names_of names)) (λ j. (first j, second j)) (at_map name_of x names (i, lt, sym is))

-- a name that was added at the end
pub pushed : (old new : List (String Global × Vec ℕ Global)) (x : String Global × Vec ℕ Global) (p n : List ℕ) → new ≡ old ++ x ∷ [] → string_bytes x.0 ≡ p → x.1.items ≡ n → Contains (names_of new) (p, n)
pushed old new x p n is first second =
    subst (Contains (names_of new)) (λ j. (first j, second j))
    (subst (λ (xs : List (String Global × Vec ℕ Global)). Contains (names_of xs) (name_of x)) (sym is) (at_map name_of x (old ++ x ∷ []) (Contains-push old x)))

pub still : (old new : List (String Global × Vec ℕ Global)) (x : String Global × Vec ℕ Global) → new ≡ old ++ x ∷ [] → KeepsNames (names_of old) (names_of new)
still old new x is name here =
    subst (λ (ns : List Name). Contains ns name) (sym (ap names_of is ∙ map-append name_of old (x ∷ []))) (Contains-append_left (names_of old) (name_of x ∷ []) name here)

-- one more image, and one more call
pub images_more : (old new : List Name) (all items : List (String Global × Vec ℕ Global × Vec ℕ Global)) (i : ℕ) (x : String Global × Vec ℕ Global × Vec ℕ Global) (p n : List ℕ)
    → KeepsNames old new → items ≡ all → i < length items → x ≡ get_or items i x → p ≡ string_bytes x.0 → n ≡ x.1.items → Contains new (p, n)
    → AllByRecursion (HasImage old) (images_of (take i all)) → AllByRecursion (HasImage new) (images_of (take (i + 1) all))
images_more old new all items i x p n kept same lt is first second here before =
    let more : take (i + 1) items ≡ take i items ++ x ∷ [] = take_more items i x lt ∙ ap (λ y. take i items ++ y ∷ []) (sym is) in
    let shown : images_of (take (i + 1) all) ≡ images_of (take i all) ++ image_of x ∷ [] =
    ap (λ (xs : List (String Global × Vec ℕ Global × Vec ℕ Global)). images_of (take (i + 1) xs)) (sym same) ∙ ap images_of more ∙ map-append image_of (take i items) (x ∷ [])
    ∙ ap (λ (xs : List (String Global × Vec ℕ Global × Vec ℕ Global)). images_of (take i xs) ++ image_of x ∷ []) same in
    let has : HasImage new (image_of x) = subst (Contains new) (λ j. (first j, second j)) here in
    subst (AllByRecursion (HasImage new)) (sym shown) (all_more (HasImage new) (images_of (take i all)) (image_of x) (images_kept old new kept (images_of (take i all)) before) has)

pub calls_more : (old new : List Name) (calls : List Call) (i : ℕ) (x : Call) → KeepsNames old new → i < length calls → x ≡ get_or calls i x → HasOpened new (opened_name (act_of x))
    → AllByRecursion (λ act. HasOpened old (opened_name act)) (acts_of (take i calls)) → AllByRecursion (λ act. HasOpened new (opened_name act)) (acts_of (take (i + 1) calls))
calls_more old new calls i x kept lt is here before =
    let more : take (i + 1) calls ≡ take i calls ++ x ∷ [] = take_more calls i x lt ∙ ap (λ y. take i calls ++ y ∷ []) (sym is) in
    let shown : acts_of (take (i + 1) calls) ≡ acts_of (take i calls) ++ act_of x ∷ [] = ap acts_of more ∙ acts_more (take i calls) x in
    subst (AllByRecursion (λ act. HasOpened new (opened_name act))) (sym shown)
    (all_more (λ act. HasOpened new (opened_name act)) (acts_of (take i calls)) (act_of x) (acts_kept old new kept (acts_of (take i calls)) before) here)

-- the names after one more call of a run
pub names_more : (old new : List Name) (run : Recorded) (i : ℕ) (x : Call) → KeepsNames old new → i < length run.calls.items → x ≡ get_or run.calls.items i x → HasOpened new (opened_name (act_of x))
    → HaveNames old run i → HaveNames new run (i + 1)
names_more old new run i x kept below is here before =
    (images_kept old new kept (first_images run) before.0, calls_more old new run.calls.items i x kept below is here before.1)
