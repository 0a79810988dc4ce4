-- Entries that are added to a log, and published bytes.
use Rattle.std.proofs.Common.{◌≡◌, ℕ, Bool, cond, List, [], ◌∷◌, ◌++◌, refl, ◌∙◌, ap}
use Rattle.std.proofs.lemmas.Bool.{cond-true, cond_both}
use Rattle.blob_model.specs.Places.{Place, same_place}
use Rattle.blob_model.specs.SamePlace.{same_self}
use Rattle.blob_model.specs.Files.{Files, Logged, log_of, log_but_for, log_entry, all_logged, crashed_at, durable_at, publish}
use Rattle.blob_model.specs.Log.{Choices, Entry, durable_after, lasting, left_by, replay_log}
use Rattle.blob_model.proofs.FileSteps.{log_push_at, log_without}
use Rattle.blob_faulty.specs.Fits.{FitsAll, FitsEntry, FitsLog}

replay_push : (x : List ℕ) (log : List Entry) (e : Entry) (t : Choices) → replay_log x (log ++ e ∷ []) t ≡ left_by (replay_log x log t) e t
replay_push x [] e t = refl
replay_push x (d ∷ log) e t = replay_push (left_by x d t) log e t

durable_push : (x : List ℕ) (log : List Entry) (e : Entry) → durable_after x (log ++ e ∷ []) ≡ lasting (durable_after x log) e
durable_push x [] e = refl
durable_push x (d ∷ log) e = durable_push (lasting x d) log e

pub log_here : (f : Files) (o : Place) (e : Entry) → log_of (log_entry f o e).log o ≡ log_of f.log o ++ e ∷ []
log_here f o e = log_push_at f.log e o o ∙ cond-true (same_place o o) _ _ (same_self o)

pub crashed_follow : (f : Files) (o : Place) (es : List Entry) (t : Choices) → crashed_at (all_logged f o es) t o ≡ replay_log (crashed_at f t o) es t
crashed_follow f o [] t = refl
crashed_follow f o (e ∷ es) t = crashed_follow (log_entry f o e) o es t
    ∙ ap (λ (x : List ℕ). replay_log x es t) (ap (λ (l : List Entry). replay_log (f.base o) l t) (log_here f o e) ∙ replay_push (f.base o) (log_of f.log o) e t)

pub durable_follow : (f : Files) (o : Place) (es : List Entry) → durable_at (all_logged f o es) o ≡ durable_after (durable_at f o) es
durable_follow f o [] = refl
durable_follow f o (e ∷ es) = durable_follow (log_entry f o e) o es
    ∙ ap (λ (x : List ℕ). durable_after x es) (ap (λ (l : List Entry). durable_after (f.base o) l) (log_here f o e) ∙ durable_push (f.base o) (log_of f.log o) e)

fits_push : (t : Choices) (log : List Logged) (e : Logged) → FitsLog t log → FitsEntry t e.entry → FitsLog t (log ++ e ∷ [])
fits_push t [] e all one = (one, tt)
fits_push t (d ∷ log) e (first, all) one = (first, fits_push t log e all one)

fits_pop : (t : Choices) (log : List Logged) (e : Logged) → FitsLog t (log ++ e ∷ []) → FitsLog t log × FitsEntry t e.entry
fits_pop t [] e (one, all) = (tt, one)
fits_pop t (d ∷ log) e (first, all) = let r = fits_pop t log e all in ((first, r.0), r.1)

pub fits_from : (t : Choices) (f : Files) (o : Place) (es : List Entry) → FitsLog t (all_logged f o es).log → FitsLog t f.log × FitsAll t es
fits_from t f o [] all = (all, tt)
fits_from t f o (e ∷ es) all =
    let r = fits_from t (log_entry f o e) o es all in
    let s = fits_pop t f.log (record { place = o; entry = e }) r.0 in (s.0, (s.1, r.1))

pub fits_to : (t : Choices) (f : Files) (o : Place) (es : List Entry) → FitsLog t f.log × FitsAll t es → FitsLog t (all_logged f o es).log
fits_to t f o [] (all, none) = all
fits_to t f o (e ∷ es) (all, (one, rest)) = fits_to t (log_entry f o e) o es (fits_push t f.log (record { place = o; entry = e }) all one, rest)

pub crashed_published : (f : Files) (o : Place) (x : List ℕ) (t : Choices) → crashed_at (publish f o x) t o ≡ x
crashed_published f o x t = ap (λ (l : List Entry). replay_log (cond (same_place o o) x (f.base o)) l t) (log_without f.log (same_place o) o ∙ cond-true (same_place o o) _ _ (same_self o)) ∙ cond-true (same_place o o) x (f.base o) (same_self o)

pub durable_published : (f : Files) (o : Place) (x : List ℕ) → durable_at (publish f o x) o ≡ x
durable_published f o x = ap (λ (l : List Entry). durable_after (cond (same_place o o) x (f.base o)) l) (log_without f.log (same_place o) o ∙ cond-true (same_place o o) _ _ (same_self o)) ∙ cond-true (same_place o o) x (f.base o) (same_self o)

pub fits_without : (t : Choices) (log : List Logged) (gone : Place → Bool) → FitsLog t log → FitsLog t (log_but_for gone log)
fits_without t [] gone all = tt
fits_without t (e ∷ log) gone (first, all) = cond_both (gone e.place) (log_but_for gone log) (e ∷ log_but_for gone log) (λ l. FitsLog t l) (λ _. fits_without t log gone all) (λ _. (first, fits_without t log gone all))
