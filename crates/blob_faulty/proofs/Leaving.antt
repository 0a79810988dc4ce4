-- How a recorded mutation changes what a crash may leave.
use Rattle.std.proofs.Common.{◌≡◌, ℕ, ◌<◌, List, [], ◌∷◌, Option, Some, None, refl, sym, ◌∙◌, ap}
use Rattle.std.specs.Prelude.{option_map, is_some}
use Rattle.std.proofs.lemmas.Bool.{cond-true}
use Rattle.blob_model.specs.Directory.{Directory}
use Rattle.blob_model.specs.Durable.{Durable}
use Rattle.blob_model.specs.Files.{Files, log_entry, all_logged, crashed_at}
use Rattle.blob_model.specs.Log.{Entry, Choices, replay_log}
use Rattle.blob_model.specs.Pending.{Pending}
use Rattle.blob_model.specs.Places.{Place, same_place}
use Rattle.blob_model.specs.SamePlace.{same_self}
use Rattle.blob_model.specs.Stands.{StandsAt, replayed_at}
use Rattle.blob_model.proofs.Durables.{crashed_logged}
use Rattle.blob_faulty.specs.declared.storage.Storage.{Storage}
use Rattle.blob_faulty.specs.Wrapper.{Adds, Stands, pending_of}

-- entries that are added to a log are done after the others
crashed_all : (es : List Entry) (f : Files) (o : Place) (t : Choices) → crashed_at (all_logged f o es) t o ≡ replay_log (crashed_at f t o) es t
crashed_all [] f o t = refl
crashed_all (e ∷ es) f o t = crashed_all es (log_entry f o e) o t ∙ ap (λ (x : List ℕ). replay_log x es t) (crashed_logged f o e t o ∙ cond-true (same_place o o) _ _ (same_self o))

-- what is left goes by the log
by_log : (v : Option (List ℕ)) (q : List Pending) (base : List ℕ) (log : List Entry) (t : Choices) → StandsAt v q base log → replayed_at t q v ≡ option_map (λ _. replay_log base log t) v
by_log None q base log t s = refl
by_log (Some x) q base log t s = ap Some (s.crash t)

done_to : (es : List Entry) (t : Choices) (v v' : Option (List ℕ)) (a b : List ℕ) → is_some v' ≡ is_some v → a ≡ replay_log b es t →
    option_map (λ _. a) v' ≡ option_map (λ x. replay_log x es t) (option_map (λ _. b) v)
done_to es t None None a b e h = refl
done_to es t (Some x) (Some y) a b e h = ap Some h
done_to es t None (Some y) a b e h = cc
done_to es t (Some x) None a b e h = cc

pub left_after : {S R O : Type 0} (place : O → Place) (names : Directory) (bytes bytes' : Durable) (w w' : Storage S R O) (o : Place) (es : List Entry) (t : Choices) (f : Files) →
    o.number < names.next → is_some (bytes' o) ≡ is_some (bytes o) → Stands place names bytes w f → Adds place names bytes bytes' w w' o es →
    replayed_at t (pending_of place w' o) (bytes' o) ≡ option_map (λ x. replay_log x es t) (replayed_at t (pending_of place w o) (bytes o))
left_after place names bytes bytes' w w' o es t f below alive s adds =
    by_log (bytes' o) (pending_of place w' o) _ _ t ((adds f below s).at o)
    ∙ done_to es t (bytes o) (bytes' o) (crashed_at (all_logged f o es) t o) (crashed_at f t o) alive (crashed_all es f o t)
    ∙ ap (λ (v : Option (List ℕ)). option_map (λ x. replay_log x es t) v) (sym (by_log (bytes o) (pending_of place w o) _ _ t (s.at o)))
