-- Ends of the runs of a failed write.
use Rattle.std.proofs.Common.{◌≡◌, ℕ, zero, suc, ◌+◌, ◌≤◌, Bool, List, [], ◌∷◌, ◌++◌, length, map, reverse, get_or, All, refl, sym, ◌∙◌, ap, arith}
use Rattle.std.proofs.lemmas.List.{reverse-append, map-append}
use Rattle.blob_model.specs.Runs.{Run, runs, AreRunsApart}
use Rattle.blob_faulty.specs.declared.write_runs.Piece.{Piece}
use Rattle.blob_draws.specs.Answers.{last_end}
use Rattle.blob_faulty.specs.Pieces.{run_of, runs_in, EndsWithin}

last_behind : (before : ℕ) (rs : List Run) (r : Run) → last_end before (rs ++ r ∷ []) ≡ r.0 + length r.1
last_behind before [] r = refl
last_behind before (x ∷ rs) r = last_behind (x.0 + length x.1) rs r

-- the first piece is the last run
last_piece : (p : Piece) (ps : List Piece) → last_end 0 (runs_in (p ∷ ps)) ≡ p.offset + length p.bytes.now
last_piece p ps = ap (λ (qs : List Piece). last_end 0 (map run_of qs)) (reverse-append (p ∷ []) ps) ∙ ap (last_end 0) (map-append run_of (reverse ps) (p ∷ [])) ∙ last_behind 0 (map run_of (reverse ps)) (run_of p)

pub last_of : (ps : List Piece) (p : Piece) → 1 ≤ length ps → p ≡ get_or ps 0 p → p.offset + length p.bytes.now ≡ last_end 0 (runs_in ps)
last_of [] p h e = absurd (omega arith)
last_of (q ∷ ps) p h e = ap (λ (r : Piece). r.offset + length r.bytes.now) e ∙ sym (last_piece q ps)

last_above : (from before : ℕ) (rs : List Run) → AreRunsApart from rs → before ≤ from → before ≤ last_end before rs
last_above from before [] a h = omega arith
last_above from before (r ∷ rs) a h = let rest = last_above (suc (r.0 + length r.1)) (r.0 + length r.1) rs a.2 (omega arith) in omega (arith, a.0, rest, h)

one_more : (end : ℕ) (r : Run) (rs : List Run) → EndsWithin end r → All (EndsWithin end) rs → All (EndsWithin end) (r ∷ rs)
one_more end r rs first rest zero d h = first
one_more end r rs first rest (suc k) d h = rest k d (omega (arith, h))

-- runs that are apart rise
pub end_by_last : (from before : ℕ) (rs : List Run) → AreRunsApart from rs → All (EndsWithin (last_end before rs)) rs
end_by_last from before [] a = λ k d h. absurd (omega arith)
end_by_last from before (r ∷ rs) a =
    one_more (last_end (r.0 + length r.1) rs) r rs (last_above (suc (r.0 + length r.1)) (r.0 + length r.1) rs a.2 (omega arith)) (end_by_last (suc (r.0 + length r.1)) (r.0 + length r.1) rs a.2)

-- no choice, no run
pub runs_of_none : (o : ℕ) (b : List ℕ) (chosen : List Bool) → length chosen ≡ 0 → runs o b chosen ≡ []
runs_of_none o [] chosen e = refl
runs_of_none o (x ∷ b) [] e = refl
runs_of_none o (x ∷ b) (t ∷ chosen) e = absurd (omega (arith, e))

-- no piece, no run
pub no_runs_in : (ps : List Piece) (rs : List Run) → length ps ≡ 0 → runs_in ps ≡ rs → rs ≡ []
no_runs_in [] rs e is = sym is
no_runs_in (p ∷ ps) rs e is = absurd (omega (arith, e))
