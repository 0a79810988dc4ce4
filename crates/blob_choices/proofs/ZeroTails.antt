-- A given zero at the end is as none.
use Rattle.std.proofs.Common.{◌≡◌, ◌⊎◌, ℕ, zero, suc, List, [], ◌∷◌, ◌++◌, replicate, None, refl, sym, ap, ◌∙◌, subst, inl, inr, take, ◌+◌, ◌/◌, ◌%◌, ◌^◌, append_assoc, append-nil}
use Rattle.std.specs.Int.{w64, to_le_bytes}
use Rattle.rand_core.specs.Stream.{Call, u32_call, u64_call, bytes_call}
use Rattle.rand_core.specs.Steps.{Steps, stream_of, steps_u64_low, state_after, word_bytes}
use Rattle.blob_lab_model.specs.Scripted.{Left, scripted_stream, next_of}

-- the same words, except one zero at the end
abbrev Same : Left → Left → Type 0
Same a b = (a ≡ b) ⊎ ((ws : List ℕ) × (a ≡ (ws ++ 0 ∷ [], None)) × (b ≡ (ws, None)))

-- the same value, and the same left
abbrev Stepped : {X : Type 0} → X × Left → X × Left → Type 0
Stepped a b = (a.0 ≡ b.0) × Same a.1 b.1

steps_by : (ws : List ℕ) → Stepped (next_of (ws ++ 0 ∷ [], None)) (next_of (ws, None))
steps_by [] = (refl, inl refl)
steps_by (w ∷ ws) = (refl, inr (ws, refl, refl))

steps : (a b : Left) → Same a b → Stepped (next_of a) (next_of b)
steps a b (inl e) = (ap (λ (x : Left). (next_of x).0) e, inl (ap (λ (x : Left). (next_of x).1) e))
steps a b (inr (ws, ea, eb)) =
    let P : Left → Type 0 = λ x. Stepped (next_of x) (next_of b) in
    let Q : Left → Type 0 = λ y. Stepped (next_of (ws ++ 0 ∷ [], None)) (next_of y) in
    subst P (sym ea) (subst Q (sym eb) (steps_by ws))

fills : (bytes : ℕ → List ℕ) (k : ℕ) (a b : Left) → Same a b → Stepped (word_bytes bytes next_of k a) (word_bytes bytes next_of k b)
unfolding word_bytes
fills bytes zero a b h = (refl, h)
fills bytes (suc k) a b h =
    let before = fills bytes k a b h in
    let now = steps (word_bytes bytes next_of k a).1 (word_bytes bytes next_of k b).1 before.1 in (
      ap (λ (front : List ℕ). front ++ bytes (next_of (word_bytes bytes next_of k a).1).0) before.0
          ∙ ap (λ (w : ℕ). (word_bytes bytes next_of k b).0 ++ bytes w) now.0,
      now.1,
    )

abbrev G : Steps Left
G = steps_u64_low next_of

calls : (cs : List Call) (a b : Left) → Same a b → Same (state_after G cs a) (state_after G cs b)
calls [] a b h = h
calls (u32_call ∷ cs) a b h = calls cs (next_of a).1 (next_of b).1 (steps a b h).1
calls (u64_call ∷ cs) a b h = calls cs (next_of a).1 (next_of b).1 (steps a b h).1
calls (bytes_call n ∷ cs) a b h = calls cs (G.fill_bytes n a).1 (G.fill_bytes n b).1 (fills (to_le_bytes w64) ((n + 7) / 8) a b h).1

streams : (a b : Left) → Same a b → scripted_stream a ≡ scripted_stream b
unfolding stream_of
streams a b h =
    let word : (cs : List Call) → (next_of (state_after G cs a)).0 ≡ (next_of (state_after G cs b)).0 = λ cs. (steps (state_after G cs a) (state_after G cs b) (calls cs a b h)).0 in
    let bytes : (cs : List Call) (n : ℕ) → (G.fill_bytes n (state_after G cs a)).0 ≡ (G.fill_bytes n (state_after G cs b)).0 =
    λ cs n. ap (take n) (fills (to_le_bytes w64) ((n + 7) / 8) (state_after G cs a) (state_after G cs b) (calls cs a b h)).0 in
    λ i. record { u32_after = λ cs. word cs i % 2 ^ 32; u64_after = λ cs. word cs i; bytes_after = λ cs n. bytes cs n i }

pub zero_tails : (n : ℕ) (ws : List ℕ) → scripted_stream (ws ++ replicate n 0, None) ≡ scripted_stream (ws, None)
zero_tails zero ws = ap (λ (xs : List ℕ). scripted_stream (xs, None)) (append-nil ws)
zero_tails (suc n) ws =
    ap (λ (xs : List ℕ). scripted_stream (xs, None)) (sym (append_assoc ws (0 ∷ []) (replicate n 0)))
    ∙ zero_tails n (ws ++ 0 ∷ []) ∙ streams (ws ++ 0 ∷ [], None) (ws, None) (inr (ws, refl, refl))
