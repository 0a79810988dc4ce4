-- What bytes begin with, frame by frame.
use Rattle.std.proofs.Common.{◌≡◌, ◌<◌, ◌≤◌, ℕ, zero, suc, ◌+◌, ◌-◌, ◌^◌, true, false, List, [], ◌∷◌, ◌++◌, length, replicate, take, drop, get_or, nat_le, nat_eq, refl, sym, ap, ap₂, subst, ◌∙◌, arith, append_assoc, append-nil, length-append, length-drop, ⊎_elim}
use Rattle.std.proofs.lemmas.Bool.{and_from, and_parts, cases_Bool, cases_lt, cond-false, cond-true, false_from_ne_true}
use Rattle.std.proofs.lemmas.List.{get_or-drop, get_or-take, get_or_past, length-take, take-append-drop, drop-drop, drop_at, flat_map_more, take_at, take_rest}
use Rattle.std.proofs.lemmas.Bool.Decides.{nat_tests}
use Rattle.std.proofs.lemmas.Nat.{be_bytes_4, from_be_bytes-to_be_bytes_4}
use Rattle.std.specs.Int.{w32, to_be_bytes, from_be_bytes}
use Rattle.blob_header.specs.Checksum.{crc32c, low_bits, with_bit}
use Rattle.blob_header.specs.Fronts.{BeginsWith}
use Rattle.blob_log.specs.Frames.{checksum, frame, frames, length_told, sum_told, payload, is_frame, scan_to, scan, AreShort}

pub checksum_fits : ((b : List ℕ) → crc32c b < 2 ^ 32) → (r : List ℕ) → checksum r < 2 ^ 32
unfolding checksum
checksum_fits fit r = fit (to_be_bytes w32 (length r) ++ r)

pub length_frame : (r : List ℕ) → length (frame r) ≡ 8 + length r
unfolding frame
length_frame r = omega arith

frame_length : (r rest : List ℕ) → length r < 2 ^ 32 → length_told (frame r ++ rest) ≡ length r
unfolding length_told frame
frame_length r rest short = from_be_bytes-to_be_bytes_4 (length r) short

frame_sum : (r rest : List ℕ) → checksum r < 2 ^ 32 → sum_told (frame r ++ rest) ≡ checksum r
unfolding sum_told frame
frame_sum r rest fits = from_be_bytes-to_be_bytes_4 (checksum r) fits

frame_payload : (r rest : List ℕ) → length r < 2 ^ 32 → payload (frame r ++ rest) ≡ r
unfolding frame
frame_payload r rest short = ap (λ (n : ℕ). take n (r ++ rest)) (frame_length r rest short) ∙ take_at r rest (length r) refl

-- Whether bytes begin with a frame, by parts.

is_frame-whole : (b : List ℕ) → 8 + length_told b ≤ length b → checksum (payload b) ≡ sum_told b → is_frame b ≡ true
is_frame-whole b fits sealed = and_from (nat_le (8 + length_told b) (length b)) (nat_eq (checksum (payload b)) (sum_told b)) (grind (arith, nat_tests)) (grind (arith, nat_tests))

frame_fits : (b : List ℕ) → is_frame b ≡ true → 8 + length_told b ≤ length b
frame_fits b e = let p = (and_parts (nat_le (8 + length_told b) (length b)) (nat_eq (checksum (payload b)) (sum_told b)) e).0 in grind (arith, nat_tests)

frame_sealed : (b : List ℕ) → is_frame b ≡ true → checksum (payload b) ≡ sum_told b
frame_sealed b e = let p = (and_parts (nat_le (8 + length_told b) (length b)) (nat_eq (checksum (payload b)) (sum_told b)) e).1 in grind (arith, nat_tests)

is_frame-short : (b : List ℕ) → length b < 8 + length_told b → is_frame b ≡ false
is_frame-short b cut = false_from_ne_true (is_frame b) (λ e. omega (arith, frame_fits b e))

frame_is : (r rest : List ℕ) → checksum r < 2 ^ 32 → length r < 2 ^ 32 → is_frame (frame r ++ rest) ≡ true
frame_is r rest fits short =
    let e = frame_length r rest short in
    let long : 8 + length_told (frame r ++ rest) ≤ length (frame r ++ rest) = omega (arith, length-append (frame r) rest, length_frame r) in
    is_frame-whole (frame r ++ rest) long (ap checksum (frame_payload r rest short) ∙ sym (frame_sum r rest fits))

-- A scan, step by step.

step_to : (n : ℕ) (b : List ℕ) → is_frame b ≡ true → scan_to (suc n) b ≡ payload b ∷ scan_to n (drop (8 + length_told b) b)
step_to n b e = cond-true (is_frame b) _ _ e

stop_to : (n : ℕ) (b : List ℕ) → is_frame b ≡ false → scan_to n b ≡ []
stop_to zero b e = refl
stop_to (suc n) b e = cond-false (is_frame b) _ _ e

-- frames enough for all
enough : (n m : ℕ) (b : List ℕ) → length b ≤ n → length b ≤ m → scan_to n b ≡ scan_to m b
enough zero zero b p q = refl
enough zero (suc m) b p q = sym (stop_to (suc m) b (is_frame-short b (omega arith)))
enough (suc n) zero b p q = stop_to (suc n) b (is_frame-short b (omega arith))
enough (suc n) (suc m) b p q = ⊎_elim
    (λ e. let fits = frame_fits b e in
    let rest = drop (8 + length_told b) b in
    step_to n b e ∙ ap (λ (l : List (List ℕ)). payload b ∷ l) (enough n m rest (omega (arith, length-drop (8 + length_told b) b)) (omega (arith, length-drop (8 + length_told b) b))) ∙ sym (step_to m b e))
    (λ e. stop_to (suc n) b e ∙ sym (stop_to (suc m) b e))
    (cases_Bool (is_frame b))

pub scan-stop : (b : List ℕ) → is_frame b ≡ false → scan b ≡ []
unfolding scan
scan-stop b e = stop_to (length b) b e

pub scan-step : (b : List ℕ) → is_frame b ≡ true → scan b ≡ payload b ∷ scan (drop (8 + length_told b) b)
unfolding scan
scan-step b e =
    let fits = frame_fits b e in
    let rest = drop (8 + length_told b) b in
    enough (length b) (suc (length b)) b (omega arith) (omega arith)
    ∙ step_to (length b) b e
    ∙ ap (λ (l : List (List ℕ)). payload b ∷ l) (enough (length b) (length rest) rest (omega (arith, length-drop (8 + length_told b) b)) (omega arith))

-- a scan of frames finds their records, then those of the bytes after them; `fit` is that checksums fit in four bytes
pub scan-frames : ((b : List ℕ) → checksum b < 2 ^ 32) → (rs : List (List ℕ)) (rest : List ℕ) → AreShort rs → scan (frames rs ++ rest) ≡ rs ++ scan rest
scan-frames fit [] rest short = refl
scan-frames fit (r ∷ rs) rest short =
    let more = frames rs ++ rest in
    let behind = drop_at (frame r) more _ (omega (arith, frame_length r more short.0, length_frame r)) in
    ap scan (append_assoc (frame r) (frames rs) rest) ∙ scan-step (frame r ++ more) (frame_is r more (fit r) short.0)
    ∙ ap₂ (λ (x : List ℕ) (l : List (List ℕ)). x ∷ l) (frame_payload r more short.0) (ap scan behind ∙ scan-frames fit rs rest short.1)

-- Zeros are no frame: the checksum of an empty record is that of the four zeros of its length.

sum_of_none : checksum [] ≡ 0x48674BC7
unfolding checksum crc32c with_bit low_bits
sum_of_none = refl

abbrev zeros : ℕ → List ℕ
zeros n = replicate n 0

zeros_at : (n i : ℕ) → get_or (zeros n) i 0 ≡ 0
zeros_at zero i = refl
zeros_at (suc n) zero = refl
zeros_at (suc n) (suc i) = zeros_at n i

length_of_zeros : (n : ℕ) → length_told (zeros n) ≡ 0
unfolding length_told
length_of_zeros n = omega (arith, zeros_at n 0, zeros_at n 1, zeros_at n 2, zeros_at n 3)

sum_of_zeros : (n : ℕ) → sum_told (zeros n) ≡ 0
unfolding sum_told
sum_of_zeros n =
    let z : List ℕ = zeros n in
    omega (
      arith,
      get_or-drop 4 z 0 0,
      get_or-drop 4 z 1 0,
      get_or-drop 4 z 2 0,
      get_or-drop 4 z 3 0,
      zeros_at n 4,
      zeros_at n 5,
      zeros_at n 6,
      zeros_at n 7,
    )

is_frame-zeros : (n : ℕ) → is_frame (zeros n) ≡ false
is_frame-zeros n =
    let z : List ℕ = zeros n in
    false_from_ne_true (is_frame z)
    (λ e.
    let none : payload z ≡ [] = ap (λ (k : ℕ). take k (drop 8 z)) (length_of_zeros n) in
    let sum : checksum [] ≡ sum_told z = ap checksum (sym none) ∙ frame_sealed z e in
    omega (arith, sum, sum_of_none, sum_of_zeros n))

pub scan_zeros : (n : ℕ) → scan (zeros n) ≡ []
scan_zeros n = scan-stop (zeros n) (is_frame-zeros n)

-- What is read is what was written: bytes below 256 begin with the frames of their scan.

abbrev pub AreBytes : List ℕ → Type 0
AreBytes b = (i : ℕ) → get_or b i 0 < 256

bytes_behind : (b : List ℕ) (n : ℕ) → AreBytes b → AreBytes (drop n b)
bytes_behind b n are i = omega (arith, get_or-drop n b i 0, are (n + i))

told_below : (b : List ℕ) → AreBytes b → length_told b < 2 ^ 32
unfolding length_told
told_below b are = omega (arith, are 0, are 1, are 2, are 3)

bytes_before : (b : List ℕ) (n : ℕ) → AreBytes b → AreBytes (take n b)
bytes_before b n are i = ⊎_elim
    (λ lt. omega (arith, get_or-take n b i 0 lt, are i))
    (λ ge. omega (arith, get_or_past (take n b) i 0 (omega (arith, length-take n b))))
    (cases_lt i n)

-- four bytes are those of the number that they tell
four : (b : List ℕ) → AreBytes b → 4 ≤ length b → to_be_bytes w32 (from_be_bytes w32 b) ≡ take 4 b
four b are long = be_bytes_4 (take 4 b) (from_be_bytes w32 b) (omega (arith, length-take 4 b)) (bytes_before b 4 are)
    (omega (arith, get_or-take 4 b 0 0 (omega arith), get_or-take 4 b 1 0 (omega arith), get_or-take 4 b 2 0 (omega arith), get_or-take 4 b 3 0 (omega arith)))

told_bytes : (b : List ℕ) → AreBytes b → 4 ≤ length b → to_be_bytes w32 (length_told b) ≡ take 4 b
unfolding length_told
told_bytes b are long = four b are long

sum_bytes : (b : List ℕ) → AreBytes b → 8 ≤ length b → to_be_bytes w32 (sum_told b) ≡ take 4 (drop 4 b)
unfolding sum_told
sum_bytes b are long = four (drop 4 b) (bytes_behind b 4 are) (omega (arith, length-drop 4 b))

frame_by : (r one two : List ℕ) → to_be_bytes w32 (length r) ≡ one → to_be_bytes w32 (checksum r) ≡ two → frame r ≡ one ++ two ++ r
unfolding frame
frame_by r one two p q = ap (λ (x : List ℕ). x ++ to_be_bytes w32 (checksum r) ++ r) p ∙ ap (λ (x : List ℕ). one ++ x ++ r) q

cut_up : (i j n : ℕ) (b : List ℕ) → (take i b ++ take j (drop i b) ++ take n (drop (i + j) b)) ++ drop (i + j + n) b ≡ b
cut_up i j n b = grind (arith, append_assoc, take-append-drop i b, take-append-drop j (drop i b), take-append-drop n (drop (i + j) b), drop-drop j i b, drop-drop n (i + j) b)

length_payload : (b : List ℕ) → is_frame b ≡ true → length (payload b) ≡ length_told b
length_payload b e =
    let fits = frame_fits b e in
    omega (arith, length-take (length_told b) (drop 8 b), length-drop 8 b)

frame_front : (b : List ℕ) → AreBytes b → is_frame b ≡ true → frame (payload b) ++ drop (8 + length_told b) b ≡ b
frame_front b are e =
    let n = length_told b in
    let fits : 8 + n ≤ length b = frame_fits b e in
    let one : to_be_bytes w32 (length (payload b)) ≡ take 4 b = ap (to_be_bytes w32) (length_payload b e) ∙ told_bytes b are (omega arith) in
    let two : to_be_bytes w32 (checksum (payload b)) ≡ take 4 (drop 4 b) = ap (to_be_bytes w32) (frame_sealed b e) ∙ sum_bytes b are (omega arith) in
    ap (λ (x : List ℕ). x ++ drop (8 + n) b) (frame_by (payload b) (take 4 b) (take 4 (drop 4 b)) one two) ∙ cut_up 4 4 n b

-- by as many frames as there are bytes
front_to : (n : ℕ) (b : List ℕ) → length b ≤ n → AreBytes b → (AreShort (scan b)) × ((rest : List ℕ) × (frames (scan b) ++ rest ≡ b))
front_to zero b short are = subst (λ (l : List (List ℕ)). AreShort l × ((rest : List ℕ) × (frames l ++ rest ≡ b))) (sym (scan-stop b (is_frame-short b (omega arith)))) (tt, (b, refl))
front_to (suc n) b short are = ⊎_elim
    (λ e.
    let fits = frame_fits b e in
    let next = drop (8 + length_told b) b in
    let more = front_to n next (omega (arith, length-drop (8 + length_told b) b)) (bytes_behind b (8 + length_told b) are) in
    let told = told_below b are in
    let len : length (payload b) < 2 ^ 32 = omega (arith, length_payload b e) in
    subst (λ (l : List (List ℕ)). AreShort l × ((rest : List ℕ) × (frames l ++ rest ≡ b))) (sym (scan-step b e))
    ((len, more.0), (more.1.0, append_assoc (frame (payload b)) (frames (scan next)) more.1.0 ∙ ap (λ (x : List ℕ). frame (payload b) ++ x) more.1.1 ∙ frame_front b are e)))
    (λ e. subst (λ (l : List (List ℕ)). AreShort l × ((rest : List ℕ) × (frames l ++ rest ≡ b))) (sym (scan-stop b e)) (tt, (b, refl)))
    (cases_Bool (is_frame b))

pub scan_fronts : (b : List ℕ) → AreBytes b → (AreShort (scan b)) × (BeginsWith (frames (scan b)) b)
scan_fronts b are = front_to (length b) b (omega arith) are

-- A scan that continues from an offset.

pub frames_more : (rs : List (List ℕ)) (r : List ℕ) → frames rs ++ frame r ≡ frames (rs ++ r ∷ [])
frames_more rs r = flat_map_more frame [] rs r

pub length_frames_more : (rs : List (List ℕ)) (r : List ℕ) → length (frames (rs ++ r ∷ [])) ≡ length (frames rs) + (8 + length r)
length_frames_more rs r = omega (arith, ap length (frames_more rs r), length-append (frames rs) (frame r), length_frame r)

pub short_more : (rs : List (List ℕ)) (r : List ℕ) → AreShort rs → length r < 2 ^ 32 → AreShort (rs ++ r ∷ [])
short_more [] r short fits = (fits, tt)
short_more (x ∷ rs) r short fits = (short.0, short_more rs r short.1 fits)

pub record Scanned (b : List ℕ) (at : ℕ) (found : List (List ℕ)) : Type 0 where
  pub so_far : found ++ scan (drop at b) ≡ scan b
  pub end : at ≡ length (frames found)
  pub within : at ≤ length b

-- the next frame, in what a slice from there on has
pub scanned_more : (b : List ℕ) (at : ℕ) (found found' : List (List ℕ)) (r : List ℕ) → Scanned b at found → is_frame (take (length b - at) (drop at b)) ≡ true → r ≡ payload (take (length b - at) (drop at b)) → found' ≡ found ++ r ∷ [] → Scanned b (at + (8 + length r)) found'
scanned_more b at found found' r s there told now =
    let rest = drop at b in
    let e : is_frame rest ≡ true = ap is_frame (sym (take_rest b at)) ∙ there in
    let is : r ≡ payload rest = told ∙ ap payload (take_rest b at) in
    let len : length r ≡ length_told rest = ap length is ∙ length_payload rest e in
    let past : drop (8 + length_told rest) rest ≡ drop (at + (8 + length r)) b = drop-drop (8 + length_told rest) at b ∙ ap (λ (n : ℕ). drop (at + (8 + n)) b) (sym len) in
    record {
      so_far = ap (λ (l : List (List ℕ)). l ++ scan (drop (at + (8 + length r)) b)) now
          ∙ append_assoc found (r ∷ []) (scan (drop (at + (8 + length r)) b))
          ∙ ap (λ (l : List ℕ). found ++ r ∷ scan l) (sym past)
          ∙ ap (λ (x : List ℕ). found ++ x ∷ scan (drop (8 + length_told rest) rest)) is
          ∙ ap (λ (l : List (List ℕ)). found ++ l) (sym (scan-step rest e))
          ∙ s.so_far;
      end = omega (arith, s.end, length_frames_more found r, ap (λ (l : List (List ℕ)). length (frames l)) now);
      within = omega (arith, s.within, len, frame_fits rest e, length-drop at b);
    }

pub scanned_all : (b : List ℕ) (at : ℕ) (found : List (List ℕ)) → Scanned b at found → is_frame (take (length b - at) (drop at b)) ≡ false → found ≡ scan b
scanned_all b at found s e = sym (append-nil found) ∙ ap (λ (l : List (List ℕ)). found ++ l) (sym (scan-stop (drop at b) (ap is_frame (sym (take_rest b at)) ∙ e))) ∙ s.so_far

-- if bytes begin with frames, what a scan finds begins with their records; `again` is the conclusion of `scan-frames`
pub front_scanned : ((rs : List (List ℕ)) (rest : List ℕ) → AreShort rs → scan (frames rs ++ rest) ≡ rs ++ scan rest) → (rs : List (List ℕ)) (live : List ℕ) → AreShort rs → BeginsWith (frames rs) live → BeginsWith rs (scan live)
front_scanned again rs live short (rest, is) = (scan rest, sym (again rs rest short) ∙ ap scan is)
