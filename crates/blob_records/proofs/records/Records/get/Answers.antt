use Rattle.std.proofs.Common.{rules, ◌≡◌, ℕ, ◌-◌, ◌*◌, ◌<◌, ◌≤◌, min, length, get_or, take, drop, Option, Some, None, refl, sym, ◌∙◌, ap, subst, arith}
use Rattle.std.proofs.lemmas.Grind.{common_steps}
use Rattle.std.proofs.lemmas.List.{get_or-take, get_or_append_left}
use Rattle.blob_faulty.specs.Wrapper.{inside}
use Rattle.blob_memory.specs.Store.{live, place}
use Rattle.blob_header.specs.Refusals.{Memory, Refusal, error_of}
use Rattle.blob_records.specs.Answers.{Asked, MayGet, OutOfMemory, Uncounted}
use Rattle.blob_records.proofs.Answering.{read_within}
use Rattle.blob_records.proofs.Slots.{read_short, taken}
use Rattle.blob_records.proofs.records.Records.get.Goals as goal

pub returns-clause-read : goal.returns-clause-read
returns-clause-read g c = λ now.
    let r = c.args.self.now in
    let bytes = live (inside r.blob) in
    let n = c.min-there.result in
    let at : c.in-Some.offset ≡ c.args.index * r.len = (c.in-Some.ensures).1 in
    let first = c.min-from.result in
    let begins : first ≡ min (c.args.index * r.len) (length bytes) = omega (arith, c.min-from.ensures, c.size-size.ensures, now.size, at) in
    let reads : n ≡ min (length bytes - first) r.len = omega (arith, c.min-there.ensures, c.size-size.ensures, now.size) in
    let there : n ≡ min (length bytes - c.args.index * r.len) r.len = omega (arith, begins, reads) in
    let long : length c.as_mut_slice.result.now ≡ n = first_of (search rules, grind (arith, common_steps)) in
    let same : length c.read_into.new.buf ≡ n = first_of (search rules, grind (arith, common_steps)) in
    let read : c.read_into.new.buf ≡ take n (drop (c.args.index * r.len) bytes) = c.in_ok-read_into.ensures.bytes ∙ ap (λ (k : ℕ). take k (drop first bytes)) long ∙ taken bytes n (c.args.index * r.len) first r.len begins reads in
    let whole : length c.resize-2.new.self.items ≡ r.len = first_of (search rules, grind (arith, common_steps)) in
    let had : c.resize.new.self.len ≡ n = first_of (search rules, grind (arith, common_steps)) in
    let front : (j : ℕ) → j < n → get_or c.resize-2.new.self.items j 0 ≡ get_or c.read_into.new.buf j 0 = λ j lt. c.in_ok-resize-2.ensures.by_index.0 j 0 (omega (arith, lt, there)) (omega (arith, lt, had)) ∙ get_or-take c.resize.new.self.len _ j 0 (omega (arith, lt, had)) ∙ get_or_append_left c.read_into.new.buf _ 0 j (omega (arith, lt, same)) in
    let rest : (j : ℕ) → n ≤ j → j < r.len → get_or c.resize-2.new.self.items j 0 ≡ 0 = λ j ge lt. c.in_ok-resize-2.ensures.by_index.1 j 0 refl (omega (arith, ge, had)) lt in
    read_short r.len bytes c.args.index n c.read_into.new.buf c.resize-2.new.self.items there read whole front rest

pub returns-clause-answer : goal.returns-clause-answer
returns-clause-answer g c = λ now.
    let r = c.args.self.now in
    let bytes = live (inside r.blob) in
    let at : c.in-Some.offset ≡ c.args.index * r.len = (c.in-Some.ensures).1 in
    let long : length c.as_mut_slice.result.now ≡ c.min-there.result = first_of (search rules, grind (arith, common_steps)) in
    Asked None (read_within (place (inside r.blob)) bytes _ c.min-from.result (length c.as_mut_slice.result.now) (c.args.index * r.len) r.len None
    (omega (arith, c.min-from.ensures, c.size-size.ensures, now.size, at)) (omega (arith, long, c.min-there.ensures, c.size-size.ensures, now.size)) c.in_ok-read_into.ensures.allowed)

pub returns-in_err-read_into-clause-answer : goal.returns-in_err-read_into-clause-answer
returns-in_err-read_into-clause-answer g c = λ now.
    let r = c.args.self.now in
    let bytes = live (inside r.blob) in
    let at : c.in-Some.offset ≡ c.args.index * r.len = (c.in-Some.ensures).1 in
    let long : length c.as_mut_slice.result.now ≡ c.min-there.result = first_of (search rules, grind (arith, common_steps)) in
    let same : error_of c.read_into.result ≡ error_of c.from_residual-in_err-read_into.result = first_of (search rules, cc, grind (arith, common_steps)) in
    subst (λ (answer : Option Refusal). MayGet g.R.Rng.stream r c.args.store.now c.args.index answer) same
    (Asked (error_of c.read_into.result) (read_within (place (inside r.blob)) bytes _ c.min-from.result (length c.as_mut_slice.result.now) (c.args.index * r.len) r.len (error_of c.read_into.result)
    (omega (arith, c.min-from.ensures, c.size-size.ensures, now.size, at)) (omega (arith, long, c.min-there.ensures, c.size-size.ensures, now.size)) c.read_into.ensures.allowed))

pub returns-in_err-bytes-clause-answer : goal.returns-in_err-bytes-clause-answer
returns-in_err-bytes-clause-answer g c = λ now.
    let refused : error_of c.from_residual.result ≡ Some Memory = first_of (search rules, cc, grind (arith, common_steps)) in
    subst (λ (answer : Option Refusal). MayGet g.R.Rng.stream c.args.self.now c.args.store.now c.args.index answer) (sym refused) OutOfMemory

pub returns-in_default-clause-answer : goal.returns-in_default-clause-answer
returns-in_default-clause-answer g c = λ now. Uncounted (omega (arith, c.in_default.ensures))
