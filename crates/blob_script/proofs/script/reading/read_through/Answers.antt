use Rattle.std.proofs.Common.{◌≡◌, ◌≢◌, ◌++◌, ◌⊎◌, ℕ, List, inl, inr, take, drop, length, sym, ap, subst, ◌∙◌, rules, true, false, is_some, IfSome, length-take-le}
use Rattle.std.specs.List.{All}
use Rattle.std.proofs.Math.Seq.{drop-append-le}
use Rattle.std.proofs.lemmas.List.Elements.{All-append}
use Rattle.std.specs.Io.{StartsWith, StopsAt}
use Rattle.std.specs.Io.BufRead.{FillKeeps, DropsThrough, take_through}
use Rattle.std.specs.Io.KnownBytes.{Consumes, IsAtEnd}
use Rattle.std.specs.Prelude.{OnSome}
use Rattle.std.proofs.KnownBytes.{starts_with_rest, Consumes-more}
use Rattle.std.proofs.BufReadLemmas.{Consumes_shown, Consumes_through}
use Rattle.std.proofs.Transfers.{starts_with_of_append, starts_with_trans, starts_with_length, drop-appended, StopsAt-append}
use Rattle.blob_script.proofs.Through.{EndsAt, appended, ends_at}
use Rattle.blob_script.proofs.script.reading.read_through.Goals as goal
use Rattle.blob_script.proofs.script.reading.read_through.Goals.{After-is_some, in-Some, in-None}

-- what two turns appended, one after the other
past_both : (old mid new : List ℕ) → StartsWith mid old → StartsWith new mid → drop (length old) new ≡ drop (length old) mid ++ drop (length mid) new
past_both old mid new p q = ap (drop (length old)) (starts_with_rest new mid q) ∙ drop-append-le (length old) mid _ (starts_with_length mid old p)

ends : (g : _) (c : After-is_some g) → EndsAt c.args.byte c.in-Ok.ready.now c.match-found.found c.match-found.end
ends g c = ends_at c.args.byte c.in-Ok.ready.now c.memchr-found.result c.match-found.found c.match-found.end c.memchr-found.ensures (search rules) (elim c.match-found.branch [
  | in-Some w ↦ inl (w.in-Some.place, search rules, search rules)
  | in-None w ↦ inr (search rules, search rules)
])

appends : (g : _) (c : After-is_some g) → StartsWith c.extend_from_slice.new.self.items c.turns.bytes.items
appends g c = starts_with_of_append _ _ _ c.in_ok-extend_from_slice.ensures.items

tail : (g : _) (c : After-is_some g) → drop (length c.turns.bytes.items) c.extend_from_slice.new.self.items ≡ take c.match-found.end c.in-Ok.ready.now
tail g c = drop-appended _ _ _ c.in_ok-extend_from_slice.ensures.items

moved : (g : _) (c : After-is_some g) → Consumes (g.R.Read.remaining c.turns.reader) (g.R.Read.remaining c.consume.new.self) (take c.match-found.end c.in-Ok.ready.now)
    × (length c.in-Ok.ready.now ≡ 0 → OnSome (g.R.Read.remaining c.turns.reader) (IsAtEnd (g.R.Read.remaining c.consume.new.self)))
moved g c =
    let rested = c.fill_buf.follows.lender-at-none in
    let filled = subst (FillKeeps _ (g.R.Read.remaining rested) (g.R.BufRead.consumable_len rested)) c.in-Ok.is c.fill_buf.follows.holds-at-none in
    Consumes_shown _ _ _ _ c.in-Ok.ready.now c.match-found.end (ends g c).bound c.in-Ok.ensures.front c.in-Ok.ensures.end filled.0 filled.1 c.consume.ensures.bytes

none_lost : (g : _) (c : After-is_some g) → Consumes (g.R.Read.remaining c.args.reader.now) (g.R.Read.remaining c.consume.new.self) (drop (length c.args.bytes.now.items) c.extend_from_slice.new.self.items)
none_lost g c = Consumes-more _ _ _ _ _ _ c.turns.invariant.2 (appends g c) c.turns.invariant.4 (subst (Consumes _ _) (sym (tail g c)) (moved g c).0)

-- the first byte or the end was reached
read : (g : _) (c : After-is_some g) → (c.is_some.result ≡ true) ⊎ ((c.is_some.result ≡ false) × (c.match-found.end ≡ 0))
    → IfSome (g.R.Read.remaining c.args.reader.now) (λ xs. drop (length c.args.bytes.now.items) c.turns.bytes.items ++ take c.match-found.end c.in-Ok.ready.now ≡ take_through c.args.byte xs)
    × DropsThrough (g.R.Read.remaining c.args.reader.now) (g.R.Read.remaining c.consume.new.self) c.args.byte
read g c either =
    let end = ends g c in
    let done : (is_some c.match-found.found ≡ true) ⊎ (c.match-found.end ≡ 0) = elim either [ inl h ↦ inl (sym c.is_some.ensures ∙ h) | inr h ↦ inr h.1 ] in
    Consumes_through c.args.byte _ _ _ _ _ c.turns.invariant.4 c.turns.invariant.3 (moved g c).0 end.stops (end.done done)
    (λ none. (moved g c).1 (end.none (sym (length-take-le c.match-found.end c.in-Ok.ready.now end.bound) ∙ none)))

whole : (g : _) (c : After-is_some g) → drop (length c.args.bytes.now.items) c.extend_from_slice.new.self.items
    ≡ drop (length c.args.bytes.now.items) c.turns.bytes.items ++ take c.match-found.end c.in-Ok.ready.now
whole g c = past_both _ _ _ c.turns.invariant.2 (appends g c) ∙ ap (λ l. drop (length c.args.bytes.now.items) c.turns.bytes.items ++ l) (tail g c)

pub returns-then-is_some-clause-bytes : goal.returns-then-is_some-clause-bytes
returns-then-is_some-clause-bytes g c =
    let now = (goal.at.returns-then-is_some-clause-bytes g c).After-is_some in
    let all = starts_with_rest _ _ (starts_with_trans _ _ _ (appends g now) c.turns.invariant.2) ∙ ap (λ l. c.args.bytes.now.items ++ l) (whole g now) in
    appended _ _ _ _ c.args.byte all (read g now c.then-is_some.either).0

pub returns-then-is_some-clause-rest : goal.returns-then-is_some-clause-rest
returns-then-is_some-clause-rest g c = (read g (goal.at.returns-then-is_some-clause-rest g c).After-is_some c.then-is_some.either).1

pub returns-then-is_some-clause-stops : goal.returns-then-is_some-clause-stops
returns-then-is_some-clause-stops g c =
    let now = (goal.at.returns-then-is_some-clause-stops g c).After-is_some in
    subst (λ l. StopsAt l c.args.byte) (sym (whole g now)) (StopsAt-append _ _ _ c.turns.invariant.3 (ends g now).stops)

pub returns-then-is_some-clause-none_lost : goal.returns-then-is_some-clause-none_lost
returns-then-is_some-clause-none_lost g c = none_lost g (goal.at.returns-then-is_some-clause-none_lost g c).After-is_some

pub turns-preserved : goal.turns-preserved
turns-preserved g c =
    let now = (goal.at.turns-preserved g c).After-is_some in (
      search rules,
      search rules,
      starts_with_trans _ _ _ (appends g now) c.turns.invariant.2,
      subst (All (λ x. x ≢ c.args.byte)) (sym (whole g now)) (All-append (λ x. x ≢ c.args.byte) _ _ c.turns.invariant.3 ((ends g now).more (sym c.is_some.ensures ∙ c.if-is_some.false))),
      none_lost g now,
    )
