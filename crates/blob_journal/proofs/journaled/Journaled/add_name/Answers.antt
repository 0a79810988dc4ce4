use Rattle.std.proofs.Common.{◌≡◌, ℕ, List, [], ◌∷◌, Some, ap, arith, refl, sym, ◌∙◌}
use Rattle.blob_journal.specs.Keeping.{names_in}
use Rattle.blob_journal.specs.Moves.{Name, view_name}
use Rattle.blob_journal.proofs.Again.{adds_none, no_name, none_some, plain_one, some_name, tells_by, the_name}
use Rattle.blob_journal.proofs.journaled.Journaled.add_name.Goals as goal

pub returns-in_default-clause-added : goal.returns-in_default-clause-added
returns-in_default-clause-added g c = record { more = []; adds = adds_none _ _ refl; bound = λ n is seen. absurd (no_name c.args.name n c.in_default.is is) }

pub returns-in_default-get-clause-added : goal.returns-in_default-get-clause-added
returns-in_default-get-clause-added g c = record {
  more = [];
  adds = adds_none _ _ refl;
  bound = λ n is seen.
      let self = c.args.self.now in
      let same = the_name c.args.name (c.in-Some.entry, c.in-Some.to) n c.in-Some.is is in
      let key : c.deref.result.now ≡ n.0 = c.deref.ensures.value ∙ ap (λ (m : Name). m.0) (sym same) in
      absurd (none_some (sym c.in_default-get.is ∙ c.get.ensures ∙ ap (λ (e : List ℕ). names_in self e) key ∙ seen));
}

pub returns-then-not-is_same-clause-added : goal.returns-then-not-is_same-clause-added
returns-then-not-is_same-clause-added g c = record {
  more = [];
  adds = adds_none _ _ refl;
  bound = λ n is seen.
      let self = c.args.self.now in
      let same = the_name c.args.name (c.in-Some.entry, c.in-Some.to) n c.in-Some.is is in
      let key : c.deref.result.now ≡ n.0 = c.deref.ensures.value ∙ ap (λ (m : Name). m.0) (sym same) in
      let bound = some_name (sym c.in-Some-get.is ∙ c.get.ensures ∙ ap (λ (e : List ℕ). names_in self e) key ∙ seen) in
      absurd (c.if-not-is_same.ensures (bound ∙ ap (λ (m : Name). m.1) same));
}

pub returns-clause-told : goal.returns-clause-told
returns-clause-told g c =
    let self = c.args.self.now in
    let seen : names_in self c.in-Some.entry.items ≡ Some c.in-Some.to =
    ap (λ (e : List ℕ). names_in self e) (sym c.deref.ensures.value) ∙ sym c.get.ensures ∙ c.in-Some-get.is ∙ ap Some c.if-not-is_same.ensures in
    tells_by c.add_edit.result self c.add_edit.new.self _ c.args.rate (view_name (c.in-Some.entry, c.in-Some.to)) c.one.ensures seen c.add_edit.ensures.tells c.add_edit.ensures.refused

pub returns-clause-added : goal.returns-clause-added
returns-clause-added g c =
    let noted = c.in_ok-add_edit.ensures.noted in
    let about = noted.about ∙ c.of_name-about.ensures in
    record {
      more = noted.last ∷ [];
      adds = record { is = noted.is; plain = λ d. ap (λ e. e ∷ []) (plain_one d noted.last c.args.inode c.args.directory about) };
      bound = λ n is seen.
          let same = the_name c.args.name (c.in-Some.entry, c.in-Some.to) n c.in-Some.is is in
          record {
            edit = noted.last;
            there = (0, omega arith, refl);
            is = noted.edit ∙ c.one.ensures ∙ ap (λ (m : Name). (m.0, Some m.1) ∷ []) (sym same);
            is_about = about;
          };
    }
