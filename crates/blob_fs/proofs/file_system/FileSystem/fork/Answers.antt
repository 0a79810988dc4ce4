use Rattle.std.proofs.Common.{rules, ◌≡◌, ℕ, Option, None, Some, is_some, refl, sym, false, ◌∙◌}
use Rattle.std.proofs.Math.Logic.{∥∥₁_map}
use Rattle.std.specs.List.{each_same}
use Rattle.std.proofs.lemmas.Map.Entries.{entries_from_clone}
use Rattle.blob_journal.specs.Keeping.{names_in, told_in}
use Rattle.blob_fs.specs.declared.truncation.Kept.{Kept}
use Rattle.blob_fs.proofs.Forked.{copied_in, crashes_forked, fixed_forked, looks_forked, named_forked, open_forked, tracked_forked}
use Rattle.blob_fs.proofs.file_system.FileSystem.fork.Goals as goal

none_kept : (kept : Option Kept) → is_some kept ≡ false → None ≡ kept
none_kept None e = refl
none_kept (Some k) e = absurd (cc)

pub invariant_of-result : goal.invariant_of-result
invariant_of-result g c =
    let self = c.args.self.now in
    let store = c.in_ok-store.store in
    let files = c.in_ok-files.files in
    let s = c.in_ok-store.ensures in
    let same = copied_in self.files files c.in_ok-files.ensures.cases in
    record {
      opened = ∥∥₁_map self.opened (open_forked self.store store self.files files same c.copies.ensures.is_open s.still);
      named = ∥∥₁_map self.named (named_forked self.store store self.files files same (names_in self.store) (names_in store) s.fork.names);
      tracked = ∥∥₁_map self.tracked (tracked_forked self.store store self.files files same (told_in self.store) (told_in store) (names_in self.store) (names_in store) s.fork.told s.fork.names);
    }

pub returns-clause-fork : goal.returns-clause-fork
returns-clause-fork g c =
    let self = c.args.self.now in
    record {
      store = c.in_ok-store.ensures.fork;
      files = copied_in self.files c.in_ok-files.files c.in_ok-files.ensures.cases;
      opens = entries_from_clone (λ (x y : ℕ). y ≡ x) (λ (x y : ℕ). y ≡ x) (λ x y e. e) (λ x y e. e) self.opens.entries c.in_ok-opens.opens.entries c.in_ok-opens.ensures.cases;
      directories = entries_from_clone (λ (x y : ℕ). y ≡ x) (λ (x y : ℕ). y ≡ x) (λ x y e. e) (λ x y e. e) self.directories.entries c.in_ok-directories.directories.entries c.in_ok-directories.ensures.cases;
      gone = each_same self.gone.items c.in_ok-gone.gone.items c.in_ok-gone.ensures.cases.0;
      options = c.copy_of_options-options.ensures;
      number = refl;
      next_open = refl;
      used = refl;
      is_down = search rules;
      kept = none_kept self.kept (sym c.is_some.ensures ∙ c.if-is_some.false);
    }

pub returns-clause-looks : goal.returns-clause-looks
returns-clause-looks g c = looks_forked c.args.self.now _ (returns-clause-fork g c) c.copies.ensures.sees

pub returns-clause-fixed : goal.returns-clause-fixed
returns-clause-fixed g c = fixed_forked c.args.self.now _ (returns-clause-fork g c) c.copies.ensures.sees c.copies.ensures.fixed c.in_ok-store.ensures.still

pub returns-clause-crashes : goal.returns-clause-crashes
returns-clause-crashes g c = crashes_forked c.args.self.now _ (returns-clause-fork g c) c.copies.ensures.sees c.in_ok-store.ensures.finds c.in_ok-store.ensures.crashes
