use Rattle.std.proofs.Common.{◌<◌, ◌∙◌, List, Some, arith, refl, subst, sym, ap}
use Rattle.std.specs.Prelude.{All}
use Rattle.blob_fs.specs.declared.truncation.Truncation.{Truncation}
use Rattle.blob_journal.specs.Fixed.{KeepsOpen}
use Rattle.blob_journal.specs.Unchanged.{KeepsNamesAndEdits}
use Rattle.blob_fs.specs.declared.file_system.File.{File}
use Rattle.blob_fs.proofs.Fixed.{all_none, contents_same, contents_through, opened_after, sets_through, still_twice}
use Rattle.blob_fs.proofs.Syncing.{fixed_again, opened_again, reopens_after}
use Rattle.blob_fs.proofs.Named.{at_most_self, links_same, links_set, named_after}
use Rattle.blob_fs.proofs.Tracked.{freed_same, freed_set, tracked_after}
use Rattle.blob_fs.proofs.States.{keeps_changed, edits_twice}
use Rattle.blob_fs.proofs.Standing.{standing_lent}
use Rattle.blob_fs.proofs.file_system.FileSystem.drop_unsynced.Goals as goal

pub invariant_of-self : goal.invariant_of-self
invariant_of-self g c =
    let fs = c.args.self.now in
    record {
      opened = opened_after fs.store c.set_config.new.self fs.files c.get_mut.follows.lender-at-none (contents_same fs.files c.get_mut.follows.lender-at-none c.get_mut.follows.holds-at-none) c.set_config.ensures.contents.still fs.opened;
      named = named_after fs.store c.set_config.new.self fs.files c.get_mut.follows.lender-at-none c.set_config.ensures.contents.edits.names (links_same fs.files c.get_mut.follows.lender-at-none c.get_mut.follows.holds-at-none) fs.named;
      tracked = tracked_after fs.store c.set_config.new.self fs.files c.get_mut.follows.lender-at-none c.set_config.ensures.contents.edits.names c.set_config.ensures.contents.journal.told (freed_same fs.files c.get_mut.follows.lender-at-none c.get_mut.follows.holds-at-none) fs.tracked;
    }

pub invariant_of-self-in-Break-1 : goal.invariant_of-self-in-Break-1
invariant_of-self-in-Break-1 g c =
    let fs = c.args.self.now in
    let file = c.as_mut-file.result.now in
    let there = ap Some c.as_mut-file.ensures.value ∙ c.in-Some.ensures.value in
    standing_lent fs c.shown_bytes.new.store (c.get_mut.follows.lender file) c.args.inode file file there (c.get_mut.follows.holds file) (record { blob = refl; synced = refl; truncations = refl }) (at_most_self _) refl
    (still_twice fs.store c.set_config.new.self c.shown_bytes.new.store c.set_config.ensures.contents.still c.shown_bytes.ensures.still)
    (edits_twice c.set_config.ensures.contents.edits c.shown_bytes.ensures.keeps)

pub returns-in_err-shown : goal.returns-in_err-shown
returns-in_err-shown g c =
    let fs = c.args.self.now in
    let file = c.as_mut-file.result.now in
    keeps_changed fs _
    (contents_through fs.files (c.get_mut.follows.lender file) c.args.inode file file (ap Some c.as_mut-file.ensures.value ∙ c.in-Some.ensures.value) (c.get_mut.follows.holds file) (record { blob = refl; synced = refl; truncations = refl }))
    refl refl (edits_twice c.set_config.ensures.contents.edits c.shown_bytes.ensures.keeps)
    (still_twice fs.store c.set_config.new.self c.shown_bytes.new.store c.set_config.ensures.contents.still c.shown_bytes.ensures.still)

pub invariant_of-self-in-Break-branch-2 : goal.invariant_of-self-in-Break-branch-2
invariant_of-self-in-Break-branch-2 g c =
    let fs = c.args.self.now in
    let file = c.as_mut-file.result.now in
    let there = ap Some c.as_mut-file.ensures.value ∙ c.in-Some.ensures.value in
    let shown : KeepsOpen fs.store c.shown_bytes.new.store = still_twice fs.store c.set_config.new.self c.shown_bytes.new.store c.set_config.ensures.contents.still c.shown_bytes.ensures.still in
    standing_lent fs c.reopen_file.new.self (c.get_mut.follows.lender file) c.args.inode file file there (c.get_mut.follows.holds file) (record { blob = refl; synced = refl; truncations = refl }) (at_most_self _) refl
    (still_twice fs.store c.shown_bytes.new.store c.reopen_file.new.self shown c.reopen_file.ensures.still)
    (edits_twice (edits_twice c.set_config.ensures.contents.edits c.shown_bytes.ensures.keeps) c.reopen_file.ensures.keeps)

pub invariant_of-self-2 : goal.invariant_of-self-2
invariant_of-self-2 g c =
    let fs = c.args.self.now in
    let file = c.as_mut-file.result.now in
    let there = ap Some c.as_mut-file.ensures.value ∙ c.in-Some.ensures.value in
    let new : File = record file { blob = c.in_ok-file.field-0; shown = Some c.in_ok-shown.shown; truncations = c.clear.new.self } in
    let shown : KeepsOpen fs.store c.shown_bytes.new.store = still_twice fs.store c.set_config.new.self c.shown_bytes.new.store c.set_config.ensures.contents.still c.shown_bytes.ensures.still in
    let keeps : KeepsNamesAndEdits fs.store c.reopen_file.new.self = edits_twice (edits_twice c.set_config.ensures.contents.edits c.shown_bytes.ensures.keeps) c.reopen_file.ensures.keeps in
    record {
      opened = opened_again fs.store c.reopen_file.new.self fs.files (c.get_mut.follows.lender new) c.args.inode new
          (sets_through fs.files (c.get_mut.follows.lender new) c.args.inode file new there (c.get_mut.follows.holds new))
          (still_twice fs.store c.shown_bytes.new.store c.reopen_file.new.self shown c.reopen_file.ensures.still)
          (reopens_after fs.store c.shown_bytes.new.store c.reopen_file.new.self c.args.inode new.blob shown c.in_ok-file.ensures.reopened)
          fs.opened;
      named = named_after fs.store c.reopen_file.new.self fs.files (c.get_mut.follows.lender new) keeps.names
          (links_set fs.files (c.get_mut.follows.lender new) c.args.inode file new there
          (sets_through fs.files (c.get_mut.follows.lender new) c.args.inode file new there (c.get_mut.follows.holds new)) (at_most_self _)) fs.named;
      tracked = tracked_after fs.store c.reopen_file.new.self fs.files (c.get_mut.follows.lender new) keeps.names keeps.told (freed_set fs.files (c.get_mut.follows.lender new) c.args.inode file new there (sets_through fs.files (c.get_mut.follows.lender new) c.args.inode file new there (c.get_mut.follows.holds new)) refl) fs.tracked;
    }

pub returns : goal.returns
returns g c =
    let fs = c.args.self.now in
    let file = c.as_mut-file.result.now in
    let there = ap Some c.as_mut-file.ensures.value ∙ c.in-Some.ensures.value in
    let new : File = record file { blob = c.in_ok-file.field-0; shown = Some c.in_ok-shown.shown; truncations = c.clear.new.self } in
    let shown : KeepsOpen fs.store c.shown_bytes.new.store = still_twice fs.store c.set_config.new.self c.shown_bytes.new.store c.set_config.ensures.contents.still c.shown_bytes.ensures.still in
    record {
      names = c.reopen_file.ensures.keeps.names ∙ c.shown_bytes.ensures.keeps.names ∙ c.set_config.ensures.contents.edits.names;
      told = c.reopen_file.ensures.keeps.told ∙ c.shown_bytes.ensures.keeps.told ∙ c.set_config.ensures.contents.journal.told;
      fixed = fixed_again fs _ (omega arith) c.args.inode file new there
          (sets_through fs.files (c.get_mut.follows.lender new) c.args.inode file new there (c.get_mut.follows.holds new))
          (λ at s. record { below = s.below; uncut = subst (λ (ts : List Truncation). All (λ t. at < t.length) ts) (sym c.clear.ensures.items) (all_none (λ t. at < t.length)) })
          (still_twice fs.store c.shown_bytes.new.store c.reopen_file.new.self shown c.reopen_file.ensures.still)
          (reopens_after fs.store c.shown_bytes.new.store c.reopen_file.new.self c.args.inode new.blob shown c.in_ok-file.ensures.reopened)
          fs.opened;
      options = refl;
    }
