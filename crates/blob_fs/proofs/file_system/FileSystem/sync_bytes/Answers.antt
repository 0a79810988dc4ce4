use Rattle.std.proofs.Common.{rules, refl, ◌<◌, ◌≤◌, ◌^◌, inr, arith, ◌∙◌, Some, ap, ◌≡◌, [], subst}
use Rattle.blob_fs.specs.declared.file_system.File.{File}
use Rattle.blob_faulty.specs.Wrapper.{size_of}
use Rattle.blob_fs.proofs.Fixed.{fixed_changed, sets_through}
use Rattle.blob_fs.proofs.Syncing.{set_here, fixes_synced, seen_below, seen_synced, synced_whole}
use Rattle.blob_fs.proofs.Named.{at_most_self}
use Rattle.blob_fs.proofs.States.{keeps_twice}
use Rattle.blob_fs.proofs.Standing.{standing_changed, standing_none}
use Rattle.blob_fs.proofs.file_system.FileSystem.sync_bytes.Goals as goal

pub invariant_of-self : goal.invariant_of-self
invariant_of-self g c = standing_none c.args.self.now c.get_mut.follows.lender-at-none c.get_mut.follows.holds-at-none

pub invariant_of-self-in-Err-1 : goal.invariant_of-self-in-Err-1
invariant_of-self-in-Err-1 g c =
    let fs = c.args.self.now in
    let was = c.as_mut-file.result.now in
    let there = ap Some c.as_mut-file.ensures.value ∙ c.in-Some.ensures.value in
    let new : File = record was { blob = c.sync_file.new.file } in
    standing_changed (λ at. Unit) fs c.sync_file.new.self (c.get_mut.follows.lender new) c.args.inode was new (omega arith) there (c.get_mut.follows.holds new) c.sync_file.ensures.still
    (at_most_self _) refl c.sync_file.ensures.uses.edits

pub returns-in-Err-clause-keeps : goal.returns-in-Err-clause-keeps
returns-in-Err-clause-keeps g c =
    let fs = c.args.self.now in
    let was = c.as_mut-file.result.now in
    let there = ap Some c.as_mut-file.ensures.value ∙ c.in-Some.ensures.value in
    let new : File = record was { blob = c.sync_file.new.file } in
    let more : fs.next_inode ≤ fs.next_inode = omega arith in
    let small : c.args.inode < 2 ^ 64 = omega arith in
    keeps_twice (record {
      names = c.sync_file.ensures.uses.edits.names;
      told = c.sync_file.ensures.uses.edits.told;
      fixed = λ inode at byte below h.
          fixed_changed fs _ more (λ at. Unit) c.args.inode was new small there
          (sets_through fs.files (c.get_mut.follows.lender new) c.args.inode was new there (c.get_mut.follows.holds new)) c.sync_file.ensures.still fs.opened
          inode at byte below (inr tt) (λ s long is. record { below = long.below; uncut = long.uncut }) h;
      options = refl;
    }) c.fail_sync.ensures

pub invariant_of-self-2 : goal.invariant_of-self-2
invariant_of-self-2 g c =
    let fs = c.args.self.now in
    let was = c.as_mut-file.result.now in
    let there = ap Some c.as_mut-file.ensures.value ∙ c.in-Some.ensures.value in
    let new : File = record was { blob = c.sync_file.new.file; synced = c.size-file.result; truncations = c.clear.new.self } in
    standing_changed (λ at. Unit) fs c.sync_file.new.self (c.get_mut.follows.lender new) c.args.inode was new (omega arith) there (c.get_mut.follows.holds new) c.sync_file.ensures.still
    (at_most_self _) refl c.sync_file.ensures.uses.edits

pub returns-clause-keeps : goal.returns-clause-keeps
returns-clause-keeps g c =
    let fs = c.args.self.now in
    let was = c.as_mut-file.result.now in
    let there = ap Some c.as_mut-file.ensures.value ∙ c.in-Some.ensures.value in
    let new : File = record was { blob = c.sync_file.new.file; synced = c.size-file.result; truncations = c.clear.new.self } in
    let more : fs.next_inode ≤ fs.next_inode = omega arith in
    let small : c.args.inode < 2 ^ 64 = omega arith in
    record {
      names = c.sync_file.ensures.uses.edits.names;
      told = c.sync_file.ensures.uses.edits.told;
      fixed = λ inode at byte below h.
          fixed_changed fs _ more (λ at. Unit) c.args.inode was new small there
          (sets_through fs.files (c.get_mut.follows.lender new) c.args.inode was new there (c.get_mut.follows.holds new)) c.sync_file.ensures.still fs.opened
          inode at byte below (inr tt) (λ s long is. synced_whole at new c.size-file.ensures c.clear.ensures.items (seen_below new.blob at byte is.seen)) h;
      options = refl;
    }

pub returns-clause-fixes : goal.returns-clause-fixes
returns-clause-fixes g c =
    let fs = c.args.self.now in
    let was = c.as_mut-file.result.now in
    let there = ap Some c.as_mut-file.ensures.value ∙ c.in-Some.ensures.value in
    let new : File = record was { blob = c.sync_file.new.file; synced = c.size-file.result; truncations = c.clear.new.self } in
    fixes_synced fs _ c.args.inode was new (first_of (search rules, omega arith)) there
    (sets_through fs.files (c.get_mut.follows.lender new) c.args.inode was new there (c.get_mut.follows.holds new))
    c.in_default-sync_file.ensures.fixes c.size-file.ensures c.clear.ensures.items fs.opened

pub returns-clause-seen : goal.returns-clause-seen
returns-clause-seen g c =
    let fs = c.args.self.now in
    let was = c.as_mut-file.result.now in
    let there = ap Some c.as_mut-file.ensures.value ∙ c.in-Some.ensures.value in
    let new : File = record was { blob = c.sync_file.new.file; synced = c.size-file.result; truncations = c.clear.new.self } in
    seen_synced fs _ c.args.inode was new there
    (sets_through fs.files (c.get_mut.follows.lender new) c.args.inode was new there (c.get_mut.follows.holds new))
    c.in_default-sync_file.ensures.fixes fs.opened

pub returns-clause-uncut : goal.returns-clause-uncut
returns-clause-uncut g c = λ now at.
    let fs = c.args.self.now in
    let was = c.as_mut-file.result.now in
    let there = ap Some c.as_mut-file.ensures.value ∙ c.in-Some.ensures.value in
    let new : File = record was { blob = c.sync_file.new.file; synced = c.size-file.result; truncations = c.clear.new.self } in
    let sets = sets_through fs.files (c.get_mut.follows.lender new) c.args.inode was new there (c.get_mut.follows.holds new) in
    let is : new ≡ now = set_here fs.files (c.get_mut.follows.lender new) c.args.inode new now sets at in
    subst (λ (f : File). (f.synced ≡ size_of f.blob.blob) × (f.truncations.items ≡ [])) is (c.size-file.ensures, c.clear.ensures.items)
