use Rattle.std.proofs.Common.{◌≡◌, ◌<◌, ◌≤◌, ◌^◌, ◌++◌, ◌∷◌, [], ◌∙◌, Some, ap, arith, refl, inr}
use Rattle.blob_journal.specs.Fixed.{ChangesOpen}
use Rattle.blob_fs.specs.declared.file_system.File.{File}
use Rattle.blob_fs.specs.declared.truncation.Truncation.{Truncation}
use Rattle.blob_fs.proofs.Fixed.{contents_through, fixed_changed, opened_changed, sets_through, still_self, synced_more}
use Rattle.blob_fs.proofs.Fixing.{but_keeps}
use Rattle.blob_fs.proofs.Named.{at_most_self, named_through}
use Rattle.blob_fs.proofs.Syncing.{seen_below}
use Rattle.blob_fs.proofs.Tracked.{tracked_through}
use Rattle.blob_fs.proofs.States.{keeps_contents}
use Rattle.blob_fs.proofs.Standing.{standing_none, standing_through}
use Rattle.blob_fs.proofs.file_system.FileSystem.note_flush.Goals as goal

pub invariant_of-self : goal.invariant_of-self
invariant_of-self g c = standing_none c.args.self.now _ c.get_mut.follows.holds-at-none

pub invariant_of-self-then-is_err : goal.invariant_of-self-then-is_err
invariant_of-self-then-is_err g c =
    let fs = c.args.self.now in
    let was : File = c.as_mut-found.result.now in
    let there = ap Some c.as_mut-found.ensures.value ∙ c.in-Some.ensures.value in
    let now : File = record was { truncations = c.reserve.new.self } in
    standing_through fs (c.get_mut.follows.lender now) c.args.inode was now there (c.get_mut.follows.holds now) (record { blob = refl; synced = refl; truncations = c.reserve.ensures.items }) (at_most_self _) refl

pub returns-then-is_err-clause-keeps : goal.returns-then-is_err-clause-keeps
returns-then-is_err-clause-keeps g c =
    let fs = c.args.self.now in
    let was : File = c.as_mut-found.result.now in
    let there = ap Some c.as_mut-found.ensures.value ∙ c.in-Some.ensures.value in
    let now : File = record was { truncations = c.reserve.new.self } in
    keeps_contents fs _
    (contents_through fs.files (c.get_mut.follows.lender now) c.args.inode was now there (c.get_mut.follows.holds now) (record { blob = refl; synced = refl; truncations = c.reserve.ensures.items })) refl refl refl

pub invariant_of-self-2 : goal.invariant_of-self-2
invariant_of-self-2 g c =
    let fs = c.args.self.now in
    let was : File = c.as_mut-found.result.now in
    let there = ap Some c.as_mut-found.ensures.value ∙ c.in-Some.ensures.value in
    let now : File = record was { truncations = c.push_reserved.new.self } in
    let sets = sets_through fs.files (c.get_mut.follows.lender now) c.args.inode was now there (c.get_mut.follows.holds now) in
    let same : ChangesOpen (λ at. Unit) fs.store was.blob fs.store now.blob =
    record { still = λ inode h. h; fixed = λ at byte spared h. h; others = λ inode below h. but_keeps inode fs.store fs.store (still_self fs.store) } in
    record {
      opened = opened_changed (λ at. Unit) fs.store fs.store fs.files (c.get_mut.follows.lender now) c.args.inode was now (omega arith) there sets same fs.opened;
      named = named_through fs.store fs.files (c.get_mut.follows.lender now) c.args.inode was now there (c.get_mut.follows.holds now) (at_most_self _) fs.named;
      tracked = tracked_through fs.store fs.files (c.get_mut.follows.lender now) c.args.inode was now there (c.get_mut.follows.holds now) refl fs.tracked;
    }

pub returns-clause-keeps : goal.returns-clause-keeps
returns-clause-keeps g c =
    let fs = c.args.self.now in
    let was : File = c.as_mut-found.result.now in
    let there = ap Some c.as_mut-found.ensures.value ∙ c.in-Some.ensures.value in
    let now : File = record was { truncations = c.push_reserved.new.self } in
    let t : Truncation = record { edit = c.args.edit; length = c.size-length.result; next_write = c.next_write-next_write.result } in
    let noted : now.truncations.items ≡ was.truncations.items ++ t ∷ [] = c.push_reserved.ensures.items ∙ ap (λ l. l ++ t ∷ []) c.reserve.ensures.items in
    let sets = sets_through fs.files (c.get_mut.follows.lender now) c.args.inode was now there (c.get_mut.follows.holds now) in
    let same : ChangesOpen (λ at. Unit) fs.store was.blob fs.store now.blob =
    record { still = λ inode h. h; fixed = λ at byte spared h. h; others = λ inode below h. but_keeps inode fs.store fs.store (still_self fs.store) } in
    let more : fs.next_inode ≤ fs.next_inode = omega arith in
    let small : c.args.inode < 2 ^ 64 = omega arith in
    record {
      names = refl;
      told = refl;
      fixed =
          λ inode at byte below h.
          fixed_changed fs _ more (λ at. Unit) c.args.inode was now small there sets same fs.opened inode at byte below (inr tt)
          (λ s long is. synced_more at was now t refl noted (omega (arith, c.size-length.ensures, seen_below was.blob at byte is.seen)) long) h;
      options = refl;
    }
