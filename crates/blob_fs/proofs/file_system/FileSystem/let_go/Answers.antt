use Rattle.std.proofs.Common.{Some, ap, arith, refl, sym, true, ◌∙◌}
use Rattle.blob_fs.specs.declared.file_system.File.{File}
use Rattle.blob_fs.specs.Files.{names_of}
use Rattle.blob_fs.specs.Named.{links_in}
use Rattle.blob_fs.proofs.Fixed.{contents_same, contents_through, contents_twice, opened_through}
use Rattle.blob_fs.proofs.Named.{at_most_self, named_through, no_links, none_left, none_named}
use Rattle.blob_fs.proofs.Tracked.{tracked_gone}
use Rattle.blob_fs.proofs.Standing.{standing_none, standing_through}
use Rattle.blob_fs.proofs.States.{keeps_contents}
use Rattle.blob_fs.proofs.file_system.FileSystem.let_go.Goals as goal

pub invariant_of-self : goal.invariant_of-self
invariant_of-self g c = standing_none c.args.self.now _ c.get_mut.follows.holds-at-none

pub invariant_of-self-then-file-gt0 : goal.invariant_of-self-then-file-gt0
invariant_of-self-then-file-gt0 g c =
    let there = ap Some c.as_mut-file.ensures.value ∙ c.in-Some.ensures.value in
    standing_through c.args.self.now (c.get_mut.follows.lender c.as_mut-file.result.now) c.args.inode c.as_mut-file.result.now c.as_mut-file.result.now there (c.get_mut.follows.holds _) (record { blob = refl; synced = refl; truncations = refl }) (at_most_self _) refl

pub invariant_of-self-then-file-gt0-2 : goal.invariant_of-self-then-file-gt0-2
invariant_of-self-then-file-gt0-2 g c =
    let there = ap Some c.as_mut-file.ensures.value ∙ c.in-Some.ensures.value in
    standing_through c.args.self.now (c.get_mut.follows.lender c.as_mut-file.result.now) c.args.inode c.as_mut-file.result.now c.as_mut-file.result.now there (c.get_mut.follows.holds _) (record { blob = refl; synced = refl; truncations = refl }) (at_most_self _) refl

pub invariant_of-self-then-file : goal.invariant_of-self-then-file
invariant_of-self-then-file g c =
    let there = ap Some c.as_mut-file.ensures.value ∙ c.in-Some.ensures.value in
    standing_through c.args.self.now (c.get_mut.follows.lender c.as_mut-file.result.now) c.args.inode c.as_mut-file.result.now c.as_mut-file.result.now there (c.get_mut.follows.holds _) (record { blob = refl; synced = refl; truncations = refl }) (at_most_self _) refl

pub invariant_of-self-2 : goal.invariant_of-self-2
invariant_of-self-2 g c =
    let there = ap Some c.as_mut-file.ensures.value ∙ c.in-Some.ensures.value in
    let gone : File = record c.as_mut-file.result.now { is_gone = true; gone_at = c.told_edits-edits.result } in
    record {
      opened = opened_through c.args.self.now.store c.args.self.now.files (c.get_mut.follows.lender gone) c.args.inode c.as_mut-file.result.now gone there (c.get_mut.follows.holds gone) (record { blob = refl; synced = refl; truncations = refl }) c.args.self.now.opened;
      named = named_through c.args.self.now.store c.args.self.now.files (c.get_mut.follows.lender gone) c.args.inode c.as_mut-file.result.now gone there (c.get_mut.follows.holds gone) (no_links c.as_mut-file.result.now (omega (arith, c.if-file-gt0.false))) c.args.self.now.named;
      tracked = tracked_gone c.bindings.ensures.freed c.args.self.now.store c.args.self.now.files (c.get_mut.follows.lender gone) c.args.inode c.as_mut-file.result.now gone there (c.get_mut.follows.holds gone)
          (ap Some c.told_edits-edits.ensures)
          (none_named (names_of c.args.self.now) c.args.self.now.files c.args.inode (ap links_in (sym there) ∙ none_left c.as_mut-file.result.now (omega (arith, c.if-file-gt0.false))) c.args.self.now.named) c.args.self.now.tracked;
    }

pub returns-clause-keeps : goal.returns-clause-keeps
returns-clause-keeps g c =
    let fs = c.args.self.now in
    let gone : File = record c.as_mut-file.result.now { is_gone = true; gone_at = c.told_edits-edits.result } in
    keeps_contents fs c.count.new.self
    (contents_twice fs.files (c.get_mut.follows.lender gone) c.count.new.self.files
    (contents_through fs.files (c.get_mut.follows.lender gone) c.args.inode c.as_mut-file.result.now gone (ap Some c.as_mut-file.ensures.value ∙ c.in-Some.ensures.value) (c.get_mut.follows.holds gone) (record { blob = refl; synced = refl; truncations = refl }))
    (contents_same (c.get_mut.follows.lender gone) c.count.new.self.files c.count.ensures.files.files))
    c.count.ensures.number c.count.ensures.files.options c.count.ensures.store
