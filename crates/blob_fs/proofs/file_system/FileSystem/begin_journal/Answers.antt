use Rattle.std.proofs.Common.{◌≤◌, arith, refl, sym}
use Rattle.blob_journal.specs.Keeping.{names_in}
use Rattle.blob_fs.proofs.Fixed.{contents_self, fixed_after, opened_store}
use Rattle.blob_fs.proofs.Named.{named_names}
use Rattle.blob_fs.proofs.Tracked.{tracked_begun}
use Rattle.blob_fs.proofs.file_system.FileSystem.begin_journal.Goals as goal

pub invariant_of-self : goal.invariant_of-self
invariant_of-self g c =
    let fs = c.args.self.now in
    let named = named_names (names_in fs.store) (names_in c.begin_anew.new.self) fs.files (λ e. sym (c.begin_anew.ensures.names e)) fs.named in
    record {
      opened = opened_store fs.store c.begin_anew.new.self fs.files c.begin_anew.ensures.still fs.opened;
      named = named;
      tracked = tracked_begun c.bindings.ensures.within_given c.begin_anew.result fs.store c.begin_anew.new.self fs.files c.begin_anew.ensures.names c.begin_anew.ensures.told c.begin_anew.ensures.untold named fs.tracked;
    }

pub returns-clause-rest : goal.returns-clause-rest
returns-clause-rest g c =
    let fs = c.args.self.now in
    let more : fs.next_inode ≤ fs.next_inode = omega arith in
    record { fixed = fixed_after fs _ more (contents_self fs.files) c.begin_anew.ensures.still; options = refl }
