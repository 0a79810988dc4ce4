use Rattle.std.proofs.Common.{◌≤◌, ◌∙◌, arith, refl}
use Rattle.blob_fs.specs.declared.file_system.FileSystem.{FileSystem}
use Rattle.blob_fs.proofs.Fixed.{contents_self, fixed_after, fixed_twice, fixed_without, opened_store, opened_without}
use Rattle.blob_fs.proofs.Named.{named_without}
use Rattle.blob_fs.proofs.Standing.{standing_contents}
use Rattle.blob_fs.proofs.Tracked.{tracked_without}
use Rattle.blob_fs.proofs.file_system.FileSystem.remove_file.Goals as goal

pub returns-clause-journal : goal.returns-clause-journal
returns-clause-journal g c = c.settling.ensures.twice c.args.self.now.store c.set_config.new.self c.remove_file.new.self c.set_config.ensures.contents.journal c.remove_file.ensures.journal

pub invariant_of-self : goal.invariant_of-self
invariant_of-self g c = record {
  opened = opened_without c.set_config.new.self c.remove_file.new.self c.args.self.now.files c.remove.new.self c.args.inode c.remove.ensures.updates c.remove_file.ensures.still
      (opened_store c.args.self.now.store c.set_config.new.self c.args.self.now.files c.set_config.ensures.contents.still c.args.self.now.opened);
  named = named_without c.args.self.now.store c.remove_file.new.self c.args.self.now.files c.remove.new.self c.args.inode c.remove.ensures.updates
      (c.remove_file.ensures.keeps.names ∙ c.set_config.ensures.contents.edits.names) c.requires.unnamed c.args.self.now.named;
  tracked = tracked_without c.args.self.now.store c.remove_file.new.self c.args.self.now.files c.remove.new.self c.args.inode c.remove.ensures.updates
      (c.remove_file.ensures.keeps.names ∙ c.set_config.ensures.contents.edits.names) (c.remove_file.ensures.keeps.told ∙ c.set_config.ensures.contents.journal.told) c.requires.unfound c.args.self.now.tracked;
}

pub returns-clause-keeps : goal.returns-clause-keeps
returns-clause-keeps g c =
    let fs = c.args.self.now in
    let set = c.set_config.ensures in
    let stands = standing_contents fs c.set_config.new.self set.contents in
    let ready : FileSystem g.row.R.Denot = record fs { store = c.set_config.new.self; opened = stands.opened; named = stands.named; tracked = stands.tracked } in
    let more : fs.next_inode ≤ fs.next_inode = omega arith in
    record {
      names = c.remove_file.ensures.keeps.names ∙ set.contents.edits.names;
      told = c.remove_file.ensures.keeps.told ∙ set.contents.journal.told;
      fixed = fixed_twice fs ready _ (fixed_after fs ready more (contents_self fs.files) set.contents.still) (fixed_without ready _ more c.args.inode c.remove.ensures.updates c.remove_file.ensures.still ready.opened);
      options = refl;
    }
