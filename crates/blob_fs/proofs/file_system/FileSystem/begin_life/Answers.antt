use Rattle.std.proofs.Common.{◌≡◌, sym, subst, ◌∙◌, rules}
use Rattle.blob_directory.specs.declared.table.Table.{Table}
use Rattle.blob_directory.specs.Tables.{bound}
use Rattle.blob_journal.specs.Keeping.{table_in}
use Rattle.blob_fs.specs.Named.{AllNamed}
use Rattle.blob_fs.specs.Open.{AllOpen}
use Rattle.blob_fs.proofs.Fixing.{whole_after}
use Rattle.blob_fs.proofs.Tracked.{gives_told_after, tracked_new}
use Rattle.std.specs.Prelude.{Err}
use Rattle.blob_fs.specs.Errors.{StopsAtLimits}
use Rattle.blob_fs.specs.declared.error.FsError.TheVariants.{Store}
use Rattle.blob_fs.proofs.Standing.{standing_store}
use Rattle.blob_fs.proofs.file_system.FileSystem.begin_life.Goals as goal

pub returns-clause-gives : goal.returns-clause-gives
returns-clause-gives g c = λ r. c.remove_unnamed.ensures.gives (c.in_ok-directories.ensures.gives c.requires.fits r)

pub returns-clause-told : goal.returns-clause-told
returns-clause-told g c = gives_told_after c.remove_unnamed.ensures.keeps (c.in_ok-directories.ensures.told c.requires.fits)

pub returns-clause-kept : goal.returns-clause-kept
returns-clause-kept g c = λ inode file below at.
    c.blobs.ensures.twice c.args.self.now.store c.renew.new.self c.remove_unnamed.new.store inode (c.in_ok-directories.ensures.same inode) (c.remove_unnamed.ensures.kept inode file below at)

pub returns-clause-opened : goal.returns-clause-opened
returns-clause-opened g c = c.remove_unnamed.ensures.opened (λ inode file below at. c.renew.ensures.still.still inode file.blob (c.requires.opened inode file below at))

pub returns-clause-whole : goal.returns-clause-whole
returns-clause-whole g c = λ whole.
    let renewed = c.renew.new.self in
    let opened : AllOpen renewed c.args.files = λ inode file below at. c.renew.ensures.still.still inode file.blob (c.requires.opened inode file below at) in
    c.remove_unnamed.ensures.whole opened (whole_after c.args.self.now.store renewed c.args.files c.renew.ensures.still whole)

pub invariant_of-self : goal.invariant_of-self
invariant_of-self g c = standing_store c.args.self.now c.renew.new.self c.renew.ensures.still c.in_err-directories.ensures.refused

pub invariant_of-self-2 : goal.invariant_of-self-2
invariant_of-self-2 g c =
    let taken : table_in c.remove_unnamed.new.store ≡ c.args.tree.names = c.remove_unnamed.ensures.keeps.names ∙ c.in_ok-directories.ensures.done in
    let named : AllNamed (bound (table_in c.remove_unnamed.new.store)) c.args.files = subst (λ (t : Table). AllNamed (bound t) c.args.files) (sym taken) c.requires.named in
    record {
      opened = ∣ c.remove_unnamed.ensures.opened (λ inode file below at. c.renew.ensures.still.still inode file.blob (c.requires.opened inode file below at)) ∣₁;
      named = ∣ named ∣₁;
      tracked = ∣ tracked_new c.bindings.ensures.within_given c.remove_unnamed.new.store c.args.files
          (gives_told_after c.remove_unnamed.ensures.keeps (c.in_ok-directories.ensures.told c.requires.fits)) named c.requires.present ∣₁;
    }

pub returns-in_err-directories-clause-errors : goal.returns-in_err-directories-clause-errors
returns-in_err-directories-clause-errors g c = λ q.
    let said : c.from_residual.result ≡ Err (Store c.in_err-directories.field-0.0) = search rules in
    subst (StopsAtLimits c.renew.new.self) (sym said) (c.in_err-directories.ensures.errors q)
