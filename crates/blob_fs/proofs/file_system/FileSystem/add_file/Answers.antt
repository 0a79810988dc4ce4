use Rattle.std.proofs.Common.{sym, subst, Some, ap, ◌∙◌, arith}
use Rattle.blob_journal.specs.declared.store.FileBlob.{FileBlob}
use Rattle.blob_journal.specs.Fixed.{IsOpen}
use Rattle.blob_journal.specs.Keeping.{names_in}
use Rattle.blob_fs.proofs.Fixed.{opened_inserted}
use Rattle.blob_fs.proofs.Named.{most_more, named_inserted, links_there}
use Rattle.blob_fs.proofs.Tracked.{tracked_inserted}
use Rattle.std.proofs.lemmas.Bool.{cond-true}
use Rattle.std.specs.Ordering.{is_eq, nat_cmp}
use Rattle.blob_fs.specs.Named.{links_in}
use Rattle.blob_fs.proofs.Recovering.{key_self}
use Rattle.blob_fs.specs.declared.file_system.File.{File}
use Rattle.blob_fs.proofs.file_system.FileSystem.add_file.Goals as goal

pub invariant_of-self : goal.invariant_of-self
invariant_of-self g c =
    let fs = c.args.self.now in
    let file : File = c.in_ok-boxed.boxed in
    record {
      opened = opened_inserted c.insert.result fs.store fs.files c.insert.new.self c.args.inode file c.insert.ensures.updates c.insert.ensures.err
          (subst (λ (b : FileBlob). IsOpen fs.store c.args.inode b) (sym (ap (λ (f : File). f.blob) c.in_ok-boxed.ensures ∙ c.new-file.ensures.blob)) c.requires.opened) fs.opened;
      named = named_inserted c.insert.result fs.store fs.files c.insert.new.self c.args.inode file c.insert.ensures.updates c.insert.ensures.err
          (most_more (names_in fs.store) c.args.inode 0 _ (omega arith) c.requires.unnamed) fs.named;
      tracked = tracked_inserted c.insert.result fs.store fs.files c.insert.new.self c.args.inode file c.insert.ensures.updates c.insert.ensures.err
          (ap (λ (f : File). f.is_gone) c.in_ok-boxed.ensures ∙ c.new-file.ensures.there) fs.tracked;
    }

pub returns-clause-links : goal.returns-clause-links
returns-clause-links g c =
    let file : File = c.in_ok-boxed.boxed in
    let is = c.in_ok-insert.ensures.updates.0 c.args.inode ∙ cond-true (is_eq (nat_cmp c.args.inode c.args.inode)) (Some file) _ (key_self c.args.inode) in
    ap links_in is ∙ links_there file (ap (λ (f : File). f.is_gone) c.in_ok-boxed.ensures ∙ c.new-file.ensures.there)
    ∙ ap (λ (f : File). f.links) c.in_ok-boxed.ensures ∙ c.new-file.ensures.links
