use Rattle.std.proofs.Common.{ap, refl, sym}
use Rattle.blob_fs.specs.declared.file_system.Descriptor.{Descriptor}
use Rattle.blob_fs.specs.Acts.{Write}
use Rattle.blob_fs.proofs.Performing.{performs, writes}
use Rattle.blob_file_sessions.proofs.Calling.{is_descriptor}
use Rattle.blob_file_sessions.proofs.kept.KeptFiles.write.Goals as goal

pub returns-clause-writes : goal.returns-clause-writes
returns-clause-writes c =
    let fs = c.args.self.now.fs in
    let fs' = c.write-written.new.self in
    let w = c.write-written.ensures in
    record {
      numbers = c.last.result;
      makes = record {
        reply = c.done.result;
        does = performs _ _ _ _ fs fs' (ap (λ (f : Descriptor). Write f c.args.offset c.args.bytes.now) (sym (is_descriptor c.numbered.result c.args.descriptor c.numbered.ensures))) c.done.ensures w.options
            (writes c.write-written.result c.numbered.result c.args.offset c.args.bytes.now fs fs' w.names w.told w.shows w.recorded w.fixed);
        last = refl;
        is = c.last.ensures;
      };
      is = refl;
    }
