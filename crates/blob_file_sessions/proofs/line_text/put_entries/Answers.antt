use Rattle.blob_sessions.proofs.Putting.{puts_then}
use Rattle.blob_file_sessions.specs.CallLines.{entry_field}
use Rattle.blob_file_sessions.proofs.line_text.put_entries.Goals as goal

pub returns : goal.returns
returns c = puts_then c.args.at (entry_field c.args.asked.now.number c.args.name.now) (entry_field c.args.asked.now.first c.args.to.now) c.args.into.now c.put_entry.new.into c.put_entry-2.new.into c.in-Some.end c.put_entry-2.result c.in-Some.ensures c.put_entry-2.ensures
