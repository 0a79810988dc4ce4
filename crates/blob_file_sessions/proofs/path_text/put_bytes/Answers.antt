use Rattle.blob_sessions.proofs.Putting.{puts_one_more, overflows_at}
use Rattle.blob_file_sessions.specs.PathTokens.{byte_token}
use Rattle.blob_file_sessions.proofs.path_text.put_bytes.Goals as goal

pub loop-byte-preserved : goal.loop-byte-preserved
loop-byte-preserved c =
    puts_one_more byte_token c.args.path.now c.loop-byte.byte-index _ c.args.at c.args.into.now c.loop-byte.into c.put_byte.new.into c.loop-byte.end c.in-Some.next
    c.loop-byte-test.true c.loop-byte.invariant c.in-Some.ensures

pub returns-in_default : goal.returns-in_default
returns-in_default c =
    overflows_at byte_token c.args.path.now c.loop-byte.byte-index _ c.args.at c.args.into.now c.loop-byte.into c.loop-byte.end
    c.loop-byte-test.true c.loop-byte.invariant c.in_default.ensures
