use Rattle.blob_memory.specs.Store.{place}
use Rattle.blob_memory.proofs.ByBytes.{on_err}
use Rattle.blob_memory.proofs.Kept.{lent, alters, stays}
use Rattle.blob_memory.proofs.blob.BlobBlobStorage.sync.Goals as goal

pub returns-in_err-replace-clause-err : goal.returns-in_err-replace-clause-err
returns-in_err-replace-clause-err c = on_err _ (stays (lent c.args.store.now.contents _ (place c.args.self.now) _ _ c.replace.new.bytes c.in-Some.is c.bytes_mut.ensures.value (c.bytes_mut.follows.holds c.replace.new.bytes)) c.in_err-replace.ensures.err)

pub returns-in_err-replace-clause-directory : goal.returns-in_err-replace-clause-directory
returns-in_err-replace-clause-directory c = (lent c.args.store.now.contents _ (place c.args.self.now) _ _ c.replace.new.bytes c.in-Some.is c.bytes_mut.ensures.value (c.bytes_mut.follows.holds c.replace.new.bytes)).now.directory

pub returns-clause-synced : goal.returns-clause-synced
returns-clause-synced c = alters (lent c.args.store.now.contents _ (place c.args.self.now) _ _ c.replace.new.bytes c.in-Some.is c.bytes_mut.ensures.value (c.bytes_mut.follows.holds c.replace.new.bytes)) (λ _. c.args.self.now.live.items) c.in_ok-replace.ensures.ok

pub returns-clause-directory : goal.returns-clause-directory
returns-clause-directory c = (lent c.args.store.now.contents _ (place c.args.self.now) _ _ c.replace.new.bytes c.in-Some.is c.bytes_mut.ensures.value (c.bytes_mut.follows.holds c.replace.new.bytes)).now.directory
