use Rattle.blob_fs.proofs.States.{rest_before, rest_twice}
use Rattle.blob_fs.proofs.file_system.FileSystem.commit.Goals as goal

pub returns-clause-committed : goal.returns-clause-committed
returns-clause-committed g c = record {
  between = c.settle_names.new.self;
  settled = c.settling.ensures.after _ _ c.args.self.now.store c.begin_call.new.self.store c.settle_names.new.self.store c.in_ok-begin_call.ensures.journal c.in_ok-settle_names.ensures.settled;
  begun = c.in_ok-begin_journal.ensures.told;
}

pub returns-clause-rest : goal.returns-clause-rest
returns-clause-rest g c = rest_before c.begin_call.ensures.keeps (rest_twice c.settle_names.ensures.rest c.begin_journal.ensures.rest)

pub returns-in_err-settle_names-clause-rest : goal.returns-in_err-settle_names-clause-rest
returns-in_err-settle_names-clause-rest g c = rest_before c.begin_call.ensures.keeps c.settle_names.ensures.rest

pub returns-in_err-begin_journal-clause-rest : goal.returns-in_err-begin_journal-clause-rest
returns-in_err-begin_journal-clause-rest g c = rest_before c.begin_call.ensures.keeps (rest_twice c.settle_names.ensures.rest c.begin_journal.ensures.rest)
