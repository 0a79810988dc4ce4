use Rattle.std.proofs.Common.{ap, ◌∙◌}
use Rattle.blob_fs.specs.declared.file_system.Options.{Options}
use Rattle.blob_fs.proofs.States.{rest_before}
use Rattle.blob_fs.proofs.Settling.{directory_from, some_from, some_kept}
use Rattle.blob_fs.proofs.file_system.FileSystem.sync_directory_at.Goals as goal

pub returns-clause-settled : goal.returns-clause-settled
returns-clause-settled g c = λ honest.
    directory_from c.settling.ensures.after c.args.directory c.args.self.now c.begin_call.new.self c.settle_directory.new.self c.begin_call.ensures.keeps.names c.in_ok-begin_call.ensures.journal
    (ap (λ (o : Options). o.profile.settles) c.begin_call.ensures.files.options) c.in_ok-settle_directory.ensures.settled

pub returns-in_err-settle_directory-clause-rest : goal.returns-in_err-settle_directory-clause-rest
returns-in_err-settle_directory-clause-rest g c = rest_before c.begin_call.ensures.keeps c.settle_directory.ensures.rest

pub returns-clause-rest : goal.returns-clause-rest
returns-clause-rest g c = rest_before c.begin_call.ensures.keeps c.settle_directory.ensures.rest

pub returns-clause-some : goal.returns-clause-some
returns-clause-some g c = (
  c.settle_directory.ensures.some.0 ∙ c.begin_call.ensures.keeps.names,
  some_from c.args.self.now c.begin_call.new.self c.settle_directory.new.self c.begin_call.ensures.keeps.names c.begin_call.ensures.keeps.told
      (ap (λ (o : Options). o.profile.settles) c.begin_call.ensures.files.options) c.settle_directory.ensures.some.1,
)

pub returns-in_err-settle_directory-clause-some : goal.returns-in_err-settle_directory-clause-some
returns-in_err-settle_directory-clause-some g c = (
  c.settle_directory.ensures.some.0 ∙ c.begin_call.ensures.keeps.names,
  some_from c.args.self.now c.begin_call.new.self c.settle_directory.new.self c.begin_call.ensures.keeps.names c.begin_call.ensures.keeps.told
      (ap (λ (o : Options). o.profile.settles) c.begin_call.ensures.files.options) c.settle_directory.ensures.some.1,
)

pub returns-in_err-begin_call-clause-some : goal.returns-in_err-begin_call-clause-some
returns-in_err-begin_call-clause-some g c = (c.begin_call.ensures.keeps.names, some_kept c.args.self.now c.begin_call.new.self c.begin_call.ensures.keeps.told)

pub returns-then-contains_key-clause-some : goal.returns-then-contains_key-clause-some
returns-then-contains_key-clause-some g c = (c.begin_call.ensures.keeps.names, some_kept c.args.self.now c.begin_call.new.self c.begin_call.ensures.keeps.told)

pub returns-then-not-contains_key-clause-some : goal.returns-then-not-contains_key-clause-some
returns-then-not-contains_key-clause-some g c = (c.begin_call.ensures.keeps.names, some_kept c.args.self.now c.begin_call.new.self c.begin_call.ensures.keeps.told)

pub returns-then-eq-clause-some : goal.returns-then-eq-clause-some
returns-then-eq-clause-some g c = (c.begin_call.ensures.keeps.names, some_kept c.args.self.now c.begin_call.new.self c.begin_call.ensures.keeps.told)
