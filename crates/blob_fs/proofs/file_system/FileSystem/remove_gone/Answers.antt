use Rattle.std.proofs.Common.{List, refl, subst, sym, take}
use Rattle.blob_directory.specs.Records.{Found}
use Rattle.blob_directory.specs.Settled.{AreSettled}
use Rattle.blob_fs.proofs.States.{keeps_as, keeps_self, keeps_twice}
use Rattle.blob_fs.proofs.file_system.FileSystem.remove_gone.Goals as goal

pub loop-i-init : goal.loop-i-init
loop-i-init g c = record {
  journal = record { place = refl; durable = refl; pending = refl; files = λ r. r; unsettled = refl; told = refl };
  keeps = keeps_self c.args.self.now;
}

pub loop-i-preserved : goal.loop-i-preserved
loop-i-preserved g c = record {
  journal = c.settling.ensures.twice c.args.self.now.store c.loop-i.self.store c.remove_settled.new.self.store c.loop-i.invariant.journal c.remove_settled.ensures.journal;
  keeps = keeps_twice c.loop-i.invariant.keeps c.remove_settled.ensures.keeps;
}

pub returns-clause-keeps : goal.returns-clause-keeps
returns-clause-keeps g c = keeps_as _ c.loop-i.invariant.keeps refl refl refl refl

pub remove_settled-requires : goal.remove_settled-requires
remove_settled-requires g c = record { settled = subst (λ (l : List Found). AreSettled (take c.settled_edits-settled.result l)) (sym c.loop-i.invariant.keeps.told) c.settled_edits-settled.ensures }
