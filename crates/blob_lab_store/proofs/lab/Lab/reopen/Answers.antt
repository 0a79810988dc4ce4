use Rattle.std.proofs.Common.{refl, sym, ap, ◌∙◌, subst}
use Rattle.blob_faulty.specs.Wrapper.{config_of}
use Rattle.blob_lab_store.specs.LabStands.{Wrapper, stream_of}
use Rattle.blob_faulty.specs.Keeps.{IsFor}
use Rattle.blob_lab_store.proofs.NamedCalls.{reopen_done}
use Rattle.blob_lab_store.proofs.lab.Lab.reopen.Goals as goal

pub returns : goal.returns
returns c =
    let was = c.replace-wrapper.ensures.value in
    reopen_done c.args.self.now _ refl c.end_all.ensures c.drop_all.ensures (c.rewrapped.ensures.config ∙ ap (λ (w : Wrapper). config_of w) was) (c.rewrapped.ensures.stream ∙ ap stream_of was)
    (λ f s. c.rewrapped.ensures.files f (subst (λ (w : Wrapper). IsFor w f) (sym was) s))
