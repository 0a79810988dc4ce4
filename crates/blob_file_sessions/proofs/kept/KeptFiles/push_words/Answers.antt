use Rattle.std.proofs.Common.{◌≡◌, ap, ◌∙◌, inr, refl, subst, arith}
use Rattle.blob_fs.specs.Files.{generator_of, table_of, with_generator}
use Rattle.blob_fs.specs.Open.{AllOpen}
use Rattle.blob_journal.specs.Found.{IsKept}
use Rattle.blob_fs.specs.declared.file_system.FileSystem.{FileSystem}
use Rattle.blob_lab_model.specs.Scripted.{Left}
use Rattle.blob_file_sessions.specs.declared.kept.KeptFiles.{KeptFiles}
use Rattle.blob_file_sessions.proofs.kept.KeptFiles.push_words.Goals as goal

-- Two file systems that differ only in the proofs of their invariants are the same.
alike : (x : FileSystem Left) (k k' : ∥ IsKept x.store.store x.store.journal x.store.unsettled.edits.items ∥₁) (o : ∥ AllOpen (record (x.store) { kept = k }) x.files ∥₁) (o' : ∥ AllOpen (record (x.store) { kept = k' }) x.files ∥₁)
    → ◌≡◌ {A = FileSystem Left} (record x { store = record (x.store) { kept = k }; opened = o }) (record x { store = record (x.store) { kept = k' }; opened = o' })
alike x k k' o o' =
    subst (λ kk. (oo : ∥ AllOpen (record (x.store) { kept = kk }) x.files ∥₁)
    → ◌≡◌ {A = FileSystem Left} (record x { store = record (x.store) { kept = k }; opened = o }) (record x { store = record (x.store) { kept = kk }; opened = oo }))
    (squash₁ k k') (λ oo. ap (λ p. record x { store = record (x.store) { kept = k }; opened = p }) (squash₁ o oo)) o'

twice : (f : FileSystem Left) (a b : Left) → with_generator (with_generator f a) b ≡ with_generator f b
twice f a b =
    let x : FileSystem Left = with_generator f b in
    let y : FileSystem Left = with_generator (with_generator f a) b in
    alike x y.store.kept x.store.kept y.opened x.opened

again : (f : FileSystem Left) → with_generator f (generator_of f) ≡ f
again f =
    let y : FileSystem Left = with_generator f (generator_of f) in
    alike f y.store.kept f.store.kept y.opened f.opened

pub returns-in-Err : goal.returns-in-Err
returns-in-Err c =
    let k : KeptFiles = c.args.self.now in
    let before : FileSystem Left = c.args.self.now.fs in
    let after : FileSystem Left = c.replace_rng.new.self in
    let rng : Left = c.push_words-pushed.new.self in
    let words : rng ≡ generator_of before = c.in-Err.ensures.err ∙ c.replace_rng-rng.ensures.before in
    let same : after ≡ before =
    c.replace_rng.ensures.set ∙ ap (λ (f : FileSystem Left). with_generator f rng) c.replace_rng-rng.ensures.set ∙ twice before _ rng
    ∙ ap (λ (r : Left). with_generator before r) words ∙ again before in
    record {
      done = λ e. absurd (omega arith);
      seed = ap (λ (f : FileSystem Left). (generator_of f).1) same;
      names = ap (λ (f : FileSystem Left). table_of f) same;
      no_memory = λ e. ap (λ (f : FileSystem Left). record k { fs = f }) same;
      known = inr refl;
    }
