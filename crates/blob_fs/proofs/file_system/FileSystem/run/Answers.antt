use Rattle.std.proofs.Common.{◌≡◌, ◌+◌, ◌∷◌, ◌++◌, [], Bool, List, arith, get_or, refl, subst, sym, take}
use Rattle.std.proofs.lemmas.List.{take_all, take_more}
use Rattle.blob_fs.specs.declared.file_system.FileSystem.{FileSystem}
use Rattle.blob_fs.specs.declared.call.NumberCall.{NumberCall}
use Rattle.blob_fs.specs.declared.call.NumberCall.TheVariants.{Create}
use Rattle.blob_fs.specs.Calls.{DoesAll}
use Rattle.blob_fs.specs.Files.{told_of}
use Rattle.blob_fs.proofs.Calls.{always, does_more, grows_does}
use Rattle.blob_fs.proofs.Renaming.{nothing}
use Rattle.blob_fs.proofs.file_system.FileSystem.run.Goals as goal

pub loop-call-preserved : goal.loop-call-preserved
loop-call-preserved g c =
    let calls : List NumberCall = c.args.calls.now in
    let k = c.loop-call.call-index in
    let other : NumberCall = Create 0 (record { ref_ptr = (0, 0); now = [] }) in
    let item : NumberCall = get_or calls k other in
    let fs : FileSystem g.row.R.Denot = c.args.self.now in
    let before : FileSystem g.row.R.Denot = c.loop-call.self in
    let after : FileSystem g.row.R.Denot = c.call-ok.new.self in
    let i = c.loop-call.invariant in
    let ok = c.call-ok.result in
    let more : take (k + 1) calls ≡ take k calls ++ item ∷ [] = take_more calls k other c.loop-call-test.true in
    record {
      done = subst (λ (l : List NumberCall). DoesAll l c.push_reserved.new.self.items fs after) (sym {A = List NumberCall} more)
          (subst (λ (l : List Bool). DoesAll (take k calls ++ item ∷ []) l fs after) (sym {A = List Bool} c.push_reserved.ensures.items)
          (does_more (take k calls) c.loop-call.oks.items item ok fs before after i.done c.call-ok.ensures.does c.call-ok.ensures.fixed));
      grows = c.told.ensures.twice (told_of fs) (told_of before) (told_of after) i.grows (grows_does item ok before after c.call-ok.ensures.does);
      count = omega (arith, c.push_reserved.ensures.len, i.count);
      room = omega (arith, c.push_reserved.ensures.capacity, i.room);
    }

pub loop-call-init : goal.loop-call-init
loop-call-init g c = record {
  done = subst (λ (l : List Bool). DoesAll [] l c.args.self.now c.args.self.now) (sym c.in_ok-oks.ensures.items) refl;
  grows = c.told.ensures.same (told_of c.args.self.now);
  count = c.in_ok-oks.ensures.len;
  room = c.in_ok-oks.ensures.capacity;
}

pub returns-in_err-oks-clause-refused : goal.returns-in_err-oks-clause-refused
returns-in_err-oks-clause-refused g c = always _ (nothing c.args.self.now)

pub returns-in_err-oks-clause-grows : goal.returns-in_err-oks-clause-grows
returns-in_err-oks-clause-grows g c = c.told.ensures.same (told_of c.args.self.now)

pub returns-clause-done : goal.returns-clause-done
returns-clause-done g c =
    subst (λ (l : List NumberCall). DoesAll l c.loop-call.oks.items c.args.self.now c.loop-call.self) (take_all c.loop-call.call-index c.args.calls.now (omega (arith, c.loop-call-test.false))) c.loop-call.invariant.done
