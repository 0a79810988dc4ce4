use Rattle.std.proofs.Common.{◌∙◌, ◌++◌, ap, sym, take, ℕ, List}
use Rattle.blob_model.specs.Pending.{finish}
use Rattle.blob_pending.specs.Marks.{marks_of, left_marks}
use Rattle.blob_pending.proofs.Marking.{finished_front, finished_all}
use Rattle.blob_pending.proofs.marks.Marks.through.Goals as goal
use Rattle.blob_pending.proofs.marks.Marks.through.Goals.{in-Some, in-None}

pub returns : goal.returns
returns c q are =
    let marks = left_marks c.args.self.now in
    ap (λ (ms : List ℕ). take c.match-place_of.count ms ++ marks_of (finish c.args.number q)) c.left.ensures
    ∙ elim c.match-place_of.branch [
      | in-Some w ↦ ap (λ (n : ℕ). take n marks ++ marks_of (finish c.args.number q)) w.count-is ∙ finished_front c.args.number q marks w.in-Some.place (sym are) (sym w.in-Some.is ∙ c.place_of.ensures)
      | in-None w ↦ ap (λ (n : ℕ). take n marks ++ marks_of (finish c.args.number q)) w.count-is ∙ finished_all c.args.number q marks (sym are) (sym w.in-None.is ∙ c.place_of.ensures)
    ]
