use Rattle.std.proofs.Common.{rules, arith, ◌≡◌, Bool, false, not, if◌then◌else◌, Some, None, length, string_bytes, refl, ap}
use Rattle.blob_model.specs.Files.{all_needs}
use Rattle.blob_distinct.specs.Found.{states_in}
use Rattle.blob_states.specs.Recorded.{names_of}
use Rattle.blob_states.proofs.Visiting.{all_found, next_tried}
use Rattle.blob_states.proofs.states.crash_states.Goals as goal

pub returns-clause-left : goal.returns-clause-left
returns-clause-left c v stands have =
    let names = names_of c.args.names.now in
    let found = c.outcomes in
    let (t, D) = c.draws.ensures.crash (all_needs v.files.log) in
    record {
      names = names;
      have = have;
      left = all_found v names t (if found.is_complete then None else Some found.explorer) found.is_complete found.outcomes (states_in found.states) D (found.invariant.tried v stands t D)
          (λ is. ap (λ (b : Bool). if b then None else Some found.explorer) is);
    }

pub outcomes-preserved : goal.outcomes-preserved
outcomes-preserved c =
    let names = names_of c.args.names.now in
    let leaf = c.in_ok-leaf.leaf in
    let more = c.in_ok-is_complete.field-0 in
    let on : c.outcomes.is_complete ≡ false = search rules in
    let size : c.len-taken.result ≡ length leaf.words.items = search rules in
    record {
      most = omega arith;
      tried = λ v stands t D.
          next_tried v names t c.outcomes.is_complete (not more) c.outcomes.explorer c.advance.new.self more c.outcomes.outcomes c.len-taken.result (states_in c.outcomes.states) (states_in c.add.new.states)
          leaf.words.items (string_bytes leaf.lines) on refl D (c.outcomes.invariant.tried v stands t D) (c.in_ok-leaf.ensures.ok v stands) size c.in_ok-is_complete.ensures.leaves c.in_ok-add.ensures;
    }
