use Rattle.std.proofs.Common.{arith, rules, ◌≡◌, ℕ, List, [], length, string_bytes, subst}
use Rattle.std.proofs.lemmas.List.{nil_from_length}
use Rattle.blob_script.specs.Scripts.{lines_of}
use Rattle.blob_statuses.specs.declared.ran.TheConstants.{DONE}
use Rattle.blob_file_scripts.specs.Takes.{TakesLines}
use Rattle.blob_file_scripts.proofs.TakenLines.{all_taken}
use Rattle.blob_file_scripts.proofs.shared.Shared.run.Goals as goal

pub returns : goal.returns
returns c =
    let shared = c.args.self.now in
    let last = c.args.last in
    let fork = c.in_ok-files.files in
    let end = c.take_first.new.files in
    let text = string_bytes c.take_first.new.text in
    let short : length c.in_ok-rest.rest.now ≡ 0 = search (rules, arith) in
    let none : c.in_ok-rest.rest.now ≡ [] = nil_from_length c.in_ok-rest.rest.now short in
    let done : c.words_left-left.result.status ≡ DONE = search rules in
    record {
      fork = fork;
      end = end;
      forks = c.in_ok-files.ensures;
      others = subst (λ (t : List ℕ). TakesLines last (lines_of shared.rest.now) fork end t text) c.in_ok-text.ensures
          (all_taken last shared.rest.now c.in_ok-rest.rest.now fork end (string_bytes c.in_ok-text.text) text c.in_ok-rest.ensures none);
      ends = c.words_left-left.ensures.done done;
    }
