use Rattle.std.proofs.Common.{arith, ◌≡◌, ◌<◌, ◌+◌, ◌-◌, ◌++◌, ℕ, List, refl, subst, sym, ◌∙◌}
use Rattle.std.specs.Prelude.{String, Vec}
use Rattle.std.specs.Global.{Global}
use Rattle.blob_script.specs.Preambles.{words_of}
use Rattle.blob_script.specs.Settings.{no_rates}
use Rattle.blob_states.specs.CrashStates.{AreStatesOf}
use Rattle.blob_states.specs.Printed.{IsCrashOf, Point, point_of, point_text, total_line}
use Rattle.blob_states.specs.Recorded.{HaveEachFile, first_acts, first_images, names_of, state_after}
use Rattle.blob_states.proofs.Naming.{named}
use Rattle.blob_states.proofs.Printing.{last_printed, one_printed}
use Rattle.blob_states.proofs.print.StatesText.print_next.Goals as goal

pub returns-then-self-clause-goes_on : goal.returns-then-self-clause-goes_on
returns-then-self-clause-goes_on c =
    let s = c.args.self.now in
    let ended : s.calls - s.first ≡ s.end - s.first = omega (arith, s.begun, s.more, c.if-self.true) in
    (total_line s.total, c.in_ok-print_total.ensures, λ script at limit before p. last_printed script at limit s before p ended)

pub returns-clause-goes_on : goal.returns-clause-goes_on
returns-clause-goes_on c =
    let s = c.args.self.now in
    let here : s.calls < s.end = omega (arith, s.more, c.if-self.false) in
    let v = state_after s.run s.calls in
    let names = names_of s.names.items in
    let point : Point = point_of s.calls c.in_ok-found.found in (
      point_text point,
      c.in_ok-print_states.ensures,
      λ script at limit before p.
          let have : HaveEachFile names v.files = named names (first_images s.run) (words_of s.run.preamble) no_rates (first_acts s.run s.calls) (p.names here) in
          let left : AreStatesOf v c.in_ok-found.found = c.in_ok-found.ensures.left v (p.stands here)
          (subst (λ (items : List (String Global × Vec ℕ Global)). HaveEachFile (names_of items) v.files) (sym c.deref.ensures.value) have) in
          let crash : IsCrashOf s.run limit point = record {
            left = left;
            within = omega (arith, c.in_ok-found.ensures.within, p.limit_is);
            ended = λ more. c.in_ok-found.ensures.limit more ∙ p.limit_is;
          } in
          record {
            is = p.is;
            limit_is = p.limit_is;
            range = p.range;
            printed = one_printed s.run limit s.first (s.calls - s.first) _ before (before ++ point_text point) s.total c.in-Some.total point p.printed
                (omega (arith, s.begun)) (omega (arith, s.begun)) crash refl c.in-Some.ensures;
            stands = λ more. c.in_ok-go_on.ensures.stands more (p.stands here);
            names = λ more. c.in_ok-go_on.ensures.names more (p.names here);
          },
    )
