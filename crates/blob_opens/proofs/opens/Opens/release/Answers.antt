use Rattle.std.proofs.Common.{rules, ◌≡◌, sym, false, Some, nat_eq}
use Rattle.std.specs.Option.{option_eq}
use Rattle.blob_opens.specs.Opens.{names_of}
use Rattle.blob_opens.proofs.OpenNames.{closed_other}
use Rattle.blob_opens.proofs.opens.Opens.release.Goals as goal

pub returns : goal.returns
returns c =
    let r = c.args.registration in
    let other : option_eq nat_eq ((names_of c.args.self.now).registered r.partition r.name) (Some r.number) ≡ false = search rules in
    sym (closed_other (names_of c.args.self.now) r other)
