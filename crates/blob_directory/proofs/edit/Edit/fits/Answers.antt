use Rattle.std.proofs.Common.{◌+◌, ◌∷◌, subst, sym}
use Rattle.std.proofs.lemmas.Bool.{leb-true}
use Rattle.blob_directory.specs.Names.{change_of, more_of}
use Rattle.blob_directory.specs.Records.{FitsRecord}
use Rattle.blob_directory.proofs.Records.{one_fits, two_fit}
use Rattle.blob_directory.proofs.edit.Edit.fits.Goals as goal

pub returns-in_default-second : goal.returns-in_default-second
returns-in_default-second c = λ _.
    let first = c.in-Some.ensures in
    subst (λ o. FitsRecord (change_of c.args.self.now.first ∷ more_of o)) (sym c.in_default-second.is) (one_fits _ _ first.fits first.size first.short)

pub returns : goal.returns
returns c = λ yes.
    let first = c.in-Some.ensures in
    let second = c.in-Some-size.ensures in
    subst (λ o. FitsRecord (change_of c.args.self.now.first ∷ more_of o)) (sym c.in-Some-second.is)
    (two_fit _ _ _ _ first.fits second.fits first.size second.size (leb-true (c.in-Some.first + c.in-Some-size.second) 1024 yes))
