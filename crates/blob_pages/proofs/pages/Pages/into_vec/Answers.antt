use Rattle.std.proofs.Common.{rules, ◌≡◌, ◌++◌, ◌∙◌, [], ap, take, arith}
use Rattle.std.proofs.lemmas.List.{take_all}
use Rattle.blob_pages.specs.Paged.{bytes_in}
use Rattle.blob_pages.proofs.Paged.{length-bytes_in}
use Rattle.blob_pages.proofs.pages.Pages.into_vec.Goals as goal

pub returns-clause-bytes : goal.returns-clause-bytes
returns-clause-bytes c =
    let none : c.clear.new.self.items ≡ [] = search rules in
    let ps = c.args.self.pages in
    let n = c.args.self.len in
    c.append_from.ensures.bytes n (omega arith)
    ∙ ap (λ l. l ++ take n (bytes_in ps n)) none
    ∙ take_all n (bytes_in ps n) (omega (arith, length-bytes_in ps n))
