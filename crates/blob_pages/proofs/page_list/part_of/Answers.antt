use Rattle.std.proofs.Common.{◌≡◌, ℕ, List, ◌+◌, ◌<◌, ◌/◌, ◌%◌, ◌-◌, ◌∙◌, ap, length, take, drop, get_or, arith, length-take, length-drop}
use Rattle.std.proofs.lemmas.List.{get_or-take, get_or-drop}
use Rattle.blob_pages.specs.Paged.{page_size}
use Rattle.blob_pages.proofs.Paged.{part_is}
use Rattle.blob_pages.proofs.page_list.part_of.Goals as goal

pub slice_bounds-part-end : goal.slice_bounds-part-end
slice_bounds-part-end c =
    let there : c.args.at / page_size < length c.args.pages.now = omega (arith, c.requires.fits, c.requires.some) in
    omega (arith, ap length c.bytes-page.ensures, c.requires.full.each (c.args.at / page_size) there, c.on_page-n.ensures.page)

pub returns-clause-part : goal.returns-clause-part
returns-clause-part c =
    let at : ℕ = c.args.at in
    let k : ℕ = c.on_page-n.result in
    let start : ℕ = at % page_size in
    let there : at / page_size < length c.args.pages.now = omega (arith, c.requires.fits, c.requires.some) in
    let size : length c.bytes-page.result.now ≡ page_size = ap length c.bytes-page.ensures ∙ c.requires.full.each (at / page_size) there in
    let part : List ℕ = take (start + k - start) (drop start c.bytes-page.result.now) in
    let len : length part ≡ k = omega (arith, size, c.on_page-n.ensures.page, length-take (start + k - start) (drop start c.bytes-page.result.now), length-drop start c.bytes-page.result.now) in
    λ n h. part_is c.args.pages.now at n part there (omega (arith, len, c.on_page-n.ensures.page)) (omega (arith, len, h, c.on_page-n.ensures.within))
    (λ j l. get_or-take (start + k - start) (drop start c.bytes-page.result.now) j 0 (omega (arith, l, len)) ∙ get_or-drop start c.bytes-page.result.now j 0 ∙ ap (λ l. get_or l (start + j) 0) c.bytes-page.ensures)
