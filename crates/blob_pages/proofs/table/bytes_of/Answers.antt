use Rattle.std.proofs.Common.{[], ◌<◌, ◌%◌, ◌∙◌, ap, sym, length, get_or, map, arith}
use Rattle.blob_pages.specs.Paged.{page_bytes}
use Rattle.blob_pages.specs.Groups.{group_size, group_pages}
use Rattle.blob_pages.proofs.Paged.{table_at}
use Rattle.blob_pages.proofs.Groups.{group_there, page_there, at_group}
use Rattle.blob_pages.proofs.table.bytes_of.Goals as goal

pub bounds-groups-i : goal.bounds-groups-i
bounds-groups-i c = group_there c.args.groups.now c.requires.packed c.args.i c.requires.there

pub bounds-pages-i : goal.bounds-pages-i
bounds-pages-i c = omega (arith, page_there c.args.groups.now c.requires.packed c.args.i c.requires.there c.index-groups-i.result, ap length c.pages-pages.ensures, ap (λ x. length (group_pages x)) c.index-groups-i.is)

pub returns : goal.returns
returns c =
    let g = c.index-groups-i.result in
    let there : c.args.i % group_size < length c.pages-pages.result.now =
    omega (arith, page_there c.args.groups.now c.requires.packed c.args.i c.requires.there g, ap length c.pages-pages.ensures, ap (λ x. length (group_pages x)) c.index-groups-i.is) in
    c.bytes.ensures ∙ sym (table_at c.pages-pages.result.now (c.args.i % group_size) c.index-pages-i.result there c.index-pages-i.is)
    ∙ ap (λ l. get_or (map page_bytes l) (c.args.i % group_size) []) (c.pages-pages.ensures ∙ ap group_pages c.index-groups-i.is)
    ∙ sym (at_group c.args.groups.now c.requires.packed c.args.i c.requires.there page_bytes [] g)
