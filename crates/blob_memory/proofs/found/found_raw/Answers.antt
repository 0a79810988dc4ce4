use Rattle.std.proofs.Common.{◌≡◌, ◌∙◌, sym, ap, refl, Ok, Some, arith}
use Rattle.std.proofs.lemmas.List.{take_all}
use Rattle.std.specs.Range.{range_inclusive_start, range_inclusive_end}
use Rattle.blob_header.specs.HeaderLaws.{HasHeader}
use Rattle.blob_header.specs.Parse.{every_layout}
use Rattle.blob_header.specs.Resolve.{resolution}
use Rattle.blob_memory.proofs.Openings.{resolves_to, header_within, header_layout}
use Rattle.blob_memory.proofs.found.found_raw.Goals as goal

abbrev resolved : (c : goal.In-Some) → resolution c.args.raw.now (every_layout (range_inclusive_start c.args.versions.now).0 (range_inclusive_end c.args.versions.now).0) ≡ Ok (Some (c.in-Some.field-0-0, c.in-Some.version, c.in-Some.offset))
resolved c = resolves_to c.all-layouts.result c.args.versions.now c.all-layouts.ensures.first c.all-layouts.ensures.last c.args.partition.now c.args.name.now c.args.raw.now _
    (c.in_ok-version.ensures.answer c.args.raw.now refl (sym (take_all _ _ (omega arith)))) ∙ ap Ok c.in-Some.is

abbrev header : (c : goal.In-Some) → HasHeader c.args.raw.now (every_layout (range_inclusive_start c.args.versions.now).0 (range_inclusive_end c.args.versions.now).0) c.in-Some.field-0-0 c.in-Some.version.0 c.in-Some.offset
header c = c.resolved_has_header.ensures c.args.raw.now _ _ c.in-Some.version _ (λ i. omega (arith, c.type_inv.raw i)) (resolved c)

pub found_behind-requires : goal.found_behind-requires
found_behind-requires c = record {
  within = header_within _ _ _ _ _ (header c);
  start = header_layout _ _ _ _ _ _ refl (header c);
}
