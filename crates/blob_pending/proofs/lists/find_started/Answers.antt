use Rattle.std.proofs.Common.{rules, ◌≡◌, Some, None, nat_eq, position}
use Rattle.indexmap.specs.IndexMap.{get}
use Rattle.blob_pending.proofs.Owning.{started_unmapped, started_by}
use Rattle.blob_pending.proofs.lists.find_started.Goals as goal

pub returns-in_default : goal.returns-in_default
returns-in_default g c =
    let none : get nat_eq c.args.owners.now c.args.marker ≡ None = search rules in
    started_unmapped g.S.Durable.place c.args.lists.now c.args.numbers.now.keys c.requires.indexed (get nat_eq c.args.owners.now) c.requires.owned c.args.marker none

pub returns : goal.returns
returns g c =
    let owned : get nat_eq c.args.owners.now c.args.marker ≡ Some c.in-Some.owner.now = search rules in
    let at : c.get_index_of.result ≡ position (nat_eq c.in-Some.owner.now) c.args.numbers.now.keys = search rules in
    started_by g.S.Durable.place c.args.lists.now c.args.numbers.now.keys c.requires.indexed (get nat_eq c.args.owners.now) c.requires.owned c.args.marker c.in-Some.owner.now c.get_index_of.result owned at
