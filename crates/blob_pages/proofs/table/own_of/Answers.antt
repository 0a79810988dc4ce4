use Rattle.std.proofs.Common.{◌/◌, ap, length, arith}
use Rattle.blob_pages.specs.Groups.{group_size, group_pages}
use Rattle.blob_pages.proofs.Paged.{table_length}
use Rattle.blob_pages.proofs.Groups.{group_there, page_there, keeps_in, owned_in, packed_same}
use Rattle.blob_pages.proofs.table.own_of.Goals as goal

pub index_mut-requires : goal.index_mut-requires
index_mut-requires c = omega (arith, group_there c.args.groups.now.items c.requires.packed c.args.i c.requires.there)

pub own_in-requires : goal.own_in-requires
own_in-requires c = omega (arith, page_there c.args.groups.now.items c.requires.packed c.args.i c.requires.there c.index_mut.result.now, ap (λ x. length (group_pages x)) c.index_mut.ensures.value)

pub returns-in_err-own_in-clause-packed : goal.returns-in_err-own_in-clause-packed
returns-in_err-own_in-clause-packed c =
    let gs = c.args.groups.now.items in
    packed_same gs c.requires.packed (c.args.i / group_size) c.index_mut.result.now c.own_in.new.group (group_there gs c.requires.packed c.args.i c.requires.there) c.index_mut.ensures.value
    (table_length (group_pages c.index_mut.result.now) (group_pages c.own_in.new.group) c.own_in.ensures.keeps.bytes) c.own_in.ensures.sound

pub returns-in_err-own_in-clause-keeps : goal.returns-in_err-own_in-clause-keeps
returns-in_err-own_in-clause-keeps c =
    let gs = c.args.groups.now.items in
    keeps_in gs c.requires.packed (c.args.i / group_size) c.index_mut.result.now c.own_in.new.group (group_there gs c.requires.packed c.args.i c.requires.there) c.index_mut.ensures.value c.own_in.ensures.keeps

pub returns-clause-packed : goal.returns-clause-packed
returns-clause-packed c =
    let gs = c.args.groups.now.items in
    packed_same gs c.requires.packed (c.args.i / group_size) c.index_mut.result.now c.own_in.new.group (group_there gs c.requires.packed c.args.i c.requires.there) c.index_mut.ensures.value
    (table_length (group_pages c.index_mut.result.now) (group_pages c.own_in.new.group) c.own_in.ensures.keeps.bytes) c.own_in.ensures.sound

pub returns-clause-keeps : goal.returns-clause-keeps
returns-clause-keeps c =
    let gs = c.args.groups.now.items in
    keeps_in gs c.requires.packed (c.args.i / group_size) c.index_mut.result.now c.own_in.new.group (group_there gs c.requires.packed c.args.i c.requires.there) c.index_mut.ensures.value c.own_in.ensures.keeps

pub returns-clause-owned : goal.returns-clause-owned
returns-clause-owned c = owned_in c.args.groups.now.items c.requires.packed c.args.i c.index_mut.result.now c.own_in.new.group c.requires.there c.index_mut.ensures.value c.own_in.ensures.keeps c.own_in.ensures.sound c.in_ok-own_in.ensures.owned
