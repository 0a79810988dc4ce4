use Rattle.std.proofs.Common.{◌≡◌, ◌∷◌, ◌∙◌, ℕ, List, Some, ap, sym}
use Rattle.std.specs.Cmp.{nat_cmp_total}
use Rattle.std.specs.Map.Iter.{deref_pair}
use Rattle.std.proofs.lemmas.Map.Iter.{btree_map_turn, rest_all, rest_more}
use Rattle.blob_fs.specs.declared.file_system.File.{File}
use Rattle.blob_fs.specs.Bytes.{file_in}
use Rattle.blob_fs.proofs.WritePlaces.{inodes_all, inodes_more}
use Rattle.blob_fs.proofs.file_system.FileSystem.inodes_by_number.Goals as goal

pub loop-inode-preserved : goal.loop-inode-preserved
loop-inode-preserved g c =
    let fs = c.args.self.now in
    let k = c.in-Some.inode.now in
    let file = c.as_ref.result.now in
    let rest : List (ℕ × File) = c.next.new.self in
    let is : c.loop-inode.inode-iterator ≡ (k, file) ∷ rest = rest_more deref_pair c.loop-inode.inode-iterator rest c.next.result (c.in-Some.inode, c.in-Some.file) c.in-Some.is c.next.ensures.steps
    ∙ ap (λ (f : File). (k, f) ∷ rest) (sym c.as_ref.ensures) in
    let gives = c.into_iter-inode-iterator.ensures.into_iter_gives in
    let there : file_in fs k ≡ Some file =
    (btree_map_turn deref_pair c.loop-inode.yielded c.into_iter-inode-iterator.result c.loop-inode.inode-iterator rest c.next.result (c.in-Some.inode, c.in-Some.file)
    c.loop-inode.yielded_by c.in-Some.is c.next.ensures.steps nat_cmp_total fs.files gives.0 gives.5).1 ∙ ap Some (sym c.as_ref.ensures) in
    inodes_more fs c.loop-inode.inode-iterator rest c.loop-inode.inodes c.insert.new.self k file c.number_of_file.result is there c.number_of_file.ensures c.in_ok-insert.ensures.updates.0 c.loop-inode.invariant

pub returns : goal.returns
returns g c =
    inodes_all c.args.self.now c.loop-inode.inode-iterator c.loop-inode.inodes
    (rest_all deref_pair c.loop-inode.inode-iterator c.next.new.self c.next.result c.in-None.is c.next.ensures.steps) c.loop-inode.invariant
