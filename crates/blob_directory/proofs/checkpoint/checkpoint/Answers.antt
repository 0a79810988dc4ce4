use Rattle.std.proofs.Common.{◌≡◌, ℕ, List, ◌∷◌, ◌+◌, ◌++◌, length, sym, ap, subst, ◌∙◌}
use Rattle.std.specs.Map.Iter.{deref_pair}
use Rattle.std.proofs.lemmas.Map.Iter.{rest_all, rest_more}
use Rattle.blob_packed.specs.Records.{FitFrom, packed_from}
use Rattle.blob_directory.specs.Checkpoints.{bindings_in, settled_records}
use Rattle.blob_directory.specs.Names.{Names}
use Rattle.blob_directory.specs.Tables.{bound}
use Rattle.blob_directory.specs.Trees.{has_directory}
use Rattle.blob_directory.proofs.Checkpoints.{AmongKeys, Listed, among_keys, written_all, written_more, written_none, written_packed, written_settled}
use Rattle.blob_directory.proofs.checkpoint.checkpoint.Goals as goal

pub loop-directory-init : goal.loop-directory-init
loop-directory-init c =
    let left : List (ℕ × ℕ) = c.into_iter-directory-iterator.result in
    let all : List (ℕ × ℕ) = c.args.tree.now.directories.entries in
    let same : left ≡ all = c.into_iter-directory-iterator.ensures.into_iter_gives.0 in
    written_none (bound c.args.tree.now.names) (has_directory c.args.tree.now) left c.new-bytes.result.items c.new-bytes.ensures.items
    (λ d h. subst (λ l. AmongKeys l d) (sym same) (among_keys all d h))

pub loop-directory-preserved : goal.loop-directory-preserved
loop-directory-preserved c =
    let names : Names = bound c.args.tree.now.names in
    let now : List (ℕ × ℕ) = c.loop-directory.directory-iterator in
    let left : List (ℕ × ℕ) = c.next.new.self in
    let at : ℕ × ℕ = (c.in-Some.directory.now, c.in-Some.field-0-1.now) in
    let more : now ≡ at ∷ left = rest_more deref_pair now left c.next.result (c.in-Some.directory, c.in-Some.field-0-1) c.in-Some.is c.next.ensures.steps in
    let ns : Listed = c.in_ok-names_in.field-0.items in
    let number : ℕ = c.loop-directory.number in
    let value : c.deref.result.now ≡ ns = c.deref.ensures.value in
    let made : c.put_names.new.bytes.items ≡ c.loop-directory.bytes.items ++ packed_from number (settled_records (bindings_in at.0 ns)) =
    c.in_ok-number.ensures.bytes ∙ ap (λ (l : Listed). c.loop-directory.bytes.items ++ packed_from number (settled_records (bindings_in at.0 l))) value in
    let count : c.in_ok-number.number ≡ number + length ns = c.in_ok-number.ensures.number ∙ ap (λ (l : Listed). number + length l) value in
    let room : FitFrom number (settled_records (bindings_in at.0 ns)) = subst (λ (l : Listed). FitFrom number (settled_records (bindings_in at.0 l))) value c.in_ok-number.ensures.fit in
    written_more names (has_directory c.args.tree.now) now left at c.loop-directory.bytes.items c.put_names.new.bytes.items number c.in_ok-number.number ns
    more made count room c.in_ok-names_in.ensures.told c.in_ok-names_in.ensures.all c.loop-directory.invariant

pub returns-clause-gives : goal.returns-clause-gives
returns-clause-gives c =
    let now : List (ℕ × ℕ) = c.loop-directory.directory-iterator in
    λ fits. written_all (bound c.args.tree.now.names) (has_directory c.args.tree.now) now c.loop-directory.bytes.items c.loop-directory.number
    (rest_all deref_pair now c.next.new.self c.next.result c.in-None.is c.next.ensures.steps) c.loop-directory.invariant fits.records fits.places

pub returns-clause-packed : goal.returns-clause-packed
returns-clause-packed c =
    written_packed (bound c.args.tree.now.names) (has_directory c.args.tree.now) c.loop-directory.directory-iterator c.loop-directory.bytes.items c.loop-directory.number c.loop-directory.invariant

pub returns-clause-settled : goal.returns-clause-settled
returns-clause-settled c =
    written_settled (bound c.args.tree.now.names) (has_directory c.args.tree.now) c.loop-directory.directory-iterator c.loop-directory.bytes.items c.loop-directory.number c.loop-directory.invariant
