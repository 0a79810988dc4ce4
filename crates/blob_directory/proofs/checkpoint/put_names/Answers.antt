use Rattle.std.proofs.Common.{◌≡◌, ℕ, ◌+◌, ◌<◌, ◌^◌, List, [], ◌∷◌, ◌++◌, length, true, Some, Vec, Global, sym, ap, subst, ◌∙◌, arith, take, rules}
use Rattle.std.proofs.lemmas.List.{length-take-le}
use Rattle.blob_packed.specs.Records.{FitFrom, Record, packed_from, record_bytes}
use Rattle.blob_directory.specs.declared.edit.Binding.{Binding}
use Rattle.blob_directory.specs.Checkpoints.{bindings_in, settled_records}
use Rattle.blob_directory.specs.Names.{Edit, edit_of, entry}
use Rattle.blob_directory.specs.Records.{edit_bytes, record_of}
use Rattle.blob_directory.proofs.Checkpoints.{fit_more, next_name, packed_more, records_long}
use Rattle.blob_directory.proofs.checkpoint.put_names.Goals as goal

pub loop-name-preserved : goal.loop-name-preserved
loop-name-preserved c =
    let directory = c.args.directory in
    let number : ℕ = c.args.number in
    let names : List (Vec ℕ Global × Binding) = c.args.names.now in
    let item : Vec ℕ Global × Binding = c.loop-name-item.result in
    let next : ℕ = c.loop-name.next in
    let before : List ℕ = c.args.bytes.now.items in
    let index : ℕ = c.loop-name.name-index in
    let low : index < length names = c.loop-name-test.true in
    let first : List Record = settled_records (bindings_in directory (take index names)) in
    let edit : Edit = (entry directory item.0.items, Some item.1) ∷ [] in
    let r : Record = record_of edit true in
    let key : c.in_ok-entry.entry.items ≡ entry directory item.0.items = c.in_ok-entry.ensures ∙ ap (λ n. entry directory n) c.deref.ensures.value in
    let is : edit_of c.one.result ≡ edit = c.one.ensures ∙ ap (λ (k : List ℕ). (k, Some item.1) ∷ []) key in
    let long : next ≡ number + length first =
    let some : length first ≡ length (take index names) = records_long directory (take index names) in
    let taken : length (take index names) ≡ index = length-take-le index names (omega (arith, low)) in
    omega (arith, c.loop-name.invariant.number, some, taken) in
    let changes : c.in_ok-changes.changes.items ≡ edit_bytes edit = c.in_ok-changes.ensures ∙ ap (λ (e : Edit). edit_bytes e) is in
    let told : c.deref-in-loop-name.result.now ≡ edit_bytes edit = c.deref-in-loop-name.ensures.value ∙ changes in
    let made : c.put_record.new.bytes.items ≡ c.loop-name.bytes.items ++ record_bytes next r =
    c.in_ok-put_record.ensures ∙ ap (λ (l : List ℕ). c.loop-name.bytes.items ++ record_bytes next (l, true)) told in
    let some : length c.in_ok-changes.changes.items < 2 ^ 64 = search rules in
    let short : length r.0 < 2 ^ 64 = subst (λ (l : List ℕ). length l < 2 ^ 64) changes some in
    let all : settled_records (bindings_in directory (take (index + 1) names)) ≡ first ++ r ∷ [] = next_name directory names index item low c.loop-name-item.is in
    record {
      bytes = packed_more number next before c.loop-name.bytes.items c.put_record.new.bytes.items first r long c.loop-name.invariant.bytes made
          ∙ ap (λ (l : List Record). before ++ packed_from number l) (sym all);
      number = omega arith;
      fit = subst (λ (l : List Record). FitFrom number l) (sym all) (fit_more number next first r long c.loop-name.invariant.fit (omega (arith, c.in-Some.ensures.0)) short);
    }
