use Rattle.std.proofs.Common.{◌≡◌, ◌&&◌, List, ℕ, true, false, ap, ap₂, refl, sym, ◌∙◌, arith, subst}
use Rattle.std.specs.Prelude.{codes}
use Rattle.std.specs.Int.{w64, to_be_bytes, to_le_bytes}
use Rattle.std.specs.Str.{bytes_eq}
use Rattle.blob_model.specs.Directory.{current, is_current}
use Rattle.blob_model.specs.Places.{Place}
use Rattle.blob_memory.specs.Store.{directory, place}
use Rattle.blob_faulty.specs.Wrapper.{inner_of, inside}
use Rattle.blob_journal.proofs.Currents.{current_named, current_of_name, named_current}
use Rattle.blob_journal.proofs.Standing.{fixed_same}
use Rattle.blob_journal.specs.Blobs.{file_name}
use Rattle.blob_journal.specs.Incarnations.{KeepsOtherBlobs}
use Rattle.blob_journal.proofs.Blobs.{file_beside}
use Rattle.blob_journal.specs.Currents.{FindsNoMoreBeside}
use Rattle.blob_journal.proofs.Fixed.{keeps_beside}
use Rattle.blob_journal.proofs.Stores.{holds_after}
use Rattle.blob_journal.proofs.journaled.Journaled.remove_file.Goals as goal

pub returns-clause-gives : goal.returns-clause-gives
returns-clause-gives g c =
    let self = c.args.self.now in
    let name : List ℕ = to_be_bytes w64 self.journal.generation in
    λ before.
    let at : Place = before.is.place in
    let is = current_named (directory (inner_of self.store)) (codes "j") name at before.is.current in
    let other : (bytes_eq (codes "f") at.partition && bytes_eq c.to_le_bytes.result at.name) ≡ false =
    ap (λ (q : List ℕ). bytes_eq (codes "f") q && bytes_eq c.to_le_bytes.result at.name) is.0 in
    let there : is_current (directory (inner_of c.remove.new.store)) at ≡ true = c.remove.ensures.keeps.current at other
    (named_current (directory (inner_of self.store)) (codes "j") name at before.is.current) in
    record {
      journal = before.journal;
      is = record {
        place = at;
        current = ap₂ (λ (p n : List ℕ). current (directory (inner_of c.remove.new.store)) p n) (sym is.0) (sym is.1) ∙ current_of_name (directory (inner_of c.remove.new.store)) at there;
        fixed = fixed_same self.store c.remove.new.store at before.journal (c.remove.ensures.bytes at other) (c.remove.ensures.pending at other) before.is.fixed;
      };
      gives = before.gives;
    }

pub returns-clause-journal : goal.returns-clause-journal
returns-clause-journal g c =
    let self = c.args.self.now in
    let at : Place = place (inside self.journal.blob) in
    let other : (bytes_eq (codes "f") at.partition && bytes_eq c.to_le_bytes.result at.name) ≡ false =
    ap (λ (q : List ℕ). bytes_eq (codes "f") q && bytes_eq c.to_le_bytes.result at.name) self.partition in
    record {
      place = refl;
      durable = c.remove.ensures.bytes at other;
      pending = c.remove.ensures.pending at other;
      files = c.remove.ensures.keeps.files;
      unsettled = refl;
      told = refl;
    }

pub invariant_of-self : goal.invariant_of-self
invariant_of-self g c =
    let self = c.args.self.now in
    let new = c.remove.new.store in
    let at : Place = place (inside self.journal.blob) in
    let other : (bytes_eq (codes "f") at.partition && bytes_eq c.to_le_bytes.result at.name) ≡ false =
    ap (λ (q : List ℕ). bytes_eq (codes "f") q && bytes_eq c.to_le_bytes.result at.name) self.partition in
    let keeps = c.remove.ensures.keeps in
    holds_after self new (keeps.current at other self.current) keeps.next keeps.accepted (λ test k. keeps.left at test other k)

pub returns-clause-others : goal.returns-clause-others
returns-clause-others g c = λ other below apart.
    let before = c.args.self.now.store in
    let after = c.remove.new.store in
    let keeps : KeepsOtherBlobs (codes "f") (file_name c.args.inode) before after = subst (λ (n : List ℕ). KeepsOtherBlobs (codes "f") n before after) c.to_le_bytes.ensures c.remove.ensures.others in
    file_beside before after c.args.inode other (omega arith) below apart keeps

pub returns-clause-still : goal.returns-clause-still
returns-clause-still g c =
    let before = c.args.self.now.store in
    let after = c.remove.new.store in
    let keeps : KeepsOtherBlobs (codes "f") (file_name c.args.inode) before after = subst (λ (n : List ℕ). KeepsOtherBlobs (codes "f") n before after) c.to_le_bytes.ensures c.remove.ensures.others in
    let finds : FindsNoMoreBeside (codes "f") (file_name c.args.inode) before after = subst (λ (n : List ℕ). FindsNoMoreBeside (codes "f") n before after) c.to_le_bytes.ensures c.remove.ensures.keeps.left in
    keeps_beside _ _ c.args.inode (omega arith) keeps finds

pub returns-clause-keeps : goal.returns-clause-keeps
returns-clause-keeps g c = record { names = refl; told = refl; unsettled = refl; log = refl }
