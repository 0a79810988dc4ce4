use Rattle.std.proofs.Common.{◌≡◌, ◌<◌, ◌≤◌, ◌+◌, ◌^◌, ℕ, Some, ap, length, refl, sym, ◌∙◌, arith}
use Rattle.std.proofs.Math.Logic.{∥∥₁_elim}
use Rattle.std.specs.BTreeMap.{BTreeMap, get}
use Rattle.std.specs.Coded.{Coded-set, coded_list, coded_ℕ}
use Rattle.std.specs.Ordering.{nat_cmp}
use Rattle.blob_fs.specs.declared.file_system.File.{File}
use Rattle.blob_fs.specs.Bytes.{bytes_read}
use Rattle.blob_fs.specs.Files.{descriptor_number}
use Rattle.blob_fs.specs.Noted.{size_read}
use Rattle.blob_fs.proofs.Reading.{read_part, size_bytes}
use Rattle.blob_fs.proofs.States.{keeps_as, keeps_opened}
use Rattle.blob_fs.proofs.Standing.{standing_store}
use Rattle.blob_fs.proofs.file_system.FileSystem.read.Goals as goal

pub returns-in_default-clause-keeps : goal.returns-in_default-clause-keeps
returns-in_default-clause-keeps g c = keeps_as _ c.begin_call.ensures.keeps refl refl refl refl

pub returns-then-count-eq0-clause-keeps : goal.returns-then-count-eq0-clause-keeps
returns-then-count-eq0-clause-keeps g c = keeps_as _ c.begin_call.ensures.keeps refl refl refl refl

pub invariant_of-self-2 : goal.invariant_of-self-2
invariant_of-self-2 g c = standing_store c.begin_call.new.self c.read_into.new.store c.read_into.ensures.still c.read_into.ensures.keeps

pub returns-in_err-read_into-clause-keeps : goal.returns-in_err-read_into-clause-keeps
returns-in_err-read_into-clause-keeps g c = keeps_opened _ c.begin_call.ensures.keeps refl refl refl c.read_into.ensures.keeps c.read_into.ensures.still

pub returns-clause-keeps : goal.returns-clause-keeps
returns-clause-keeps g c = keeps_opened _ c.begin_call.ensures.keeps refl refl refl c.read_into.ensures.keeps c.read_into.ensures.still

pub returns-then-count-eq0-clause-read : goal.returns-then-count-eq0-clause-read
returns-then-count-eq0-clause-read g c =
    let begun = c.begin_call.new.self in
    let inode = c.in_ok-inode.inode in
    let was : File = c.as_ref-found.result.now in
    let there = sym (ap Some c.as_ref-found.ensures ∙ c.in-Some.ensures.value) in
    let small : inode < 2 ^ 64 = omega arith in
    let size : size_read was ≡ length (bytes_read was) = ∥∥₁_elim begun.opened (Coded-set coded_ℕ _ _) (λ each. size_bytes begun.store inode was (each inode was small there)) in
    record {
      inode = inode;
      was = was;
      is = record {
        opened = ap (λ (m : BTreeMap ℕ ℕ). get nat_cmp m (descriptor_number c.args.file)) (sym c.begin_call.ensures.files.opens) ∙ c.in_ok-inode.ensures;
        there = ap (λ (m : BTreeMap ℕ File). get nat_cmp m inode) (sym c.begin_call.ensures.files.files) ∙ there;
      };
      count = omega (arith, c.min-count.ensures, c.saturating_sub-left.ensures, c.size.ensures, size);
      same = refl;
    }

pub returns-clause-read : goal.returns-clause-read
returns-clause-read g c =
    let begun = c.begin_call.new.self in
    let inode = c.in_ok-inode.inode in
    let was : File = c.as_ref-found.result.now in
    let there = sym (ap Some c.as_ref-found.ensures ∙ c.in-Some.ensures.value) in
    let small : inode < 2 ^ 64 = omega arith in
    let size : size_read was ≡ length (bytes_read was) = ∥∥₁_elim begun.opened (Coded-set coded_ℕ _ _) (λ each. size_bytes begun.store inode was (each inode was small there)) in
    let n = c.min-count.result in
    let room : n ≤ length c.args.buf.now = omega (arith, c.min-count.ensures) in
    let within : c.args.offset + n ≤ length (bytes_read was) = omega (arith, c.min-count.ensures, c.saturating_sub-left.ensures, c.size.ensures, size) in
    record {
      inode = inode;
      was = was;
      is = record {
        opened = ap (λ (m : BTreeMap ℕ ℕ). get nat_cmp m (descriptor_number c.args.file)) (sym c.begin_call.ensures.files.opens) ∙ c.in_ok-inode.ensures;
        there = ap (λ (m : BTreeMap ℕ File). get nat_cmp m inode) (sym c.begin_call.ensures.files.files) ∙ there;
      };
      count = omega (arith, c.min-count.ensures, c.saturating_sub-left.ensures, c.size.ensures, size);
      same = ∥∥₁_elim begun.opened (Coded-set (coded_list coded_ℕ) _ _) (λ each.
          read_part (bytes_read was) c.args.buf.now c.read_into.new.buf c.args.offset n room within (c.in_ok-read_into.ensures.read inode (each inode was small there)));
    }
