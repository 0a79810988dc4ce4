use Rattle.std.proofs.Common.{◌≡◌, ◌≢◌, ℕ, ◌%◌, ◌≤◌, sym, ◌∙◌, subst, inl, inr, arith, refl, eq-eqb, ne_eqb}
use Rattle.std.proofs.lemmas.Bool.{and_from, and_parts, cases_eq, eqb-false, not-true}
use Rattle.sqlite_wal.specs.Reads.{AreClean}
use Rattle.sqlite_wal.specs.PageSize.{bytes_of}
use Rattle.sqlite_wal.specs.Recovery.{Image}
use Rattle.sqlite_wal.specs.Recovery as raw
use Rattle.sqlite_pool.specs.Stored.{reserved}
use Rattle.sqlite_pool.proofs.ProbeLemmas.{reserved_word}
use Rattle.sqlite.specs.Files.{image_of}
use Rattle.sqlite.proofs.FileLemmas.{probe_size, same_image}
use Rattle.sql_sessions.proofs.retries.is_plain.Goals as goal

pub returns-in-Ok-clause-plain : goal.returns-in-Ok-clause-plain
returns-in-Ok-clause-plain g c plain clean db held =
    let before = c.args.files.now in
    let mid = c.probe_page_size.new.files in
    let last = c.probe_first_page.new.files in
    let image = image_of g.D.Disk before in
    let parts = and_parts (g.D.Disk.is_clean last.log) (g.D.Disk.is_clean last.db) clean in
    let sure : AreClean g.D.Disk mid.log mid.db = and_from (g.D.Disk.is_clean mid.log) (g.D.Disk.is_clean mid.db) (c.probe_first_page.ensures.log.clean parts.0) (c.probe_first_page.ensures.db.clean parts.1) in
    let is = probe_size image c.in-Ok-Some.field-0 (c.in-Ok-Some.ensures.by_log sure) (c.in-Ok-Some.ensures.by_file sure) db held c.in-Ok-Some.size c.in-Ok-Some.field-0-is in
    let size = held.0 in
    let few : reserved size ≤ 8 = grind arith in
    let page = reserved_word size image held.2.pages held.2.found (omega (arith, held.1.0)) held.2.ours.file.sound in
    let same = same_image {old = before} {new = mid} c.probe_page_size.ensures.log c.probe_page_size.ensures.db in
    let word = (c.in-Ok.ensures.value clean held.2.found.stored page.0 (subst (λ (i : Image). raw.Recovers (bytes_of c.in-Ok-Some.size) i held.2.found.stored) (sym same) (subst (λ (n : ℕ). raw.Recovers n image held.2.found.stored) is held.2.found.found)) page.1 (page.2 ∙ is)).1 ∙ page.3 in
    let other : c.in-Ok.head.1 ≢ 138420256 = eqb-false c.in-Ok.head.1 138420256 (not-true _ plain) in
    elim (cases_eq (size % 16) 8) [
      | inl on ↦ let eight : reserved size ≡ 8 = rw (eq-eqb _ 8 on) refl in absurd (other (omega (arith, word, eight)))
      | inr off ↦ rw (ne_eqb (size % 16) 8 off) refl
    ]
