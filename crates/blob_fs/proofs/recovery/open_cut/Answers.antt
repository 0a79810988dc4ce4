use Rattle.std.proofs.Common.{◌≡◌, Option, Some, ap, arith, length, rules, subst, sym, ◌∙◌}
use Rattle.std.specs.BTreeMap.{get}
use Rattle.std.specs.Ordering.{nat_cmp}
use Rattle.blob_journal.specs.Blobs.{HasDurable}
use Rattle.blob_fs.specs.declared.file_system.File.{File}
use Rattle.blob_fs.specs.Bytes.{found_after, left_after}
use Rattle.blob_fs.proofs.Fixing.{but_keeps, but_twice}
use Rattle.blob_header.specs.Refusals.{error_of}
use Rattle.blob_journal.specs.Limits.{IsLimit, FailsAtLimits}
use Rattle.std.specs.Prelude.{Err}
use Rattle.blob_fs.proofs.States.{stored_used}
use Rattle.blob_fs.proofs.recovery.open_cut.Goals as goal

pub returns-clause-left : goal.returns-clause-left
returns-clause-left g c =
    let o = c.in_ok-blob.ensures.opened in
    let inode = c.args.inode in
    let kept = c.args.kept.now in
    let loss = c.args.loss.now in
    let was : File = c.as_ref-was.result.now in
    let there : get nat_cmp c.args.old.now inode ≡ Some was = sym (ap Some c.as_ref-was.ensures ∙ c.in-Some.ensures.value) in
    let found = found_after kept loss inode (Some was) o.bytes in
    let truncated : HasDurable c.truncate_left.new.store inode c.truncate_left.new.blob found = c.in_ok-truncate_left.ensures.truncated o.bytes o.has in
    let left : HasDurable c.cut.new.store inode c.cut.new.blob (left_after kept loss inode (Some was) o.bytes) = c.in_ok-cut.ensures.cut inode found truncated in
    record {
      bytes = o.bytes;
      is = o.found;
      has = subst (λ (x : Option File). HasDurable c.cut.new.store inode c.cut.new.blob (left_after kept loss inode x o.bytes)) (sym there) left;
      size = c.size-found.ensures ∙ truncated.seen.size ∙ ap (λ (x : Option File). length (found_after kept loss inode x o.bytes)) (sym there);
    }

pub returns-clause-others : goal.returns-clause-others
returns-clause-others g c = λ other below apart.
    let o = c.in_ok-blob.ensures.opened in
    let inode = c.args.inode in
    let found = found_after c.args.kept.now c.args.loss.now inode (Some c.as_ref-was.result.now) o.bytes in
    let truncated : HasDurable c.truncate_left.new.store inode c.truncate_left.new.blob found = c.in_ok-truncate_left.ensures.truncated o.bytes o.has in
    c.blobs.ensures.twice c.args.store.now c.truncate_left.new.store c.cut.new.store other
    (c.blobs.ensures.twice c.args.store.now c.open_file.new.self c.truncate_left.new.store other (c.in_ok-blob.ensures.others other below apart)
    (c.in_ok-truncate_left.ensures.others inode o.bytes (omega arith) o.has other below apart))
    (c.in_ok-cut.ensures.others inode found (omega arith) truncated other below apart)

pub returns-clause-still : goal.returns-clause-still
returns-clause-still g c =
    let inode = c.args.inode in
    let j = c.args.store.now in
    let reopened = c.open_file.new.self in
    let truncated = c.truncate_left.new.store in
    let own = c.in_ok-blob.ensures.reopened.still in
    let one = c.in_ok-truncate_left.ensures.still in
    let first = but_twice inode j reopened truncated (but_keeps inode j reopened c.open_file.ensures.still) (one.others inode (omega arith) own) in
    but_twice inode j truncated c.cut.new.store first (c.in_ok-cut.ensures.still.others inode (omega arith) (one.still inode own))

pub returns-in_err-blob-clause-errors : goal.returns-in_err-blob-clause-errors
returns-in_err-blob-clause-errors g c = λ q sizes.
    let said : error_of c.from_residual.result ≡ error_of c.open_file.result = search rules in
    subst (IsLimit _) (sym said) (c.open_file.ensures.errors q)

pub returns-in_err-truncate_left-clause-errors : goal.returns-in_err-truncate_left-clause-errors
returns-in_err-truncate_left-clause-errors g c = λ q sizes.
    let said : c.from_residual-in_err-truncate_left.result ≡ Err c.in_err-truncate_left.field-0.0 = search rules in
    subst (FailsAtLimits c.truncate_left.new.store.store) (sym said) (c.in_err-truncate_left.ensures.errors (c.in_ok-blob.ensures.ready q))

pub returns-in_err-cut-clause-errors : goal.returns-in_err-cut-clause-errors
returns-in_err-cut-clause-errors g c = λ q sizes.
    let said : error_of c.from_residual-in_err-cut.result ≡ error_of c.cut.result = search rules in
    subst (IsLimit _) (sym said) (c.cut.ensures.errors (c.truncate_left.ensures.uses.ready (c.in_ok-blob.ensures.ready q)) (sizes c.args.inode c.as_ref-was.result.now (omega arith) (sym (ap Some c.as_ref-was.ensures ∙ c.in-Some.ensures.value))))

pub returns-clause-ready : goal.returns-clause-ready
returns-clause-ready g c = λ q. c.cut.ensures.uses.ready (c.truncate_left.ensures.uses.ready (c.in_ok-blob.ensures.ready q))

pub returns-in_err-blob-clause-keeps : goal.returns-in_err-blob-clause-keeps
returns-in_err-blob-clause-keeps g c = record { edits = c.open_file.ensures.keeps; files = c.open_file.ensures.files; handles = c.open_file.ensures.still.still }

pub returns-in_err-truncate_left-clause-keeps : goal.returns-in_err-truncate_left-clause-keeps
returns-in_err-truncate_left-clause-keeps g c =
    stored_used (record { edits = c.open_file.ensures.keeps; files = c.open_file.ensures.files; handles = c.open_file.ensures.still.still }) (c.truncate_left.ensures.uses.files c.in_ok-blob.ensures.given) c.truncate_left.ensures.uses

pub returns-in_err-cut-clause-keeps : goal.returns-in_err-cut-clause-keeps
returns-in_err-cut-clause-keeps g c =
    stored_used (stored_used (record { edits = c.open_file.ensures.keeps; files = c.open_file.ensures.files; handles = c.open_file.ensures.still.still }) (c.truncate_left.ensures.uses.files c.in_ok-blob.ensures.given) c.truncate_left.ensures.uses)
    (c.cut.ensures.uses.files (c.truncate_left.ensures.uses.given c.in_ok-blob.ensures.given)) c.cut.ensures.uses

pub returns-clause-keeps : goal.returns-clause-keeps
returns-clause-keeps g c =
    stored_used (stored_used (record { edits = c.open_file.ensures.keeps; files = c.open_file.ensures.files; handles = c.open_file.ensures.still.still }) (c.truncate_left.ensures.uses.files c.in_ok-blob.ensures.given) c.truncate_left.ensures.uses)
    (c.cut.ensures.uses.files (c.truncate_left.ensures.uses.given c.in_ok-blob.ensures.given)) c.cut.ensures.uses
