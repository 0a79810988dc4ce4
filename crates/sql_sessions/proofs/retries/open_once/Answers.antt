use Rattle.std.proofs.Common.{IsTrue, sym, subst}
use Rattle.sqlite.specs.Files.{image_of}
use Rattle.sqlite.proofs.FileLemmas.{same_image}
use Rattle.sql_sessions.specs.Retries.{HoldsPlain, StandFor}
use Rattle.sql_sessions.proofs.Retrying.{both_clean, clean_left, left_holds, not_refused, read_stands, stand_then}
use Rattle.sql_sessions.proofs.retries.open_once.Goals as goal

pub returns-in-Ok-clause-found : goal.returns-in-Ok-clause-found
returns-in-Ok-clause-found g c clean =
    let read = c.is_plain.new.files in
    let stays = g.met.D.Disk.seen_may_stay in
    ∣ (image_of g.D.Disk read, (c.is_plain.ensures.log.crash _ (stays read.log), c.is_plain.ensures.db.crash _ (stays read.db)), (c.in-Ok.ensures.found clean).holds) ∣₁

pub returns-in-Ok-lose_left-clause-stand : goal.returns-in-Ok-lose_left-clause-stand
returns-in-Ok-lose_left-clause-stand g c never =
    let old = c.args.files in
    let read = c.is_plain.new.files in
    let new = c.in-Ok-lose_left.files in
    let stays = g.met.D.Disk.seen_may_stay in
    let plain = λ (is : IsTrue c.in-Some.plain). subst HoldsPlain (sym (same_image {old = old} {new = read} c.is_plain.ensures.log c.is_plain.ensures.db)) (c.in-Some.ensures.plain is (both_clean g.D.Disk read never)) in
    let stands : StandFor g.D.Disk read new = λ image may. ∣ left_holds g.D.Disk read c.in-Err.left c.in-Some.plain image never stays plain c.in-Ok-lose_left.ensures.may c.in-Err.ensures.unharmed (c.in-Ok-lose_left.ensures.crash image may) ∣₁ in
    stand_then g.D.Disk old read new (read_stands g.D.Disk old read c.is_plain.ensures.log c.is_plain.ensures.db) stands

pub returns-in-Err-lose_left-clause-refused : goal.returns-in-Err-lose_left-clause-refused
returns-in-Err-lose_left-clause-refused g c never is =
    let read = c.is_plain.new.files in
    let stays = g.met.D.Disk.seen_may_stay in
    let cause = c.in-Err.ensures.cause (clean_left g.D.Disk c.in-Err.left never) in
    ∣ (image_of g.D.Disk read, (c.is_plain.ensures.log.crash _ (stays read.log), c.is_plain.ensures.db.crash _ (stays read.db)), λ held. not_refused read (c.in-Err.error, c.in-Err.left) ∣ held ∣₁ cause is) ∣₁
