use Rattle.std.proofs.Common.{rules, ◌≡◌, ◌∙◌, List, max, ap, arith}
use Rattle.std.proofs.lemmas.Grind.{common_steps}
use Rattle.blob_model.specs.Places.{Place}
use Rattle.blob_pending.specs.Lists.{held_by}
use Rattle.blob_pending.specs.Replays.{most_zeros, most_zeros_of_all, unmarked, widest, widest_of_all}
use Rattle.blob_pending.specs.Views.{left_in}
use Rattle.blob_pending.specs.declared.entry.Entry.{Entry}
use Rattle.blob_faulty.specs.Ready.{IsReady}
use Rattle.blob_faulty.proofs.Replaying.{ready_more, held_more}
use Rattle.blob_faulty.proofs.crash.reserve_all.Goals as goal

pub loop-list-preserved : goal.loop-list-preserved
loop-list-preserved c =
    let is = c.args.lists.now in
    let i = c.loop-list.list-index in
    let x = c.list-item.result in
    let ready : IsReady c.reserve_crash.new.self (held_by (λ (o : Place). o) x) = first_of (search rules, grind (arith, common_steps)) in
    let room = c.replay_room-room in
    let same : left_in c.unmarked.result.now ≡ unmarked (left_in x.entries.items) = c.unmarked.ensures ∙ ap (λ (q : List Entry). unmarked (left_in q)) c.deref.ensures.value in
    let choices : c.max-choices.result ≡ max c.loop-list.choices room.result.choices = search rules in
    let zeros : c.max-zeros.result ≡ max c.loop-list.zeros room.result.zeros = search rules in
    let more = held_more is i x (omega arith) c.list-item.is in
    record {
      ready = ready_more c.loop-list.inner c.reserve_crash.new.self is i x (omega arith) c.list-item.is c.reserve_crash.ensures.kept.directory c.reserve_crash.ensures.kept.room c.loop-list.invariant.ready ready;
      wide = omega (arith, room.ensures.width, ap widest same, choices, ap widest_of_all more, c.loop-list.invariant.wide);
      zeros = omega (arith, room.ensures.zeros, ap most_zeros same, zeros, ap most_zeros_of_all more, c.loop-list.invariant.zeros);
      durable = c.reserve_crash.ensures.durable ∙ c.loop-list.invariant.durable;
      directory = c.reserve_crash.ensures.kept.directory ∙ c.loop-list.invariant.directory;
    }

pub returns-clause-ready : goal.returns-clause-ready
returns-clause-ready c = λ k d h. c.loop-list.invariant.ready k d (omega (arith, h, c.loop-list-test.false))
