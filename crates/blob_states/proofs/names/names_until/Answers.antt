use Rattle.std.proofs.Common.{rules, arith, ◌≡◌, ◌<◌, length, get_or, take, string_bytes}
use Rattle.blob_states.specs.Recorded.{names_of}
use Rattle.blob_states.proofs.NamesSoFar.{calls_more, images_kept, images_more}
use Rattle.blob_states.proofs.names.names_until.Goals as goal

pub loop-image-preserved : goal.loop-image-preserved
loop-image-preserved c =
    let x = c.image-item.result in
    let all = c.args.run.now.preamble.images.items in
    let same : c.deref-image-items.result.now ≡ all = search rules in
    let first : c.deref.result.now ≡ string_bytes x.0 = search rules in
    let second : c.deref-in-loop-image.result.now ≡ x.1.items = search rules in
    images_more (names_of c.loop-image.names.items) (names_of c.add.new.names.items) all c.deref-image-items.result.now c.loop-image.image-index x c.deref.result.now c.deref-in-loop-image.result.now
    c.in_ok-add.ensures.kept same (omega arith) c.image-item.is first second c.in_ok-add.ensures.added c.loop-image.invariant

pub loop-call-preserved : goal.loop-call-preserved
loop-call-preserved c =
    let x = c.call-item.result in
    let calls = take c.args.count c.args.run.now.calls.items in
    let i = c.loop-call.call-index in
    let here : x ≡ get_or calls i x = search rules in
    let below : i < length calls = search (rules, arith) in
    record {
      images = images_kept (names_of c.loop-call.names.items) (names_of c.add_opened.new.names.items) c.in_ok-add_opened.ensures.kept _ c.loop-call.invariant.images;
      opened = calls_more (names_of c.loop-call.names.items) (names_of c.add_opened.new.names.items) calls i x c.in_ok-add_opened.ensures.kept below here c.in_ok-add_opened.ensures.opened c.loop-call.invariant.opened;
    }
