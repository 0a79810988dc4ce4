use Rattle.std.proofs.Common.{◌≡◌, ◌∙◌, Some, sym, ap}
use Rattle.blob_model.specs.Directory.{place_made}
use Rattle.blob_header.specs.Header.{data_start}
use Rattle.blob_model.specs.Durable.{with_at}
use Rattle.blob_memory.specs.Partitions.{item_at}
use Rattle.blob_memory.specs.Contents.{durable_of, directory_of, item_of, logical_from, logical_of}
use Rattle.blob_memory.specs.declared.item.Held.{Held}
use Rattle.blob_memory.proofs.Directories.{durable_begun, with_twice, under_none}
use Rattle.blob_memory.proofs.contents.Contents.adopt.Goals as goal

pub returns-clause-durable : goal.returns-clause-durable
returns-clause-durable c =
    let begun : Held = record { number = c.args.self.now.next; layout = c.args.layout; version = c.args.version; bytes = c.into_logical-bytes.result } in
    let old = item_at c.args.self.now.partitions in
    let e : c.into_logical-bytes.result.items ≡ logical_of (data_start c.args.layout) (item_of c.args.self.now c.args.partition.now c.args.name.now) =
    c.into_logical-bytes.ensures ∙ ap (λ s. logical_from s c.exchange.new.item) c.data_offset.ensures ∙ sym (ap (logical_of (data_start c.args.layout)) c.exchange.ensures.old) in
    durable_begun c.args.self.now.first old (item_at c.exchange-2.new.self) c.args.partition.now c.args.name.now begun c.args.self.now.begun
    (under_none c.args.self.now c.args.layout c.args.version (old c.args.partition.now c.args.name.now) c.args.partition.now c.args.name.now c.requires.under)
    (with_twice old (item_at c.exchange.new.self) (item_at c.exchange-2.new.self) c.args.partition.now c.args.name.now _ _ c.exchange.ensures.new c.exchange-2.ensures.new)
    ∙ (λ i. with_at (durable_of c.args.self.now) (place_made (directory_of c.args.self.now) c.args.partition.now c.args.name.now c.args.layout) (Some (e i)))
