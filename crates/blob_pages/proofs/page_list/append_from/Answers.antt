use Rattle.std.proofs.Common.{rules, ◌≡◌, ◌++◌, length, arith}
use Rattle.blob_pages.specs.Paged.{bytes_in}
use Rattle.blob_pages.proofs.Paged.{append_more}
use Rattle.blob_pages.proofs.page_list.append_from.Goals as goal

pub loop-done-preserved : goal.loop-done-preserved
loop-done-preserved c =
    let added : c.extend_from_slice.new.self.items ≡ c.loop-done.out.items ++ c.part_of-part.result.now = search rules in
    record {
      within = omega arith;
      bytes = λ n h. append_more c.args.out.now.items c.loop-done.out.items c.extend_from_slice.new.self.items c.part_of-part.result.now (bytes_in c.args.pages.now n) c.args.at c.loop-done.done (length c.part_of-part.result.now)
          (c.loop-done.invariant.bytes n h) (c.part_of-part.ensures.part n (omega (arith, h))) added;
      capacity = search (rules, arith);
    }
