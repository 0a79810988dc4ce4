use Rattle.std.proofs.Common.{arith}
use Rattle.blob_memory.specs.Store.{directory, place}
use Rattle.blob_faulty.specs.Wrapper.{inner_of, inside}
use Rattle.blob_journal.proofs.Limits.{current_not_last}
use Rattle.blob_journal.proofs.journaled.Journaled.next_generation.Goals as goal

pub prove-unreachable-requires : goal.prove-unreachable-requires
prove-unreachable-requires g c =
    let self = c.args.self.now in
    let last = current_not_last (directory (inner_of self.store)) (place (inside self.journal.blob)) self.accepted self.current in
    let number = c.number_of-number.ensures in
    absurd (last (omega (arith, number, c.number_of-number.type_inv, c.if-prove.true)))

pub overflow_add-result : goal.overflow_add-result
overflow_add-result g c = omega (arith, c.args.self.now.numbered, c.number_of-number.ensures, c.if-prove.false)
