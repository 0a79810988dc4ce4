use Rattle.std.proofs.Common.{[], ◌∷◌, ◌≡◌, ◌++◌, ◌∙◌, ap, length, true≢false, arith}
use Rattle.blob_pages.specs.Groups.{all_pages}
use Rattle.blob_pages.proofs.Appending.{adds_page}
use Rattle.blob_pages.proofs.Paged.{keeps_same}
use Rattle.blob_pages.proofs.Groups.{packed_push, pages_push}
use Rattle.blob_pages.proofs.table.add_group.Goals as goal

pub returns-clause-packed : goal.returns-clause-packed
returns-clause-packed c =
    let one : c.push.new.self.items ≡ c.args.page ∷ [] = c.in_ok-push.ensures.items ∙ ap (λ l. l ++ c.args.page ∷ []) c.new-pages.ensures.items in
    rw c.in_ok-push-2.ensures.items (packed_push c.args.groups.now.items c.requires.packed c.requires.room _ (omega (arith, ap length one)) (λ e. absurd (true≢false e)))

pub returns-clause-adds : goal.returns-clause-adds
returns-clause-adds c =
    let gs = c.args.groups.now.items in
    let one : c.push.new.self.items ≡ c.args.page ∷ [] = c.in_ok-push.ensures.items ∙ ap (λ l. l ++ c.args.page ∷ []) c.new-pages.ensures.items in
    let all : all_pages c.push-2.new.self.items ≡ all_pages gs ++ c.args.page ∷ [] = ap all_pages c.in_ok-push-2.ensures.items ∙ pages_push gs _ ∙ ap (λ l. all_pages gs ++ l) one in
    rw all (adds_page _ (all_pages gs) (all_pages gs) c.args.page (keeps_same (all_pages gs)) c.requires.full c.requires.owned)
