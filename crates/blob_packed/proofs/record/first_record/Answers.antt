use Rattle.std.proofs.Common.{◌≡◌, List, ℕ, Bool, ◌∷◌, nat_eq, drop, ap, ap₂, ◌∙◌, sym, take, rules, ◌+◌}
use Rattle.blob_packed.specs.Numbers.{number_told}
use Rattle.blob_packed.specs.Records.{first_length, is_settled}
use Rattle.blob_packed.proofs.Scans.{behind_length, behind_number, behind_record}
use Rattle.blob_packed.proofs.record.first_record.Goals as goal

pub returns-clause-bytes : goal.returns-clause-bytes
returns-clause-bytes c =
    let bytes : List ℕ = c.args.bytes.now in
    let rest : List ℕ = c.in_ok-mark.rest.now in
    let more : List ℕ = c.in_ok-number.rest.now in
    let last : List ℕ = c.in_ok-size.rest.now in
    let mark : ℕ = c.in_ok-mark.mark.now in
    let whole : bytes ≡ mark ∷ rest = search rules in
    let middle : more ≡ drop 9 bytes = behind_number bytes rest more mark whole (search rules) in
    let end : last ≡ drop 17 bytes = behind_length bytes more last middle (search rules) in
    let size : c.in_ok-size.size ≡ first_length bytes = c.in_ok-size.ensures.number ∙ ap (λ (l : List ℕ). number_told l) middle in
    let settled : nat_eq mark 2 ≡ is_settled bytes = ap (λ (l : List ℕ). is_settled l) (sym whole) in
    ap₂ (λ (l : List ℕ) (b : Bool). (l, b))
    (c.split_at.ensures.front ∙ ap₂ (λ (n : ℕ) (l : List ℕ). take n l) size end) settled

pub returns-clause-rest : goal.returns-clause-rest
returns-clause-rest c =
    let bytes : List ℕ = c.args.bytes.now in
    let rest : List ℕ = c.in_ok-mark.rest.now in
    let more : List ℕ = c.in_ok-number.rest.now in
    let last : List ℕ = c.in_ok-size.rest.now in
    let whole : bytes ≡ c.in_ok-mark.mark.now ∷ rest = search rules in
    let middle : more ≡ drop 9 bytes = behind_number bytes rest more c.in_ok-mark.mark.now whole (search rules) in
    let end : last ≡ drop 17 bytes = behind_length bytes more last middle (search rules) in
    let size : c.in_ok-size.size ≡ first_length bytes = c.in_ok-size.ensures.number ∙ ap (λ (l : List ℕ). number_told l) middle in
    c.split_at.ensures.back ∙ behind_record bytes last c.in_ok-size.size end ∙ ap (λ (n : ℕ). drop (17 + n) bytes) size
