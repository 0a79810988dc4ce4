use Rattle.std.proofs.Common.{arith, rules, ◌≡◌, ◌≤◌, string_bytes}
use Rattle.blob_file_scripts.proofs.Exploring.{nothing_found, prints_found}
use Rattle.blob_file_scripts.proofs.explored.explore_files.Goals as goal

pub returns-then-limit-eq0 : goal.returns-then-limit-eq0
returns-then-limit-eq0 c =
    let script = c.args.script.now in
    let found = c.new-none.result in
    let none : found.leaves ≡ 0 = c.new-none.ensures.none.count in
    let first : found.leaves ≤ c.args.limit = omega (arith, none) in
    let all : found.leaves ≡ c.args.limit = omega (arith, none, c.if-limit-eq0.true) in
    prints_found script c.args.limit c.args.last found (string_bytes c.in_ok-print_explored.field-0)
    (nothing_found script c.args.last found c.new-none.ensures.none c.new-none.ensures.more) first (λ _. all) c.in_ok-print_explored.ensures

pub returns : goal.returns
returns c =
    let script = c.args.script.now in
    let ensured = c.in_ok-found.ensures in
    prints_found script c.args.limit c.args.last c.in_ok-found.found (string_bytes c.in_ok-print_explored-2.field-0)
    (ensured.found script c.in_ok-shared.ensures) ensured.within ensured.limit c.in_ok-print_explored-2.ensures
