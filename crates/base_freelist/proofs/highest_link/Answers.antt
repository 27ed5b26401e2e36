-- `base_freelist::highest_link` meets its contract, by what `rposition` finds: the last of the words that is not 0. Assumes nothing.
use Rattle.std.proofs.Common.{rules, ◌≡◌, ℕ, ◌<◌, get_or, length}
use Rattle.base_freelist.proofs.Rising.{highest_found, highest_none}
use Rattle.base_freelist.proofs.highest_link.Goals as goal

pub returns-in-Some : goal.returns-in-Some
returns-in-Some c =
    let words = c.args.generation.now in
    let within : c.in-Some.i < length words = search rules in
    let some : get_or words c.in-Some.i 0 ≡ 0 → ⊥ = search rules in
    let last : (k : ℕ) → c.in-Some.i < k → k < length words → get_or words k 0 ≡ 0 = search rules in
    highest_found _ _ _ within some last

pub returns-in-None : goal.returns-in-None
returns-in-None c = search (rules, highest_none)
