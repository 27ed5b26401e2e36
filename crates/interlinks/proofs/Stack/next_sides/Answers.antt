-- `interlinks::Stack::next_sides` meets its contract: the slots that it looks at are those from 1 on and below m, in order. Assumes nothing.
use Rattle.std.proofs.Common.{◌≡◌, true, false, rules, tests}
use Rattle.std.proofs.lemmas.Iterator.{first_from_Range}
use Rattle.interlinks.specs.Stacks.{next_side}
use Rattle.interlinks.proofs.Stack.next_sides.Goals as goal

pub returns : goal.returns
returns c =
    first_from_Range _ _ _ _ (λ x. next_side c.args.self x ≡ false) (λ x. next_side c.args.self x ≡ true) c.find.ensures.ran
    (λ x q h. search (rules, tests))
    (λ x q h. search (rules, tests))
