-- `canonical_layout::lay_link` meets its contract. The link is in its place already, or the exchange in place brings it there: both are the definition's step
-- (LinkInPlace). The arena that the caller has makes it safe. Assumes nothing.
use mathlib.Core.Path.{sym, ◌∙◌}
use native.Mathlib.Omega.{arith}
use borrow.Author.Tests.{eqb-true, not-false}
use Rattle.canonical_layout.proofs.LinkInPlace.{place_small, place_in_next, place_in_left, both_in_reach, stays_laid, exchanged_laid}
use Rattle.canonical_layout.proofs.lay_link.Goals as goal
use Rattle.canonical_layout.proofs.lay_link.Goals.{then-ne, else-ne}

pub overflow_cast-i : goal.overflow_cast-i
overflow_cast-i c = omega (arith, place_small c.requires.3)

pub exchange-requires : goal.exchange-requires
exchange-requires c = both_in_reach c.requires.3

pub bounds-layout-laid : goal.bounds-layout-laid
bounds-layout-laid c =
    elim c.if-ne.branch [
      | then-ne w ↦ rw w.layout-is (place_in_left c.requires.3 w.exchange.ensures.exchanged)
      | else-ne w ↦ rw w.layout-is (place_in_next c.requires.3)
    ]

pub returns-clause-laid : goal.returns-clause-laid
returns-clause-laid c =
    elim c.if-ne.branch [
      | then-ne w ↦ rw w.layout-is (λ a l first chain. exchanged_laid chain w.exchange.ensures.exchanged)
      | else-ne w ↦ rw w.layout-is (λ a l first chain. stays_laid chain (omega (arith, eqb-true _ _ (not-false _ (sym c.ne.ensures ∙ w.if-ne.false)))))
    ]
