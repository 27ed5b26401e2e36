-- `chain_drain_items::too_short` meets its contract: a fifth of the room, rounded down, is less than a number of links exactly if the room is less than
-- five times as many. Assumes nothing.
use Prim.Native.Nat.{ℕ, ◌*◌, ◌/◌}
use mathlib.Core.Path.{◌≡◌, sym, ◌∙◌}
use native.Mathlib.Omega.{arith}
use lib.Dec.{ltb}
use borrow.Author.Tests.{lt-ltb, le-ltb, ltb-true, ltb-false}
use Rattle.definitions.proofs.Tests.{by_test}
use Rattle.chain_drain_items.proofs.too_short.Goals as goal

fifth-less : (room links : ℕ) → ltb (room / 5) links ≡ ltb room (5 * links)
fifth-less room links =
    by_test (ltb (room / 5) links)
    (λ e. e ∙ sym (lt-ltb room (5 * links) (omega (arith, ltb-true))))
    (λ e. e ∙ sym (le-ltb room (5 * links) (omega (arith, ltb-false))))

pub returns : goal.returns
returns c = c.too_few.ensures ∙ fifth-less c.args.room _
