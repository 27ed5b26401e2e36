-- One item of a drain at most overflows, and it is the one that is named. After an overflow the generation is 2, and it rises by one with each removal:
-- it overflows again only after more removals than there are slots. Assumes nothing.
use Prim.Native.Nat.{ℕ, zero, suc, ◌+◌, ◌≤◌, ◌<◌}
use mathlib.Core.Path.{◌≡◌, refl, ◌∙◌}
use mathlib.Core.Bool.{true, false}
use mathlib.Core.List.{List, [], ◌∷◌}
use native.Mathlib.Omega.{arith}
use lib.ListN.{length, take}
use lib.Dec.{eqb}
use borrow.Author.Tests.{eqb-true, ne_eqb}
use Rattle.definitions.specs.Arena.{Arena, header_words, current}
use Rattle.definitions.specs.Edit.{next_generation, overflows}
use Rattle.definitions.specs.Remove.{removed, removed_all, overflow_item}
use Rattle.definitions.proofs.Tests.{by_test}
use Rattle.statements.specs.DrainsChain.{overflows_at}
use Rattle.drains.proofs.Removed.{header_left}

-- without an overflow the generation rises by one with each removal
rises : (top : ℕ) (a : Arena) → length a.header ≡ header_words → (ss : List ℕ) (k : ℕ) → k ≤ length ss → current a + k ≤ top → current (removed_all top a (take k ss)) ≡ current a + k
unfolding removed_all next_generation
rises top a four ss zero within small = omega arith
rises top a four [] (suc k) within small = absurd (omega arith)
rises top a four (s ∷ ss) (suc k) within small =
    let left = header_left top a s four in
    let up : current (removed top a s) ≡ current a + 1 = left.1 ∙ rw (ne_eqb (current a) top (λ e. omega arith)) refl in
    omega (arith, rises top (removed top a s) left.2 ss k (omega arith) (omega arith))

-- the item that overflows is named; the first of the list is item i
pub overflow_named :
    (top : ℕ) (a : Arena) → length a.header ≡ header_words → (ss : List ℕ) (k i : ℕ) → length ss < top → k < length ss → overflows_at top a ss k ≡ true → overflow_item top a ss i ≡ i + k
unfolding overflows_at overflow_item removed_all overflows next_generation
overflow_named top a four [] k i few within over = absurd (omega arith)
overflow_named top a four (s ∷ ss) zero i few within over = rw over (omega arith)
overflow_named top a four (s ∷ ss) (suc k) i few within over =
    let left = header_left top a s four in
    by_test (eqb (current a) top)
    (λ e.
    let two : current (removed top a s) ≡ 2 = left.1 ∙ rw e refl in
    let risen = rises top (removed top a s) left.2 ss k (omega arith) (omega arith) in
    absurd (omega (arith, eqb-true (current (removed_all top (removed top a s) (take k ss))) top over)))
    (λ e. rw e (overflow_named top (removed top a s) left.2 ss k (i + 1) (omega arith) (omega arith) over ∙ omega arith))

-- 0 is named where no item overflows
pub overflow_none : (top : ℕ) (a : Arena) (ss : List ℕ) (i : ℕ) → ((k : ℕ) → k < length ss → overflows_at top a ss k ≡ false) → overflow_item top a ss i ≡ 0
unfolding overflows_at overflow_item removed_all
overflow_none top a [] i none = refl
overflow_none top a (s ∷ ss) i none = rw (none 0 (omega arith)) (overflow_none top (removed top a s) ss (i + 1) (λ k h. none (suc k) (omega arith)))
