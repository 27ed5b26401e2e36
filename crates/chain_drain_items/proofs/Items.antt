-- Items of a report as they are written, one after the other. Assumes nothing.
use Prim.Native.Nat.{ℕ, suc, ◌+◌, ◌≤◌}
use mathlib.Core.Path.{◌≡◌, ap, ◌∙◌}
use mathlib.Core.List.{List, ◌++◌}
use native.Mathlib.Omega.{arith}
use lib.ListN.{length, set, take, drop, length-append, length-drop}
use lib.Seq.{sets-eq, take_at, drop_at, length-take-le}
use Rattle.definitions.specs.Columns.{at}
use Rattle.definitions.specs.Arena.{Arena}
use Rattle.chain_drain_items.specs.Items.{item_words, overwritten}

-- five stores, one after the other, are one item
pub item_stores :
    (a : Arena) (s i g p n v : ℕ) (old : List ℕ) → g ≡ at a.generation s → p ≡ at a.prev s → n ≡ at a.next s → v ≡ at a.payload s → i + 5 ≤ length old
    → set (set (set (set (set old i s) (i + 1) g) (i + 2) p) (i + 3) n) (i + 4) v ≡ overwritten i (item_words a s) old
item_stores a s i g p n v old eg ep en ev room =
    let one : i + 1 ≡ suc i = omega arith in
    let two : i + 2 ≡ suc (suc i) = omega arith in
    let three : i + 3 ≡ suc (suc (suc i)) = omega arith in
    let four : i + 4 ≡ suc (suc (suc (suc i))) = omega arith in
    rw (eg, ep, en, ev, one, two, three, four) (sets-eq (item_words a s) old i room)

-- the words before the item's last, and those past it
module _ (i : ℕ) (ws old : List ℕ) (within : i ≤ length old) where
  front : length (take i old ++ ws) ≡ i + length ws
  front = length-append (take i old) ws ∙ ap (λ (n : ℕ). n + length ws) (length-take-le i old within)

  pub overwritten_front : take (i + length ws) (overwritten i ws old) ≡ take i old ++ ws
  overwritten_front = take_at (take i old ++ ws) (drop (i + length ws) old) (i + length ws) front

  pub overwritten_back : drop (i + length ws) (overwritten i ws old) ≡ drop (i + length ws) old
  overwritten_back = drop_at (take i old ++ ws) (drop (i + length ws) old) (i + length ws) front

  pub overwritten_length : i + length ws ≤ length old → length (overwritten i ws old) ≡ length old
  overwritten_length room = length-append (take i old ++ ws) (drop (i + length ws) old) ∙ omega (arith, front, length-drop (i + length ws) old)
