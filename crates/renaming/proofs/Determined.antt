-- A renaming leaves no choice: two arenas that the same where-from column renames a third one to have the same prev, next and payload words in all its slots. For a slot
-- is found again from where it came from, since every link of the old arena stands in the column once, and 0 came from 0. Assumes nothing.
use Prim.Native.Nat.{ℕ, zero, suc, ◌≤◌}
use mathlib.Core.Path.{◌≡◌, sym, ap, ◌∙◌}
use mathlib.Core.List.{List}
use native.Mathlib.Omega.{arith}
use Rattle.definitions.specs.Columns.{at}
use Rattle.definitions.specs.Arena.{Arena}
use Rattle.definitions.specs.Compress.{place}
use Rattle.statements.specs.Chains.{Renaming}
use Rattle.statements.specs.Demand3.{Agree}
use Rattle.renaming.proofs.Orders.{OrderOf}
use Rattle.renaming.proofs.Relocated.{place_zero, place_back}

module _ (a b c : Arena) (w : List ℕ) (n : ℕ) (r : Renaming a b w n) (q : Renaming a c w n) where
  order : OrderOf a w
  order = record { each = r.each; only = r.only }

  found_again : (s : ℕ) → s ≤ n → place w (at w s) ≡ s
  unfolding at
  found_again zero h = place_zero a w order
  found_again (suc s) h = place_back a w order (suc s) (omega arith) (omega (arith, r.size))

  same_slot : (s t : ℕ) → s ≤ n → t ≤ n → at w s ≡ at w t → s ≡ t
  same_slot s t h k e = sym (found_again s h) ∙ ap (place w) e ∙ found_again t k

  pub renaming_determines : Agree b c n
  renaming_determines = record {
    prev = λ s i j. let u = r.prev s i j in let v = q.prev s i j in same_slot _ _ u.0 v.0 (u.1 ∙ sym v.1);
    next = λ s i j. let u = r.next s i j in let v = q.next s i j in same_slot _ _ u.0 v.0 (u.1 ∙ sym v.1);
    payload = λ s i j. r.payload s i j ∙ sym (q.payload s i j);
  }
