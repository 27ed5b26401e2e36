-- The check's verdict is 0 to 11, and what it answers before rule 11 is at most 10. Assumes nothing.
use Prim.Native.Nat.{ℕ, zero, suc, ◌+◌, ◌≤◌}
use mathlib.Core.Path.{◌≡◌}
use mathlib.Core.Bool.{Bool, true, false, cond}
use mathlib.Core.List.{List}
use native.Mathlib.Omega.{arith}
use lib.Dec.{lit≤}
use Rattle.definitions.specs.Columns.{at}
use Rattle.definitions.specs.Arena.{Arena, stack_length, link_count, root}
use Rattle.definitions.specs.Check.{freelist_walk, counts_of, verdict}
use Rattle.definitions.proofs.Shaped.{counts_verdict, interlinks_fine}

-- a test that refuses with x, or goes on
pub cond_at_most : (k : ℕ) (t : Bool) (x y : ℕ) → x ≤ k → y ≤ k → cond t x y ≤ k
cond_at_most k true x y p q = p
cond_at_most k false x y p q = q

walk_at_most_10 : (ns gs : List ℕ) (n left s visited : ℕ) → freelist_walk ns gs n left s visited ≤ 10
unfolding freelist_walk
walk_at_most_10 ns gs n zero s visited = lit≤ tt
walk_at_most_10 ns gs n (suc left) s visited = let rest = walk_at_most_10 ns gs n left (at ns s) (visited + 1) in search (cond_at_most, lit≤) depth 20

pub counts_at_most_10 : (ns gs : List ℕ) (n m s : ℕ) → counts_of ns gs n m s ≤ 10
unfolding counts_of
counts_at_most_10 ns gs n m s = search (cond_at_most, lit≤, walk_at_most_10) depth 20

-- no rule has a number above 11, and where rule 11 holds none above 10
pub verdict_most : (limit : ℕ) (a : Arena) → verdict limit a ≤ 11
unfolding verdict
verdict_most limit a = let counts : counts_verdict a ≤ 11 = omega (arith, counts_at_most_10 a.next a.generation (stack_length a) (link_count a) (root a)) in search (cond_at_most, lit≤) depth 20

pub fine_at_most_10 : (limit : ℕ) (a : Arena) → interlinks_fine a ≡ true → verdict limit a ≤ 10
unfolding verdict
fine_at_most_10 limit a fine = rw fine (search (cond_at_most, lit≤, counts_at_most_10) depth 20)
