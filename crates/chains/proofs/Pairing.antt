-- A one-to-one map of the numbers below m into those below n: m is at most n. Assumes nothing.
use Prim.Native.Nat.{ℕ, suc, ◌≤◌, ◌<◌}
use mathlib.Core.Path.{◌≡◌}
use mathlib.Core.List.{map}
use native.Mathlib.Omega.{arith}
use lib.ListN.{length-map}
use Rattle.definitions.specs.Columns.{slots_from}
use Rattle.definitions.proofs.Slots.{length_slots}
use Rattle.definitions.proofs.Count.{In, in_map, once_map, slots_once, in_slots, pigeonhole}

pub one_to_one : (f : ℕ → ℕ) (m n : ℕ) → ((k : ℕ) → k < m → f k < n) → ((j k : ℕ) → j < m → k < m → f j ≡ f k → j ≡ k) → m ≤ n
one_to_one f m n within once =
    omega (arith, length-map (slots_from 0 m) g, length_slots 0 m, pigeonhole (map g (slots_from 0 m)) n (once_map g (slots_from 0 m) (slots_once 0 m) apart) low)
  where
    g : ℕ → ℕ
    g k = suc (f k)

    below : (x : ℕ) → In x (slots_from 0 m) → x < m
    below x i = omega (arith, (in_slots x 0 m i).1)

    apart : (x y : ℕ) → In x (slots_from 0 m) → In y (slots_from 0 m) → suc (f x) ≡ suc (f y) → x ≡ y
    apart x y i j e = once x y (below x i) (below y j) (omega arith)

    low : (y : ℕ) → In y (map g (slots_from 0 m)) → (1 ≤ y) × (y ≤ n)
    low y i = let r = in_map g (slots_from 0 m) y i in (omega (arith, r.2), omega (arith, r.2, within r.0 (below r.0 r.1)))
