-- A small arena as one number, whose digits to the base 4 are its words: stack length, link count and root, and then, slot by slot, prev, next, generation and
-- payload. The current generation is always 2 and has no digit. Assumes nothing.
use Prim.Native.Nat.{ℕ, zero, suc, ◌/◌, ◌%◌, ◌<◌}
use mathlib.Core.Path.{◌≡◌, refl, ◌∙◌}
use mathlib.Core.List.{List, [], ◌∷◌, ◌++◌}
use native.Mathlib.Omega.{arith}
use lib.ListN.{length, length-append}
use Rattle.definitions.specs.Arena.{Arena, arena}

-- the digit of a weight: 1, 4, 16 or 64
unfoldable pub digit : ℕ → ℕ → ℕ
digit p weight = p / weight % 4

-- what is left of the digits of the slots when those of i slots, four of each, are taken off
unfoldable pub after : ℕ → ℕ → ℕ
after rows zero = rows
after rows (suc i) = after rows i / 256

-- the digits of a weight of the first k slots
unfoldable pub digits : ℕ → ℕ → ℕ → List ℕ
digits weight rows zero = []
digits weight rows (suc k) = digits weight rows k ++ (digit (after rows k) weight ∷ [])

unfoldable pub unpacked : ℕ → Arena
unpacked p =
    let n = digit p 1 in
    let rows = p / 64 in
    arena (digits 1 rows n) (digits 4 rows n) (digits 16 rows n) (digits 64 rows n) (n ∷ digit p 4 ∷ digit p 16 ∷ 2 ∷ [])

pub below_four : (p weight : ℕ) {v : ℕ} → v ≡ digit p weight → v < 4
unfolding digit
below_four p weight e = omega arith

pub length_digits : (weight rows k : ℕ) → length (digits weight rows k) ≡ k
unfolding digits
length_digits weight rows zero = refl
length_digits weight rows (suc k) = length-append (digits weight rows k) _ ∙ omega (arith, length_digits weight rows k)
