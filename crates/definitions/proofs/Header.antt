-- A header of four words taken apart, so that reading and writing its words computes. Assumes nothing.
use Prim.Native.Nat.{ℕ}
use mathlib.Core.Path.{◌≡◌}
use mathlib.Core.List.{List, [], ◌∷◌}
use native.Mathlib.Omega.{arith}
use lib.ListN.{length}
use Rattle.definitions.specs.Arena.{header_words}

-- what holds of four words, whatever they are, holds of the header
pub four_words : (P : List ℕ → Type 0) (h : List ℕ) → length h ≡ header_words → ((n k r g : ℕ) → P (n ∷ k ∷ r ∷ g ∷ [])) → P h
four_words P [] e f = absurd (omega arith)
four_words P (n ∷ []) e f = absurd (omega arith)
four_words P (n ∷ k ∷ []) e f = absurd (omega arith)
four_words P (n ∷ k ∷ r ∷ []) e f = absurd (omega arith)
four_words P (n ∷ k ∷ r ∷ g ∷ []) e f = f n k r g
four_words P (n ∷ k ∷ r ∷ g ∷ x ∷ xs) e f = absurd (omega arith)
