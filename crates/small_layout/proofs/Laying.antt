-- The digits of a packed arena, slot by slot, and its header. Assumes nothing.
use Prim.Native.Nat.{ℕ, ◌+◌, ◌/◌}
use mathlib.Core.Path.{◌≡◌, refl, sym, ap, ◌∙◌}
use mathlib.Core.List.{List, [], ◌∷◌, ◌++◌}
use native.Mathlib.Numerals.{add-one}
use native.Mathlib.Omega.{arith}
use lib.ListN.{length, set, take, drop}
use Rattle.std.proofs.lemmas.List.{take_all}
use Rattle.std.proofs.lemmas.Grind.{common_steps}
use Rattle.definitions.specs.Arena.{header_words}
use Rattle.definitions.proofs.Header.{four_words}
use Rattle.definitions.specs.Columns.{written}
use Rattle.all_small.proofs.Packed.{digit, after, digits, length_digits}

-- one slot more
pub after_more : (rows i : ℕ) → after rows (i + 1) ≡ after rows i / 256
unfolding after
after_more rows i = rw add-one refl

pub digits_more : (weight rows i : ℕ) → digits weight rows (i + 1) ≡ digits weight rows i ++ digit (after rows i) weight ∷ []
unfolding digits
digits_more weight rows i = rw add-one refl

-- a header of four words, each written
pub header_laid : (h : List ℕ) (n k r g : ℕ) → length h ≡ header_words → set (set (set (set h 0 n) 1 k) 2 r) 3 g ≡ n ∷ k ∷ r ∷ g ∷ []
header_laid h n k r g e = four_words (λ (h : List ℕ). set (set (set (set h 0 n) 1 k) 2 r) 3 g ≡ n ∷ k ∷ r ∷ g ∷ []) h e (λ a b c d. refl)

-- the digits of all its slots at the front of a column
pub front_laid : (weight rows n i : ℕ) (front old : List ℕ) → take i front ≡ digits weight rows i → i ≡ n → length front ≡ n → front ++ drop n old ≡ written (digits weight rows n) old
unfolding written
front_laid weight rows n i front old e all size =
    rw (length_digits weight rows n) (ap (λ (ws : List ℕ). ws ++ drop n old) (sym (take_all i front (omega arith)) ∙ e ∙ ap (digits weight rows) all))

pub ruleset laying = (after_more, digits_more, front_laid, common_steps)
