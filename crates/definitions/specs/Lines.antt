-- The lines of the frame at their edges, as one table of dots and one of lines (REFERENCE, Frame clock).
use Rattle.std.specs.Prelude.{ℕ, ◌≡◌, refl, List, [], ◌∷◌, map}
use Rattle.definitions.specs.Clock.{Told, first_dot, last_dot, line_of, line_of_dot, line_dots}

-- what is asked for, and what is answered: the number and the further fields
pub record Row : Type 0 where
  pub asked : ℕ
  pub answer : List ℕ

abbrev row : ℕ → List ℕ → Row
row x ws = record { asked = x; answer = ws }

abbrev pub words_of : Told → List ℕ
words_of t = t.number ∷ t.fields

-- the line of a dot: dots at which lines begin and end, and two that the frame does not have
unfoldable pub dots : List Row
dots =
    row 0 (0 ∷ 0 ∷ []) ∷
    row 340 (0 ∷ 0 ∷ []) ∷
    row 341 (0 ∷ 1 ∷ []) ∷
    row 682 (0 ∷ 2 ∷ []) ∷
    row 44329 (0 ∷ 129 ∷ []) ∷
    row 44330 (0 ∷ 130 ∷ []) ∷
    row 44670 (0 ∷ 130 ∷ []) ∷
    row 89000 (0 ∷ 260 ∷ []) ∷
    row 89001 (0 ∷ 261 ∷ []) ∷
    row 89341 (0 ∷ 261 ∷ []) ∷
    row 89342 (19 ∷ 0 ∷ []) ∷
    row 4294967295 (19 ∷ 0 ∷ []) ∷
    []

-- the first and the last dot of a line: lines of the frame, and two that it does not have
unfoldable pub lines : List Row
lines =
    row 0 (0 ∷ 0 ∷ 340 ∷ []) ∷
    row 1 (0 ∷ 341 ∷ 681 ∷ []) ∷
    row 130 (0 ∷ 44330 ∷ 44670 ∷ []) ∷
    row 260 (0 ∷ 88660 ∷ 89000 ∷ []) ∷
    row 261 (0 ∷ 89001 ∷ 89341 ∷ []) ∷
    row 262 (19 ∷ 0 ∷ 0 ∷ []) ∷
    row 4294967295 (19 ∷ 0 ∷ 0 ∷ []) ∷
    []

pub line_cases : (map (λ r. words_of (line_of_dot r.asked)) dots ≡ map (λ r. r.answer) dots) × (map (λ r. words_of (line_dots r.asked)) lines ≡ map (λ r. r.answer) lines)
unfolding dots lines first_dot last_dot line_of line_of_dot line_dots
line_cases = (refl, refl)
