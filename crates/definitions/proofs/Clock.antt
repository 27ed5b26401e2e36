-- What the two calls without an arena answer, within the frame and past it. Assumes nothing.
use Prim.Native.Nat.{ℕ, ◌≤◌, ◌<◌}
use mathlib.Core.Path.{◌≡◌, refl}
use mathlib.Core.List.{[], ◌∷◌}
use borrow.Author.Tests.{lt-ltb, le-ltb}
use Rattle.definitions.specs.Clock.{told, frame_lines, frame_dots, first_dot, last_dot, line_of, line_of_dot, line_dots}

module _ (dot : ℕ) where
  pub of_dot : dot < frame_dots → told 0 (line_of dot ∷ []) ≡ line_of_dot dot
  unfolding line_of_dot
  of_dot h = rw (lt-ltb dot frame_dots h) refl

  pub no_dot : frame_dots ≤ dot → told 19 (0 ∷ []) ≡ line_of_dot dot
  unfolding line_of_dot
  no_dot h = rw (le-ltb dot frame_dots h) refl

module _ (line : ℕ) where
  pub dots_of : line < frame_lines → told 0 (first_dot line ∷ last_dot line ∷ []) ≡ line_dots line
  unfolding line_dots
  dots_of h = rw (lt-ltb line frame_lines h) refl

  pub no_line : frame_lines ≤ line → told 19 (0 ∷ 0 ∷ []) ≡ line_dots line
  unfolding line_dots
  no_line h = rw (le-ltb line frame_lines h) refl
