-- The table of line starts as it is computed: the code's table is equal to it by computation, and entry k is the first dot of line k. Assumes nothing.
use Prim.Native.Nat.{ℕ, zero, suc, ◌+◌, ◌<◌}
use mathlib.Core.Path.{◌≡◌, ◌∙◌, ap}
use mathlib.Core.List.{List, [], ◌∷◌}
use native.Mathlib.Omega.{arith}
use lib.ListN.{get_or}
use Rattle.definitions.specs.Clock.{frame_lines, first_dot}

-- the first dots of so many lines from this one on
abbrev pub starts_from : ℕ → ℕ → List ℕ
starts_from line zero = []
starts_from line (suc k) = first_dot line ∷ starts_from (suc line) k

from_line : (line lines k : ℕ) → k < lines → get_or (starts_from line lines) k 0 ≡ first_dot (line + k)
from_line line zero k within = absurd (omega arith)
from_line line (suc lines) zero within = let e : line ≡ line + 0 = omega arith in ap first_dot e
from_line line (suc lines) (suc k) within =
    let e : suc line + k ≡ line + suc k = omega arith in
    from_line (suc line) lines k (omega arith) ∙ ap first_dot e

pub entry : (k : ℕ) → k < frame_lines → get_or (starts_from 0 frame_lines) k 0 ≡ first_dot k
entry k within =
    let e : 0 + k ≡ k = omega arith in
    from_line 0 frame_lines k within ∙ ap first_dot e
