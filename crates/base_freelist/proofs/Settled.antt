-- Laws of a column whose end is cleared: `settled n ws old` has ws at its front, 0 up to slot n, and the old words after it. Assumes nothing.
use Prim.Native.Nat.{ℕ, ◌+◌, ◌-◌, ◌≤◌}
use mathlib.Core.Path.{◌≡◌, refl}
use mathlib.Core.List.{List}
use native.Mathlib.Omega.{arith}
use lib.ListN.{length, take, drop, replicate, length-drop}
use Rattle.std.proofs.Common.{drop-drop, length-take}
use lib.Seq.{length-take-le}
use borrow.Rule.Slice.PartMut.{put_mid}
use Rattle.std.specs.List.{between}
use Rattle.definitions.specs.Columns.{settled}
use Rattle.definitions.specs.Arena.{Arena, arena}
use Rattle.base_freelist.specs.Popped.{popped, all_popped}

-- a column whose words past slot m, up to slot n, were filled with 0
pub filled : (m n : ℕ) (xs ys : List ℕ) → m ≤ n → n ≤ length xs → ys ≡ replicate (length (between m n xs)) 0 → put_mid m (n - m) xs ys ≡ popped m n xs
unfolding settled
filled m n xs ys h l e =
    let front : length (take m xs) ≡ m = length-take-le m xs (omega arith) in
    let part : length (between m n xs) ≡ n - m = simp (length-take, length-drop) (omega arith) in
    let rest : m + (n - m) ≡ n = omega arith in
    rw (e, part, front, drop-drop, rest) refl

-- an arena of which these words of every column were
pub all_filled :
    (a : Arena) (m n : ℕ) {ps ns gs vs : List ℕ}
    → (m ≤ n) × (n ≤ length a.prev) × (n ≤ length a.next) × (n ≤ length a.generation) × (n ≤ length a.payload)
    → ps ≡ replicate (length (between m n a.prev)) 0 → ns ≡ replicate (length (between m n a.next)) 0
    → gs ≡ replicate (length (between m n a.generation)) 0 → vs ≡ replicate (length (between m n a.payload)) 0
    → arena (put_mid m (n - m) a.prev ps) (put_mid m (n - m) a.next ns) (put_mid m (n - m) a.generation gs) (put_mid m (n - m) a.payload vs) a.header ≡ all_popped m n a
all_filled a m n {ps} {ns} {gs} {vs} r p q g v =
    rw (filled m n a.prev ps r.0 r.1 p, filled m n a.next ns r.0 r.2 q, filled m n a.generation gs r.0 r.3 g, filled m n a.payload vs r.0 r.4 v) refl

-- only the words past slot n are read of the old column
pub settled_over : (n : ℕ) (ws old other : List ℕ) → drop n old ≡ drop n other → settled n ws old ≡ settled n ws other
unfolding settled
settled_over n ws old other e = rw e refl
