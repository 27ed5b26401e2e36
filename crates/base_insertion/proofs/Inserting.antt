-- Laws of insertion: what the code's stores leave is what the definitions say. Assumes nothing.
use Prim.Native.Nat.{ℕ, ◌-◌}
use mathlib.Core.List.{List}
use mathlib.Core.Path.{◌≡◌, refl}
use native.Mathlib.Omega.{arith}
use lib.ListN.{get_or, set}
use Rattle.definitions.proofs.Columns.{put_place}
use Rattle.definitions.specs.Arena.{Arena, arena}
use Rattle.definitions.specs.Columns.{put}
use Rattle.definitions.specs.Insert.{header_after, inserted}
use Rattle.base_insertion.specs.Insertion.{Insertable}

-- all columns written
pub all_written : {a : Arena} {t u v : ℕ} {ps ns h : List ℕ} (x : ℕ) → Insertable a t u v → ps ≡ put (put a.prev t u) v t → ns ≡ put (put a.next t v) u t → h ≡ header_after a
    → arena ps ns (set a.generation (t - 1) (get_or a.header 3 0)) (set a.payload (t - 1) x) h ≡ inserted a u v x
unfolding inserted
all_written {a} {t} {u} {v} x fit ep en eh =
    let some : t ≡ 0 → ⊥ = λ z. omega (arith, fit.some) in
    rw (put_place a.generation t (get_or a.header 3 0) some, put_place a.payload t x some, ep, en, eh, fit.slot) refl
