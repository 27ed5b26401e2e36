-- Laws of `place`: where an old slot is, in a list of who is in slots 1, 2, and so on. Assumes nothing.
use Prim.Native.Nat.{ℕ, zero, suc, ◌≤◌}
use mathlib.Core.Path.{◌≡◌, refl, sym, ap, ◌∙◌}
use mathlib.Core.Logic.{◌≢◌}
use mathlib.Core.List.{List, [], ◌∷◌}
use native.Mathlib.Omega.{arith}
use native.Mathlib.Decide.{ℕ_discrete}
use lib.ListN.{length}
use borrow.Author.Tests.{eq-eqb, ne_eqb}
use Rattle.definitions.specs.Columns.{at, count}
use Rattle.definitions.specs.Compress.{place}
use Rattle.definitions.proofs.Slots.{count_there}
use Rattle.definitions.proofs.Count.{In, count_first, count_grows, not_in_nil}
use Rattle.definitions.proofs.Parts.{at_one, at_cons, in_at}

pub place_here : (x : ℕ) (w : List ℕ) → place (x ∷ w) x ≡ 1
unfolding place
place_here x w = rw (eq-eqb x x refl)

pub place_later : (x : ℕ) (w : List ℕ) (o : ℕ) → x ≢ o → 1 ≤ place w o → place (x ∷ w) o ≡ suc (place w o)
unfolding place
place_later x w o d h = rw (ne_eqb x o d, ne_eqb (place w o) 0 (λ z. omega (arith, h, z)))

pub place_nowhere : (x : ℕ) (w : List ℕ) (o : ℕ) → x ≢ o → place w o ≡ 0 → place (x ∷ w) o ≡ 0
unfolding place
place_nowhere x w o d h = rw (ne_eqb x o d, eq-eqb (place w o) 0 h)

-- who is in no slot has place 0
pub place_none : (w : List ℕ) (o : ℕ) → count o w ≡ 0 → place w o ≡ 0
place_none [] o h = unfold place in refl
place_none (x ∷ w) o h =
    elim (ℕ_discrete x o) [ yes e ↦ absurd (omega (arith, count_first o x w (sym e))) | no d ↦ place_nowhere x w o d (place_none w o (omega (arith, count_grows o x w))) ]

-- who is in one is in the slot at its place
pub place_found : (w : List ℕ) (o : ℕ) → In o w → (1 ≤ place w o) × (place w o ≤ length w) × (at w (place w o) ≡ o)
place_found [] o h = absurd (not_in_nil o h)
place_found (x ∷ w) o h = go (ℕ_discrete x o) (place_found w o)
  where
    go : Dec (x ≡ o) → (In o w → (1 ≤ place w o) × (place w o ≤ length w) × (at w (place w o) ≡ o)) → (1 ≤ place (x ∷ w) o) × (place (x ∷ w) o ≤ suc (length w)) × (at (x ∷ w) (place (x ∷ w) o) ≡ o)
    go (yes e) ih = rw (← e, place_here x w) (omega arith, omega arith, at_one x w)
    go (no d) ih =
        let r = ih (omega (arith, count_there o x w (λ e. d (sym e)))) in
        rw (place_later x w o d r.0) (omega arith, omega (arith, r.1), at_cons x w (place w o) r.0 ∙ r.2)

-- and there and back again, where nobody is in two slots
pub place_at : (w : List ℕ) (s : ℕ) → 1 ≤ s → s ≤ length w → count (at w s) w ≤ 1 → place w (at w s) ≡ s
place_at [] s h l c = absurd (omega arith)
place_at (x ∷ w) zero h l c = absurd (omega arith)
place_at (x ∷ w) (suc zero) h l c = rw (at_one x w) (place_here x w)
place_at (x ∷ w) (suc (suc s)) h l c = rw (at_cons x w (suc s) (omega arith)) (go (rw (at_cons x w (suc s) (omega arith)) at c) (place_at w (suc s) (omega arith) (omega arith)))
  where
    o : ℕ
    o = at w (suc s)

    go : count o (x ∷ w) ≤ 1 → (count o w ≤ 1 → place w o ≡ suc s) → place (x ∷ w) o ≡ suc (suc s)
    go c ih =
        let here : place w o ≡ suc s = ih (omega (arith, count_grows o x w)) in
        let d : x ≢ o = λ e. omega (arith, count_first o x w (sym e), in_at w (suc s) (omega arith) (omega arith)) in
        place_later x w o d (omega (arith, here)) ∙ ap suc here
