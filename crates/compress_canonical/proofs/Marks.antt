-- The where-from column at the start: each link's own slot, 0 for a free slot. Assumes nothing.
use Prim.Native.Nat.{ℕ, zero, suc, ◌+◌, ◌≤◌, ◌<◌}
use mathlib.Core.Path.{◌≡◌, refl, sym, ap, ◌∙◌}
use mathlib.Core.Logic.{◌≢◌}
use mathlib.Core.Bool.{cond}
use mathlib.Core.List.{List}
use native.Mathlib.Omega.{arith}
use native.Mathlib.Numerals.{add-one}
use native.Mathlib.Decide.{ℕ_discrete}
use lib.Dec.{eqb}
use lib.ListN.{length, get_or, set}
use borrow.Author.Tests.{eq-eqb, ne_eqb}
use Rattle.definitions.specs.Columns.{at, put}
use Rattle.definitions.proofs.Columns.{at_zero, at_suc, at_put_same, at_put_other}
use Rattle.canonical_layout.specs.Held.{Marked}

pub marking_starts : (gs ws : List ℕ) → Marked gs 0 ws
marking_starts gs ws = record { link = λ s h d. absurd (d (none s h gs)); free = λ s h z. none s h ws }
  where
    none : (s : ℕ) → s ≤ 0 → (xs : List ℕ) → at xs s ≡ 0
    none zero h xs = at_zero xs
    none (suc s) h xs = absurd (omega arith)

-- one slot more is marked
pub marking_goes_on : {gs ws : List ℕ} {s v : ℕ} → Marked gs s ws → s < length ws → v ≡ cond (eqb (get_or gs s 0) 0) 0 (s + 1) → Marked gs (s + 1) (set ws s v)
marking_goes_on {gs} {ws} {s} {v} m h e =
    record { link = λ x l d. link x l d (ℕ_discrete x (suc s)); free = λ x l z. free x l z (ℕ_discrete x (suc s)) }
  where
    here : at (set ws s v) (suc s) ≡ v
    here = unfold put in at_put_same ws (suc s) v (λ z. omega arith) h

    elsewhere : (x : ℕ) → x ≢ suc s → at (set ws s v) x ≡ at ws x
    elsewhere x d = unfold put in at_put_other ws (suc s) x v d

    link : (x : ℕ) → x ≤ s + 1 → at gs x ≢ 0 → Dec (x ≡ suc s) → at (set ws s v) x ≡ x
    link x l d (yes q) = rw q (here ∙ (e ∙ rw (ne_eqb (get_or gs s 0) 0 (λ z. d (ap (at gs) q ∙ (at_suc gs s ∙ z)))) (add-one s)))
    link x l d (no q) = elsewhere x q ∙ m.link x (omega arith) d

    free : (x : ℕ) → x ≤ s + 1 → at gs x ≡ 0 → Dec (x ≡ suc s) → at (set ws s v) x ≡ 0
    free x l z (yes q) = rw q (here ∙ (e ∙ rw (eq-eqb (get_or gs s 0) 0 (sym (at_suc gs s) ∙ (ap (at gs) (sym q) ∙ z))) refl))
    free x l z (no q) = elsewhere x q ∙ m.free x (omega arith) z
