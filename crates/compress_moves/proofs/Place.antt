-- Laws of the place of a slot among those of a rising run that pass a test. Assumes nothing.
use Prim.Native.Nat.{ℕ, zero, suc, ◌+◌, ◌-◌, ◌≤◌, ◌<◌}
use mathlib.Core.Path.{◌≡◌, sym, ap, ◌∙◌}
use mathlib.Core.Bool.{Bool, true, false}
use mathlib.Core.List.{List, [], ◌∷◌}
use native.Mathlib.Omega.{arith}
use native.Mathlib.Nat.{sub_self}
use native.Mathlib.Decide.{ℕ_discrete}
use lib.ListN.{length}
use lib.Dec.{eqb}
use Rattle.definitions.specs.Columns.{at, slots_from, keep}
use Rattle.definitions.specs.Compress.{place}
use Rattle.definitions.proofs.Tests.{by_test}
use Rattle.definitions.proofs.Slots.{length_slots}
use Rattle.definitions.proofs.Count.{keep_lacks, slots_once}
use Rattle.definitions.proofs.Parts.{at_own}
use Rattle.renaming.proofs.Place.{place_here, place_later, place_none, place_at}

pub place_within : (w : List ℕ) (x : ℕ) → place w x ≤ length w
unfolding place
place_within [] x = omega arith
place_within (y ∷ w) x =
    by_test (eqb y x) (λ e. rw e (omega arith)) (λ e. rw e (by_test (eqb (place w x) 0) (λ z. rw z (omega arith)) (λ z. rw z (omega (arith, place_within w x)))))

module _ (test : ℕ → Bool) where
  -- a slot that is not kept has no place
  pub place_lacks : (x s k : ℕ) → test x ≡ false → place (keep test (slots_from s k)) x ≡ 0
  place_lacks x s k e = place_none _ x (keep_lacks test x (slots_from s k) e)

  -- a slot that is kept has the place behind those that are kept before it
  pub place_has : (x s k : ℕ) → test x ≡ true → s ≤ x → x < s + k → place (keep test (slots_from s k)) x ≡ suc (length (keep test (slots_from s (x - s))))
  unfolding slots_from keep
  place_has x s zero e a b = absurd (omega arith)
  place_has x s (suc k) e a b = go (ℕ_discrete s x) (λ c d. place_has x (suc s) k e c d)
    where
      go : Dec (s ≡ x) → (suc s ≤ x → x < suc s + k → place (keep test (slots_from (suc s) k)) x ≡ suc (length (keep test (slots_from (suc s) (x - suc s))))) → place (keep test (slots_from s (suc k))) x ≡ suc (length (keep test (slots_from s (x - s))))
      go (yes q) ih = rw (q, e, sub_self x) (place_here x (keep test (slots_from (suc x) k)))
      go (no d) ih =
          let later = ih (omega arith) (omega arith) in
          let before : x - s ≡ suc (x - suc s) = omega arith in
          rw before (by_test (test s) (λ t. rw t (place_later s (keep test (slots_from (suc s) k)) x d (omega (arith, later)) ∙ ap suc later)) (λ t. rw t later))

-- in the run from slot 1 on, every slot is in its own place
pub place_own : (n x : ℕ) → 1 ≤ x → x ≤ n → place (slots_from 1 n) x ≡ x
place_own n x p h =
    let own = at_own n x h in
    ap (place (slots_from 1 n)) (sym own) ∙ place_at (slots_from 1 n) x p (rw (length_slots 1 n) h) (slots_once 1 n (at (slots_from 1 n) x))
