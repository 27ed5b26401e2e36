-- Laws of rule 11: a neighbour that names back, a slot that is fine, and all slots up to one. Assumes nothing.
use Prim.Native.Nat.{ℕ, zero, suc, ◌≤◌, ◌<◌}
use mathlib.Core.Path.{◌≡◌, refl, sym, ap, ◌∙◌}
use mathlib.Core.Bool.{Bool, true, false, not, ◌&&◌, true≢false}
use mathlib.Core.List.{List}
use native.Mathlib.Omega.{arith}
use native.Mathlib.Decide.{ℕ_discrete}
use lib.Dec.{eqb}
use borrow.Author.Tests.{eq-eqb, ne_eqb, eqb-true, eqb-false}
use Rattle.definitions.specs.Columns.{at}
use Rattle.definitions.specs.Arena.{Arena, stack_length, allocated, is_link}
use Rattle.definitions.specs.Check.{names_back, neighbours_fine, all_fine, Neighbour}
use Rattle.definitions.proofs.Tests.{by_test, both, both_first, both_second, not_first, not_second, the_first, the_second}
use Rattle.definitions.proofs.Slots.{allocated_within, allocated_some}
use Rattle.definitions.proofs.Shaped.{interlinks_fine}

-- a neighbour that is there is a link, and names x back
module _ (back gs : List ℕ) (n x s : ℕ) where
  pub names_back_lem : names_back back gs n x s ≡ true → (s ≡ 0 → ⊥) → (allocated gs n s ≡ true) × (at back s ≡ x)
  unfolding names_back
  names_back_lem e d =
      let h : (allocated gs n s && eqb (at back s) x) ≡ true = rw (ne_eqb s 0 d) at e in
      (both_first _ _ h, eqb-true _ _ (both_second (allocated gs n s) _ h))

  pub does_name_back : ((s ≡ 0 → ⊥) → (allocated gs n s ≡ true) × (at back s ≡ x)) → names_back back gs n x s ≡ true
  unfolding names_back
  does_name_back f =
      by_test (eqb s 0) (λ z. the_first _ _ z) (λ z. let h = f (eqb-false s 0 z) in the_second (eqb s 0) _ (both _ _ h.0 (eq-eqb _ _ h.1)))

module _ (ps ns gs : List ℕ) (n : ℕ) where
  abbrev fine : ℕ → Bool
  fine x = neighbours_fine ps ns gs n x

  -- a slot is fine exactly if it is no link, or both of its neighbours name it back
  pub fine_free : (x : ℕ) → allocated gs n x ≡ false → fine x ≡ true
  unfolding neighbours_fine
  fine_free x e = the_first _ _ (ap not e)

  pub fine_link : (x : ℕ) → names_back ns gs n x (at ps x) ≡ true → names_back ps gs n x (at ns x) ≡ true → fine x ≡ true
  unfolding neighbours_fine
  fine_link x p q = the_second (not (allocated gs n x)) _ (both _ _ p q)

  pub fine_parts : (x : ℕ) → fine x ≡ true → allocated gs n x ≡ true → (names_back ns gs n x (at ps x) ≡ true) × (names_back ps gs n x (at ns x) ≡ true)
  unfolding neighbours_fine
  fine_parts x e l =
      let h : (names_back ns gs n x (at ps x) && names_back ps gs n x (at ns x)) ≡ true = rw l at e in
      (both_first _ _ h, both_second (names_back ns gs n x (at ps x)) _ h)

  -- all slots up to k are fine exactly if each is
  pub all_fine_lem : (k : ℕ) → ((x : ℕ) → 0 < x → x ≤ k → fine x ≡ true) → all_fine ps ns gs n k ≡ true
  unfolding all_fine
  all_fine_lem zero f = refl
  all_fine_lem (suc k) f = both _ _ (f (suc k) (omega arith) (omega arith)) (all_fine_lem k (λ x p h. f x p (omega arith)))

  pub not_all_fine : (k x : ℕ) → 0 < x → x ≤ k → fine x ≡ false → all_fine ps ns gs n k ≡ false
  unfolding all_fine
  not_all_fine zero x p h e = absurd (omega arith)
  not_all_fine (suc k) x p h e = go (ℕ_discrete x (suc k)) (λ l. not_all_fine k x p l e)
    where
      go : Dec (x ≡ suc k) → (x ≤ k → all_fine ps ns gs n k ≡ false) → all_fine ps ns gs n (suc k) ≡ false
      go (yes q) r = not_first (fine (suc k)) _ (ap fine (sym q) ∙ e)
      go (no q) r = not_second (fine (suc k)) _ (r (omega arith))

  pub each_fine : (k : ℕ) → all_fine ps ns gs n k ≡ true → (x : ℕ) → 0 < x → x ≤ k → fine x ≡ true
  each_fine k e x p h = by_test (fine x) (λ q. q) (λ q. absurd (true≢false (sym e ∙ not_all_fine k x p h q)))

-- rule 11 refuses nothing in an arena exactly if both neighbours of each link are links that name it back
module _ (a : Arena) where
  pub neighbours_if_fine : interlinks_fine a ≡ true → (x : ℕ) → is_link a x ≡ true → (Neighbour a a.next x (at a.prev x)) × (Neighbour a a.prev x (at a.next x))
  neighbours_if_fine e x l =
      let fine = each_fine _ _ _ _ (stack_length a) e x (allocated_some _ _ x l) (allocated_within _ _ x l) in
      let sides = fine_parts _ _ _ _ x fine l in
      (names_back_lem _ _ _ x _ sides.0, names_back_lem _ _ _ x _ sides.1)

  pub fine_if_neighbours : ((x : ℕ) → is_link a x ≡ true → Neighbour a a.next x (at a.prev x)) → ((x : ℕ) → is_link a x ≡ true → Neighbour a a.prev x (at a.next x)) → interlinks_fine a ≡ true
  fine_if_neighbours prev next =
      all_fine_lem _ _ _ _ (stack_length a) (λ x p h. by_test (is_link a x) (λ l. fine_link _ _ _ _ x (does_name_back _ _ _ x _ (prev x l)) (does_name_back _ _ _ x _ (next x l))) (λ l. fine_free _ _ _ _ x l))
