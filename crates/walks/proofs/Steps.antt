-- Laws of the walk, step by step: what it answers at a link and where it goes on. Assumes nothing.
use Prim.Native.Nat.{ℕ, zero, suc}
use mathlib.Core.Path.{◌≡◌, refl, sym, ap, ◌∙◌}
use mathlib.Core.List.{[], ◌∷◌}
use native.Mathlib.Omega.{arith}
use native.Mathlib.Numerals.{sub-one}
use borrow.Author.Tests.{eq-eqb, ne_eqb}
use Rattle.definitions.specs.Columns.{at}
use Rattle.definitions.specs.Arena.{Arena, stack_length}
use Rattle.definitions.specs.Walk.{Walk, walk, onward, step, walked}
use Rattle.definitions.proofs.Columns.{at_zero}
use Rattle.definitions.proofs.Slots.{allocated_free}
use Rattle.chains.proofs.Links.{Link, link_nonzero}

module _ (a : Arena) where
  -- a link is answered, and the walk goes on
  answers : (k : ℕ) (w : Walk) → (w.left ≡ 0 → ⊥) → Link a w.position → walked a (suc k) w ≡ w.position ∷ walked a k (onward a w)
  unfolding walked step
  answers k w some l = rw (ne_eqb w.left 0 some, l, ne_eqb w.position 0 (link_nonzero a w.position l)) refl

  -- where the walk has ended it answers none, whatever advances are left
  pub over : (k o d left : ℕ) → walked a k (walk o 0 d left) ≡ []
  unfolding walked step
  over zero o d left = refl
  over (suc k) o d zero = refl
  over (suc k) o d (suc left) = rw (ne_eqb (suc left) 0 (λ e. omega arith), allocated_free a.generation (stack_length a) 0 (at_zero a.generation)) refl

  -- a walk that started at o is at the link x
  module _ (k o x left : ℕ) (l : Link a x) where
    goes_on : (d : ℕ) (w : Walk) → onward a (walk o x d (suc left)) ≡ w → walked a (suc k) (walk o x d (suc left)) ≡ x ∷ walked a k w
    goes_on d w e = answers k (walk o x d (suc left)) (λ z. omega arith) l ∙ ap (λ (w : Walk). x ∷ walked a k w) e

    -- along next
    pub ahead : (at a.next x ≡ 0 → ⊥) → (at a.next x ≡ o → ⊥) → walked a (suc k) (walk o x 0 (suc left)) ≡ x ∷ walked a k (walk o (at a.next x) 0 left)
    ahead some other = goes_on 0 _ (unfold onward in rw (ne_eqb (at a.next x) 0 some, ne_eqb (at a.next x) o other, sub-one (suc left)) refl)

    -- there is no next: it goes on along prev, with the link before the start
    pub turns : Link a o → at a.next x ≡ 0 → walked a (suc k) (walk o x 0 (suc left)) ≡ x ∷ walked a k (walk o (at a.prev o) 1 left)
    turns lo e = goes_on 0 _ (unfold onward in rw (eq-eqb (at a.next x) 0 e, lo, sub-one (suc left)) refl)

    -- next is the start: the walk is over
    pub closes : Link a o → at a.next x ≡ o → walked a (suc k) (walk o x 0 (suc left)) ≡ x ∷ walked a k (walk o 0 0 left)
    closes lo e =
        goes_on 0 _ (unfold onward in rw (ne_eqb (at a.next x) 0 (λ z. link_nonzero a o lo (sym e ∙ z)), eq-eqb (at a.next x) o e, sub-one (suc left)) refl)

    -- along prev
    pub behind : walked a (suc k) (walk o x 1 (suc left)) ≡ x ∷ walked a k (walk o (at a.prev x) 1 left)
    behind = goes_on 1 _ (unfold onward in rw (sub-one (suc left)) refl)
