-- Laws of stale pointers, by what the code reads of a slot. Assumes nothing.
use Prim.Native.Nat.{ℕ, ◌≤◌, ◌<◌}
use mathlib.Core.Path.{◌≡◌, refl, sym, ◌∙◌}
use mathlib.Core.Bool.{Bool, true, false, not}
use mathlib.Core.List.{List}
use native.Mathlib.Omega.{arith}
use lib.Dec.{eqb, ltb}
use native.Mathlib.Nat.{pos_of_ne-zero}
use borrow.Author.Tests.{eq-eqb, ne_eqb, le-ltb, eqb-false, ltb-false}
use Rattle.definitions.specs.Columns.{at}
use Rattle.definitions.specs.Arena.{Arena, stack_length, allocated}
use Rattle.definitions.specs.Read.{Pointer, stale, neighbors}
use Rattle.definitions.proofs.Tests.{by_test, neither_parts, tests}
use Rattle.definitions.proofs.Slots.{allocated_some, allocated_within, allocated_live, not_allocated}
use Rattle.chain_traits.specs.Read.{stale_in}
pub use Rattle.definitions.proofs.Pointers.{fresh_link}

-- what `chain_traits::stale` answers of an arena's generation column and stack length is `stale` of the arena
pub stale_of : (a : Arena) (p : Pointer) → stale_in a.generation (stack_length a) p ≡ stale a p
unfolding stale_in stale
stale_of a p = refl

-- the same for an answer r that came: in a rule set these two stand before `tests`
pub is_stale : (a : Arena) (p : Pointer) (r : Bool) → r ≡ stale_in a.generation (stack_length a) p → r ≡ true → stale a p ≡ true
is_stale a p r e h = sym (stale_of a p) ∙ sym e ∙ h

pub is_fresh : (a : Arena) (p : Pointer) (r : Bool) → r ≡ stale_in a.generation (stack_length a) p → r ≡ false → stale a p ≡ false
is_fresh a p r e h = sym (stale_of a p) ∙ sym e ∙ h

pub ruleset reads = (is_stale, is_fresh, tests)

-- a pointer is stale where no link is in its slot, and else where the link there has another generation
pub stale_free : (gs : List ℕ) (n : ℕ) (p : Pointer) → allocated gs n p.slot ≡ false → stale_in gs n p ≡ true
unfolding stale_in stale
stale_free gs n p e =
    by_test (eqb p.slot 0) (λ z. rw z refl)
    (λ d. by_test (ltb n p.slot) (λ h. rw (d, h) refl)
    (λ h. let free = not_allocated gs n p.slot e (ltb-false _ _ h) in rw (d, h, eq-eqb _ _ free) refl))

pub stale_link : (gs : List ℕ) (n : ℕ) (p : Pointer) → allocated gs n p.slot ≡ true → stale_in gs n p ≡ not (eqb (at gs p.slot) p.generation)
unfolding stale_in stale
stale_link gs n p e =
    let some = allocated_some gs n p.slot e in
    rw (ne_eqb p.slot 0 (omega arith), le-ltb n p.slot (allocated_within gs n p.slot e), ne_eqb _ _ (allocated_live gs n p.slot e)) refl

-- a pointer that is not stale has a slot within the stack
pub fresh_slot : (gs : List ℕ) (n : ℕ) (p : Pointer) → stale_in gs n p ≡ false → (0 < p.slot) × (p.slot ≤ n)
unfolding stale_in stale
fresh_slot gs n p e =
    let past = neither_parts _ _ (neither_parts _ _ (neither_parts _ _ e).0).0 in
    (pos_of_ne-zero (eqb-false _ _ past.0), ltb-false _ _ past.1)

-- two pointers are neighbours where neither is stale and the one's next is the other's slot
module _ (a : Arena) (p q : Pointer) where
  pub stale_first : stale_in a.generation (stack_length a) p ≡ true → neighbors a p q ≡ false
  unfolding neighbors
  stale_first e = let s : stale a p ≡ true = sym (stale_of a p) ∙ e in rw s refl

  pub stale_second : stale_in a.generation (stack_length a) q ≡ true → neighbors a p q ≡ false
  unfolding neighbors
  stale_second e = let s : stale a q ≡ true = sym (stale_of a q) ∙ e in by_test (stale a p) (λ f. rw f refl) (λ f. rw (f, s) refl)

  pub neither_stale : stale_in a.generation (stack_length a) p ≡ false → stale_in a.generation (stack_length a) q ≡ false → neighbors a p q ≡ eqb (at a.next p.slot) q.slot
  unfolding neighbors
  neither_stale e f =
      let s : stale a p ≡ false = sym (stale_of a p) ∙ e in
      let t : stale a q ≡ false = sym (stale_of a q) ∙ f in
      rw (s, t) refl
