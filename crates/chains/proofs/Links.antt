-- Doubly linked arenas: what rule 11 of the check says of links, and all that the theory of chains needs of an arena. Assumes nothing.
use Prim.Native.Nat.{ℕ, ◌≤◌}
use mathlib.Core.Path.{◌≡◌, refl, sym, ◌∙◌}
use mathlib.Core.Logic.{◌≢◌, inl, inr}
use mathlib.Core.Bool.{true}
use mathlib.Core.List.{List, [], ◌∷◌, ◌++◌}
use native.Mathlib.Omega.{arith}
use lib.ListN.{length}
use Rattle.definitions.specs.Columns.{at, count, first_or}
use Rattle.definitions.specs.Arena.{Arena, stack_length, is_link}
use Rattle.definitions.specs.Check.{Neighbour, WellFormed}
use Rattle.definitions.proofs.Slots.{allocated_some, allocated_within}
use Rattle.definitions.proofs.Count.{In, Once, in_here, in_cases, in_only, in_append, not_in_nil, none_of, pigeonhole}

-- slot s of the arena is a link; all of a list are
abbrev pub Link : Arena → ℕ → Type 0
Link a s = is_link a s ≡ true

abbrev pub AllLinks : Arena → List ℕ → Type 0
AllLinks a xs = (s : ℕ) → In s xs → Link a s

-- rule 11: each neighbour of a link is none, or a link that names it back
pub record DoublyLinked (a : Arena) : Type 0 where
  pub prev : (x : ℕ) → Link a x → Neighbour a a.next x (at a.prev x)
  pub next : (x : ℕ) → Link a x → Neighbour a a.prev x (at a.next x)

pub well_formed_linked : {limit : ℕ} {a : Arena} → WellFormed limit a → DoublyLinked a
well_formed_linked w = record { prev = w.prev; next = w.next }

module _ (a : Arena) where
  pub link_some : (s : ℕ) → Link a s → 1 ≤ s
  link_some s h = allocated_some a.generation (stack_length a) s h

  pub link_nonzero : (s : ℕ) → Link a s → s ≢ 0
  link_nonzero s h z = omega (arith, link_some s h, z)

  pub link_within : (s : ℕ) → Link a s → s ≤ stack_length a
  link_within s h = allocated_within a.generation (stack_length a) s h

  -- ---- lists of links

  pub links_nil : AllLinks a []
  links_nil x i = absurd (not_in_nil x i)

  pub links_cons : (t : ℕ) (xs : List ℕ) → Link a t → AllLinks a xs → AllLinks a (t ∷ xs)
  links_cons t xs k h x i = elim (in_cases x t xs i) [ inl e ↦ rw e k | inr q ↦ h x q ]

  pub links_snoc : (xs : List ℕ) (t : ℕ) → AllLinks a xs → Link a t → AllLinks a (xs ++ t ∷ [])
  links_snoc xs t h k x i = elim (in_append x xs (t ∷ []) i) [ inl j ↦ h x j | inr j ↦ rw (in_only x t j) k ]

  pub links_one : (t : ℕ) → Link a t → AllLinks a (t ∷ [])
  links_one t k = links_cons t [] k links_nil

  pub links_first : (z : ℕ) (xs : List ℕ) → AllLinks a xs → Link a z → Link a (first_or z xs)
  unfolding first_or
  links_first z [] h k = k
  links_first z (x ∷ xs) h k = h x (in_here x xs)

  pub no_zero : (xs : List ℕ) → AllLinks a xs → count 0 xs ≡ 0
  no_zero xs h = none_of 0 xs (λ i. link_nonzero 0 (h 0 i) refl)

  -- different links are no more than the stack is long
  pub few_links : (xs : List ℕ) → Once xs → AllLinks a xs → length xs ≤ stack_length a
  few_links xs o h = pigeonhole xs (stack_length a) o (λ x i. (link_some x (h x i), link_within x (h x i)))

  -- ---- who follows u has u as its prev, and back

  module _ (linked : DoublyLinked a) where
    pub prev_of_next : (u m : ℕ) → Link a u → Link a m → at a.next u ≡ m → at a.prev m ≡ u
    prev_of_next u m hu hm e = rw (← e) (linked.next u hu (λ z. link_nonzero m hm (sym e ∙ z))).1

    pub next_of_prev : (u m : ℕ) → Link a u → Link a m → at a.prev m ≡ u → at a.next u ≡ m
    next_of_prev u m hu hm e = rw (← e) (linked.prev m hm (λ z. link_nonzero u hu (sym e ∙ z))).1
