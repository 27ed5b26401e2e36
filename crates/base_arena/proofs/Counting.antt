-- The links among the first slots, one slot more at a time, as the counting loop reads them. Assumes nothing.
use Prim.Native.Nat.{ℕ, suc, ◌+◌, ◌-◌, ◌≤◌, ◌<◌}
use mathlib.Core.Path.{◌≡◌, refl, sym, ◌∙◌}
use mathlib.Core.Bool.{true, cond, not}
use mathlib.Core.List.{List, []}
use native.Mathlib.Omega.{arith}
use native.Mathlib.Numerals.{add-one}
use lib.ListN.{length, get_or}
use lib.Dec.{eqb}
use Rattle.definitions.specs.Columns.{keep, slots_from}
use Rattle.definitions.specs.Arena.{allocated, link_slots, free_slots}
use Rattle.definitions.specs.Check.{freelist_walk, counts_of}
use Rattle.definitions.proofs.Tests.{tests}
use Rattle.definitions.proofs.Columns.{at_suc}
use Rattle.definitions.proofs.Slots.{allocated_yes, allocated_free, keep_more, keep_same, links_and_free}
use Rattle.base_arena.specs.AllFree.{Walks}

module _ (gs : List ℕ) (n : ℕ) where
  -- how many of the slots 1 to i are links
  unfoldable pub links_to : ℕ → ℕ
  links_to i = length (keep (allocated gs n) (slots_from 1 i))

  pub links_none : links_to 0 ≡ 0
  unfolding links_to slots_from keep
  links_none = refl

  pub links_all : links_to n ≡ length (link_slots gs n)
  unfolding links_to link_slots
  links_all = refl

  -- place i holds slot i + 1: a link more, or none
  pub links_more : (i : ℕ) → i < n → (get_or gs i 0 ≡ 0 → ⊥) → links_to (i + 1) ≡ links_to i + 1
  unfolding links_to
  links_more i h g = rw add-one (keep_more (allocated gs n) i (allocated_yes gs n (suc i) h (rw at_suc g)))

  pub links_same : (i : ℕ) → get_or gs i 0 ≡ 0 → links_to (i + 1) ≡ links_to i
  unfolding links_to
  links_same i g = rw add-one (keep_same (allocated gs n) i (allocated_free gs n (suc i) (at_suc gs i ∙ g)))

  -- the slots that are no links are free
  pub free_left : (k : ℕ) → k ≡ length (link_slots gs n) → n - k ≡ length (free_slots gs n)
  free_left k e = omega (arith, links_and_free gs n)

-- refusals 4 to 10, from the number k of links that was counted
module _ (ns gs : List ℕ) (n m s k : ℕ) (counted : k ≡ length (link_slots gs n)) where
  by_count : (r : ℕ) → r ≡ cond (not (eqb m k)) 4 (cond (eqb s 0) (cond (eqb (n - k) 0) 0 5) (cond (eqb (n - k) 0) 5 (freelist_walk ns gs n (n + 2) s 0))) → r ≡ counts_of ns gs n m s
  unfolding counts_of
  by_count r q = rw (← free_left gs n k counted, ← counted) q

  pub count_differs : (m ≡ k → ⊥) → 4 ≡ counts_of ns gs n m s
  count_differs d = by_count 4 (search tests)

  module _ (same : m ≡ k) where
    pub root_but_no_free : (s ≡ 0 → ⊥) → n - k ≡ 0 → 5 ≡ counts_of ns gs n m s
    root_but_no_free some none = by_count 5 (search tests)

    pub free_but_no_root : s ≡ 0 → (n - k ≡ 0 → ⊥) → 5 ≡ counts_of ns gs n m s
    free_but_no_root none some = by_count 5 (search tests)

    pub none_free : s ≡ 0 → n - k ≡ 0 → 0 ≡ counts_of ns gs n m s
    none_free e f = by_count 0 (search tests)

    pub walked : (r : ℕ) → (s ≡ 0 → ⊥) → (n - k ≡ 0 → ⊥) → r ≡ freelist_walk ns gs n (n + 2) s 0 → r ≡ counts_of ns gs n m s
    walked r d f q = by_count r (search tests)

    -- every slot is free
    pub walked_all : (r : ℕ) → (s ≡ 0 → ⊥) → (n - k ≡ 0 → ⊥) → n ≡ length ns → n - k ≡ n → Walks true ns [] s r → r ≡ counts_of ns gs n m s
    walked_all r d f size all q =
        let counted_all : length ns ≡ length (free_slots gs (length ns)) = rw size at (sym all ∙ free_left gs n k counted) in
        walked r d f (rw (sym size) at (q gs counted_all))

-- how many are links, at the most
pub links_at_most : (gs : List ℕ) (n k : ℕ) → k ≡ length (link_slots gs n) → k ≤ n
links_at_most gs n k e = omega (arith, links_and_free gs n)

pub ruleset counting_links = (links_none, links_all, links_more, links_same)

pub ruleset counting_slots = (free_left, count_differs, root_but_no_free, free_but_no_root, none_free, walked_all, walked, links_at_most)
