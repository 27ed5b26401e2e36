-- Laws of the two sides of rule 11. The rule holds at a slot exactly if both sides are fine. In an arena whose freelist is whole no free slot leads to a link. And if one side
-- is fine at every slot, it takes each link that has a neighbour there to a link that has one on the other side, and no two to one: so where there are as many of these as of
-- those, each of them is led to, and the other side is fine at every slot too. Assumes nothing.
use Prim.Native.Nat.{ℕ, ◌+◌, ◌≤◌}
use mathlib.Core.Path.{◌≡◌, refl, sym, ap, ◌∙◌}
use mathlib.Core.Logic.{◌⊎◌, inl, inr}
use mathlib.Core.Bool.{Bool, true, false, not, ◌&&◌, ◌||◌}
use mathlib.Core.List.{List, [], ◌∷◌, map}
use native.Mathlib.Omega.{arith}
use lib.ListN.{length, length-map}
use lib.Dec.{eqb}
use borrow.Author.Tests.{not-true, eqb-false, ne_eqb}
use Rattle.definitions.specs.Columns.{at, keep, slots_from, last_or}
use Rattle.definitions.specs.Arena.{Arena, stack_length, allocated}
use Rattle.definitions.specs.Check.{names_back, neighbours_fine, Freelist}
use Rattle.definitions.proofs.Tests.{by_test, both, both_first, both_second, not_first, not_second, the_first, the_second}
use Rattle.definitions.proofs.Slots.{allocated_within, allocated_some, count_nil, count_slots_in}
use Rattle.definitions.proofs.Count.{In, Once, in_keep, keep_has, keep_lacks, in_map, once_map, once_among, shorter, as_many, slots_once}
use Rattle.definitions.proofs.Linked.{in_last, next_in}
use Rattle.definitions.proofs.Shaped.{counts_verdict}
use Rattle.definitions.proofs.Freelist.{freelist_of_counts}
use Rattle.definitions.proofs.Interlinks.{names_back_lem, does_name_back}
use Rattle.interlinks.specs.Sides.{FreeStaysFree, side_fine, SidesFine}

-- ---- both sides of a slot

sides_tests : (link p q : Bool) → (not link || (p && q)) ≡ ((not link || p) && (not link || q))
sides_tests true p q = refl
sides_tests false p q = refl

module _ (ps ns gs : List ℕ) (n x : ℕ) where
  pub fine_sides : neighbours_fine ps ns gs n x ≡ (side_fine ps ns gs n x && side_fine ns ps gs n x)
  unfolding neighbours_fine side_fine
  fine_sides = sides_tests (allocated gs n x) (names_back ns gs n x (at ps x)) (names_back ps gs n x (at ns x))

  pub fine_both : side_fine ps ns gs n x ≡ true → side_fine ns ps gs n x ≡ true → neighbours_fine ps ns gs n x ≡ true
  fine_both p q = fine_sides ∙ both _ _ p q

  pub prev_broken : side_fine ps ns gs n x ≡ false → neighbours_fine ps ns gs n x ≡ false
  prev_broken e = fine_sides ∙ not_first _ _ e

  pub next_broken : side_fine ns ps gs n x ≡ false → neighbours_fine ps ns gs n x ≡ false
  next_broken e = fine_sides ∙ not_second (side_fine ps ns gs n x) _ e

-- ---- a free slot leads to no link

last_in : (t : ℕ) (ts : List ℕ) → In (last_or 0 (t ∷ ts)) (t ∷ ts)
unfolding last_or
last_in t ts = in_last t ts

module _ (a : Arena) where
  stays_on : (fs : List ℕ) → Freelist a fs → FreeStaysFree a.next a.generation (stack_length a)
  stays_on fs f s p h g = go fs f (next_in (at a.next) fs _ s f.linked (omega (arith, f.once s p h g)))
    where
      go : (fs : List ℕ) → Freelist a fs → In (at a.next s) fs ⊎ (at a.next s ≡ last_or 0 fs) → at a.generation (at a.next s) ≡ 0
      go fs f (inl i) = (f.free _ i).2
      go [] f (inr e) = absurd (omega (arith, f.once s p h g, count_nil s))
      go (t ∷ ts) f (inr e) = rw e (f.free (last_or 0 (t ∷ ts)) (last_in t ts)).2

  pub free_stays_free : counts_verdict a ≡ 0 → FreeStaysFree a.next a.generation (stack_length a)
  free_stays_free e = let l = freelist_of_counts a e in stays_on l.0 l.1

-- ---- the links that have a neighbour on one side

module _ (gs : List ℕ) (n : ℕ) where
  -- slot x is a link and has a neighbour in the column
  unfoldable pub has : List ℕ → ℕ → Bool
  has col x = allocated gs n x && not (eqb (at col x) 0)

  -- those of the slots 1 to i, and their number
  abbrev having : List ℕ → ℕ → List ℕ
  having col i = keep (has col) (slots_from 1 i)

  unfoldable pub number : List ℕ → ℕ → ℕ
  number col i = length (having col i)

  pub has_yes : (col : List ℕ) (x : ℕ) → allocated gs n x ≡ true → (at col x ≡ 0 → ⊥) → has col x ≡ true
  unfolding has
  has_yes col x l d = both _ _ l (ap not (ne_eqb (at col x) 0 d))

  has_link : (col : List ℕ) (x : ℕ) → has col x ≡ true → allocated gs n x ≡ true
  unfolding has
  has_link col x e = both_first _ _ e

  has_some : (col : List ℕ) (x : ℕ) → has col x ≡ true → at col x ≡ 0 → ⊥
  unfolding has
  has_some col x e = eqb-false (at col x) 0 (not-true _ (both_second (allocated gs n x) _ e))

  in_having : (col : List ℕ) (x : ℕ) → has col x ≡ true → In x (having col n)
  in_having col x e =
      let l = has_link col x e in
      omega (arith, keep_has (has col) x (slots_from 1 n) e, count_slots_in x 1 n (allocated_some gs n x l) (omega (arith, allocated_within gs n x l)))

  having_once : (col : List ℕ) → Once (having col n)
  having_once col x =
      by_test (has col x) (λ e. omega (arith, keep_has (has col) x (slots_from 1 n) e, slots_once 1 n x)) (λ e. omega (arith, keep_lacks (has col) x (slots_from 1 n) e))

  -- a side that is fine at every slot takes each link that has a neighbour there to a link that has one on the other side, and no two to one
  module _ (forth back : List ℕ) (fine : SidesFine forth back gs n (n + 1)) where
    led : (x : ℕ) → has forth x ≡ true → (has back (at forth x) ≡ true) × (at back (at forth x) ≡ x)
    unfolding side_fine
    led x e =
        let l = has_link forth x e in
        let some = allocated_some gs n x l in
        let within = allocated_within gs n x l in
        let named : names_back back gs n x (at forth x) ≡ true = rw l at (fine x some (omega arith)) in
        let there = names_back_lem back gs n x (at forth x) named (has_some forth x e) in
        (has_yes back (at forth x) there.0 (λ z. omega (arith, there.1)), there.1)

    abbrev there : List ℕ
    there = map (at forth) (having forth n)

    there_once : Once there
    there_once =
        once_map (at forth) (having forth n) (having_once forth)
        (λ x y i j e. sym (led x (in_keep (has forth) x _ i).0).1 ∙ ap (at back) e ∙ (led y (in_keep (has forth) y _ j).0).1)

    there_among : (y : ℕ) → In y there → In y (having back n)
    there_among y i =
        let r = in_map (at forth) (having forth n) y i in
        in_having back y (rw r.2 at (led r.0 (in_keep (has forth) r.0 _ r.1).0).0)

    at_most : number forth n ≤ number back n
    unfolding number
    at_most = omega (arith, length-map (having forth n) (at forth), shorter there (having back n) (once_among there (having back n) there_once there_among))

    -- and where there are no more of those, each of them is led to
    onto : number back n ≤ number forth n → (y : ℕ) → has back y ≡ true → (x : ℕ) × (has forth x ≡ true) × (at forth x ≡ y)
    unfolding number
    onto few y e =
        let same = as_many there (having back n) (once_among there (having back n) there_once there_among) (omega (arith, length-map (having forth n) (at forth))) y in
        let r = in_map (at forth) (having forth n) y (omega (arith, in_having back y e)) in
        (r.0, (in_keep (has forth) r.0 _ r.1).0, r.2)

-- ---- as many links with a next as with a prev

module _ (forth back gs : List ℕ) (n : ℕ) where
  -- the other side of every slot
  pub other_side : SidesFine forth back gs n (n + 1) → number gs n back n ≤ number gs n forth n → SidesFine back forth gs n (n + 1)
  unfolding side_fine
  other_side fine few y p h = by_test (allocated gs n y) (λ l. the_second (not (allocated gs n y)) _ (does_name_back forth gs n y (at back y) (named l))) (λ l. the_first _ _ (ap not l))
    where
      named : allocated gs n y ≡ true → (at back y ≡ 0 → ⊥) → (allocated gs n (at back y) ≡ true) × (at forth (at back y) ≡ y)
      named l d =
          let r = onto gs n forth back fine few y (has_yes gs n back y l d) in
          let e : at back y ≡ r.0 = ap (at back) (sym r.2) ∙ (led gs n forth back fine r.0 r.1).1 in
          (rw e (has_link gs n forth r.0 r.1), ap (at forth) e ∙ r.2)

  pub as_many_sides : SidesFine forth back gs n (n + 1) → SidesFine back forth gs n (n + 1) → number gs n back n ≡ number gs n forth n
  as_many_sides p q = omega (arith, at_most gs n forth back p, at_most gs n back forth q)
