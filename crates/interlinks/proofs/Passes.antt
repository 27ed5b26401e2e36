-- What the two passes over the sides of rule 11 read and answer. The pass over the prev sides looks at no next side: where every prev side is fine, so is every next side
-- exactly if as many links have a next as have a prev. And where no free slot leads to a link it asks no prev whether it is one. Assumes nothing.
use Prim.Native.Nat.{ℕ, suc, ◌+◌, ◌-◌, ◌≤◌, ◌<◌}
use mathlib.Core.Path.{◌≡◌, refl, sym, ap, ◌∙◌}
use mathlib.Core.Logic.{◌↔◌}
use mathlib.Core.Bool.{true, false, not, ◌&&◌, true≢false}
use mathlib.Core.List.{List}
use native.Mathlib.Omega.{arith}
use native.Mathlib.Numerals.{add-one}
use native.Mathlib.Decide.{ℕ_discrete, dec_le}
use lib.ListN.{get_or}
use lib.Dec.{eqb, leb}
use borrow.Author.Tests.{eqb-true, eq-eqb, leb-true, le-leb, lt-leb}
use Rattle.definitions.specs.Columns.{at, keep, slots_from, first_or}
use Rattle.definitions.specs.Arena.{allocated}
use Rattle.definitions.specs.Check.{names_back, broken_slots}
use Rattle.definitions.proofs.Tests.{by_test, not_eq, both, both_first, both_second, not_first, not_second, the_first, the_second}
use Rattle.definitions.proofs.Columns.{at_suc, at_place}
use Rattle.definitions.proofs.Slots.{allocated_within, allocated_live, allocated_yes, allocated_free, length_slots, keep_more, keep_same, keep_parts}
use Rattle.definitions.proofs.Interlinks.{names_back_lem, does_name_back}
use Rattle.definitions.proofs.Broken.{first_is, none_first}
use Rattle.std.specs.Prelude.{Option, None, Some}
use Rattle.std.specs.Option.{option_or}
use Rattle.interlinks.specs.Sides.{FreeStaysFree, leads_to, side_fine, SidesFine, PrevEnd, NextSides, Finds}
use Rattle.interlinks.proofs.Sides.{fine_both, prev_broken, next_broken, has, number, has_yes, other_side, as_many_sides}

-- ---- a slot, as the code reads it one place lower

-- the tests of `leads_to`, at place s - 1
module _ (col : List ℕ) (n s x : ℕ) where
  pub leads_past : n < s → false ≡ leads_to col n s x
  unfolding leads_to
  leads_past h = sym (not_first _ _ (lt-leb s n h))

  pub leads_read : 0 < s → s ≤ n → eqb (get_or col (s - 1) 0) x ≡ leads_to col n s x
  unfolding leads_to
  leads_read p h = rw (at_place col s (λ z. omega arith), le-leb s n h) refl

-- where no free slot leads to a link, a slot that leads to one is no free one
pub leads_names : (ns gs : List ℕ) (n s x : ℕ) → FreeStaysFree ns gs n → 0 < s → allocated gs n x ≡ true → leads_to ns n s x ≡ names_back ns gs n x s
unfolding leads_to
leads_names ns gs n s x stays p link =
    by_test (leb s n && eqb (at ns s) x)
    (λ e.
    let within : s ≤ n = leb-true _ _ (both_first _ _ e) in
    let to : at ns s ≡ x = eqb-true _ _ (both_second (leb s n) _ e) in
    let live : at gs s ≡ 0 → ⊥ = λ z. allocated_live gs n x link (rw to at (stays s p within z)) in
    e ∙ sym (does_name_back ns gs n x s (λ some. (allocated_yes gs n s within live, to))))
    (λ e. e ∙ sym (by_test (names_back ns gs n x s) (λ t. absurd (true≢false (sym (led t) ∙ e))) (λ f. f)))
  where
    led : names_back ns gs n x s ≡ true → (leb s n && eqb (at ns s) x) ≡ true
    led t =
        let there = names_back_lem ns gs n x s t (λ z. omega arith) in
        both (leb s n) (eqb (at ns s) x) (le-leb _ _ (allocated_within gs n s there.0)) (eq-eqb _ _ there.1)

-- those of `next_fine`, at place x - 1
module _ (forth back gs : List ℕ) (n x : ℕ) (p : 0 < x) where
  abbrev some : x ≡ 0 → ⊥
  some z = omega arith

  pub side_none : get_or forth (x - 1) 0 ≡ 0 → true ≡ side_fine forth back gs n x
  unfolding side_fine
  side_none z = sym (the_second (not (allocated gs n x)) _ (does_name_back back gs n x (at forth x) (λ d. absurd (d (sym (at_place forth x some) ∙ z)))))

  pub side_no_link : get_or gs (x - 1) 0 ≡ 0 → true ≡ side_fine forth back gs n x
  unfolding side_fine
  side_no_link z = sym (the_first _ _ (ap not (allocated_free gs n x (sym (at_place gs x some) ∙ z))))

  pub side_named : x ≤ n → (get_or gs (x - 1) 0 ≡ 0 → ⊥) → names_back back gs n x (get_or forth (x - 1) 0) ≡ side_fine forth back gs n x
  unfolding side_fine
  side_named h g = rw (at_place forth x some, allocated_yes gs n x h (λ z. g (at_place gs x some ∙ z))) refl

-- ---- slot i + 1, as the pass over the prev sides reads it at place i

module _ (gs : List ℕ) (n : ℕ) (col : List ℕ) where
  number_none : number gs n col 0 ≡ 0
  unfolding number slots_from keep
  number_none = refl

  number_most : (i : ℕ) → number gs n col i ≤ i
  unfolding number
  number_most i = omega (arith, keep_parts (has gs n col) (slots_from 1 i), length_slots 1 i)

  number_free : (i : ℕ) → get_or gs i 0 ≡ 0 → number gs n col (i + 1) ≡ number gs n col i
  unfolding number has
  number_free i g = rw add-one (keep_same (has gs n col) i (not_first _ _ (allocated_free gs n (suc i) (at_suc gs i ∙ g))))

  number_without : (i : ℕ) → get_or col i 0 ≡ 0 → number gs n col (i + 1) ≡ number gs n col i
  unfolding number has
  number_without i z = rw add-one (keep_same (has gs n col) i (not_second (allocated gs n (suc i)) _ (not_eq _ _ (at_suc col i ∙ z))))

  number_with : (i : ℕ) → i < n → (get_or gs i 0 ≡ 0 → ⊥) → (get_or col i 0 ≡ 0 → ⊥) → number gs n col (i + 1) ≡ number gs n col i + 1
  unfolding number
  number_with i h g d = rw add-one (keep_more (has gs n col) i (has_yes gs n col (suc i) (allocated_yes gs n (suc i) h (rw at_suc g)) (rw at_suc d)))

module _ (ps ns gs : List ℕ) (n i : ℕ) where
  here : i + 1 - 1 ≡ i
  here = omega arith

  side_free : get_or gs i 0 ≡ 0 → side_fine ps ns gs n (i + 1) ≡ true
  side_free g = sym (side_no_link ps ns gs n (i + 1) (omega arith) (rw here g))

  side_without : get_or ps i 0 ≡ 0 → side_fine ps ns gs n (i + 1) ≡ true
  side_without z = sym (side_none ps ns gs n (i + 1) (omega arith) (rw here z))

  side_link : i < n → (get_or gs i 0 ≡ 0 → ⊥) → names_back ns gs n (i + 1) (get_or ps i 0) ≡ side_fine ps ns gs n (i + 1)
  side_link h g = rw here at (side_named ps ns gs n (i + 1) (omega arith) (omega arith) (rw here g))

  pub link_here : i < n → (get_or gs i 0 ≡ 0 → ⊥) → allocated gs n (i + 1) ≡ true
  link_here h g = rw add-one (allocated_yes gs n (suc i) h (rw at_suc g))

-- where the side is fine at slot k too, one slot more
pub sides_more : (forth back gs : List ℕ) (n k : ℕ) → SidesFine forth back gs n k → side_fine forth back gs n k ≡ true → SidesFine forth back gs n (k + 1)
sides_more forth back gs n k fine here x p h = elim (ℕ_discrete x k) [ yes e ↦ rw e here | no d ↦ fine x p (omega arith) ]

-- ---- the pass over the prev sides, after its first i slots

pub record Going (ps ns gs : List ℕ) (n nexts prevs i : ℕ) : Type 0 where
  pub within : i ≤ n
  pub nexts_so_far : nexts ≡ number gs n ns i
  pub prevs_so_far : prevs ≡ number gs n ps i
  pub fine : SidesFine ps ns gs n (i + 1)

pub going_none : (ps ns gs : List ℕ) (n : ℕ) → Going ps ns gs n 0 0 0
going_none ps ns gs n = record { within = omega arith; nexts_so_far = sym (number_none gs n ns); prevs_so_far = sym (number_none gs n ps); fine = λ x p h. absurd (omega arith) }

pub nexts_most : {ps ns gs : List ℕ} {n nexts prevs i : ℕ} → Going ps ns gs n nexts prevs i → nexts ≤ i
nexts_most {ps} {ns} {gs} {n} {nexts} {prevs} {i} going = omega (arith, going.nexts_so_far, number_most gs n ns i)

pub prevs_most : {ps ns gs : List ℕ} {n nexts prevs i : ℕ} → Going ps ns gs n nexts prevs i → prevs ≤ i
prevs_most {ps} {ns} {gs} {n} {nexts} {prevs} {i} going = omega (arith, going.prevs_so_far, number_most gs n ps i)

-- a free slot
pub going_free : {ps ns gs : List ℕ} {n nexts prevs i : ℕ} → Going ps ns gs n nexts prevs i → i < n → get_or gs i 0 ≡ 0 → Going ps ns gs n nexts prevs (i + 1)
going_free {ps} {ns} {gs} {n} {nexts} {prevs} {i} going h g = record {
  within = omega arith;
  nexts_so_far = going.nexts_so_far ∙ sym (number_free gs n ns i g);
  prevs_so_far = going.prevs_so_far ∙ sym (number_free gs n ps i g);
  fine = sides_more ps ns gs n (i + 1) going.fine (side_free ps ns gs n i g);
}

-- a link, with a next or without, and with a prev that names it or without
module _ {ps ns gs : List ℕ} {n nexts prevs i : ℕ} (going : Going ps ns gs n nexts prevs i) (h : i < n) (g : get_or gs i 0 ≡ 0 → ⊥) where
  more_nexts : (get_or ns i 0 ≡ 0 → ⊥) → nexts + 1 ≡ number gs n ns (i + 1)
  more_nexts d = ap (λ (k : ℕ). k + 1) going.nexts_so_far ∙ sym (number_with gs n ns i h g d)

  same_nexts : get_or ns i 0 ≡ 0 → nexts ≡ number gs n ns (i + 1)
  same_nexts z = going.nexts_so_far ∙ sym (number_without gs n ns i z)

  without_prev : (more : ℕ) → more ≡ number gs n ns (i + 1) → get_or ps i 0 ≡ 0 → Going ps ns gs n more prevs (i + 1)
  without_prev more counted z = record {
    within = omega arith;
    nexts_so_far = counted;
    prevs_so_far = going.prevs_so_far ∙ sym (number_without gs n ps i z);
    fine = sides_more ps ns gs n (i + 1) going.fine (side_without ps ns gs n i z);
  }

  with_prev : (more : ℕ) → more ≡ number gs n ns (i + 1) → (get_or ps i 0 ≡ 0 → ⊥) → names_back ns gs n (i + 1) (get_or ps i 0) ≡ true → Going ps ns gs n more (prevs + 1) (i + 1)
  with_prev more counted d e = record {
    within = omega arith;
    nexts_so_far = counted;
    prevs_so_far = ap (λ (k : ℕ). k + 1) going.prevs_so_far ∙ sym (number_with gs n ps i h g d);
    fine = sides_more ps ns gs n (i + 1) going.fine (sym (side_link ps ns gs n i h g) ∙ e);
  }

  pub going_start : get_or ps i 0 ≡ 0 → (get_or ns i 0 ≡ 0 → ⊥) → Going ps ns gs n (nexts + 1) prevs (i + 1)
  going_start z d = without_prev _ (more_nexts d) z

  pub going_alone : get_or ps i 0 ≡ 0 → get_or ns i 0 ≡ 0 → Going ps ns gs n nexts prevs (i + 1)
  going_alone z e = without_prev _ (same_nexts e) z

  module _ (some : get_or ps i 0 ≡ 0 → ⊥) (named : names_back ns gs n (i + 1) (get_or ps i 0) ≡ true) where
    pub going_middle : (get_or ns i 0 ≡ 0 → ⊥) → Going ps ns gs n (nexts + 1) (prevs + 1) (i + 1)
    going_middle d = with_prev _ (more_nexts d) some named

    pub going_end : get_or ns i 0 ≡ 0 → Going ps ns gs n nexts (prevs + 1) (i + 1)
    going_end e = with_prev _ (same_nexts e) some named

-- ---- what the passes answer

module _ (ps ns gs : List ℕ) (n : ℕ) where
  -- the prev side fails at slot i + 1 and at none before it
  pub prev_stopped : {nexts prevs i : ℕ} → Going ps ns gs n nexts prevs i → i < n → (get_or gs i 0 ≡ 0 → ⊥) → names_back ns gs n (i + 1) (get_or ps i 0) ≡ false → PrevEnd ps ns gs n (i + 1)
  prev_stopped {nexts} {prevs} {i} going h g e = record {
    some = omega arith;
    within = omega arith;
    lower = going.fine;
    fails = λ l. sym (side_link ps ns gs n i h g) ∙ e;
    other = λ l. absurd (omega arith);
  }

  -- it fails at none, and there are as many links with a next as with a prev, or not
  module _ {nexts prevs i : ℕ} (going : Going ps ns gs n nexts prevs i) (ended : n ≤ i) where
    done : i ≡ n
    done = omega (arith, going.within)

    all_fine_lem : SidesFine ps ns gs n (n + 1)
    all_fine_lem x p h = going.fine x p (omega (arith, done))

    same_numbers : (nexts ≡ prevs) ↔ (number gs n ns n ≡ number gs n ps n)
    same_numbers = (λ e. ap (number gs n ns) (sym done) ∙ sym going.nexts_so_far ∙ e ∙ going.prevs_so_far ∙ ap (number gs n ps) done, λ e. going.nexts_so_far ∙ ap (number gs n ns) done ∙ e ∙ ap (number gs n ps) (sym done) ∙ sym going.prevs_so_far)

    pub prev_passed : nexts ≡ prevs → SidesFine ps ns gs n (n + 1) × SidesFine ns ps gs n (n + 1)
    prev_passed e = (all_fine_lem, other_side ps ns gs n all_fine_lem (omega (arith, same_numbers.0 e)))

    pub prev_passed_alone : (nexts ≡ prevs → ⊥) → PrevEnd ps ns gs n (n + 1)
    prev_passed_alone d = record {
      some = omega arith;
      within = omega arith;
      lower = all_fine_lem;
      fails = λ l. absurd (omega arith);
      other = λ l next. d (same_numbers.1 (as_many_sides ps ns gs n all_fine_lem next));
    }

  -- both passes: rule 11 fails nowhere, or first where the second pass ended, or else the first
  pub passes_none : SidesFine ps ns gs n (n + 1) × SidesFine ns ps gs n (n + 1) → first_or 0 (broken_slots ps ns gs n) ≡ 0
  passes_none sides = none_first ps ns gs n (λ x p h. fine_both ps ns gs n x (sides.0 x p (omega arith)) (sides.1 x p (omega arith)))

  module _ (m : ℕ) (s : PrevEnd ps ns gs n m) where
    passes_next : (r : ℕ) → NextSides ps ns gs n m (Some r) → Finds n (first_or 0 (broken_slots ps ns gs n)) (Some r)
    passes_next r t = (sym first, t.0, omega (arith, t.1, s.within))
      where
        first : first_or 0 (broken_slots ps ns gs n) ≡ r
        first = first_is ps ns gs n r (record {
          some = t.0;
          within = omega (arith, t.1, s.within);
          fails = next_broken ps ns gs n r t.2;
          lower = λ y p h. fine_both ps ns gs n y (s.lower y p (omega (arith, t.1))) (t.3 y p h);
        })

    passes_prev : SidesFine ns ps gs n m → Finds n (first_or 0 (broken_slots ps ns gs n)) (Some m)
    passes_prev t = (sym first, s.some, within)
      where
        within : m ≤ n
        within = elim (dec_le m n) [ yes l ↦ l | no l ↦ absurd (s.other (omega arith) (λ x p h. t x p (omega arith))) ]

        first : first_or 0 (broken_slots ps ns gs n) ≡ m
        first = first_is ps ns gs n m (record {
          some = s.some;
          within = within;
          fails = prev_broken ps ns gs n m (s.fails within);
          lower = λ y p h. fine_both ps ns gs n y (s.lower y p h) (t y p h);
        })

    pub passes_first : (r : Option ℕ) → NextSides ps ns gs n m r → Finds n (first_or 0 (broken_slots ps ns gs n)) (option_or r (Some m))
    passes_first None t = passes_prev t
    passes_first (Some r) t = passes_next r t

pub ruleset sides_read = (side_none, side_no_link, side_named)

pub ruleset leading = (leads_past, leads_read)

pub ruleset ends = (passes_none, passes_first)

pub ruleset going_on = (link_here, going_none, nexts_most, prevs_most, going_free, going_start, going_alone, going_middle, going_end, prev_stopped, prev_passed, prev_passed_alone)
