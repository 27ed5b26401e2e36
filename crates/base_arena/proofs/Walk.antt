-- The freelist walk, one visit at a time, as the code reads the columns. Assumes nothing.
use Prim.Native.Nat.{ℕ, zero, suc, ◌+◌, ◌-◌, ◌≤◌, ◌<◌}
use mathlib.Core.Path.{◌≡◌, refl, sym, ap, ◌∙◌}
use mathlib.Core.Bool.{Bool, true, false, cond, not}
use mathlib.Core.List.{List, [], ◌∷◌}
use native.Mathlib.Omega.{arith}
use native.Mathlib.Numerals.{sub-one}
use lib.ListN.{length, get_or}
use lib.Dec.{eqb, ltb}
use Rattle.definitions.specs.Columns.{at, count}
use Rattle.definitions.specs.Arena.{allocated, link_slots, free_slots}
use Rattle.definitions.specs.Check.{freelist_walk}
use Rattle.definitions.proofs.Tests.{by_test, tests}
use Rattle.definitions.proofs.Columns.{at_place}
use Rattle.definitions.proofs.Slots.{not_allocated, links_and_free}
use Rattle.definitions.proofs.Count.{once_one, once_among, in_only, shorter, count_links}
use Rattle.base_arena.specs.AllFree.{MayBe, Reads, Walks}

module _ (ns gs : List ℕ) (n : ℕ) where
  -- the walk at slot s after so many of the n + 2 visits
  unfoldable pub walk_after : ℕ → ℕ → ℕ
  walk_after visited s = freelist_walk ns gs n (n + 2 - visited) s visited

  walk_starts : (root : ℕ) → walk_after 0 root ≡ freelist_walk ns gs n (n + 2) root 0
  unfolding walk_after
  walk_starts root = ap (λ (k : ℕ). freelist_walk ns gs n k root 0) (omega arith)

  walk_ends : (visited s : ℕ) → n + 2 ≤ visited → 9 ≡ walk_after visited s
  unfolding walk_after freelist_walk
  walk_ends visited s h = let none : n + 2 - visited ≡ 0 = omega arith in rw none refl

  -- one visit, of which the code reads the places s - 1; rest is what the visits after it answer
  abbrev visit : ℕ → ℕ → ℕ → ℕ → ℕ
  visit free visited s rest =
      cond (eqb s 0) 6
      (cond (ltb n s) 7
      (cond (not (eqb (get_or gs (s - 1) 0) 0)) 8
      (cond (eqb (get_or ns (s - 1) 0) s) (cond (ltb (visited + 1) free) 10 0) rest)))

  one_left : (visited : ℕ) → visited < n + 2 → n + 2 - visited ≡ suc (n + 2 - (visited + 1))
  one_left visited h = omega arith

  walk_visits :
      (visited s : ℕ)
      → visited < n + 2 → visit (length (free_slots gs n)) visited s (walk_after (visited + 1) (get_or ns (s - 1) 0)) ≡ walk_after visited s
  unfolding walk_after freelist_walk at
  walk_visits visited zero h = rw (one_left visited h) refl
  walk_visits visited (suc i) h = rw (one_left visited h, sub-one) refl

  -- what a visit answers is what the walk from the root answers
  visit_answers :
      (root visited s r : ℕ)
      → walk_after visited s ≡ freelist_walk ns gs n (n + 2) root 0
      → visited < n + 2
      → r ≡ visit (length (free_slots gs n)) visited s (walk_after (visited + 1) (get_or ns (s - 1) 0))
      → r ≡ freelist_walk ns gs n (n + 2) root 0
  visit_answers root visited s r e h q = q ∙ walk_visits visited s h ∙ e

-- where all n slots are free no visit meets a link
module _ (gs : List ℕ) (n : ℕ) (all : n ≡ length (free_slots gs n)) where
  none_is_link : (s : ℕ) → 1 ≤ s → s ≤ n → at gs s ≡ 0
  none_is_link s p h =
      by_test (allocated gs n s)
      (λ l. absurd (omega (arith, count_links gs n s l, shorter (s ∷ []) (link_slots gs n) (one_among l), links_and_free gs n)))
      (λ l. not_allocated gs n s l h)
    where
      one_among : allocated gs n s ≡ true → (x : ℕ) → count x (s ∷ []) ≤ count x (link_slots gs n)
      one_among l = once_among (s ∷ []) (link_slots gs n) (once_one s) (λ x i. rw (in_only x s i) (omega (arith, count_links gs n s l)))

  -- as the code reads it
  free_here : (s : ℕ) → 0 < s → s ≤ n → false ≡ not (eqb (get_or gs (s - 1) 0) 0)
  free_here s p h = rw (at_place gs s (λ z. omega arith), none_is_link s (omega arith) h) refl

-- so whether a slot is a link is told without the generations, or by those that are lent
module _ (all_free : Bool) (lent : List ℕ) (s : ℕ) (p : 0 < s) where
  pub none_read : all_free ≡ true → Reads all_free lent s (not all_free)
  none_read e gs n h m = rw e (free_here gs n (rw e at m) s p h)

  pub link_read : all_free ≡ false → Reads all_free lent s (not (eqb (get_or lent (s - 1) 0) 0))
  link_read e gs n h m = rw (rw e at m) refl

-- so many slots are free
free_of : (all_free : Bool) (lent gs : List ℕ) (n free : ℕ) → free ≡ cond all_free n (length (free_slots lent n)) → MayBe all_free lent n gs → free ≡ length (free_slots gs n)
free_of true lent gs n free e all = e ∙ all
free_of false lent gs n free e same = rw same e

-- the walk that is left at slot s, after so many visits, answers what the walk from the root answers, with any generations that there may be
pub record Left (all_free : Bool) (ns lent : List ℕ) (root visited s : ℕ) : Type 0 where
  pub walks : (gs : List ℕ) → MayBe all_free lent (length ns) gs → walk_after ns gs (length ns) visited s ≡ freelist_walk ns gs (length ns) (length ns + 2) root 0

pub left_starts : (all_free : Bool) (ns lent : List ℕ) (root : ℕ) → Left all_free ns lent root 0 root
left_starts all_free ns lent root = record { walks = λ gs m. walk_starts ns gs (length ns) root }

module _ {all_free : Bool} {ns lent : List ℕ} {root visited s : ℕ} (left : Left all_free ns lent root visited s) where
  pub left_ends : length ns + 2 ≤ visited → Walks all_free ns lent root 9
  left_ends h gs m = walk_ends ns gs (length ns) visited s h ∙ left.walks gs m

  -- each end of a visit answers that too, and where it finds none the walk after it
  module _ (h : visited < length ns + 2) where
    pub visit_zero : s ≡ 0 → Walks all_free ns lent root 6
    visit_zero z gs m = visit_answers ns gs (length ns) root visited s 6 (left.walks gs m) h (search tests)

    module _ (some : s ≡ 0 → ⊥) where
      pub visit_above : length ns < s → Walks all_free ns lent root 7
      visit_above above gs m = visit_answers ns gs (length ns) root visited s 7 (left.walks gs m) h (search tests)

      module _ (within : s ≤ length ns) {link : Bool} (read : Reads all_free lent s link) where
        pub visit_link : link ≡ true → Walks all_free ns lent root 8
        visit_link e gs m =
            let there : not (eqb (get_or gs (s - 1) 0) 0) ≡ true = sym (read gs (length ns) within m) ∙ e in
            visit_answers ns gs (length ns) root visited s 8 (left.walks gs m) h (search tests)

        module _ (e : link ≡ false) where
          not_there : (gs : List ℕ) → MayBe all_free lent (length ns) gs → not (eqb (get_or gs (s - 1) 0) 0) ≡ false
          not_there gs m = sym (read gs (length ns) within m) ∙ e

          module _ {free : ℕ} (counted : free ≡ cond all_free (length ns) (length (free_slots lent (length ns)))) where
            pub visit_misses : get_or ns (s - 1) 0 ≡ s → visited + 1 < free → Walks all_free ns lent root 10
            visit_misses last few gs m =
                let n = length ns in
                let none = not_there gs m in
                let less : visited + 1 < length (free_slots gs n) = rw (free_of all_free lent gs n free counted m) at few in
                visit_answers ns gs n root visited s 10 (left.walks gs m) h (search tests)

            pub visit_whole : get_or ns (s - 1) 0 ≡ s → free ≤ visited + 1 → Walks all_free ns lent root 0
            visit_whole last all gs m =
                let n = length ns in
                let none = not_there gs m in
                let most : length (free_slots gs n) ≤ visited + 1 = rw (free_of all_free lent gs n free counted m) at all in
                visit_answers ns gs n root visited s 0 (left.walks gs m) h (search tests fits 4000)

          pub visit_goes_on : (get_or ns (s - 1) 0 ≡ s → ⊥) → Left all_free ns lent root (visited + 1) (get_or ns (s - 1) 0)
          visit_goes_on on = record {
            walks = λ gs m. let none = not_there gs m in visit_answers ns gs (length ns) root visited s _ (left.walks gs m) h (search tests);
          }

pub ruleset visits = (left_starts, left_ends, visit_zero, visit_above, visit_link, visit_misses, visit_whole, visit_goes_on)
