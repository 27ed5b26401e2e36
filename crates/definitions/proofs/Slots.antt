-- Laws of lists of slots: rising runs, those that pass a test, links and free slots, and how often a slot stands in a list. Assumes nothing.
use Prim.Native.Nat.{ℕ, zero, suc, ◌+◌, ◌≤◌, ◌<◌}
use mathlib.Core.Path.{◌≡◌, refl, sym, ap, ◌∙◌}
use mathlib.Core.Bool.{Bool, true, false, not, true≢false}
use mathlib.Core.List.{List, [], ◌∷◌, ◌++◌}
use native.Mathlib.Omega.{arith}
use native.Mathlib.Nat.{add-zero, add-suc, suc-add, zero-add}
use native.Mathlib.Numerals.{one-add}
use native.Mathlib.Decide.{ℕ_discrete}
use lib.ListN.{length, length-append}
use lib.Dec.{leb}
use borrow.Author.Tests.{eq-eqb, ne_eqb, eqb-false, le-leb, lt-leb, leb-true, not-true}
use Rattle.definitions.specs.Columns.{at, count, slots_from, keep}
use Rattle.definitions.specs.Arena.{allocated, link_slots, free_slots}
use Rattle.definitions.proofs.Tests.{by_test, both, both_first, both_second, not_first, not_second}
use Rattle.definitions.proofs.Columns.{at_zero}

-- ---- a slot is allocated

module _ (gs : List ℕ) (n s : ℕ) where
  pub allocated_yes : s ≤ n → (at gs s ≡ 0 → ⊥) → allocated gs n s ≡ true
  unfolding allocated
  allocated_yes h g = both _ _ (le-leb s n h) (ap not (ne_eqb (at gs s) 0 g))

  pub allocated_past : n < s → allocated gs n s ≡ false
  unfolding allocated
  allocated_past h = not_first _ _ (lt-leb s n h)

  pub allocated_free : at gs s ≡ 0 → allocated gs n s ≡ false
  unfolding allocated
  allocated_free g = not_second (leb s n) _ (ap not (eq-eqb (at gs s) 0 g))

  pub allocated_within : allocated gs n s ≡ true → s ≤ n
  unfolding allocated
  allocated_within e = leb-true s n (both_first _ _ e)

  pub allocated_live : allocated gs n s ≡ true → at gs s ≡ 0 → ⊥
  unfolding allocated
  allocated_live e = eqb-false (at gs s) 0 (not-true _ (both_second (leb s n) _ e))

  pub allocated_some : allocated gs n s ≡ true → 0 < s
  allocated_some e = ⊎_pos (ℕ_discrete s 0)
    where
      ⊎_pos : Dec (s ≡ 0) → 0 < s
      ⊎_pos (yes z) = absurd (allocated_live e (ap (at gs) z ∙ at_zero gs))
      ⊎_pos (no d) = omega arith

  pub not_allocated : allocated gs n s ≡ false → s ≤ n → at gs s ≡ 0
  not_allocated e h = go (ℕ_discrete (at gs s) 0)
    where
      go : Dec (at gs s ≡ 0) → at gs s ≡ 0
      go (yes z) = z
      go (no d) = absurd (true≢false (sym (allocated_yes h d) ∙ e))

-- ---- rising runs

pub slots_snoc : (s k : ℕ) → slots_from s (suc k) ≡ slots_from s k ++ ((s + k) ∷ [])
unfolding slots_from
slots_snoc s zero = rw add-zero refl
slots_snoc s (suc k) = ap (λ (l : List ℕ). s ∷ l) (slots_snoc (suc s) k ∙ ap (λ (x : ℕ). slots_from (suc s) k ++ (x ∷ [])) (omega arith))

pub length_slots : (s k : ℕ) → length (slots_from s k) ≡ k
unfolding slots_from
length_slots s zero = refl
length_slots s (suc k) = ap suc (length_slots (suc s) k)

-- ---- those that pass a test

module _ (test : ℕ → Bool) where
  pub keep_append : (xs ys : List ℕ) → keep test (xs ++ ys) ≡ keep test xs ++ keep test ys
  unfolding keep
  keep_append [] ys = refl
  keep_append (x ∷ xs) ys =
      by_test (test x) (λ e. rw e (ap (λ (l : List ℕ). x ∷ l) (keep_append xs ys))) (λ e. rw e (keep_append xs ys))

  -- one slot more, that passes or not
  pub keep_more : (k : ℕ) → test (suc k) ≡ true → length (keep test (slots_from 1 (suc k))) ≡ length (keep test (slots_from 1 k)) + 1
  unfolding keep
  keep_more k e =
      let at_end : test (1 + k) ≡ true = rw one-add e in
      rw (slots_snoc 1 k, keep_append, length-append, at_end) refl

  pub keep_same : (k : ℕ) → test (suc k) ≡ false → length (keep test (slots_from 1 (suc k))) ≡ length (keep test (slots_from 1 k))
  unfolding keep
  keep_same k e =
      let at_end : test (1 + k) ≡ false = rw one-add e in
      rw (slots_snoc 1 k, keep_append, length-append, at_end) (add-zero _)

-- every member passes or does not
pub keep_parts : (test : ℕ → Bool) (xs : List ℕ) → length (keep test xs) + length (keep (λ x. not (test x)) xs) ≡ length xs
unfolding keep
keep_parts test [] = refl
keep_parts test (x ∷ xs) =
    by_test (test x) (λ e. rw (e, suc-add) (ap suc (keep_parts test xs))) (λ e. rw (e, add-suc) (ap suc (keep_parts test xs)))

pub links_and_free : (gs : List ℕ) (n : ℕ) → length (link_slots gs n) + length (free_slots gs n) ≡ n
unfolding link_slots free_slots
links_and_free gs n = keep_parts (allocated gs n) (slots_from 1 n) ∙ length_slots 1 n

-- ---- how often a slot stands in a list

pub count_nil : (x : ℕ) → count x [] ≡ 0
unfolding count
count_nil x = refl

pub count_here : (x : ℕ) (xs : List ℕ) → count x (x ∷ xs) ≡ 1 + count x xs
unfolding count
count_here x xs = rw (eq-eqb x x refl) refl

pub count_there : (x y : ℕ) (ys : List ℕ) → (x ≡ y → ⊥) → count x (y ∷ ys) ≡ count x ys
unfolding count
count_there x y ys d = rw (ne_eqb x y d) (zero-add _)

pub count_append : (x : ℕ) (xs ys : List ℕ) → count x (xs ++ ys) ≡ count x xs + count x ys
unfolding count
count_append x [] ys = sym (zero-add _)
count_append x (y ∷ xs) ys = omega (arith, count_append x xs ys)

-- a slot outside a rising run does not stand in it, and one inside stands in it once
pub count_slots_out : (x s k : ℕ) → (s ≤ x → x < s + k → ⊥) → count x (slots_from s k) ≡ 0
unfolding slots_from
count_slots_out x s zero h = count_nil x
count_slots_out x s (suc k) h =
    count_there x s (slots_from (suc s) k) (λ e. h (omega arith) (omega arith)) ∙ count_slots_out x (suc s) k (λ a b. h (omega arith) (omega arith))

pub count_slots_in : (x s k : ℕ) → s ≤ x → x < s + k → count x (slots_from s k) ≡ 1
unfolding slots_from
count_slots_in x s zero a b = absurd (omega arith)
count_slots_in x s (suc k) a b = go (ℕ_discrete x s) (λ c d. count_slots_in x (suc s) k c d)
  where
    go : Dec (x ≡ s) → (suc s ≤ x → x < suc s + k → count x (slots_from (suc s) k) ≡ 1) → count x (s ∷ slots_from (suc s) k) ≡ 1
    go (yes e) ih = rw (← e) (count_here x (slots_from (suc x) k) ∙ ap (λ (m : ℕ). 1 + m) (count_slots_out x (suc x) k (λ c d. omega arith)))
    go (no d) ih = count_there x s (slots_from (suc s) k) d ∙ ih (omega arith) (omega arith)
