-- What is said of the list leaves no choice: no other list has all small arenas in this order, and no two of its entries are equal. Two lists of as many entries
-- that both rise and hold the same: an entry's place in the other list rises with its own place, and so it is the same place. Assumes nothing.
use Prim.Native.Nat.{ℕ, zero, suc, ◌+◌, ◌-◌, ◌≤◌, ◌<◌}
use mathlib.Core.Path.{◌≡◌, sym, ap, ◌∙◌}
use mathlib.Core.Bool.{Bool, true, false, cond, true≢false}
use mathlib.Core.List.{List, [], ◌∷◌}
use native.Mathlib.Omega.{arith}
use native.Mathlib.Decide.{ℕ_discrete, dec_lt}
use lib.ListN.{length}
use lib.Seq.{ext_get_or}
use lib.Dec.{eqb, ltb}
use borrow.Author.Tests.{eqb-true, le-ltb}
use Rattle.definitions.specs.Arena.{Arena, arena}
use Rattle.definitions.proofs.Tests.{by_test}
use Rattle.statements.specs.SmallArenas.{order_words, earlier, before, entry, AllSmall}
use Rattle.all_small.specs.SmallArenas.{small_arenas}
use Rattle.all_small.proofs.SmallArenas.{small_arenas_at}

-- ---- the order is strict

-- the first words decide, or they are equal and the rest does
first_words : (x y : ℕ) (rest : Bool) → cond (ltb x y) true (cond (eqb x y) rest false) ≡ true → (y ≤ x → (x ≡ y) × (rest ≡ true))
first_words x y rest e h =
    by_test (eqb x y) (λ q. (eqb-true x y q, rw (le-ltb x y h, q) at e)) (λ q. absurd (true≢false (sym (rw (le-ltb x y h, q) at e))))

never_both : (xs ys : List ℕ) → earlier xs ys ≡ true → earlier ys xs ≡ true → ⊥
unfolding earlier
never_both [] ys e f = true≢false (sym e)
never_both (x ∷ xs) [] e f = true≢false (sym e)
never_both (x ∷ xs) (y ∷ ys) e f = elim (dec_lt x y) [
  | yes l ↦ omega (arith, (first_words y x (earlier ys xs) f (omega arith)).0)
  | no l ↦ elim (dec_lt y x) [
    | yes m ↦ omega (arith, (first_words x y (earlier xs ys) e (omega arith)).0)
    | no m ↦ never_both xs ys (first_words x y (earlier xs ys) e (omega arith)).1 (first_words y x (earlier ys xs) f (omega arith)).1
  ]
]

before_once : (a b : Arena) → before a b ≡ true → before b a ≡ true → ⊥
unfolding before
before_once a b = never_both (order_words a) (order_words b)

-- ---- no entry is there twice

module _ {limit : ℕ} {arenas : List Arena} (w : AllSmall limit arenas) where
  pub none_twice : (i j : ℕ) → i < length arenas → j < length arenas → entry arenas i ≡ entry arenas j → i ≡ j
  none_twice i j p q e = elim (dec_lt i j) [
    | yes l ↦ absurd (twice i j l q e)
    | no l ↦ elim (dec_lt j i) [ yes m ↦ absurd (twice j i m p (sym e)) | no m ↦ omega arith ]
  ]
    where
      twice : (i j : ℕ) → i < j → j < length arenas → entry arenas i ≡ entry arenas j → ⊥
      twice i j l q e = let once : before (entry arenas j) (entry arenas j) ≡ true = rw e at (w.rising i j l q) in before_once (entry arenas j) (entry arenas j) once once

  -- the earlier of two entries has the lower place
  lower_place : (i j : ℕ) → i < length arenas → j < length arenas → before (entry arenas i) (entry arenas j) ≡ true → i < j
  lower_place i j p q e = elim (dec_lt i j) [
    | yes l ↦ l
    | no l ↦ elim (ℕ_discrete i j) [
      | yes d ↦ absurd (let once : before (entry arenas j) (entry arenas j) ≡ true = rw d at e in before_once _ _ once once)
      | no d ↦ absurd (before_once (entry arenas i) (entry arenas j) e (w.rising j i (omega arith) p))
    ]
  ]

-- ---- so two lists of them are equal

module _ {limit : ℕ} {xs ys : List Arena} (v : AllSmall limit xs) (w : AllSmall limit ys) where
  -- the place in ys of an entry of xs
  place : (i : ℕ) → i < length xs → (j : ℕ) × (j < length ys) × (entry ys j ≡ entry xs i)
  place i h = w.every (entry xs i) (v.small i h)

  rises : (i k : ℕ) (p : i < length xs) (q : k < length xs) → i < k → (place i p).0 < (place k q).0
  rises i k p q l =
      lower_place w (place i p).0 (place k q).0 (place i p).1 (place k q).1 (rw ((place i p).2, (place k q).2) (v.rising i k l q))

  at_least : (i : ℕ) (p : i < length xs) → i ≤ (place i p).0
  at_least zero p = omega arith
  at_least (suc i) p = let q : i < length xs = omega arith in omega (arith, at_least i q, rises i (suc i) q p (omega arith))

  -- as many places are above it in one list as in the other
  ahead : (i k : ℕ) (p : i < length xs) (q : i + k < length xs) → (place i p).0 + k ≤ (place (i + k) q).0
  ahead i zero p q = omega (arith, same)
    where
      same : (place i p).0 ≤ (place (i + 0) q).0
      same = elim (dec_lt (place i p).0 (suc (place (i + 0) q).0)) [ yes l ↦ omega arith | no l ↦ omega (arith, none_twice w (place i p).0 (place (i + 0) q).0 (place i p).1 (place (i + 0) q).1 ((place i p).2 ∙ ap (entry xs) (omega arith) ∙ sym (place (i + 0) q).2)) ]
  ahead i (suc k) p q = let r : i + k < length xs = omega arith in omega (arith, ahead i k p r, rises (i + k) (i + suc k) r q (omega arith))

  same_list : xs ≡ ys
  unfolding entry
  same_list = ext_get_or (arena [] [] [] [] []) xs ys (v.size ∙ sym w.size) (λ i h. sym (there i h))
    where
      there : (i : ℕ) (h : i < length xs) → entry ys i ≡ entry xs i
      there i h =
          let last : i + (89 - i) < length xs = omega (arith, v.size, h) in
          let e : (place i h).0 ≡ i = omega (arith, at_least i h, ahead i (89 - i) h last, (place (i + (89 - i)) last).1, w.size, v.size) in
          ap (entry ys) (sym e) ∙ (place i h).2

-- nothing but the list has all small arenas in their order
pub no_other_list : (limit : ℕ) → 3 ≤ limit → (arenas : List Arena) → AllSmall limit arenas → arenas ≡ small_arenas
no_other_list limit h arenas w = same_list w (small_arenas_at limit h)
