-- The lowest slot at which rule 11 fails: who is first among the slots that a test keeps, and what that says of `broken_slots`, `broken_slot` and `broken_side`.
-- Assumes nothing.
use Prim.Native.Nat.{ℕ, zero, suc, ◌+◌, ◌≤◌, ◌<◌}
use mathlib.Core.Path.{◌≡◌, refl, sym, ap, ◌∙◌}
use mathlib.Core.Logic.{◌⊎◌, inl, inr}
use mathlib.Core.Bool.{Bool, true, false, not, true≢false}
use mathlib.Core.List.{List, []}
use native.Mathlib.Omega.{arith}
use native.Mathlib.Decide.{ℕ_discrete}
use lib.Dec.{eqb}
use borrow.Author.Tests.{eq-eqb, ne_eqb}
use Rattle.definitions.specs.Columns.{first_or, slots_from, keep}
use Rattle.definitions.specs.Arena.{Arena, stack_length}
use Rattle.definitions.specs.Check.{neighbours_fine, all_fine, verdict, broken_slots, side_at, broken_slot, broken_side}
use Rattle.definitions.proofs.Tests.{by_test, not_yes, not_no}
use Rattle.definitions.proofs.Count.{keep_yes, keep_no}
use Rattle.definitions.proofs.Interlinks.{all_fine_lem, not_all_fine}

-- ---- the first of k slots from s on that passes a test

module _ (test : ℕ → Bool) where
  pub none_kept : (s k : ℕ) → ((x : ℕ) → s ≤ x → x < s + k → test x ≡ false) → keep test (slots_from s k) ≡ []
  unfolding slots_from
  none_kept s zero fails = unfold keep in refl
  none_kept s (suc k) fails = keep_no test s (slots_from (suc s) k) (fails s (omega arith) (omega arith)) ∙ none_kept (suc s) k (λ x h i. fails x (omega arith) (omega arith))

  pub first_kept : (s k x : ℕ) → s ≤ x → x < s + k → test x ≡ true → ((y : ℕ) → s ≤ y → y < x → test y ≡ false) → first_or 0 (keep test (slots_from s k)) ≡ x
  unfolding slots_from
  first_kept s zero x h i e lower = absurd (omega arith)
  first_kept s (suc k) x h i e lower =
      elim (ℕ_discrete s x) [
        | yes q ↦ ap (first_or 0) (keep_yes test s (slots_from (suc s) k) (rw q e)) ∙ (unfold first_or in q)
        | no d ↦
            ap (first_or 0) (keep_no test s (slots_from (suc s) k) (lower s (omega arith) (omega arith)))
            ∙ first_kept (suc s) k x (omega arith) (omega arith) e (λ y l m. lower y (omega arith) m)
      ]

-- ---- rule 11

-- x is the lowest of the slots 1 to k at which rule 11 fails
pub record Lowest (ps ns gs : List ℕ) (n k x : ℕ) : Type 0 where
  pub some : 0 < x
  pub within : x ≤ k
  pub fails : neighbours_fine ps ns gs n x ≡ false
  pub lower : (y : ℕ) → 0 < y → y < x → neighbours_fine ps ns gs n y ≡ true

module _ (ps ns gs : List ℕ) (n : ℕ) where
  abbrev fine : ℕ → Bool
  fine x = neighbours_fine ps ns gs n x

  abbrev first : ℕ
  first = first_or 0 (broken_slots ps ns gs n)

  -- the first of the list is the lowest, and 0 where the rule fails nowhere
  pub first_is : (x : ℕ) → Lowest ps ns gs n n x → first ≡ x
  unfolding broken_slots
  first_is x l = first_kept (λ y. not (fine y)) 1 n x (omega (arith, l.some)) (omega (arith, l.within)) (not_no _ l.fails) (λ y h i. not_yes _ (l.lower y (omega arith) i))

  pub none_first : ((x : ℕ) → 0 < x → x ≤ n → fine x ≡ true) → first ≡ 0
  unfolding broken_slots first_or
  none_first all = rw (none_kept (λ y. not (fine y)) 1 n (λ y h i. not_yes _ (all y (omega arith) (omega arith)))) refl

  -- the rule holds at all of the slots 1 to k, or there is a lowest at which it fails
  pub find_lowest : (k : ℕ) → ((x : ℕ) → 0 < x → x ≤ k → fine x ≡ true) ⊎ ((x : ℕ) × Lowest ps ns gs n k x)
  find_lowest zero = inl (λ x p h. absurd (omega arith))
  find_lowest (suc k) = go (find_lowest k)
    where
      go : ((x : ℕ) → 0 < x → x ≤ k → fine x ≡ true) ⊎ ((x : ℕ) × Lowest ps ns gs n k x) → ((x : ℕ) → 0 < x → x ≤ suc k → fine x ≡ true) ⊎ ((x : ℕ) × Lowest ps ns gs n (suc k) x)
      go (inr (x, l)) = inr (x, record { some = l.some; within = omega (arith, l.within); fails = l.fails; lower = l.lower })
      go (inl all) =
          by_test (fine (suc k))
          (λ e. inl (λ x p h. elim (ℕ_discrete x (suc k)) [ yes q ↦ rw q e | no d ↦ all x p (omega arith) ]))
          (λ e. inr (suc k, record { some = omega arith; within = omega arith; fails = e; lower = λ y p h. all y p (omega arith) }))

  -- 0 stands for none, and any other first is the lowest
  pub none_or_lowest : (((x : ℕ) → 0 < x → x ≤ n → fine x ≡ true) × (first ≡ 0)) ⊎ Lowest ps ns gs n n first
  none_or_lowest = go (find_lowest n)
    where
      go : ((x : ℕ) → 0 < x → x ≤ n → fine x ≡ true) ⊎ ((x : ℕ) × Lowest ps ns gs n n x) → (((x : ℕ) → 0 < x → x ≤ n → fine x ≡ true) × (first ≡ 0)) ⊎ Lowest ps ns gs n n first
      go (inl all) = inl (all, none_first all)
      go (inr (x, l)) = inr (rw (first_is x l) l)

  pub all_fine_first : all_fine ps ns gs n n ≡ eqb first 0
  all_fine_first = go none_or_lowest
    where
      go : (((x : ℕ) → 0 < x → x ≤ n → fine x ≡ true) × (first ≡ 0)) ⊎ Lowest ps ns gs n n first → all_fine ps ns gs n n ≡ eqb first 0
      go (inl (all, z)) = all_fine_lem ps ns gs n n all ∙ sym (eq-eqb first 0 z)
      go (inr l) = not_all_fine ps ns gs n n first l.some l.within l.fails ∙ sym (ne_eqb first 0 (λ z. omega (arith, l.some)))

  pub first_lowest : all_fine ps ns gs n n ≡ false → Lowest ps ns gs n n first
  first_lowest f = go none_or_lowest
    where
      go : (((x : ℕ) → 0 < x → x ≤ n → fine x ≡ true) × (first ≡ 0)) ⊎ Lowest ps ns gs n n first → Lowest ps ns gs n n first
      go (inl (all, z)) = absurd (true≢false (sym (all_fine_lem ps ns gs n n all) ∙ f))
      go (inr l) = l

  pub first_within : (r : ℕ) → r ≡ first → r ≤ n
  first_within r e = go none_or_lowest
    where
      go : (((x : ℕ) → 0 < x → x ≤ n → fine x ≡ true) × (first ≡ 0)) ⊎ Lowest ps ns gs n n first → r ≤ n
      go (inl (all, z)) = omega arith
      go (inr l) = omega (arith, l.within)

-- ---- the words that go with the verdict

module _ (limit : ℕ) (a : Arena) where
  abbrev pub lowest_broken : ℕ
  lowest_broken = first_or 0 (broken_slots a.prev a.next a.generation (stack_length a))

  pub slot_with_eleven : verdict limit a ≡ 11 → broken_slot limit a ≡ lowest_broken
  unfolding broken_slot
  slot_with_eleven e = rw (eq-eqb (verdict limit a) 11 e) refl

  pub side_with_eleven : verdict limit a ≡ 11 → broken_side limit a ≡ side_at a.prev a.next a.generation (stack_length a) lowest_broken
  unfolding broken_side
  side_with_eleven e = rw (eq-eqb (verdict limit a) 11 e, slot_with_eleven e) refl

  pub slot_without : (verdict limit a ≡ 11 → ⊥) → broken_slot limit a ≡ 0
  unfolding broken_slot
  slot_without d = rw (ne_eqb (verdict limit a) 11 d) refl

  pub side_without : (verdict limit a ≡ 11 → ⊥) → broken_side limit a ≡ 0
  unfolding broken_side
  side_without d = rw (ne_eqb (verdict limit a) 11 d) refl
