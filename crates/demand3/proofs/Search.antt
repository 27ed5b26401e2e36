-- The search for the lowest link at or above a slot: it passes over a free slot, stops at a link, and ends past the stack. After a chain is laid out all slots
-- from i up to the last found one are free, so that resuming at the larger of the two finds the same link: the search is linear. Assumes nothing.
use Prim.Native.Nat.{ℕ, zero, suc, ◌+◌, ◌-◌, ◌≤◌, ◌<◌}
use mathlib.Core.Path.{◌≡◌, refl, sym, ap, ◌∙◌}
use mathlib.Core.Bool.{true, false}
use native.Mathlib.Omega.{arith}
use native.Mathlib.Nat.{add-zero}
use native.Mathlib.Decide.{dec_le}
use Rattle.definitions.specs.Columns.{first_or, slots_from, keep}
use Rattle.definitions.specs.Arena.{Arena, stack_length, is_link}
use Rattle.definitions.specs.Compress.{lowest_from}
use Rattle.definitions.proofs.Tests.{by_test}
use Rattle.definitions.proofs.Count.{keep_yes, keep_no}
use Rattle.chains.proofs.Links.{link_within}

-- so many slots from i on that reach the end of the stack
some_left : (n i : ℕ) → i ≤ n → suc n - i ≡ suc (n - i)
some_left n i h = omega arith

module _ (b : Arena) (i : ℕ) where
  -- the lowest link from slot i on: i itself, if it is a link
  pub lowest_stops : i ≤ stack_length b → is_link b i ≡ true → lowest_from b i ≡ i
  unfolding lowest_from slots_from
  lowest_stops h e = rw (some_left (stack_length b) i h, keep_yes (is_link b) i (slots_from (suc i) (stack_length b - i)) e) (unfold first_or in refl)

  -- the one found from the next slot on, if it is free
  pub lowest_passes : is_link b i ≡ false → lowest_from b i ≡ lowest_from b (suc i)
  unfolding lowest_from
  lowest_passes e = elim (dec_le i (stack_length b)) [ yes h ↦ within h | no h ↦ past h ]
    where
      n : ℕ
      n = stack_length b

      within : i ≤ n → first_or 0 (keep (is_link b) (slots_from i (suc n - i))) ≡ first_or 0 (keep (is_link b) (slots_from (suc i) (suc n - suc i)))
      within h =
          let q : suc n - suc i ≡ n - i = omega arith in
          rw (some_left n i h, q) (unfold slots_from in rw (keep_no (is_link b) i (slots_from (suc i) (n - i)) e) refl)

      past : (i ≤ n → ⊥) → first_or 0 (keep (is_link b) (slots_from i (suc n - i))) ≡ first_or 0 (keep (is_link b) (slots_from (suc i) (suc n - suc i)))
      past h =
          let q : suc n - i ≡ 0 = omega arith in
          let r : suc n - suc i ≡ 0 = omega arith in
          rw (q, r) (unfold slots_from in refl)

  -- none, past the stack
  pub lowest_ends : stack_length b < i → lowest_from b i ≡ 0
  unfolding lowest_from slots_from keep first_or
  lowest_ends h = let q : suc (stack_length b) - i ≡ 0 = omega arith in rw q refl

-- all slots from i up to j, without j, are free
abbrev pub FreeBetween : Arena → ℕ → ℕ → Type 0
FreeBetween b i j = (s : ℕ) → i ≤ s → s < j → is_link b s ≡ false

-- over d free slots
passes_many : (b : Arena) (i d : ℕ) → FreeBetween b i (i + d) → lowest_from b i ≡ lowest_from b (i + d)
passes_many b i zero h = ap (lowest_from b) (sym (add-zero i))
passes_many b i (suc d) h =
    let q : i + suc d ≡ suc i + d = omega arith in
    lowest_passes b i (h i (omega arith) (omega arith)) ∙ (passes_many b (suc i) d (λ s l m. h s (omega arith) (omega arith)) ∙ ap (lowest_from b) (sym q))

-- resuming at j finds the same
pub lowest_resumes : (b : Arena) (i j : ℕ) → i ≤ j → FreeBetween b i j → lowest_from b i ≡ lowest_from b j
lowest_resumes b i j l h =
    let q : i + (j - i) ≡ j = omega arith in
    rw q at (passes_many b i (j - i) (λ s x y. h s x (omega (arith, q))))

-- the slots before the lowest link are free
free_at : (b : Arena) (i k : ℕ) → i + k < lowest_from b i → is_link b (i + k) ≡ false
free_at b i zero m = by_test (is_link b i) (λ y. absurd (omega (arith, lowest_stops b i (link_within b i y) y))) (λ y. rw (add-zero i) y)
free_at b i (suc k) m =
    let q : i + suc k ≡ suc i + k = omega arith in
    by_test (is_link b i) (λ y. absurd (omega (arith, lowest_stops b i (link_within b i y) y))) (λ y. rw q (free_at b (suc i) k (omega (arith, lowest_passes b i y))))

pub free_before : (b : Arena) (i : ℕ) → FreeBetween b i (lowest_from b i)
free_before b i s l m = let q : i + (s - i) ≡ s = omega arith in rw q at (free_at b i (s - i) (omega (arith, q)))
