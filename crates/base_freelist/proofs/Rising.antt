-- Laws of the links up to a slot: what one slot more adds, and which is the highest. Assumes nothing.
use Prim.Native.Nat.{ℕ, zero, suc, ◌+◌, ◌-◌, ◌≤◌, ◌<◌}
use mathlib.Core.Path.{◌≡◌, refl, sym, ap, ◌∙◌}
use mathlib.Core.List.{List, [], ◌∷◌, ◌++◌, append-nil}
use native.Mathlib.Omega.{arith}
use native.Mathlib.Numerals.{one-add, add-one}
use native.Mathlib.Nat.{zero-add, add-zero, add-suc}
use lib.ListN.{length, get_or, take}
use lib.Seq.{length-take-le}
use borrow.Author.Tests.{le-leb}
use Rattle.definitions.specs.Columns.{at, last_or, slots_from, keep}
use Rattle.definitions.specs.Arena.{allocated, link_slots}
use Rattle.definitions.proofs.Parts.{at_take}
use Rattle.definitions.proofs.Slots.{slots_snoc, keep_append, allocated_yes, allocated_free}
use Rattle.definitions.proofs.Count.{keep_agree, in_slots}
use Rattle.definitions.proofs.Relisted.{highest_within}

-- up to the shorter of two stack lengths a slot is allocated in both or in neither
allocated_agree : (gs : List ℕ) (n m s : ℕ) → s ≤ n → s ≤ m → allocated gs n s ≡ allocated gs m s
unfolding allocated
allocated_agree gs n m s h l = rw (le-leb s n h, le-leb s m l) refl

module _ (gs : List ℕ) (k : ℕ) where
  keep_below : keep (allocated gs (suc k)) (slots_from 1 k) ≡ link_slots gs k
  unfolding link_slots
  keep_below = keep_agree _ _ (slots_from 1 k) (λ x h. let within = in_slots x 1 k h in allocated_agree gs (suc k) k x (omega arith) (omega arith))

  last_slot : slots_from 1 (suc k) ≡ slots_from 1 k ++ (suc k ∷ [])
  last_slot = slots_snoc 1 k ∙ ap (λ (x : ℕ). slots_from 1 k ++ (x ∷ [])) (one-add k)

  -- one slot more is a link or is not
  pub links_more : (at gs (suc k) ≡ 0 → ⊥) → link_slots gs (suc k) ≡ link_slots gs k ++ (suc k ∷ [])
  unfolding link_slots keep
  links_more g = rw (last_slot, keep_append, keep_below, allocated_yes gs (suc k) (suc k) (omega arith) g) refl

  pub links_same : at gs (suc k) ≡ 0 → link_slots gs (suc k) ≡ link_slots gs k
  unfolding link_slots keep
  links_same g = rw (last_slot, keep_append, keep_below, allocated_free gs (suc k) (suc k) g) (append-nil _)

pub last_of_more : (z x : ℕ) (xs : List ℕ) → last_or z (xs ++ (x ∷ [])) ≡ x
unfolding last_or
last_of_more z x [] = refl
last_of_more z x (y ∷ xs) = last_of_more y x xs

-- past slot m there is no link
links_stay : (gs : List ℕ) (m d : ℕ) → ((k : ℕ) → m ≤ k → k < m + d → get_or gs k 0 ≡ 0) → link_slots gs (m + d) ≡ link_slots gs m
unfolding at
links_stay gs m zero f = rw add-zero refl
links_stay gs m (suc d) f = rw add-suc (links_same gs (m + d) (f (m + d) (omega arith) (omega arith)) ∙ links_stay gs m d (λ k h l. f k h (omega arith)))

-- the highest link of a stack of n slots: that at the last of the first n places that is not 0, none where all are 0
module _ (gs : List ℕ) (n : ℕ) where
  pub highest_found : (i : ℕ) → i < n → (get_or gs i 0 ≡ 0 → ⊥) → ((k : ℕ) → i < k → k < n → get_or gs k 0 ≡ 0) → i + 1 ≡ last_or 0 (link_slots gs n)
  unfolding at
  highest_found i h g f =
      let all : suc i + (n - suc i) ≡ n = omega arith in
      let rest = links_stay gs (suc i) (n - suc i) (λ k l r. f k l (omega arith)) in
      rw add-one (sym (last_of_more 0 (suc i) (link_slots gs i)) ∙ ap (last_or 0) (sym (links_more gs i g) ∙ sym (rw all at rest)))

  pub highest_none : ((k : ℕ) → k < n → get_or gs k 0 ≡ 0) → 0 ≡ last_or 0 (link_slots gs n)
  unfolding link_slots slots_from keep last_or
  highest_none f = let rest = links_stay gs 0 n (λ k l r. f k (omega arith)) in ap (last_or 0) (sym (rw zero-add at rest))

  -- of the stack's links only the first n generations are read
  allocated_take : (s : ℕ) → s ≤ n → allocated (take n gs) n s ≡ allocated gs n s
  unfolding allocated
  allocated_take s h = rw (at_take n gs s h) refl

  links_take : link_slots (take n gs) n ≡ link_slots gs n
  unfolding link_slots
  links_take = keep_agree _ _ (slots_from 1 n) (λ s i. let within = in_slots s 1 n i in allocated_take s (omega arith))

  pub highest_in_stack : (m : ℕ) → n ≤ length gs → m ≡ last_or 0 (link_slots (take n gs) (length (take n gs))) → m ≡ last_or 0 (link_slots gs n)
  highest_in_stack m h e = let size : length (take n gs) ≡ n = length-take-le n gs h in rw (← links_take) (rw size at e)

-- where a stack ends that has no free end slots
pub ends_within : (gs : List ℕ) (n m : ℕ) → m ≡ last_or 0 (link_slots gs n) → m ≤ n
ends_within gs n m e = omega (arith, highest_within gs n)
