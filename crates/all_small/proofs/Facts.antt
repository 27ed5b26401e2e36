-- An arena whose words are those of a small one, tried slot by slot, is small at every limit from 3 on. Assumes nothing.
use Prim.Native.Nat.{ℕ, zero, suc, ◌≤◌}
use mathlib.Core.Path.{◌≡◌, refl}
use mathlib.Core.Bool.{Bool, true, false, cond, ◌&&◌}
use native.Mathlib.Omega.{arith}
use native.Mathlib.Decide.{ℕ_discrete, dec_le}
use lib.Dec.{eqb, leb}
use borrow.Author.Tests.{eqb-true, leb-true}
use Rattle.definitions.specs.Columns.{at}
use Rattle.definitions.specs.Arena.{Arena, capacity, stack_length, current, is_link}
use Rattle.definitions.specs.Check.{verdict, WellFormed}
use Rattle.definitions.proofs.Tests.{both_first, both_second}
use Rattle.definitions.proofs.Columns.{at_zero}
use Rattle.definitions.proofs.Parts.{at_past}
use Rattle.definitions.proofs.Slots.{allocated_some, allocated_within}
use Rattle.definitions.proofs.Shaped.{Shaped, shaped}
use Rattle.well_formed.proofs.WellFormed.{well_formed_if_passes}
use Rattle.well_formed.proofs.ReadsOnly.{passes_in_columns}
use Rattle.statements.specs.SmallArenas.{IsSmall}

-- ---- the check's limit does not matter to an arena that is within both

pub passes_at : (limit other : ℕ) (a : Arena) → capacity a ≤ other → verdict limit a ≡ 0 → verdict other a ≡ 0
passes_at limit other a within e =
    let s = shaped limit a e in
    let fits : Shaped other a = record {
      header = s.header;
      small = within;
      next_length = s.next_length;
      generation_length = s.generation_length;
      payload_length = s.payload_length;
      generation = s.generation;
      links_within = s.links_within;
      within = s.within;
    } in
    passes_in_columns a a refl (λ x l. refl) (λ x l. refl) (λ x l. refl) limit other fits e

-- ---- the words of a slot, as in a small arena

unfoldable pub slot_fine : Arena → ℕ → Bool
slot_fine a s = cond (is_link a s) (eqb (at a.generation s) 2 && eqb (at a.payload s) s) (eqb (at a.prev s) 0 && eqb (at a.payload s) 0)

unfoldable pub slots_fine : Arena → ℕ → Bool
slots_fine a zero = true
slots_fine a (suc k) = slot_fine a (suc k) && slots_fine a k

unfoldable pub words_fine : Arena → Bool
words_fine a = (eqb (verdict 3 a) 0 && eqb (stack_length a) (capacity a)) && (leb (stack_length a) 3 && (eqb (current a) 2 && slots_fine a (stack_length a)))

module _ (a : Arena) where
  fine_at : (k : ℕ) → slots_fine a k ≡ true → (s : ℕ) → 1 ≤ s → s ≤ k → slot_fine a s ≡ true
  unfolding slots_fine
  fine_at zero e s p q = absurd (omega arith)
  fine_at (suc k) e s p q = elim (ℕ_discrete s (suc k)) [ yes d ↦ rw d (both_first _ _ e) | no d ↦ fine_at k (both_second (slot_fine a (suc k)) _ e) s p (omega arith) ]

  fine_parts : (s t : Bool) → (s && t) ≡ true → (s ≡ true) × (t ≡ true)
  fine_parts s t e = (both_first s t e, both_second s t e)

  of_link : (s : ℕ) → is_link a s ≡ true → slot_fine a s ≡ true → (at a.generation s ≡ 2) × (at a.payload s ≡ s)
  unfolding slot_fine
  of_link s l e = let r = fine_parts _ _ (rw l at e) in (eqb-true _ _ r.0, eqb-true _ _ r.1)

  of_free : (s : ℕ) → is_link a s ≡ false → slot_fine a s ≡ true → (at a.prev s ≡ 0) × (at a.payload s ≡ 0)
  unfolding slot_fine
  of_free s l e = let r = fine_parts _ _ (rw l at e) in (eqb-true _ _ r.0, eqb-true _ _ r.1)

  -- a slot that is no link is free, or is not there
  unread : WellFormed 3 a → stack_length a ≡ capacity a → slots_fine a (stack_length a) ≡ true → (s : ℕ) → is_link a s ≡ false → (at a.prev s ≡ 0) × (at a.payload s ≡ 0)
  unread w full fine s l = go (ℕ_discrete s 0) (dec_le s (stack_length a))
    where
      go : Dec (s ≡ 0) → Dec (s ≤ stack_length a) → (at a.prev s ≡ 0) × (at a.payload s ≡ 0)
      go (yes z) d = rw z (at_zero a.prev, at_zero a.payload)
      go (no z) (yes d) = of_free s l (fine_at (stack_length a) fine s (omega arith) d)
      go (no z) (no d) = (at_past a.prev s (omega arith), at_past a.payload s (omega (arith, w.payload_length)))

  fits : (limit : ℕ) → 3 ≤ limit → stack_length a ≡ capacity a → stack_length a ≤ 3 → capacity a ≤ limit
  fits limit h full short = omega arith

  pub small_if_fine : (limit : ℕ) → 3 ≤ limit → words_fine a ≡ true → IsSmall limit a
  unfolding words_fine
  small_if_fine limit h e =
      let halves = fine_parts _ _ e in
      let first = fine_parts _ _ halves.0 in
      let second = fine_parts _ _ halves.1 in
      let third = fine_parts _ _ second.1 in
      let passes : verdict 3 a ≡ 0 = eqb-true _ _ first.0 in
      let full : stack_length a ≡ capacity a = eqb-true _ _ first.1 in
      let short : stack_length a ≤ 3 = leb-true _ _ second.0 in
      let fine = third.1 in
      let linked : (s : ℕ) → is_link a s ≡ true → (at a.generation s ≡ 2) × (at a.payload s ≡ s) = λ s l. of_link s l (fine_at (stack_length a) fine s (allocated_some _ _ s l) (allocated_within _ _ s l)) in
      let free = unread (well_formed_if_passes 3 a passes) full fine in
      record {
        passes = passes_at 3 limit a (fits limit h full short) passes;
        full = full;
        short = short;
        current_two = eqb-true _ _ third.0;
        generation_two = λ s l. (linked s l).0;
        payload_own = λ s l. (linked s l).1;
        prev_unread = λ s l. (free s l).0;
        payload_unread = λ s l. (free s l).1;
      }
