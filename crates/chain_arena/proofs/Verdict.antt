-- What the check may answer at each of its ends. Assumes nothing.
use Prim.Native.Nat.{ℕ, ◌≤◌}
use mathlib.Core.Path.{◌≡◌, refl, sym, ◌∙◌}
use mathlib.Core.Bool.{false}
use mathlib.Core.List.{List}
use native.Mathlib.Omega.{arith}
use lib.Dec.{lit≤}
use lib.ListN.{length, take}
use Rattle.std.proofs.lemmas.List.{length-take-le}
use borrow.Author.Tests.{eq-eqb, ne_eqb}
use Rattle.definitions.specs.Columns.{first_or}
use Rattle.definitions.specs.Arena.{Arena, arena, capacity_limit, capacity, stack_length, link_count, root}
use Rattle.definitions.specs.Check.{verdict, counts_of, broken_slots, side_at}
use Rattle.definitions.proofs.Tests.{not_ne}
use Rattle.definitions.proofs.Numbers.{cond_at_most, counts_at_most_10}
use Rattle.definitions.proofs.Shaped.{Shaped, counts_verdict, interlinks_fine, verdict_of_shaped, passes}
use Rattle.definitions.proofs.Broken.{lowest_broken, all_fine_first, slot_with_eleven, side_with_eleven, slot_without, side_without}
use Rattle.base_arena.specs.Shape.{shape_of}
use Rattle.base_arena.proofs.Refusals.{shape_refused}
use Rattle.ptr.specs.declared.Slot.{Slot}
use Rattle.refusals.specs.declared.Side.{Side}
use Rattle.refusals.specs.declared.Refusal.{Refusal}
use Rattle.refusals.specs.declared.Refusal.TheVariants.{BrokenLink}
use Rattle.refusals.specs.Refusal.{side_word, refusal_number, refusal_slot, refusal_side}
use Rattle.std.specs.Prelude.{Some}
use Rattle.interlinks.specs.Sides.{FreeStaysFree, Finds}
use Rattle.interlinks.proofs.Sides.{free_stays_free}
use Rattle.chain_arena.specs.Checks.{Refuses}
use Rattle.chain_arena.proofs.Prefix.{counts_take, broken_take, side_take}

-- ---- no refusal before rule 11 is 11

shape_le : (limit : ℕ) (a : Arena) → shape_of limit a ≤ 10
unfolding shape_of
shape_le limit a = search (cond_at_most, lit≤) depth 20

-- every refusal has a number, and one before 11 names neither slot nor side
pub numbered : (r : Refusal) → refusal_number r ≡ 0 → ⊥
numbered r e = grind arith

names_none : (r : Refusal) → refusal_number r ≤ 10 → (refusal_slot r ≡ 0) × (refusal_side r ≡ 0)
names_none (BrokenLink s d) h = absurd (omega arith)
names_none _ h = (refl, refl)

-- ---- a refusal of the arena

module _ (a : Arena) where
  -- a reason before 11 names no slot
  refused : (r : Refusal) → verdict capacity_limit a ≡ refusal_number r → refusal_number r ≤ 10 → Refuses a r
  refused r v h =
      let other : verdict capacity_limit a ≡ 11 → ⊥ = λ e. omega arith in
      let none = names_none r h in
      record { number = sym v; broken = none.0 ∙ sym (slot_without capacity_limit a other); side = none.1 ∙ sym (side_without capacity_limit a other) }

  -- refusals 1 to 3, and 4 to 10
  pub refuses_shape : (r : Refusal) → refusal_number r ≡ shape_of capacity_limit a → Refuses a r
  refuses_shape r e = refused r (shape_refused capacity_limit a (refusal_number r) e (numbered r)) (rw e (shape_le capacity_limit a))

  -- of an arena that has the shape of one: what its stack, the first n words of its columns, says
  module _ (h : Shaped capacity_limit a) (n m s : ℕ) (stack : n ≡ stack_length a) (links : m ≡ link_count a) (first : s ≡ root a) where
    pub stack_length_of : (xs : List ℕ) → length xs ≡ capacity a → length (take n xs) ≡ n
    stack_length_of xs e = length-take-le n xs (omega (arith, h.within))

    generations : length (take n a.generation) ≡ n
    generations = stack_length_of a.generation h.generation_length

    counts_of_stack : counts_of (take n a.next) (take n a.generation) (length (take n a.generation)) m s ≡ counts_verdict a
    counts_of_stack = rw (generations, counts_take n a.generation a.next m s, stack, links, first) refl

    pub lowest_of_stack : first_or 0 (broken_slots (take n a.prev) (take n a.next) (take n a.generation) (length (take n a.generation))) ≡ lowest_broken capacity_limit a
    lowest_of_stack = rw (generations, broken_take n a.generation a.next a.prev, stack) refl

    pub side_of_stack : (x : ℕ) → x ≤ n → side_at (take n a.prev) (take n a.next) (take n a.generation) (length (take n a.generation)) x ≡ side_at a.prev a.next a.generation (stack_length a) x
    side_of_stack x l = rw (generations, side_take n a.generation a.next a.prev x l, stack) refl

    pub refuses_counts : (r : Refusal) → refusal_number r ≡ counts_of (take n a.next) (take n a.generation) (length (take n a.generation)) m s → Refuses a r
    refuses_counts r q =
        let e : refusal_number r ≡ counts_verdict a = q ∙ counts_of_stack in
        let v : verdict capacity_limit a ≡ refusal_number r = sym (verdict_of_shaped capacity_limit a h) ∙ rw (not_ne (counts_verdict a) 0 (λ z. numbered r (e ∙ z))) (sym e) in
        refused r v (rw e (counts_at_most_10 _ _ _ _ _))

    -- where the counts passed
    module _ (c : 0 ≡ counts_of (take n a.next) (take n a.generation) (length (take n a.generation)) m s) where
      counted : counts_verdict a ≡ 0
      counted = sym (c ∙ counts_of_stack)

      -- no free slot leads to a link
      pub stack_stays_free : FreeStaysFree (take n a.next) (take n a.generation) (length (take n a.generation))
      stack_stays_free =
          let same : length (take n a.generation) ≡ stack_length a = generations ∙ stack in
          rw same (free_stays_free (arena a.prev (take n a.next) (take n a.generation) a.payload a.header) (sym (rw (same, links, first) at c)))

      -- rule 11 fails first at slot s and there on side d
      pub refuses_broken :
          (x : Slot) (d : Side)
          → Finds (length (take n a.generation)) (first_or 0 (broken_slots (take n a.prev) (take n a.next) (take n a.generation) (length (take n a.generation)))) (Some x.0)
          → side_word d ≡ side_at (take n a.prev) (take n a.next) (take n a.generation) (length (take n a.generation)) x.0
          → Refuses a (BrokenLink x d)
      refuses_broken x d found side =
          let l : x.0 ≡ lowest_broken capacity_limit a = found.0 ∙ lowest_of_stack in
          let within : x.0 ≤ n = omega (arith, found.2, generations) in
          let f : interlinks_fine a ≡ false = all_fine_first _ _ _ _ ∙ ne_eqb _ 0 (λ z. omega (arith, l, found.1)) in
          let v : verdict capacity_limit a ≡ 11 = sym (verdict_of_shaped capacity_limit a h) ∙ rw (counted, f) refl in
          record { number = sym v; broken = l ∙ sym (slot_with_eleven capacity_limit a v); side = rw l at (side ∙ side_of_stack x.0 within) ∙ sym (side_with_eleven capacity_limit a v) }

      -- it fails nowhere
      pub passes_check : first_or 0 (broken_slots (take n a.prev) (take n a.next) (take n a.generation) (length (take n a.generation))) ≡ 0 → verdict capacity_limit a ≡ 0
      passes_check z = passes capacity_limit a h counted (all_fine_first _ _ _ _ ∙ eq-eqb _ 0 (sym lowest_of_stack ∙ z))
