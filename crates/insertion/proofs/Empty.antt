-- An empty arena passes the check, whatever words its columns hold. Assumes nothing.
use Prim.Native.Nat.{ℕ, ◌≤◌}
use mathlib.Core.Path.{◌≡◌, refl}
use mathlib.Core.Bool.{true}
use mathlib.Core.List.{List, [], ◌∷◌}
use native.Mathlib.Omega.{arith}
use lib.ListN.{length}
use Rattle.definitions.specs.Columns.{first_or, slots_from, keep, Linked}
use Rattle.definitions.specs.Arena.{Arena, arena, allocated, link_slots}
use Rattle.definitions.specs.Check.{WellFormed, verdict}
use Rattle.definitions.proofs.Slots.{allocated_some, allocated_within}
use Rattle.definitions.proofs.Count.{not_in_nil}
use Rattle.well_formed.proofs.WellFormed.{passes_if_well_formed}

module _ (limit c g : ℕ) (ps ns gs vs : List ℕ) (lp : length ps ≡ c) (ln : length ns ≡ c) (lg : length gs ≡ c) (lv : length vs ≡ c) (small : c ≤ limit) (two : 2 ≤ g) where
  abbrev empty : Arena
  empty = arena ps ns gs vs (0 ∷ 0 ∷ 0 ∷ g ∷ [])

  no_link : (x : ℕ) → allocated gs 0 x ≡ true → ⊥
  no_link x l = omega (arith, allocated_some gs 0 x l, allocated_within gs 0 x l)

  empty_well_formed : WellFormed limit empty
  unfolding link_slots slots_from keep first_or Linked
  empty_well_formed = record {
    header = refl;
    small = omega arith;
    next_length = omega arith;
    generation_length = omega arith;
    payload_length = omega arith;
    generation = two;
    within = omega arith;
    links = refl;
    freelist = ([], record { starts = refl; linked = tt; free = λ s i. absurd (not_in_nil s i); once = λ s p q z. absurd (omega arith) });
    prev = λ x l. absurd (no_link x l);
    next = λ x l. absurd (no_link x l);
  }

  pub empty_passes : verdict limit empty ≡ 0
  empty_passes = passes_if_well_formed limit empty empty_well_formed
