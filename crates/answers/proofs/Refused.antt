-- What refuses a weakened `Verdict`: an answer of the check with a wrong number, slot or side. And `Answered` is the definition's reply at the port's own limits, so that
-- a wrong number, slot, side, field, arena or slice is refused there too. Assumes nothing.
use Prim.Native.Nat.{ℕ}
use mathlib.Core.Path.{◌≡◌, refl, sym, ap, ◌∙◌}
use mathlib.Core.List.{List, [], ◌∷◌}
use native.Mathlib.Omega.{arith}
use lib.ListN.{get_or}
use Rattle.definitions.specs.Columns.{at, first_or, slots_from, keep}
use Rattle.definitions.specs.Arena.{Arena, arena, capacity_limit, allocated, link_slots, free_slots}
use Rattle.definitions.specs.Check.{misshapen, freelist_walk, names_back, neighbours_fine, all_fine, counts_of, verdict, broken_slots, side_at, broken_slot, broken_side}
use Rattle.definitions.specs.Reply.{Reply}
use Rattle.definitions.specs.Edit.{next_generation, overflows, inc_generation}
use Rattle.definitions.specs.Calls.{Call, Check, IncGeneration, accepted, reply_to}
use Rattle.answers.specs.declared.Answer.{Answer}
use Rattle.answers.specs.Answered.{Verdict, replied, Answered}
use Rattle.answers.specs.Words.{answer_of, refusal_answer, done_answer, invalidation_answer}
use Rattle.std.specs.Prelude.{Ok, Err}
use Rattle.ptr.specs.declared.InvalidationOption.TheVariants.{Success, GenerationOverflow}
use Rattle.refusals.specs.declared.Refusal.{Refusal}
use Rattle.refusals.specs.Refusal.{refusal_number, refusal_slot, refusal_side}

-- a lone link in the generation g
abbrev lone : ℕ → Arena
lone g = arena (0 ∷ []) (0 ∷ []) (5 ∷ []) (7 ∷ []) (1 ∷ 1 ∷ 0 ∷ g ∷ [])

-- a link whose next is above the stack
abbrev torn : Arena
torn = arena (0 ∷ []) (9 ∷ []) (5 ∷ []) (7 ∷ []) (1 ∷ 1 ∷ 0 ∷ 5 ∷ [])

abbrev answer : ℕ → ℕ → ℕ → Answer
answer number broken side = record { number = number; broken = broken; side = side }

pub verdict_number_refused : Verdict (lone 5) (answer 1 0 0) → ⊥
unfolding at slots_from keep allocated link_slots free_slots misshapen freelist_walk names_back neighbours_fine all_fine counts_of verdict
verdict_number_refused v = omega (arith, v.number)

pub verdict_broken_refused : Verdict (lone 5) (answer 0 1 0) → ⊥
unfolding at first_or slots_from keep allocated link_slots free_slots misshapen freelist_walk names_back neighbours_fine all_fine counts_of verdict broken_slots side_at broken_slot broken_side
verdict_broken_refused v = omega (arith, v.broken)

pub verdict_side_refused : Verdict torn (answer 11 1 1) → ⊥
unfolding at first_or slots_from keep allocated link_slots free_slots misshapen freelist_walk names_back neighbours_fine all_fine counts_of verdict broken_slots side_at broken_slot broken_side
verdict_side_refused v = omega (arith, v.side)

-- the generation after the port's largest is 2, and that is an overflow
pub answered_number_refused : Answered IncGeneration (lone 4294967295) [] (answer 0 0 0) [] (lone 2) [] → ⊥
unfolding at slots_from keep allocated link_slots free_slots misshapen freelist_walk names_back neighbours_fine all_fine counts_of verdict next_generation overflows inc_generation accepted reply_to
answered_number_refused p = omega (arith, ap (λ (r : Reply). r.number) p)

pub answered_left_refused : Answered IncGeneration (lone 4294967295) [] (answer 100 0 0) [] (lone 1) [] → ⊥
unfolding at slots_from keep allocated link_slots free_slots misshapen freelist_walk names_back neighbours_fine all_fine counts_of verdict next_generation overflows inc_generation accepted reply_to
answered_left_refused p = omega (arith, ap (λ (r : Reply). get_or r.arena.header 3 0) p)

pub answered_fields_refused : Answered Check (lone 5) [] (answer 0 0 0) (1 ∷ []) (lone 5) [] → ⊥
unfolding at slots_from keep allocated link_slots free_slots misshapen freelist_walk names_back neighbours_fine all_fine counts_of verdict accepted reply_to
answered_fields_refused p = omega (arith, ap (λ (r : Reply). get_or r.fields 0 0) p)

pub answered_back_refused : Answered Check (lone 5) (3 ∷ []) (answer 0 0 0) [] (lone 5) (4 ∷ []) → ⊥
unfolding at slots_from keep allocated link_slots free_slots misshapen freelist_walk names_back neighbours_fine all_fine counts_of verdict accepted reply_to
answered_back_refused p = omega (arith, ap (λ (r : Reply). get_or r.back 0 0) p)

pub answered_broken_refused : Answered Check (lone 5) [] (answer 0 1 0) [] (lone 5) [] → ⊥
unfolding at slots_from keep allocated link_slots free_slots misshapen freelist_walk names_back neighbours_fine all_fine counts_of verdict accepted reply_to
answered_broken_refused p = omega (arith, ap (λ (r : Reply). r.broken) p)

-- 11 on the side that is fine
pub answered_side_refused : Answered Check torn [] (answer 11 1 1) [] torn [] → ⊥
unfolding at first_or slots_from keep allocated link_slots free_slots misshapen freelist_walk names_back neighbours_fine all_fine counts_of verdict broken_slots side_at broken_slot broken_side accepted reply_to
answered_side_refused p = omega (arith, ap (λ (r : Reply). r.side) p)

-- ---- in full: what the check answers, and what an export promises

pub verdict_whole : (a : Arena) (r : Answer) → Verdict a r → (r.number ≡ verdict capacity_limit a) × (r.broken ≡ broken_slot capacity_limit a) × (r.side ≡ broken_side capacity_limit a)
verdict_whole a r v = (v.number, v.broken, v.side)

pub answer_of_whole : (k : ℕ) → ((answer_of k).number ≡ k) × ((answer_of k).broken ≡ 0) × ((answer_of k).side ≡ 0)
answer_of_whole k = (refl, refl, refl)

pub refusal_answer_whole : (r : Refusal) → ((refusal_answer r).number ≡ refusal_number r) × ((refusal_answer r).broken ≡ refusal_slot r) × ((refusal_answer r).side ≡ refusal_side r)
refusal_answer_whole r = (refl, refl, refl)

pub done_answer_whole : ((u : Unit {0}) → done_answer (Ok u) ≡ answer 0 0 0) × ((r : Refusal) → done_answer (Err r) ≡ answer (refusal_number r) (refusal_slot r) (refusal_side r))
done_answer_whole = (λ u. refl, λ r. refl)

pub invalidation_answer_whole : (invalidation_answer (Ok Success) ≡ answer 0 0 0)
    × (invalidation_answer (Ok GenerationOverflow) ≡ answer 100 0 0)
    × ((r : Refusal) → invalidation_answer (Err r) ≡ answer (refusal_number r) (refusal_slot r) (refusal_side r))
invalidation_answer_whole = (refl, refl, λ r. refl)

pub replied_whole : (r : Answer) (fields : List ℕ) (left : Arena) (back : List ℕ) →
    ((replied r fields left back).number ≡ r.number)
    × ((replied r fields left back).broken ≡ r.broken)
    × ((replied r fields left back).side ≡ r.side)
    × ((replied r fields left back).fields ≡ fields)
    × ((replied r fields left back).arena ≡ left)
    × ((replied r fields left back).back ≡ back)
replied_whole r fields left back = (refl, refl, refl, refl, refl, refl)

pub answered_whole : (c : Call) (a : Arena) (l : List ℕ) (r : Answer) (fields : List ℕ) (left : Arena) (back : List ℕ) → Answered c a l r fields left back
    → record { number = r.number; broken = r.broken; side = r.side; fields = fields; arena = left; back = back } ≡ reply_to 1048576 4294967295 c a l
answered_whole c a l r fields left back p = p

-- so two answers to one call on one arena have the same words, slot and side with 11 among them
pub answered_determines : (c : Call) (a : Arena) (l : List ℕ) (r s : Answer) (fs gs : List ℕ) (b d : Arena) (m n : List ℕ) → Answered c a l r fs b m → Answered c a l s gs d n
    → (r.number ≡ s.number) × (r.broken ≡ s.broken) × (r.side ≡ s.side) × (fs ≡ gs) × (b ≡ d) × (m ≡ n)
answered_determines c a l r s fs gs b d m n p q =
    let same : replied r fs b m ≡ replied s gs d n = p ∙ sym q in (
      ap (λ (x : Reply). x.number) same,
      ap (λ (x : Reply). x.broken) same,
      ap (λ (x : Reply). x.side) same,
      ap (λ (x : Reply). x.fields) same,
      ap (λ (x : Reply). x.arena) same,
      ap (λ (x : Reply). x.back) same,
    )
