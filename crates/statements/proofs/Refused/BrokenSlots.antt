-- What goes with 11: `LowestBroken` and `NamesLowest`. For each field a wrong slot, side or reply that it alone refuses.
use Prim.Native.Nat.{ℕ}
use mathlib.Core.Path.{◌≡◌, refl, sym}
use mathlib.Core.Logic.{◌⊎◌, inl, inr}
use mathlib.Core.Bool.{true≢false}
use mathlib.Core.List.{List, [], ◌∷◌}
use native.Mathlib.Omega.{arith}
use Rattle.definitions.specs.Columns.{at}
use Rattle.definitions.specs.Arena.{Arena, arena, allocated}
use Rattle.definitions.specs.Reply.{Reply}
use Rattle.statements.specs.BrokenSlot.{LowestBroken, NamesLowest}
use Rattle.statements.proofs.Refused.Chains.{one, lone}

-- two links with these words for prev and next
abbrev two : List ℕ → List ℕ → Arena
two ps ns = arena ps ns (5 ∷ 5 ∷ []) (7 ∷ 8 ∷ []) (2 ∷ 2 ∷ 0 ∷ 5 ∷ [])

-- a slot that is free, whatever its words
pub lowest_broken_link_refused : LowestBroken (one 9 9 0 0) 1 1 → ⊥
unfolding allocated at
lowest_broken_link_refused l = true≢false (sym l.link)

-- no side, and a third one
pub lowest_broken_sides_refused : (d : ℕ) → (d ≡ 1 → ⊥) → (d ≡ 2 → ⊥) → LowestBroken (one 9 9 5 7) 1 d → ⊥
lowest_broken_sides_refused d p q l = no l.sides
  where
    no : (d ≡ 1) ⊎ (d ≡ 2) → ⊥
    no (inl e) = p e
    no (inr e) = q e

-- prev where next alone is broken
pub lowest_broken_prev_refused : LowestBroken (one 0 9 5 7) 1 1 → ⊥
unfolding at
lowest_broken_prev_refused l = l.prev refl (λ some. absurd (some refl))

-- next where prev is broken too, and where nothing is
pub lowest_broken_next_refused : LowestBroken (one 9 9 5 7) 1 2 → ⊥
unfolding allocated at
lowest_broken_next_refused l = true≢false (sym ((l.next refl).0 (λ e. omega (arith, e))).0)

pub lowest_broken_next_is_fine_refused : LowestBroken lone 1 2 → ⊥
unfolding at
lowest_broken_next_is_fine_refused l = (l.next refl).1 (λ some. absurd (some refl))

-- the second of two broken slots, the first one with its prev broken, and with its next
pub lowest_broken_lower_refused : LowestBroken (two (9 ∷ 9 ∷ []) (0 ∷ 0 ∷ [])) 2 1 → ⊥
unfolding allocated at
lowest_broken_lower_refused l = true≢false (sym ((l.lower 1 (omega arith) refl).0 (λ e. omega (arith, e))).0)

pub lowest_broken_lower_next_refused : LowestBroken (two (0 ∷ 9 ∷ []) (9 ∷ 0 ∷ [])) 2 1 → ⊥
unfolding allocated at
lowest_broken_lower_next_refused l = true≢false (sym ((l.lower 1 (omega arith) refl).1 (λ e. omega (arith, e))).0)

-- ---- a reply

abbrev naming : ℕ → ℕ → ℕ → Arena → Reply
naming number broken side a = record { number = number; broken = broken; side = side; fields = []; arena = a; back = [] }

-- 11 with the second of two broken slots, with the other side, and with neither slot nor side
pub names_lowest_eleven_refused : NamesLowest (two (9 ∷ 9 ∷ []) (0 ∷ 0 ∷ [])) (naming 11 2 1 (two (9 ∷ 9 ∷ []) (0 ∷ 0 ∷ []))) → ⊥
names_lowest_eleven_refused n = lowest_broken_lower_refused (n.eleven refl)

pub names_lowest_eleven_side_refused : NamesLowest (one 9 9 5 7) (naming 11 1 2 (one 9 9 5 7)) → ⊥
names_lowest_eleven_side_refused n = lowest_broken_next_refused (n.eleven refl)

pub names_lowest_eleven_nothing_refused : NamesLowest (one 9 9 5 7) (naming 11 0 0 (one 9 9 5 7)) → ⊥
unfolding allocated at
names_lowest_eleven_nothing_refused n = true≢false (sym (n.eleven refl).link)

-- a slot, or a side, with another number
pub names_lowest_other_refused : NamesLowest lone (naming 0 1 0 lone) → ⊥
names_lowest_other_refused n = omega (arith, (n.other (λ e. omega (arith, e))).0)

pub names_lowest_other_side_refused : NamesLowest lone (naming 2 0 1 lone) → ⊥
names_lowest_other_side_refused n = omega (arith, (n.other (λ e. omega (arith, e))).1)
