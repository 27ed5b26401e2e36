-- The frame clock: for each field of `LinesPart`, `DueIn`, `DueOf`, `CountsDue`, `ReportsDue`, `WindowsPart`, `ChainParted`, `SameButPayloads` and `IgnoresPayloads` something
-- small that it refuses; lists that are not `Thinned` and payloads that are not `CarriedTo` their slots. Then each of them in its full range.
use Prim.Native.Nat.{ℕ, zero, suc, ◌+◌, ◌-◌, ◌*◌, ◌/◌, ◌≤◌, ◌<◌}
use mathlib.Core.Path.{◌≡◌, refl, sym, ap, subst}
use mathlib.Core.Logic.{◌⊎◌, inl, inr, ◌↔◌}
use mathlib.Core.Bool.{true, false, cond}
use mathlib.Core.List.{List, [], ◌∷◌, ◌++◌, map, reverse}
use native.Mathlib.Omega.{arith}
use lib.ListN.{length, get_or, drop, replicate}
use lib.Dec.{eqb, ltb}
use borrow.Author.Tests.{ltb-true, ltb-false}
use Rattle.definitions.specs.Columns.{at, count, written, settled}
use Rattle.definitions.specs.Arena.{Arena, arena, stack_length}
use Rattle.definitions.specs.Clock.{Told, told, first_dot, last_dot, line_of, line_of_dot, line_dots}
use Rattle.definitions.specs.Reply.{Reply, reply}
use Rattle.statements.specs.Demand3.{Accepted}
use Rattle.statements.specs.WalkOrder.{WalkOrder}
use Rattle.statements.specs.FrameClock.{LinesPart, DueIn, Thinned, DueOf, CountsDue, ReportsDue, WindowsPart, ChainParted, SameButPayloads, CarriedTo, IgnoresPayloads}
use Rattle.definitions.proofs.Slots.{count_nil, count_here, count_there}
use Rattle.definitions.proofs.Tests.{by_test}
use Rattle.statements.proofs.Refused.Chains.{one, lone, pair}

-- ---- the lines of the frame: what the definitions answer, but for one dot or one line

abbrev but : (ℕ → Told) → ℕ → Told → ℕ → Told
but f x answer y = cond (eqb y x) answer (f y)

-- an answer's number, and its fields by their places
abbrev number : Told → ℕ
number t = t.number

abbrev field : ℕ → Told → ℕ
field k t = get_or t.fields k 0

-- dot 5 is refused, and dot 5 is in a line that the frame does not have
pub lines_part_has_line_refused : LinesPart (but line_of_dot 5 (told 19 (0 ∷ []))) line_dots → ⊥
lines_part_has_line_refused p = omega (arith, ap number (p.has_line 5 (omega arith)).2)

pub lines_part_has_line_too_high_refused : LinesPart (but line_of_dot 5 (told 0 (262 ∷ []))) line_dots → ⊥
lines_part_has_line_too_high_refused p = let h = p.has_line 5 (omega arith) in omega (arith, h.1, ap (field 0) h.2)

-- the line after that of dot 340, and the line before that of dot 341
pub lines_part_within_refused : LinesPart (but line_of_dot 340 (told 0 (1 ∷ []))) line_dots → ⊥
unfolding first_dot last_dot line_dots
lines_part_within_refused p = omega (arith, (p.within 340 1 341 681 refl refl).0)

pub lines_part_within_before_refused : LinesPart (but line_of_dot 341 (told 0 (0 ∷ []))) line_dots → ⊥
unfolding first_dot last_dot line_dots
lines_part_within_before_refused p = omega (arith, (p.within 341 0 0 340 refl refl).1)

-- the last dot of line 0 is told to be in line 262
pub lines_part_only_refused : LinesPart (but line_of_dot 340 (told 0 (262 ∷ []))) line_dots → ⊥
unfolding first_dot last_dot line_dots
lines_part_only_refused p = omega (arith, ap (field 0) (p.only 340 0 0 340 refl (omega arith) (omega arith)))

-- no line has dots, line 0 has and no other, and the last line has none
pub lines_part_begins_refused : LinesPart line_of_dot (λ line. told 19 (0 ∷ 0 ∷ [])) → ⊥
lines_part_begins_refused p = omega (arith, ap number p.begins)

pub lines_part_follows_refused : LinesPart line_of_dot (λ line. cond (eqb line 0) (told 0 (0 ∷ 340 ∷ [])) (told 19 (0 ∷ 0 ∷ []))) → ⊥
lines_part_follows_refused p = omega (arith, ap number (p.follows 0 0 340 (omega arith) refl))

pub lines_part_follows_last_refused : LinesPart line_of_dot (but line_dots 261 (told 19 (0 ∷ 0 ∷ []))) → ⊥
unfolding first_dot last_dot line_dots
lines_part_follows_last_refused p = omega (arith, ap number (p.follows 260 88660 89000 (omega arith) refl))

-- dot 89,342 is in a line, and line 262 is answered, from dot 1 to dot 0
pub lines_part_no_dot_refused : LinesPart (but line_of_dot 89342 (told 0 (262 ∷ []))) line_dots → ⊥
lines_part_no_dot_refused p = omega (arith, ap number (p.no_dot 89342 (omega arith)))

pub lines_part_no_line_refused : LinesPart line_of_dot (but line_dots 262 (told 0 (1 ∷ 0 ∷ []))) → ⊥
lines_part_no_line_refused p = omega (arith, ap number (p.no_line 262 (omega arith)))

-- ---- what is due

-- a payload past the frame, in a window that crosses the frame's end
pub due_in_dot_refused : DueIn 5 0 89342 → ⊥
due_in_dot_refused i = omega (arith, i.dot)

-- the dot before from, the dot to itself, and the one dot of a window with equal ends
pub due_in_straight_before_refused : DueIn 5 9 4 → ⊥
due_in_straight_before_refused i = omega (arith, (i.straight (omega arith)).0)

pub due_in_straight_end_refused : DueIn 5 9 9 → ⊥
due_in_straight_end_refused i = omega (arith, (i.straight (omega arith)).1)

pub due_in_straight_empty_refused : DueIn 5 5 5 → ⊥
due_in_straight_empty_refused i = omega (arith, (i.straight (omega arith)).1)

-- of a window that crosses: the dot to itself, and the dot before from
pub due_in_crossing_refused : DueIn 9 5 5 → ⊥
due_in_crossing_refused i = elim (i.crossing (omega arith)) [ inl h ↦ omega (arith, h) | inr h ↦ omega (arith, h) ]

pub due_in_crossing_before_refused : DueIn 9 5 8 → ⊥
due_in_crossing_before_refused i = elim (i.crossing (omega arith)) [ inl h ↦ omega (arith, h) | inr h ↦ omega (arith, h) ]

-- and the ends of the frame are due in it
pub due_in_crossing_first : DueIn 9 5 0
due_in_crossing_first = record { dot = omega arith; straight = λ h. absurd (omega (arith, h)); crossing = λ h. inr (omega arith) }

pub due_in_crossing_last : DueIn 9 5 89341
due_in_crossing_last = record { dot = omega arith; straight = λ h. absurd (omega (arith, h)); crossing = λ h. inl (omega arith) }

-- ---- what is left of a list

-- one more than is in it, one that stays against the test, one that is left out against it, and two in another order
pub thinned_more_refused : Thinned (λ s. s ≡ 1) (1 ∷ []) [] → ⊥
unfolding Thinned
thinned_more_refused t = omega (arith, ap length t)

pub thinned_stays_refused : Thinned (λ s. s ≡ 1) (2 ∷ []) (2 ∷ []) → ⊥
unfolding Thinned
thinned_stays_refused t = elim t [ inl h ↦ omega (arith, h.0) | inr h ↦ omega (arith, ap length h.1) ]

pub thinned_left_out_refused : Thinned (λ s. s ≡ 1) [] (1 ∷ []) → ⊥
unfolding Thinned
thinned_left_out_refused t = elim t [ inl h ↦ omega (arith, ap length h.1.1) | inr h ↦ h.0 refl ]

pub thinned_order_refused : Thinned (λ s. 1 ≤ s) (2 ∷ 1 ∷ []) (1 ∷ 2 ∷ []) → ⊥
unfolding Thinned
thinned_order_refused t = elim t [ inl h ↦ omega (arith, ap (λ (l : List ℕ). get_or l 0 0) h.1.1) | inr h ↦ h.0 (omega arith) ]

-- the first that is left has passed the test
first_passes : (P : ℕ → Type 0) (y : ℕ) (ys xs : List ℕ) → Thinned P (y ∷ ys) xs → P y
unfolding Thinned
first_passes P y ys [] t = absurd (omega (arith, ap length t))
first_passes P y ys (x ∷ xs) t = elim t [
  | inl h ↦ subst P (ap (λ (l : List ℕ). get_or l 0 0) (sym h.1.1)) h.0
  | inr h ↦ first_passes P y ys xs h.1
]

-- ---- what is due of a chain

abbrev DueAt : Arena → ℕ → ℕ → ℕ → Type 0
DueAt a from to s = DueIn from to (at a.payload s)

-- a walk begins with its start, so the start is the first that is due, if it is
start_first : (a : Arena) (o from to : ℕ) (ss chain : List ℕ) → WalkOrder a o chain → Thinned (DueAt a from to) ss chain → DueAt a from to o → (rest : List ℕ) × (ss ≡ o ∷ rest)
unfolding Thinned
start_first a o from to ss chain w t due = go (w.after ++ reverse w.before) (subst (Thinned (DueAt a from to) ss) w.order t)
  where
    go : (xs : List ℕ) → Thinned (DueAt a from to) ss (o ∷ xs) → (rest : List ℕ) × (ss ≡ o ∷ rest)
    go xs (inl h) = (h.1.0, h.1.1)
    go xs (inr h) = absurd (h.0 due)

due_at : (v from to : ℕ) → v < 89342 → from ≤ v → v < to → DueIn from to v
due_at v from to d f t = record { dot = d; straight = λ h. (f, t); crossing = λ h. inl f }

-- both of a pair are due, and are listed from the second one on although the walk begins with the first
pub due_of_order_refused : DueOf pair 1 5 9 (2 ∷ 1 ∷ []) → ⊥
unfolding at
due_of_order_refused u = omega (arith, ap (λ (l : List ℕ). get_or l 0 0) (start_first pair 1 5 9 (2 ∷ 1 ∷ []) u.chain u.order u.due (due_at 7 5 9 (omega arith) (omega arith) (omega arith))).1)

-- a link that is not due is listed, and one that is due is not
pub due_of_due_refused : DueOf lone 1 5 7 (1 ∷ []) → ⊥
unfolding at
due_of_due_refused u = omega (arith, ((first_passes (DueAt lone 5 7) 1 [] u.chain u.due).straight (omega arith)).1)

pub due_of_left_out_refused : DueOf lone 1 5 9 [] → ⊥
unfolding at
due_of_left_out_refused u = omega (arith, ap length (start_first lone 1 5 9 [] u.chain u.order u.due (due_at 7 5 9 (omega arith) (omega arith) (omega arith))).1)

-- ---- replies of the two calls

abbrev counting : ℕ → Arena → List ℕ → Reply
counting k a l = reply 0 (k ∷ []) a l

-- nothing is due in a window with equal ends, so nothing is listed
none_listed : (a : Arena) (o from : ℕ) (ss : List ℕ) → DueOf a o from from ss → 1 ≤ length ss → ⊥
none_listed a o from [] u h = omega (arith, h)
none_listed a o from (y ∷ ys) u h = let i = (first_passes (DueAt a from from) y ys u.chain u.due).straight (omega arith) in omega (arith, i.0, i.1)

-- a count of 0 where a lone link is due
some_listed : (ss : List ℕ) → DueOf lone 1 5 9 ss → length ss ≡ 0 → ⊥
some_listed [] u e = due_of_left_out_refused u
some_listed (y ∷ ys) u e = omega (arith, e)

pub counts_due_due_refused : CountsDue lone 1 5 9 (counting 0 lone []) → ⊥
counts_due_due_refused u = some_listed u.slots u.due (ap (λ (l : List ℕ). get_or l 0 0) (sym u.fields))

-- a count of 1 in a window with equal ends, and a second field
pub counts_due_fields_refused : CountsDue lone 1 7 7 (counting 1 lone []) → ⊥
counts_due_fields_refused u = none_listed lone 1 7 u.slots u.due (omega (arith, ap (λ (l : List ℕ). get_or l 0 0) u.fields))

pub counts_due_more_fields_refused : CountsDue lone 1 7 7 (reply 0 (0 ∷ 0 ∷ []) lone []) → ⊥
counts_due_more_fields_refused u = omega (arith, ap length u.fields)

-- a payload that is taken away
pub counts_due_left_refused : CountsDue lone 1 7 7 (counting 0 (one 0 0 5 0) []) → ⊥
counts_due_left_refused u = omega (arith, ap (λ (a : Arena). get_or a.payload 0 0) u.left)

pub reports_due_left_refused : ReportsDue lone 1 7 7 [] (counting 0 (one 0 0 5 0) []) → ⊥
reports_due_left_refused u = omega (arith, ap (λ (a : Arena). get_or a.payload 0 0) u.left)

-- a report as it was and a count of 0, where a lone link is due
pub reports_due_due_refused : ReportsDue lone 1 5 9 (3 ∷ []) (counting 0 lone (3 ∷ [])) → ⊥
reports_due_due_refused u = some_listed u.slots u.due (ap (λ (l : List ℕ). get_or l 0 0) (sym u.fields))

-- a count of 1 where nothing is due and the report is as it was
pub reports_due_fields_refused : ReportsDue lone 1 7 7 (3 ∷ []) (counting 1 lone (3 ∷ [])) → ⊥
reports_due_fields_refused u = none_listed lone 1 7 u.slots u.due (omega (arith, ap (λ (l : List ℕ). get_or l 0 0) u.fields))

-- a report with another word behind those that are due, and a report as it was where a lone link is due and is counted
pub reports_due_back_refused : ReportsDue lone 1 5 9 (3 ∷ 4 ∷ []) (counting 1 lone (1 ∷ 0 ∷ [])) → ⊥
unfolding written
reports_due_back_refused u = go u.slots (ap (λ (l : List ℕ). get_or l 0 0) u.fields) u.back
  where
    go : (ss : List ℕ) → 1 ≡ length ss → 1 ∷ 0 ∷ [] ≡ ss ++ drop (length ss) (3 ∷ 4 ∷ []) → ⊥
    go [] e b = omega (arith, e)
    go (x ∷ []) e b = omega (arith, ap (λ (l : List ℕ). get_or l 1 0) b)
    go (x ∷ y ∷ ys) e b = omega (arith, e)

pub reports_due_back_slots_refused : ReportsDue lone 1 5 9 (3 ∷ []) (counting 1 lone (3 ∷ [])) → ⊥
unfolding written at
reports_due_back_slots_refused u = go u.slots (start_first lone 1 5 9 u.slots u.due.chain u.due.order u.due.due (due_at 7 5 9 (omega arith) (omega arith) (omega arith))) u.back
  where
    go : (ss : List ℕ) → (rest : List ℕ) × (ss ≡ 1 ∷ rest) → 3 ∷ [] ≡ ss ++ drop (length ss) (3 ∷ []) → ⊥
    go [] s b = omega (arith, ap length s.1)
    go (x ∷ xs) s b = omega (arith, ap (λ (l : List ℕ). get_or l 0 0) s.1, ap (λ (l : List ℕ). get_or l 0 0) b)

-- ---- two windows, and a chain between them

-- equal ends: dot 5 is in neither window
pub windows_part_either_refused : WindowsPart 5 5 → ⊥
windows_part_either_refused p = elim (p.either 5 (omega arith)) [ inl i ↦ due_in_straight_empty_refused i | inr i ↦ due_in_straight_empty_refused i ]

-- a dot that is due in both
pub windows_part_not_both_refused : WindowsPart 5 9 → DueIn 5 9 7 → DueIn 9 5 7 → ⊥
windows_part_not_both_refused p i j = p.not_both 7 i j

-- a link that is in neither list, and one that is in both
pub chain_parted_once_refused : ChainParted lone (1 ∷ []) [] [] → ⊥
unfolding at
chain_parted_once_refused p = omega (arith, p.once 1 (omega arith), count_here 1 [], count_nil 1)

pub chain_parted_twice_refused : ChainParted lone (1 ∷ []) (1 ∷ []) (1 ∷ []) → ⊥
unfolding at
chain_parted_twice_refused p = omega (arith, p.once 1 (omega arith), count_here 1 [], count_nil 1)

-- a link of another chain
pub chain_parted_other_refused : ChainParted (arena (0 ∷ 0 ∷ []) (0 ∷ 0 ∷ []) (5 ∷ 5 ∷ []) (7 ∷ 8 ∷ []) (2 ∷ 2 ∷ 0 ∷ 5 ∷ [])) (1 ∷ []) (1 ∷ []) (2 ∷ []) → ⊥
unfolding at
chain_parted_other_refused p = omega (arith, p.once 2 (omega arith), count_here 2 [], count_there 2 1 [] (λ e. omega (arith, e)), count_nil 2)

-- a payload past the frame
pub chain_parted_never_refused : ChainParted (one 0 0 5 89342) (1 ∷ []) (1 ∷ []) [] → ⊥
unfolding at
chain_parted_never_refused p = omega (arith, p.never 1 (omega arith), count_here 1 [])

-- ---- arenas that differ in payloads alone

abbrev word : List ℕ → ℕ
word l = get_or l 0 0

-- other payloads are no difference
pub same_but_payloads_of_any : SameButPayloads (one 0 0 5 7) (one 0 0 5 8)
same_but_payloads_of_any = record { prev = refl; next = refl; generation = refl; payload_length = refl; header = refl }

pub same_but_payloads_prev_refused : SameButPayloads (one 0 0 5 7) (one 1 0 5 8) → ⊥
same_but_payloads_prev_refused e = omega (arith, ap word e.prev)

pub same_but_payloads_next_refused : SameButPayloads (one 0 0 5 7) (one 0 1 5 8) → ⊥
same_but_payloads_next_refused e = omega (arith, ap word e.next)

pub same_but_payloads_generation_refused : SameButPayloads (one 0 0 5 7) (one 0 0 6 8) → ⊥
same_but_payloads_generation_refused e = omega (arith, ap word e.generation)

pub same_but_payloads_payload_length_refused : SameButPayloads lone (arena (0 ∷ []) (0 ∷ []) (5 ∷ []) (7 ∷ 8 ∷ []) (1 ∷ 1 ∷ 0 ∷ 5 ∷ [])) → ⊥
same_but_payloads_payload_length_refused e = omega (arith, e.payload_length)

pub same_but_payloads_header_refused : SameButPayloads lone (arena (0 ∷ []) (0 ∷ []) (5 ∷ []) (8 ∷ []) (0 ∷ 1 ∷ 0 ∷ 5 ∷ [])) → ⊥
same_but_payloads_header_refused e = omega (arith, ap word e.header)

-- ---- payloads that are carried: from slots 2 and 1 of a stack of three, with a fourth word above it

abbrev holding : List ℕ → Arena
holding vs = arena (0 ∷ 0 ∷ 0 ∷ 0 ∷ []) (0 ∷ 0 ∷ 0 ∷ 0 ∷ []) (5 ∷ 5 ∷ 0 ∷ 0 ∷ []) vs (3 ∷ 2 ∷ 3 ∷ 5 ∷ [])

abbrev Carried : List ℕ → Type 0
Carried vs = CarriedTo (holding (7 ∷ 8 ∷ 3 ∷ 4 ∷ [])) (2 ∷ 1 ∷ []) (holding vs)

pub carried_to_computed : Carried (8 ∷ 7 ∷ 0 ∷ 4 ∷ [])
unfolding at settled
carried_to_computed = refl

-- left where they were, left above the links, and another word above the stack
pub carried_to_moved_refused : Carried (7 ∷ 8 ∷ 0 ∷ 4 ∷ []) → ⊥
unfolding at settled
carried_to_moved_refused e = omega (arith, ap word e)

pub carried_to_cleared_refused : Carried (8 ∷ 7 ∷ 3 ∷ 4 ∷ []) → ⊥
unfolding at settled
carried_to_cleared_refused e = omega (arith, ap (λ (l : List ℕ). get_or l 2 0) e)

pub carried_to_above_refused : Carried (8 ∷ 7 ∷ 0 ∷ 0 ∷ []) → ⊥
unfolding at settled
carried_to_above_refused e = omega (arith, ap (λ (l : List ℕ). get_or l 3 0) e)

-- ---- a compression of a lone link, once with payload 7 and once with payload 8

abbrev Ignores : Reply → Reply → Type 0
Ignores r s = IgnoresPayloads (one 0 0 5 7) (one 0 0 5 8) (1 ∷ []) r s

-- generation and payload of what is left
abbrev leaving : ℕ → ℕ → Reply
leaving g v = reply 0 [] (one 0 0 g v) (1 ∷ [])

pub ignores_payloads_number_refused : Ignores (reply 0 [] (one 0 0 2 7) (1 ∷ [])) (reply 100 [] (one 0 0 2 8) (1 ∷ [])) → ⊥
ignores_payloads_number_refused i = omega (arith, i.number)

-- of two refused ones, another slot and another side
abbrev naming : ℕ → ℕ → ℕ → Reply
naming slot d v = record { number = 11; broken = slot; side = d; fields = []; arena = one 0 0 5 v; back = [] }

pub ignores_payloads_broken_refused : Ignores (naming 1 1 7) (naming 2 1 8) → ⊥
ignores_payloads_broken_refused i = omega (arith, i.broken)

pub ignores_payloads_side_refused : Ignores (naming 1 1 7) (naming 1 2 8) → ⊥
ignores_payloads_side_refused i = omega (arith, i.side)

-- a field that is the payload, and a column with it
pub ignores_payloads_fields_refused : Ignores (reply 0 (7 ∷ []) (one 0 0 6 7) (1 ∷ [])) (reply 0 (8 ∷ []) (one 0 0 6 8) (1 ∷ [])) → ⊥
ignores_payloads_fields_refused i = omega (arith, ap word i.fields)

pub ignores_payloads_back_refused : Ignores (reply 0 [] (one 0 0 6 7) (7 ∷ [])) (reply 0 [] (one 0 0 6 8) (8 ∷ [])) → ⊥
ignores_payloads_back_refused i = omega (arith, ap word i.back)

-- another generation for another payload
pub ignores_payloads_left_refused : Ignores (leaving 6 7) (leaving 7 8) → ⊥
ignores_payloads_left_refused i = omega (arith, ap word i.left.generation)

-- a payload that is not carried, on either side
pub ignores_payloads_carried_refused : Ignores (leaving 6 0) (leaving 6 8) → ⊥
unfolding at settled
ignores_payloads_carried_refused i = omega (arith, ap word (i.carried (inl refl)).0)

pub ignores_payloads_carried_other_refused : Ignores (leaving 6 7) (leaving 6 0) → ⊥
unfolding at settled
ignores_payloads_carried_other_refused i = omega (arith, ap word (i.carried (inl refl)).1)

-- refused, and written all the same, on either side
abbrev refusing : ℕ → Reply
refusing v = reply 14 [] (one 0 0 5 v) []

not_done : (v : ℕ) → Accepted (refusing v) → ⊥
not_done v (inl e) = omega (arith, e)
not_done v (inr e) = omega (arith, e)

pub ignores_payloads_refused_refused : Ignores (refusing 0) (refusing 8) → ⊥
ignores_payloads_refused_refused i = omega (arith, ap (λ (a : Arena). word a.payload) (i.refused (not_done 0)).0)

pub ignores_payloads_refused_other_refused : Ignores (refusing 7) (refusing 0) → ⊥
ignores_payloads_refused_other_refused i = omega (arith, ap (λ (a : Arena). word a.payload) (i.refused (not_done 7)).1)

-- ---- in full, for every dot, line, window, list, arena and reply

pub lines_part_whole : (f g : ℕ → Told) → LinesPart f g →
    ((dot : ℕ) → dot < 89342 → (line : ℕ) × (line < 262) × (f dot ≡ told 0 (line ∷ [])))
    × ((dot line first last : ℕ) → f dot ≡ told 0 (line ∷ []) → g line ≡ told 0 (first ∷ last ∷ []) → first ≤ dot)
    × ((dot line first last : ℕ) → f dot ≡ told 0 (line ∷ []) → g line ≡ told 0 (first ∷ last ∷ []) → dot ≤ last)
    × ((dot line first last : ℕ) → g line ≡ told 0 (first ∷ last ∷ []) → first ≤ dot → dot ≤ last → f dot ≡ told 0 (line ∷ []))
    × (g 0 ≡ told 0 (0 ∷ 340 ∷ []))
    × ((line first last : ℕ) → suc line < 262 → g line ≡ told 0 (first ∷ last ∷ []) → g (suc line) ≡ told 0 ((last + 1) ∷ (last + 341) ∷ []))
    × ((dot : ℕ) → 89342 ≤ dot → f dot ≡ told 19 (0 ∷ []))
    × ((line : ℕ) → 262 ≤ line → g line ≡ told 19 (0 ∷ 0 ∷ []))
lines_part_whole f g p = (
  p.has_line,
  λ dot line first last e h. (p.within dot line first last e h).0,
  λ dot line first last e h. (p.within dot line first last e h).1,
  p.only,
  p.begins,
  p.follows,
  p.no_dot,
  p.no_line,
)

-- the fields leave no choice: whatever parts the frame answers each dot and each line as the definitions do
lines_at : (f g : ℕ → Told) → LinesPart f g → (line : ℕ) → line < 262 → g line ≡ told 0 ((341 * line) ∷ (341 * line + 340) ∷ [])
lines_at f g p zero h = p.begins
lines_at f g p (suc line) h =
    let first : 341 * line + 340 + 1 ≡ 341 * suc line = omega arith in
    let last : 341 * line + 340 + 341 ≡ 341 * suc line + 340 = omega arith in
    subst (λ (x : ℕ). g (suc line) ≡ told 0 (x ∷ (341 * suc line + 340) ∷ [])) first
    (subst (λ (y : ℕ). g (suc line) ≡ told 0 ((341 * line + 340 + 1) ∷ y ∷ [])) last (p.follows line (341 * line) (341 * line + 340) h (lines_at f g p line (omega arith))))

pub lines_part_determines : (f g : ℕ → Told) → LinesPart f g → (x : ℕ) → (f x ≡ line_of_dot x) × (g x ≡ line_dots x)
unfolding first_dot last_dot line_of line_of_dot line_dots
lines_part_determines f g p x = (by_test (ltb x 89342) dot no_dot, by_test (ltb x 262) line no_line)
  where
    dot : ltb x 89342 ≡ true → f x ≡ cond (ltb x 89342) (told 0 ((x / 341) ∷ [])) (told 19 (0 ∷ []))
    dot e =
        let h = ltb-true x 89342 e in
        rw (e) (p.only x (x / 341) (341 * (x / 341)) (341 * (x / 341) + 340) (lines_at f g p (x / 341) (omega (arith, h))) (omega arith) (omega arith))

    no_dot : ltb x 89342 ≡ false → f x ≡ cond (ltb x 89342) (told 0 ((x / 341) ∷ [])) (told 19 (0 ∷ []))
    no_dot e = rw (e) (p.no_dot x (ltb-false x 89342 e))

    line : ltb x 262 ≡ true → g x ≡ cond (ltb x 262) (told 0 ((341 * x) ∷ (341 * x + 340) ∷ [])) (told 19 (0 ∷ 0 ∷ []))
    line e = rw (e) (lines_at f g p x (ltb-true x 262 e))

    no_line : ltb x 262 ≡ false → g x ≡ cond (ltb x 262) (told 0 ((341 * x) ∷ (341 * x + 340) ∷ [])) (told 19 (0 ∷ 0 ∷ []))
    no_line e = rw (e) (p.no_line x (ltb-false x 262 e))

-- due means no less than this, and no more
pub due_in_whole : (from to v : ℕ) → DueIn from to v ↔ ((v < 89342) × (from ≤ to → (from ≤ v) × (v < to)) × (to < from → (from ≤ v) ⊎ (v < to)))
due_in_whole from to v = (λ d. (d.dot, d.straight, d.crossing), λ h. record { dot = h.0; straight = h.1; crossing = h.2 })

pub thinned_whole : (P : ℕ → Type 0) (ss : List ℕ) (x : ℕ) (xs : List ℕ) →
    (Thinned P ss [] ↔ (ss ≡ []))
    × (Thinned P ss (x ∷ xs) ↔ ((P x × ((rest : List ℕ) × (ss ≡ x ∷ rest) × Thinned P rest xs)) ⊎ ((P x → ⊥) × Thinned P ss xs)))
unfolding Thinned
thinned_whole P ss x xs = ((λ h. h, λ h. h), (λ h. h, λ h. h))

pub due_of_whole : (a : Arena) (o from to : ℕ) (ss : List ℕ) (u : DueOf a o from to ss) →
    WalkOrder a o u.chain × Thinned (λ s. DueIn from to (at a.payload s)) ss u.chain
due_of_whole a o from to ss u = (u.order, u.due)

pub counts_due_whole : (a : Arena) (o from to : ℕ) (r : Reply) (u : CountsDue a o from to r) → DueOf a o from to u.slots × (r.fields ≡ length u.slots ∷ []) × (r.arena ≡ a)
counts_due_whole a o from to r u = (u.due, u.fields, u.left)

pub reports_due_whole : (a : Arena) (o from to : ℕ) (report : List ℕ) (r : Reply) (u : ReportsDue a o from to report r) →
    DueOf a o from to u.slots × (r.fields ≡ length u.slots ∷ []) × (r.back ≡ u.slots ++ drop (length u.slots) report) × (r.arena ≡ a)
unfolding written
reports_due_whole a o from to report r u = (u.due, u.fields, u.back, u.left)

pub windows_part_whole : (f t : ℕ) → WindowsPart f t → (v : ℕ) → (v < 89342 → DueIn f t v ⊎ DueIn t f v) × (DueIn f t v → DueIn t f v → ⊥)
windows_part_whole f t p v = (p.either v, p.not_both v)

pub chain_parted_whole : (a : Arena) (chain ss ts : List ℕ) → ChainParted a chain ss ts →
    ((s : ℕ) → at a.payload s < 89342 → count s ss + count s ts ≡ count s chain)
    × ((s : ℕ) → 89342 ≤ at a.payload s → count s ss + count s ts ≡ 0)
chain_parted_whole a chain ss ts p = (p.once, p.never)

-- no less than this, and no more, as compressions are said to be alike on all such arenas
pub same_but_payloads_whole : (a b : Arena) →
    SameButPayloads a b
    ↔ ((a.prev ≡ b.prev) × (a.next ≡ b.next) × (a.generation ≡ b.generation) × (length a.payload ≡ length b.payload) × (a.header ≡ b.header))
same_but_payloads_whole a b = (λ d. (d.prev, d.next, d.generation, d.payload_length, d.header), λ h. record { prev = h.0; next = h.1; generation = h.2; payload_length = h.3; header = h.4 })

pub carried_to_whole : (a b : Arena) (w : List ℕ) →
    CarriedTo a w b
    ↔ (b.payload ≡ map (at a.payload) w ++ (replicate (stack_length a - length (map (at a.payload) w)) 0 ++ drop (stack_length a) a.payload))
unfolding settled
carried_to_whole a b w = (λ h. h, λ h. h)

pub ignores_payloads_whole : (a b : Arena) (w : List ℕ) (r s : Reply) → IgnoresPayloads a b w r s →
    (r.number ≡ s.number)
    × (r.broken ≡ s.broken)
    × (r.side ≡ s.side)
    × (r.fields ≡ s.fields)
    × (r.back ≡ s.back)
    × SameButPayloads r.arena s.arena
    × (Accepted r → CarriedTo a w r.arena)
    × (Accepted r → CarriedTo b w s.arena)
    × ((Accepted r → ⊥) → r.arena ≡ a)
    × ((Accepted r → ⊥) → s.arena ≡ b)
ignores_payloads_whole a b w r s i = (
  i.number,
  i.broken,
  i.side,
  i.fields,
  i.back,
  i.left,
  λ h. (i.carried h).0,
  λ h. (i.carried h).1,
  λ h. (i.refused h).0,
  λ h. (i.refused h).1,
)
