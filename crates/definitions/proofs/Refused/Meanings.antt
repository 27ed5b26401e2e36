-- What the definitions mean that statements are made of, in full and without their names: lists of slots, the place where rule 11 fails, the frame clock, calls made
-- one after the other, and the arena that a contract speaks of at entry and at exit.
use Prim.Native.Nat.{ℕ, suc, ◌+◌, ◌-◌, ◌*◌, ◌/◌, ◌≤◌, ◌<◌}
use mathlib.Core.Path.{◌≡◌, refl}
use mathlib.Core.Logic.{◌⊎◌, inl, inr, ◌↔◌}
use mathlib.Core.Bool.{Bool, true, false, cond, not, ◌&&◌, ◌||◌}
use mathlib.Core.List.{List, [], ◌∷◌, ◌++◌, map}
use lib.ListN.{length, get_or, set, drop, replicate}
use native.Mathlib.Omega.{arith}
use lib.Dec.{eqb, leb, ltb}
use borrow.Author.Tests.{eq-eqb, ne_eqb, lt-ltb, le-ltb}
use denote.Triple.Both.{Both}
use Rattle.definitions.specs.Columns.{at, put, count, first_or, last_or, Linked, slots_from, keep, written, settled}
use Rattle.definitions.specs.Arena.{Arena, arena, capacity, capacity_limit, largest_generation, stack_length, link_count, root, current, allocated, link_slots, free_slots, is_link}
use Rattle.definitions.specs.Check.{misshapen, FailsAt, Neighbour, names_back, neighbours_fine, verdict, broken_slots, side_at, broken_slot, broken_side}
use Rattle.definitions.specs.Reply.{reply}
use Rattle.definitions.specs.Walk.{Walk, start_at, state_of, step, walked, walk_from}
use Rattle.definitions.specs.Read.{Pointer, pointer, stale}
use Rattle.definitions.specs.Insert.{
  Named,
  by_pointer,
  by_slot,
  slot_of,
  is_there,
  Disconnected,
  SingleLinkCyclic,
  ChainEnd,
  ChainStart,
  NextTo,
  PrevTo,
  AtInterlink,
  Bridge,
  kind,
  unknown,
  kind_of,
  nowhere,
  between,
  place_if,
  place_of,
  new_slot,
  is_full,
  root_after,
  header_after,
  inserted,
  insert_coded,
}
use Rattle.definitions.specs.Edit.{connect, break_prev, break_next, exchange_next}
use Rattle.definitions.specs.Remove.{remove}
use Rattle.definitions.specs.Run.{Command, command_at, commands_of, apply}
use Rattle.definitions.specs.Compress.{place, relocate}
use Rattle.definitions.specs.Report.{item_slots}
use Rattle.definitions.specs.Clock.{frame_lines, dots_per_line, frame_dots, first_dot, last_dot, line_of, told, line_of_dot, line_dots, is_window, due, due_slots, due_count, due_events}
use Rattle.definitions.specs.Calls.{Call, Connect, BreakPrev, BreakNext, ExchangeNext, Remove, Insert, Made, accepted, reply_to, call_of, replies_to, arena_after}
use Rattle.definitions.specs.Lent.{Column, at_entry, at_exit}
use Rattle.definitions.proofs.Codes.{no_kind}

-- ---- words and lists

pub at_whole : (xs : List ℕ) (i : ℕ) → (at xs 0 ≡ 0) × (at xs (suc i) ≡ get_or xs i 0)
unfolding at
at_whole xs i = (refl, refl)

pub count_whole : (x y : ℕ) (ys : List ℕ) → (count x [] ≡ 0) × (count x (y ∷ ys) ≡ cond (eqb x y) 1 0 + count x ys)
unfolding count
count_whole x y ys = (refl, refl)

pub first_or_whole : (z x : ℕ) (xs : List ℕ) → (first_or z [] ≡ z) × (first_or z (x ∷ xs) ≡ x)
unfolding first_or
first_or_whole z x xs = (refl, refl)

pub last_or_whole : (z x : ℕ) (xs : List ℕ) → (last_or z [] ≡ z) × (last_or z (x ∷ xs) ≡ last_or x xs)
unfolding last_or
last_or_whole z x xs = (refl, refl)

pub linked_whole : (next : ℕ → ℕ) (s : ℕ) (ss : List ℕ) (z : ℕ) → (Linked next [] z ↔ Unit {0}) × (Linked next (s ∷ ss) z ↔ ((next s ≡ first_or z ss) × Linked next ss z))
unfolding Linked
linked_whole next s ss z = ((λ h. h, λ h. h), (λ h. h, λ h. h))

pub slots_from_whole : (s k : ℕ) → (slots_from s 0 ≡ []) × (slots_from s (suc k) ≡ s ∷ slots_from (suc s) k)
unfolding slots_from
slots_from_whole s k = (refl, refl)

pub keep_whole : (test : ℕ → Bool) (x : ℕ) (xs : List ℕ) → (keep test [] ≡ []) × (keep test (x ∷ xs) ≡ cond (test x) (x ∷ keep test xs) (keep test xs))
unfolding keep
keep_whole test x xs = (refl, refl)

pub written_whole : (ws old : List ℕ) → written ws old ≡ ws ++ drop (length ws) old
unfolding written
written_whole ws old = refl

pub settled_whole : (n : ℕ) (ws old : List ℕ) → settled n ws old ≡ ws ++ (replicate (n - length ws) 0 ++ drop n old)
unfolding settled
settled_whole n ws old = refl

pub item_slots_whole : (items : ℕ) (report : List ℕ) → (item_slots 0 report ≡ []) × (item_slots (suc items) report ≡ get_or report 0 0 ∷ item_slots items (drop 5 report))
unfolding item_slots
item_slots_whole items report = (refl, refl)

-- ---- the words of an arena, and of a reply

pub arena_whole : (ps ns gs vs h : List ℕ) →
    ((arena ps ns gs vs h).prev ≡ ps)
    × ((arena ps ns gs vs h).next ≡ ns)
    × ((arena ps ns gs vs h).generation ≡ gs)
    × ((arena ps ns gs vs h).payload ≡ vs)
    × ((arena ps ns gs vs h).header ≡ h)
arena_whole ps ns gs vs h = (refl, refl, refl, refl, refl)

pub capacity_whole : (a : Arena) → capacity a ≡ length a.prev
capacity_whole a = refl

pub stack_length_whole : (a : Arena) → stack_length a ≡ get_or a.header 0 0
stack_length_whole a = refl

pub link_count_whole : (a : Arena) → link_count a ≡ get_or a.header 1 0
link_count_whole a = refl

pub root_whole : (a : Arena) → root a ≡ get_or a.header 2 0
root_whole a = refl

pub current_whole : (a : Arena) → current a ≡ get_or a.header 3 0
current_whole a = refl

pub capacity_limit_whole : capacity_limit ≡ 1048576
capacity_limit_whole = refl

pub largest_generation_whole : largest_generation ≡ 4294967295
largest_generation_whole = refl

pub reply_whole : (k : ℕ) (fs : List ℕ) (a : Arena) (l : List ℕ) →
    ((reply k fs a l).number ≡ k)
    × ((reply k fs a l).broken ≡ 0)
    × ((reply k fs a l).side ≡ 0)
    × ((reply k fs a l).fields ≡ fs)
    × ((reply k fs a l).arena ≡ a)
    × ((reply k fs a l).back ≡ l)
reply_whole k fs a l = (refl, refl, refl, refl, refl, refl)

-- rule 1 looks at lengths alone
pub misshapen_whole : (limit : ℕ) (a : Arena) →
    misshapen limit a
    ≡ (not (eqb (length a.header) 4)
    || ltb limit (length a.prev)
    || not (eqb (length a.next) (length a.prev))
    || not (eqb (length a.generation) (length a.prev))
    || not (eqb (length a.payload) (length a.prev)))
unfolding misshapen
misshapen_whole limit a = refl

-- ---- links and rule 11

pub is_link_whole : (a : Arena) (s : ℕ) → is_link a s ≡ leb s (get_or a.header 0 0) && not (eqb (at a.generation s) 0)
unfolding allocated
is_link_whole a s = refl

pub link_slots_whole : (gs : List ℕ) (n : ℕ) → (link_slots gs n ≡ keep (allocated gs n) (slots_from 1 n)) × (free_slots gs n ≡ keep (λ s. not (allocated gs n s)) (slots_from 1 n))
unfolding link_slots free_slots
link_slots_whole gs n = (refl, refl)

-- rule 11 at slot s, in full: s is no link of the stack, or its prev is 0 or a link whose next is s, and its next is 0 or a link whose prev is s
-- (a neighbour of s is none, or a link that names s in the column back)
abbrev fits : Arena → List ℕ → ℕ → ℕ → Bool
fits a back s x = eqb x 0 || ((leb x (get_or a.header 0 0) && not (eqb (at a.generation x) 0)) && eqb (at back x) s)

pub fails_at_whole : (a : Arena) (s : ℕ) →
    FailsAt a s
    ↔ ((not (leb s (get_or a.header 0 0) && not (eqb (at a.generation s) 0)) || (fits a a.next s (at a.prev s) && fits a a.prev s (at a.next s))) ≡ false)
unfolding allocated names_back neighbours_fine
fails_at_whole a s = (λ h. h, λ h. h)

-- the slot and the side that go with 11, in full: the first of the slots 1 to the stack length at which the rule fails; 2 if its prev fits, else 1
abbrev fails : Arena → ℕ → Bool
fails a s = not (not (leb s (get_or a.header 0 0) && not (eqb (at a.generation s) 0)) || (fits a a.next s (at a.prev s) && fits a a.prev s (at a.next s)))

pub broken_slot_whole : (limit : ℕ) (a : Arena) → broken_slot limit a ≡ cond (eqb (verdict limit a) 11) (first_or 0 (keep (fails a) (slots_from 1 (get_or a.header 0 0)))) 0
unfolding allocated names_back neighbours_fine broken_slots broken_slot
broken_slot_whole limit a = refl

pub broken_side_whole : (limit : ℕ) (a : Arena) →
    broken_side limit a ≡ cond (eqb (verdict limit a) 11) (cond (fits a a.next (broken_slot limit a) (at a.prev (broken_slot limit a))) 2 1) 0
unfolding allocated names_back side_at broken_side
broken_side_whole limit a = refl

pub neighbour_whole : (a : Arena) (back : List ℕ) (x s : ℕ) → Neighbour a back x s ↔ ((s ≡ 0 → ⊥) → (is_link a s ≡ true) × (at back s ≡ x))
neighbour_whole a back x s = (λ h. h, λ h. h)

pub stale_whole : (a : Arena) (p : Pointer) →
    stale a p
    ≡ eqb p.slot 0
    || ltb (get_or a.header 0 0) p.slot
    || eqb (at a.generation p.slot) 0
    || not (eqb (at a.generation p.slot) p.generation)
unfolding stale
stale_whole a p = refl

pub pointer_whole : (s g : ℕ) → ((pointer s g).slot ≡ s) × ((pointer s g).generation ≡ g)
pointer_whole s g = (refl, refl)

-- ---- insertion: what a kind names, its code, where it puts a link, and in which slot

pub slot_of_whole : (p : Pointer) (s : ℕ) → (slot_of (by_pointer p) ≡ p.slot) × (slot_of (by_slot s) ≡ s)
unfolding slot_of
slot_of_whole p s = (refl, refl)

pub is_there_whole : (a : Arena) (p : Pointer) (s : ℕ) → (is_there a (by_pointer p) ≡ not (stale a p)) × (is_there a (by_slot s) ≡ is_link a s)
unfolding is_there
is_there_whole a p s = (refl, refl)

pub kind_of_whole : (p q : Pointer) →
    (kind_of 6 p q ≡ kind Disconnected)
    × (kind_of 7 p q ≡ kind SingleLinkCyclic)
    × (kind_of 8 p q ≡ kind (ChainEnd (by_pointer p)))
    × (kind_of 9 p q ≡ kind (ChainEnd (by_slot p.slot)))
    × (kind_of 10 p q ≡ kind (ChainStart (by_pointer p)))
    × (kind_of 11 p q ≡ kind (ChainStart (by_slot p.slot)))
    × (kind_of 12 p q ≡ kind (NextTo (by_pointer p)))
    × (kind_of 13 p q ≡ kind (NextTo (by_slot p.slot)))
    × (kind_of 14 p q ≡ kind (PrevTo (by_pointer p)))
    × (kind_of 15 p q ≡ kind (PrevTo (by_slot p.slot)))
    × (kind_of 16 p q ≡ kind (AtInterlink (by_pointer p) (by_pointer q)))
    × (kind_of 17 p q ≡ kind (AtInterlink (by_slot p.slot) (by_slot q.slot)))
    × (kind_of 18 p q ≡ kind (Bridge (by_pointer p) (by_pointer q)))
    × (kind_of 19 p q ≡ kind (Bridge (by_slot p.slot) (by_slot q.slot)))
    × ((code : ℕ) → (code ≤ 5) ⊎ (20 ≤ code) → kind_of code p q ≡ unknown)
unfolding kind_of
kind_of_whole p q = (refl, refl, refl, refl, refl, refl, refl, refl, refl, refl, refl, refl, refl, refl, λ code outside. no_kind code p q outside)

pub place_if_whole : (u v : ℕ) → (place_if true u v ≡ between u v) × (place_if false u v ≡ nowhere)
unfolding place_if
place_if_whole u v = (refl, refl)

pub place_of_whole : (a : Arena) (t : ℕ) (p q : Named) →
    (place_of a t Disconnected ≡ between 0 0)
    × (place_of a t SingleLinkCyclic ≡ between t t)
    × (place_of a t (ChainEnd p) ≡ place_if (is_there a p && eqb (at a.next (slot_of p)) 0) (slot_of p) 0)
    × (place_of a t (ChainStart p) ≡ place_if (is_there a p && eqb (at a.prev (slot_of p)) 0) 0 (slot_of p))
    × (place_of a t (NextTo p) ≡ place_if (is_there a p) (slot_of p) (at a.next (slot_of p)))
    × (place_of a t (PrevTo p) ≡ place_if (is_there a p) (at a.prev (slot_of p)) (slot_of p))
    × (place_of a t (AtInterlink p q) ≡ place_if ((is_there a p && is_there a q) && eqb (at a.next (slot_of p)) (slot_of q)) (slot_of p) (slot_of q))
    × (place_of a t (Bridge p q)
    ≡ place_if ((is_there a p && is_there a q) && (eqb (at a.next (slot_of p)) 0 && eqb (at a.prev (slot_of q)) 0)) (slot_of p) (slot_of q))
unfolding place_of
place_of_whole a t p q = (refl, refl, refl, refl, refl, refl, refl, refl)

pub new_slot_whole : (a : Arena) → new_slot a ≡ cond (eqb (get_or a.header 2 0) 0) (get_or a.header 0 0 + 1) (get_or a.header 2 0)
unfolding new_slot
new_slot_whole a = refl

pub is_full_whole : (a : Arena) → is_full a ≡ eqb (get_or a.header 2 0) 0 && eqb (get_or a.header 0 0) (length a.prev)
unfolding is_full
is_full_whole a = refl

-- the words that an insertion leaves: of each column those of the new slot and its neighbours, of the header three
pub inserted_whole : (a : Arena) (u v x : ℕ) →
    ((inserted a u v x).prev ≡ put (put a.prev (new_slot a) u) v (new_slot a))
    × ((inserted a u v x).next ≡ put (put a.next (new_slot a) v) u (new_slot a))
    × ((inserted a u v x).generation ≡ put a.generation (new_slot a) (get_or a.header 3 0))
    × ((inserted a u v x).payload ≡ put a.payload (new_slot a) x)
    × ((inserted a u v x).header
    ≡ cond (eqb (root a) 0) (set (set a.header 1 (link_count a + 1)) 0 (stack_length a + 1))
    (set (set a.header 1 (link_count a + 1)) 2 (cond (eqb (at a.next (root a)) (root a)) 0 (at a.next (root a)))))
unfolding inserted header_after root_after
inserted_whole a u v x = (refl, refl, refl, refl, refl)

-- ---- commands by their codes and by their words, and links in another order

abbrev command : ℕ → Pointer → Pointer → ℕ → Command
command k p q x = record { code = k; first = p; second = q; payload = x }

-- a code that is none of 1 to 5
no_edit : (k j : ℕ) → (k ≡ 0) ⊎ (6 ≤ k) → 1 ≤ j → j ≤ 5 → eqb k j ≡ false
no_edit k j (inl zero) some low = ne_eqb k j (λ e. omega arith)
no_edit k j (inr high) some low = ne_eqb k j (λ e. omega arith)

abbrev NoEdit : ℕ → Type 0
NoEdit k = (eqb k 1 ≡ false) × (eqb k 2 ≡ false) × (eqb k 3 ≡ false) × (eqb k 4 ≡ false) × (eqb k 5 ≡ false)

none_of_them : (k : ℕ) → (k ≡ 0) ⊎ (6 ≤ k) → NoEdit k
none_of_them k h = (no_edit k 1 h (omega arith) (omega arith), no_edit k 2 h (omega arith) (omega arith), no_edit k 3 h (omega arith) (omega arith), no_edit k 4 h (omega arith) (omega arith), no_edit k 5 h (omega arith) (omega arith))

pub apply_whole : (top : ℕ) (a : Arena) (p q : Pointer) (x : ℕ) →
    (apply top a (command 1 p q x) ≡ connect a p q [])
    × (apply top a (command 2 p q x) ≡ break_prev a p [])
    × (apply top a (command 3 p q x) ≡ break_next a p [])
    × (apply top a (command 4 p q x) ≡ exchange_next a p q [])
    × (apply top a (command 5 p q x) ≡ remove top a p [])
    × ((k : ℕ) → (k ≡ 0) ⊎ (6 ≤ k) → apply top a (command k p q x) ≡ insert_coded a (kind_of k p q) x [])
unfolding apply
apply_whole top a p q x = (refl, refl, refl, refl, refl, λ k h. let n = none_of_them k h in rw (n.0, n.1, n.2, n.3, n.4) refl)

pub call_of_whole : (p q : Pointer) (x : ℕ) →
    (call_of (command 1 p q x) ≡ Connect p q)
    × (call_of (command 2 p q x) ≡ BreakPrev p)
    × (call_of (command 3 p q x) ≡ BreakNext p)
    × (call_of (command 4 p q x) ≡ ExchangeNext p q)
    × (call_of (command 5 p q x) ≡ Remove p)
    × ((k : ℕ) → (k ≡ 0) ⊎ (6 ≤ k) → call_of (command k p q x) ≡ Insert k p q x)
unfolding call_of
call_of_whole p q x = (refl, refl, refl, refl, refl, λ k h. let n = none_of_them k h in rw (n.0, n.1, n.2, n.3, n.4) refl)

pub commands_of_whole : (ws : List ℕ) → commands_of ws ≡ map (command_at ws) (slots_from 0 (length ws / 6))
commands_of_whole ws = refl

pub command_at_whole : (ws : List ℕ) (i : ℕ) →
    ((command_at ws i).code ≡ get_or ws (6 * i) 0)
    × ((command_at ws i).first ≡ pointer (get_or ws (6 * i + 1) 0) (get_or ws (6 * i + 2) 0))
    × ((command_at ws i).second ≡ pointer (get_or ws (6 * i + 3) 0) (get_or ws (6 * i + 4) 0))
    × ((command_at ws i).payload ≡ get_or ws (6 * i + 5) 0)
command_at_whole ws i = (refl, refl, refl, refl)

pub relocate_whole : (w : List ℕ) (g : ℕ) (a : Arena) →
    ((relocate w g a).prev ≡ settled (stack_length a) (map (λ o. place w (at a.prev o)) w) a.prev)
    × ((relocate w g a).next ≡ settled (stack_length a) (map (λ o. place w (at a.next o)) w) a.next)
    × ((relocate w g a).generation ≡ settled (stack_length a) (map (λ o. g) w) a.generation)
    × ((relocate w g a).payload ≡ settled (stack_length a) (map (λ o. at a.payload o) w) a.payload)
unfolding relocate
relocate_whole w g a = (refl, refl, refl, refl)

pub place_whole : (x : ℕ) (w : List ℕ) (o : ℕ) → (place [] o ≡ 0) × (place (x ∷ w) o ≡ cond (eqb x o) 1 (cond (eqb (place w o) 0) 0 (suc (place w o))))
unfolding place
place_whole x w o = (refl, refl)

-- ---- a walk, and calls one after the other

pub start_at_whole : (a : Arena) (s : ℕ) → ((start_at a s).start ≡ s) × ((start_at a s).position ≡ s) × ((start_at a s).direction ≡ 0) × ((start_at a s).left ≡ link_count a)
start_at_whole a s = (refl, refl, refl, refl)

pub state_of_whole : (l : List ℕ) → ((state_of l).start ≡ get_or l 0 0) × ((state_of l).position ≡ get_or l 1 0) × ((state_of l).direction ≡ get_or l 2 0) × ((state_of l).left ≡ get_or l 3 0)
state_of_whole l = (refl, refl, refl, refl)

pub walk_from_whole : (a : Arena) (s : ℕ) → walk_from a s ≡ walked a (link_count a) (start_at a s)
walk_from_whole a s = refl

pub walked_whole : (a : Arena) (steps : ℕ) (w : Walk) →
    (walked a 0 w ≡ []) × (walked a (suc steps) w ≡ cond (eqb (step a w).answer.slot 0) [] ((step a w).answer.slot ∷ walked a steps (step a w).state))
unfolding walked
walked_whole a steps w = (refl, refl)

-- the reply of a call is its own where the check passes, and else the check's
module _ (limit top : ℕ) (c : Call) (a : Arena) (l : List ℕ) where
  pub reply_to_whole : (verdict limit a ≡ 0 → reply_to limit top c a l ≡ accepted top c a l)
      × ((verdict limit a ≡ 0 → ⊥) → reply_to limit top c a l ≡ record {
        number = verdict limit a;
        broken = broken_slot limit a;
        side = broken_side limit a;
        fields = replicate (length (accepted top c a l).fields) 0;
        arena = a;
        back = l;
      })
  unfolding reply_to
  reply_to_whole = (λ e. rw (eq-eqb (verdict limit a) 0 e) refl, λ d. rw (ne_eqb (verdict limit a) 0 d) refl)

module _ (limit top : ℕ) (m : Made) (ms : List Made) (a : Arena) where
  pub replies_to_whole : (replies_to limit top [] a ≡ [])
      × (replies_to limit top (m ∷ ms) a ≡ reply_to limit top m.call a m.hands ∷ replies_to limit top ms (reply_to limit top m.call a m.hands).arena)
  unfolding replies_to
  replies_to_whole = (refl, refl)

  pub arena_after_whole : (arena_after limit top [] a ≡ a) × (arena_after limit top (m ∷ ms) a ≡ arena_after limit top ms (reply_to limit top m.call a m.hands).arena)
  unfolding arena_after
  arena_after_whole = (refl, refl)

-- ---- the frame clock: 262 lines of 341 dots, windows, and what is due

pub frame_lines_whole : frame_lines ≡ 262
frame_lines_whole = refl

pub dots_per_line_whole : dots_per_line ≡ 341
dots_per_line_whole = refl

pub frame_dots_whole : frame_dots ≡ 89342
frame_dots_whole = refl

pub first_dot_whole : (line : ℕ) → first_dot line ≡ 341 * line
unfolding first_dot
first_dot_whole line = refl

pub last_dot_whole : (line : ℕ) → last_dot line ≡ 341 * line + 340
unfolding first_dot last_dot
last_dot_whole line = refl

-- the dot is not before the first dot of its line, and before the first dot of the next one
pub line_of_whole : (dot : ℕ) → (341 * line_of dot ≤ dot) × (dot < 341 * line_of dot + 341)
unfolding line_of
line_of_whole dot = (omega arith, omega arith)

pub told_whole : (k : ℕ) (fs : List ℕ) → ((told k fs).number ≡ k) × ((told k fs).fields ≡ fs)
told_whole k fs = (refl, refl)

pub line_of_dot_whole : (dot : ℕ) → line_of_dot dot ≡ cond (ltb dot 89342) (told 0 ((dot / 341) ∷ [])) (told 19 (0 ∷ []))
unfolding line_of line_of_dot
line_of_dot_whole dot = refl

pub line_dots_whole : (line : ℕ) → line_dots line ≡ cond (ltb line 262) (told 0 ((341 * line) ∷ (341 * line + 340) ∷ [])) (told 19 (0 ∷ 0 ∷ []))
unfolding first_dot last_dot line_dots
line_dots_whole line = refl

pub is_window_whole : (from to : ℕ) → is_window from to ≡ ltb from 89342 && leb to 89342
unfolding is_window
is_window_whole from to = refl

-- so past the frame never; in a window that goes straight, between its ends; in one that crosses the end of the frame, on either side of it
pub due_whole : (from to v : ℕ) →
    (due from to v ≡ ltb v 89342 && cond (ltb to from) (leb from v || ltb v to) (leb from v && ltb v to))
    × (89342 ≤ v → due from to v ≡ false)
    × (v < 89342 → from ≤ to → due from to v ≡ leb from v && ltb v to)
    × (v < 89342 → to < from → due from to v ≡ leb from v || ltb v to)
unfolding due
due_whole from to v = (
  refl,
  λ past. rw (le-ltb v 89342 past) refl,
  λ dot straight. rw (lt-ltb v 89342 dot, le-ltb to from straight) refl,
  λ dot crosses. rw (lt-ltb v 89342 dot, lt-ltb to from crosses) refl,
)

pub due_slots_whole : (a : Arena) (s from to : ℕ) → due_slots a s from to ≡ keep (λ x. due from to (at a.payload x)) (walked a (link_count a) (start_at a s))
unfolding due_slots
due_slots_whole a s from to = refl

-- 12 before 19, and 19 before 14, which is about the whole chain
pub due_count_whole : (a : Arena) (p : Pointer) (from to : ℕ) (l : List ℕ) →
    due_count a p from to l
    ≡ cond (stale a p) (reply 12 (0 ∷ []) a l)
    (cond (is_window from to) (reply 0 (length (due_slots a p.slot from to) ∷ []) a l) (reply 19 (0 ∷ []) a l))
unfolding due_count
due_count_whole a p from to l = refl

pub due_events_whole : (a : Arena) (p : Pointer) (from to : ℕ) (report : List ℕ) →
    due_events a p from to report
    ≡ cond (stale a p) (reply 12 (0 ∷ []) a report)
    (cond (is_window from to)
    (cond (ltb (length report) (length (walk_from a p.slot))) (reply 14 (0 ∷ []) a report)
    (reply 0 (length (due_slots a p.slot from to) ∷ []) a (written (due_slots a p.slot from to) report)))
    (reply 19 (0 ∷ []) a report))
unfolding due_events
due_events_whole a p from to report = refl

-- ---- what is lent: all five slices at entry, and all five at exit

pub lent_whole : (ps ns gs vs h : Both Column Column) →
    (at_entry ps ns gs vs h ≡ arena ps.entry.now ns.entry.now gs.entry.now vs.entry.now h.entry.now)
    × (at_exit ps ns gs vs h ≡ arena ps.exit.now ns.exit.now gs.exit.now vs.exit.now h.exit.now)
lent_whole ps ns gs vs h = (refl, refl)
