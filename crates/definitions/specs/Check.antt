-- The check of an arena (`_check_invariants`): rules 1 to 11 in their order (REFERENCE, Check), and what a well-formed arena is.
use Rattle.std.specs.Prelude.{ℕ, zero, suc, ◌+◌, ◌≤◌, ◌≡◌, Bool, true, false, cond, not, ◌&&◌, ◌||◌, List, length, eqb, ltb}
use Rattle.definitions.specs.Columns.{at, count, first_or, last_or, slots_from, keep, Linked}
use Rattle.definitions.specs.Arena.{Arena, capacity, header_words, stack_length, link_count, root, current, allocated, link_slots, free_slots, is_link}

-- 1: the header has not four words, prev is longer than the limit, or another column is not as long as prev (REFERENCE, Check)
unfoldable pub misshapen : ℕ → Arena → Bool
misshapen limit a =
    not (eqb (length a.header) header_words)
    || ltb limit (capacity a)
    || not (eqb (length a.next) (capacity a))
    || not (eqb (length a.generation) (capacity a))
    || not (eqb (length a.payload) (capacity a))

-- the freelist followed from slot s, with so many visits left and so many made. A visit answers 6 for slot 0, 7 above the stack, 8 for a link; a slot
-- that points at itself ends the list, with 10 if fewer slots were visited than are free; no visit left: 9 (REFERENCE, Check)
unfoldable pub freelist_walk : List ℕ → List ℕ → ℕ → ℕ → ℕ → ℕ → ℕ
freelist_walk ns gs n zero s visited = 9
freelist_walk ns gs n (suc left) s visited =
    let rest = freelist_walk ns gs n left (at ns s) (visited + 1) in
    cond (eqb s 0) 6
    (cond (ltb n s) 7
    (cond (not (eqb (at gs s) 0)) 8
    (cond (eqb (at ns s) s) (cond (ltb (visited + 1) (length (free_slots gs n))) 10 0) rest)))

-- the neighbour s of slot x is 0, or a link whose word in the column back is x
unfoldable pub names_back : List ℕ → List ℕ → ℕ → ℕ → ℕ → Bool
names_back back gs n x s = eqb s 0 || (allocated gs n s && eqb (at back s) x)

-- rule 11 at slot x: if x is a link, its prev is 0 or a link whose next is x, and its next is 0 or a link whose prev is x (REFERENCE, Check)
unfoldable pub neighbours_fine : List ℕ → List ℕ → List ℕ → ℕ → ℕ → Bool
neighbours_fine ps ns gs n x = not (allocated gs n x) || (names_back ns gs n x (at ps x) && names_back ps gs n x (at ns x))

-- whether rule 11 holds at each of the slots 1 to k
unfoldable pub all_fine : List ℕ → List ℕ → List ℕ → ℕ → ℕ → Bool
all_fine ps ns gs n zero = true
all_fine ps ns gs n (suc k) = neighbours_fine ps ns gs n (suc k) && all_fine ps ns gs n k

-- rules 4 to 10, 0 if none fails: m, the link count, is the number of links, and s, the root, is 0 exactly if no slot is free; if there is a root,
-- the freelist is followed from it for at most stack length + 2 visits (REFERENCE, Check)
unfoldable pub counts_of : List ℕ → List ℕ → ℕ → ℕ → ℕ → ℕ
counts_of ns gs n m s =
    let free = length (free_slots gs n) in
    let walked = freelist_walk ns gs n (n + 2) s 0 in
    cond (not (eqb m (length (link_slots gs n)))) 4
    (cond (eqb s 0) (cond (eqb free 0) 0 5)
    (cond (eqb free 0) 5 walked))

-- the check: the number of the first rule that fails, 0 if none does (REFERENCE, Check)
unfoldable pub verdict : ℕ → Arena → ℕ
verdict limit a =
    let counts = counts_of a.next a.generation (stack_length a) (link_count a) (root a) in
    let links = all_fine a.prev a.next a.generation (stack_length a) (stack_length a) in
    cond (misshapen limit a) 1
    (cond (ltb (current a) 2) 2
    (cond (ltb (capacity a) (link_count a) || ltb (capacity a) (stack_length a)) 3
    (cond (not (eqb counts 0)) counts
    (cond links 0 11))))

-- rule 11 fails at slot s
abbrev pub FailsAt : Arena → ℕ → Type 0
FailsAt a s = neighbours_fine a.prev a.next a.generation (stack_length a) s ≡ false

-- the slots of the stack at which rule 11 fails, in rising order
unfoldable pub broken_slots : List ℕ → List ℕ → List ℕ → ℕ → List ℕ
broken_slots ps ns gs n = keep (λ x. not (neighbours_fine ps ns gs n x)) (slots_from 1 n)

-- the words for the two sides of a link
abbrev pub prev_side : ℕ
prev_side = 1

abbrev pub next_side : ℕ
next_side = 2

-- on which side rule 11 fails at slot x, if it does: prev if x's prev does not name it back, else next
unfoldable pub side_at : List ℕ → List ℕ → List ℕ → ℕ → ℕ → ℕ
side_at ps ns gs n x = cond (names_back ns gs n x (at ps x)) next_side prev_side

-- the words `broken` and `side` of an answer: with 11 the lowest of the slots that break the rule, and the side that breaks it; in every other case 0 and 0
-- (REFERENCE, Replies)
unfoldable pub broken_slot : ℕ → Arena → ℕ
broken_slot limit a = cond (eqb (verdict limit a) 11) (first_or 0 (broken_slots a.prev a.next a.generation (stack_length a))) 0

unfoldable pub broken_side : ℕ → Arena → ℕ
broken_side limit a = cond (eqb (verdict limit a) 11) (side_at a.prev a.next a.generation (stack_length a) (broken_slot limit a)) 0

-- fs is the freelist: it begins with the root, next leads from each slot to the one after it and from the last to itself, and fs has every free slot
-- once and nothing else (REFERENCE, Well-formed arenas)
pub record Freelist (a : Arena) (fs : List ℕ) : Type 0 where
  pub starts : first_or 0 fs ≡ root a
  pub linked : Linked (at a.next) fs (last_or 0 fs)
  pub free : (s : ℕ) → 1 ≤ count s fs → (1 ≤ s) × (s ≤ stack_length a) × (at a.generation s ≡ 0)
  pub once : (s : ℕ) → 1 ≤ s → s ≤ stack_length a → at a.generation s ≡ 0 → count s fs ≡ 1

-- s, if it is not 0, is a link whose word in the column back is x
abbrev pub Neighbour : Arena → List ℕ → ℕ → ℕ → Type 0
Neighbour a back x s = (s ≡ 0 → ⊥) → (is_link a s ≡ true) × (at back s ≡ x)

-- what is true of exactly those arenas that the check passes (REFERENCE, Well-formed arenas)
pub record WellFormed (limit : ℕ) (a : Arena) : Type 0 where
  pub header : length a.header ≡ header_words
  pub small : capacity a ≤ limit
  pub next_length : length a.next ≡ capacity a
  pub generation_length : length a.generation ≡ capacity a
  pub payload_length : length a.payload ≡ capacity a
  pub generation : 2 ≤ current a
  pub within : stack_length a ≤ capacity a
  pub links : link_count a ≡ length (link_slots a.generation (stack_length a))
  pub freelist : (fs : List ℕ) × Freelist a fs
  pub prev : (x : ℕ) → is_link a x ≡ true → Neighbour a a.next x (at a.prev x)
  pub next : (x : ℕ) → is_link a x ≡ true → Neighbour a a.prev x (at a.next x)

-- b has the words that the check reads of a: the header, the lengths of all columns, generation and next of the whole stack, prev of its links
-- (REFERENCE, Check)
pub record SameRead (a b : Arena) : Type 0 where
  pub header : a.header ≡ b.header
  pub prev_length : length a.prev ≡ length b.prev
  pub next_length : length a.next ≡ length b.next
  pub generation_length : length a.generation ≡ length b.generation
  pub payload_length : length a.payload ≡ length b.payload
  pub generation : (s : ℕ) → s ≤ stack_length a → at a.generation s ≡ at b.generation s
  pub next : (s : ℕ) → s ≤ stack_length a → at a.next s ≡ at b.next s
  pub prev : (s : ℕ) → is_link a s ≡ true → at a.prev s ≡ at b.prev s
