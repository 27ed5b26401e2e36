-- The two compressions of an arena that passed the check (REFERENCE, Compression).
use Rattle.std.specs.Prelude.{ℕ, zero, suc, ◌-◌, ◌*◌, Bool, true, false, cond, not, ◌||◌, List, [], ◌∷◌, ◌++◌, map, length, take, drop, replicate, eqb, ltb}
use Rattle.definitions.specs.Columns.{at, put, first_or, slots_from, keep, written, settled}
use Rattle.definitions.specs.Arena.{
  Arena,
  arena,
  capacity,
  stack_length,
  link_count,
  current,
  with_stack_length,
  with_link_count,
  with_root,
  with_current,
  link_slots,
  is_link,
}
use Rattle.definitions.specs.Reply.{Reply, reply, refusal}
use Rattle.definitions.specs.Edit.{next_generation, overflows, done_number}

-- whether a compression raises the generation: without reset, and if there is a link. The new generation is 2 with reset, the following one if it is
-- raised, else the old one; the number is 100 if raising it overflowed (REFERENCE, Compression)
unfoldable pub raises : Bool → Arena → Bool
raises reset a = not (reset || eqb (link_count a) 0)

unfoldable pub compress_generation : ℕ → Bool → Arena → ℕ
compress_generation top reset a = cond reset 2 (cond (raises reset a) (next_generation top (current a)) (current a))

unfoldable pub compress_number : ℕ → Bool → Arena → ℕ
compress_number top reset a = cond (raises reset a) (done_number (overflows top (current a))) 0

-- the header after a compression of n links: stack length and link count n, no root, generation g
abbrev pub compressed_header : ℕ → ℕ → List ℕ → List ℕ
compressed_header n g h = with_stack_length n (with_link_count n (with_root 0 (with_current g h)))

-- ---- order-preserving: the links go to slots 1 to n in the order of their slots (REFERENCE, Order-preserving compression)

-- the slot in which the old slot o is now, if w lists who is in slots 1, 2, ..; 0 if w does not have it, as for none
unfoldable pub place : List ℕ → ℕ → ℕ
place [] o = 0
place (x ∷ w) o = let later = place w o in cond (eqb x o) 1 (cond (eqb later 0) 0 (suc later))

-- the arena with the links that w lists in slots 1, 2, .. in that order: payloads go along, prev and next get the new names, all are of generation g,
-- and the slots above them up to the old stack length are 0 (REFERENCE, Compression)
unfoldable pub relocate : List ℕ → ℕ → Arena → Arena
relocate w g a =
    let n = stack_length a in
    arena (settled n (map (λ o. place w (at a.prev o)) w) a.prev) (settled n (map (λ o. place w (at a.next o)) w) a.next)
    (settled n (map (λ o. g) w) a.generation)
    (settled n (map (λ o. at a.payload o) w) a.payload)
    (compressed_header (length w) g a.header)

-- four words for each link of a list: its old slot and generation, its new slot and generation; the first of the list goes to slot s
unfoldable pub moves_of : Arena → ℕ → ℕ → List ℕ → List ℕ
moves_of a g s [] = []
moves_of a g s (o ∷ os) = o ∷ at a.generation o ∷ s ∷ g ∷ moves_of a g (suc s) os

-- 14 if the report has fewer than four words for each link, else all links in slot order are moved and reported
-- (REFERENCE, Order-preserving compression)
unfoldable pub compress_with : ℕ → Bool → Arena → List ℕ → Reply
compress_with top reset a report =
    let g = compress_generation top reset a in
    let w = link_slots a.generation (stack_length a) in
    cond (ltb (length report) (4 * link_count a)) (refusal 14 0 a report)
    (reply (compress_number top reset a) [] (relocate w g a) (written (moves_of a g 1 w) report))

-- ---- canonical: chain after chain is laid out from slot 1 on, by exchanges of slots (REFERENCE, Canonical compression)

-- a moment of laying out: the slots as they stand, the old slot of what is in each of them (from), and the place to be filled (i)
pub record Laying : Type 0 where
  pub slots : Arena
  pub from : List ℕ
  pub i : ℕ

-- the name of slot s after slots i and t were exchanged
unfoldable pub exchanged : ℕ → ℕ → ℕ → ℕ
exchanged i t s = cond (eqb s i) t (cond (eqb s t) i s)

-- a column with the words of slots i and t exchanged
unfoldable pub exchange_words : ℕ → ℕ → List ℕ → List ℕ
exchange_words i t xs = put (put xs i (at xs t)) t (at xs i)

-- a link column with the words of slots i and t exchanged and then both slots renamed in every word, up to the stack length n; above it stays
unfoldable pub exchange_links : ℕ → ℕ → ℕ → List ℕ → List ℕ
exchange_links n i t xs = map (exchanged i t) (take n (exchange_words i t xs)) ++ drop n xs

unfoldable pub exchange_slots : ℕ → ℕ → Arena → Arena
exchange_slots i t a =
    arena (exchange_links (stack_length a) i t a.prev) (exchange_links (stack_length a) i t a.next) (exchange_words i t a.generation) (exchange_words i t a.payload) a.header

-- what is in slot t comes to slot i, in exchange for what was there, and i is raised
unfoldable pub put_at_i : ℕ → Laying → Laying
put_at_i t l = record { slots = exchange_slots l.i t l.slots; from = exchange_words l.i t l.from; i = suc l.i }

-- the lowest link in slot i or above, as the slots stand; 0 if there is none
unfoldable pub lowest_from : Arena → ℕ → ℕ
lowest_from a i = first_or 0 (keep (is_link a) (slots_from i (suc (stack_length a) - i)))

-- the slot where the chain of o begins: back along prev from s to a link without prev; o itself if prev leads to o again, so the chain is closed. o
-- also if the steps run out, which does not happen with as many as the stack is long
unfoldable pub start_of : Arena → ℕ → ℕ → ℕ → ℕ
start_of a zero o s = o
start_of a (suc steps) o s =
    elim (eqb (at a.prev s) 0) [ true ↦ s | false ↦ elim (eqb (at a.prev s) o) [ true ↦ o | false ↦ start_of a steps o (at a.prev s) ] ]

-- a chain laid out along next, from the link in slot t on. It ends with a link that has no next, or whose next is the slot in which its first link
-- was laid
unfoldable pub lay_chain : ℕ → ℕ → ℕ → Laying → Laying
lay_chain zero first t l = l
lay_chain (suc steps) first t l =
    let after = put_at_i t l in
    let ahead = at after.slots.next l.i in
    elim (eqb ahead 0 || eqb ahead first) [ true ↦ after | false ↦ lay_chain steps first ahead after ]

-- chain after chain, until no link is in slot i or above. As many steps as the stack is long are enough
unfoldable pub lay_chains : ℕ → Laying → Laying
lay_chains zero l = l
lay_chains (suc steps) l =
    let n = stack_length l.slots in
    let o = lowest_from l.slots l.i in
    elim (eqb o 0) [ true ↦ l | false ↦ lay_chains steps (lay_chain n l.i (start_of l.slots n o o) l) ]

unfoldable pub laid_out : Arena → Laying
laid_out a = lay_chains (stack_length a) (record { slots = a; from = slots_from 1 (stack_length a); i = 1 })

-- the arena with slots 1 to n as they were laid out, in generation g, and 0 in the slots above them up to the old stack length
unfoldable pub canonical_arena : ℕ → Arena → Arena
canonical_arena g a =
    let n = link_count a in
    let b = (laid_out a).slots in
    arena (settled (stack_length a) (take n b.prev) a.prev) (settled (stack_length a) (take n b.next) a.next) (settled (stack_length a) (replicate n g) a.generation)
    (settled (stack_length a) (take n b.payload) a.payload)
    (compressed_header n g a.header)

-- 14 if the where-from column has not the length of the columns. Else it gets, for slots 1 to n, their old slots, then 0 up to the old stack length,
-- and above that it stays (REFERENCE, Canonical compression)
unfoldable pub compress_canonical : ℕ → Bool → Arena → List ℕ → Reply
compress_canonical top reset a where_from =
    cond (not (eqb (length where_from) (capacity a))) (refusal 14 0 a where_from)
    (reply (compress_number top reset a) [] (canonical_arena (compress_generation top reset a) a) (settled (stack_length a) (take (link_count a) (laid_out a).from) where_from))
