-- Removal, drain, and the freelist put in order, in an arena that passed the check.
use Rattle.std.specs.Prelude.{ℕ, ◌+◌, ◌-◌, ◌*◌, cond, List, [], ◌∷◌, length, take, eqb, ltb}
use Rattle.definitions.specs.Columns.{at, put, first_or, last_or, written, settled}
use Rattle.definitions.specs.Arena.{
  Arena,
  arena,
  stack_length,
  link_count,
  root,
  current,
  with_stack_length,
  with_link_count,
  with_root,
  with_current,
  with_links,
  link_slots,
  free_slots,
}
use Rattle.definitions.specs.Reply.{Reply, reply, refusal}
use Rattle.definitions.specs.Read.{Pointer, stale, link_words}
use Rattle.definitions.specs.Walk.{walk_from}
use Rattle.definitions.specs.Edit.{next_generation, overflows, done_number}

-- the prev and the next of slot s become neighbours of each other; where one of them is 0 the other one has none (REFERENCE, Remove)
unfoldable pub joined : Arena → ℕ → Arena
joined a s = with_links a (put a.prev (at a.next s) (at a.prev s)) (put a.next (at a.prev s) (at a.next s))

-- slot s given up: generation, prev and payload become 0, next becomes f, where the freelist goes on, or 0 if it is popped. h is the new header
-- (REFERENCE, Arena)
unfoldable pub vacated : Arena → ℕ → ℕ → List ℕ → Arena
vacated a s f h = arena (put a.prev s 0) (put a.next s f) (put a.generation s 0) (put a.payload s 0) h

-- slot s removed: its neighbours are joined, there is one link less, and the generation is raised. The slot that ends the stack is popped; any other
-- slot becomes the root, and leads on to the root that was, or to itself where none was (REFERENCE, Remove)
unfoldable pub removed : ℕ → Arena → ℕ → Arena
removed top a s =
    let fewer = with_link_count (link_count a - 1) (with_current (next_generation top (current a)) a.header) in
    cond (eqb s (stack_length a)) (vacated (joined a s) s 0 (with_stack_length (stack_length a - 1) fewer))
    (vacated (joined a s) s (cond (eqb (root a) 0) s (root a)) (with_root s fewer))

-- 12 if p is stale. Fields: the link's words before the removal; the number is 100 where the generation overflowed (REFERENCE, Remove)
unfoldable pub remove : ℕ → Arena → Pointer → List ℕ → Reply
remove top a p l = cond (stale a p) (refusal 12 3 a l) (reply (done_number (overflows top (current a))) (link_words a p.slot) (removed top a p.slot) l)

-- the arena after the slots of a list were removed one after the other
unfoldable pub removed_all : ℕ → Arena → List ℕ → Arena
removed_all top a [] = a
removed_all top a (s ∷ ss) = removed_all top (removed top a s) ss

-- five words for each slot of a list: the slot, its generation, prev, next and payload as the removals before it have left them (REFERENCE, Drain)
unfoldable pub drain_items : ℕ → Arena → List ℕ → List ℕ
drain_items top a [] = []
drain_items top a (s ∷ ss) = s ∷ at a.generation s ∷ at a.prev s ∷ at a.next s ∷ at a.payload s ∷ drain_items top (removed top a s) ss

-- which item made the generation overflow, if the first of the list is item i; 0 if none did (REFERENCE, Drain)
unfoldable pub overflow_item : ℕ → Arena → List ℕ → ℕ → ℕ
overflow_item top a [] i = 0
overflow_item top a (s ∷ ss) i = cond (overflows top (current a)) i (overflow_item top (removed top a s) ss (i + 1))

-- 12 if p is stale, then 14 if the report has fewer than five words for each link that the walk from p visits. Else all these are removed, in its
-- order. Fields: how many they are, and which one overflowed. It hands back the report (REFERENCE, Drain)
unfoldable pub drain : ℕ → Arena → Pointer → List ℕ → Reply
drain top a p report =
    let ss = walk_from a p.slot in
    cond (stale a p) (refusal 12 2 a report)
    (cond (ltb (length report) (5 * length ss)) (refusal 14 2 a report)
    (reply 0 (length ss ∷ overflow_item top a ss 1 ∷ []) (removed_all top a ss) (written (drain_items top a ss) report)))

-- the next column in which each slot of a list leads to the one after it, and the last one to itself
unfoldable pub threaded : List ℕ → List ℕ → List ℕ
threaded ns [] = ns
threaded ns (s ∷ ss) = threaded (put ns s (first_or s ss)) ss

-- the free slots above the highest link are popped, so that the stack ends with it. The others are listed in rising order, the lowest being the root
-- (REFERENCE, Freelist)
unfoldable pub canonicalize_freelist : Arena → List ℕ → Reply
canonicalize_freelist a l =
    let n = stack_length a in
    let m = last_or 0 (link_slots a.generation n) in
    let free = free_slots a.generation m in
    reply 0 []
    (arena (settled n (take m a.prev) a.prev) (settled n (take m (threaded a.next free)) a.next) (settled n (take m a.generation) a.generation)
    (settled n (take m a.payload) a.payload)
    (with_stack_length m (with_root (first_or 0 free) a.header)))
    l
