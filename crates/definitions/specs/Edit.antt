-- Edits of an arena that passed the check: connect, break, exchange; and generations.
use Rattle.std.specs.Prelude.{ℕ, ◌+◌, Bool, cond, not, ◌||◌, List, [], eqb, ltb}
use Rattle.definitions.specs.Columns.{at, put}
use Rattle.definitions.specs.Arena.{Arena, current, with_links, with_header, with_current}
use Rattle.definitions.specs.Reply.{Reply, reply, refusal}
use Rattle.definitions.specs.Read.{Pointer, stale}

-- the link at p has no next, no prev
abbrev pub no_next : Arena → Pointer → Bool
no_next a p = eqb (at a.next p.slot) 0

abbrev pub no_prev : Arena → Pointer → Bool
no_prev a p = eqb (at a.prev p.slot) 0

-- q's link becomes the next of p's link. Refused, in this order: 12 p is stale, 13 its link has a next, 12 q is stale, 13 its link has a prev
-- (REFERENCE, Connect)
unfoldable pub connect : Arena → Pointer → Pointer → List ℕ → Reply
connect a p q l =
    cond (stale a p) (refusal 12 0 a l)
    (cond (not (no_next a p)) (refusal 13 0 a l)
    (cond (stale a q) (refusal 12 0 a l)
    (cond (not (no_prev a q)) (refusal 13 0 a l)
    (reply 0 [] (with_links a (put a.prev q.slot p.slot) (put a.next p.slot q.slot)) l))))

-- the link at p is parted from its prev, or from its next: 12 if p is stale, 13 if it has none on that side (REFERENCE, Break)
unfoldable pub break_prev : Arena → Pointer → List ℕ → Reply
break_prev a p l =
    cond (stale a p) (refusal 12 0 a l)
    (cond (no_prev a p) (refusal 13 0 a l)
    (reply 0 [] (with_links a (put a.prev p.slot 0) (put a.next (at a.prev p.slot) 0)) l))

unfoldable pub break_next : Arena → Pointer → List ℕ → Reply
break_next a p l =
    cond (stale a p) (refusal 12 0 a l)
    (cond (no_next a p) (refusal 13 0 a l)
    (reply 0 [] (with_links a (put a.prev (at a.next p.slot) 0) (put a.next p.slot 0)) l))

-- each of two links gets the other one's next: 12 if p or q is stale, then 13 if one of them has no next (REFERENCE, Exchange)
unfoldable pub exchange_next : Arena → Pointer → Pointer → List ℕ → Reply
exchange_next a p q l =
    let d = at a.next p.slot in
    let e = at a.next q.slot in
    cond (stale a p || stale a q) (refusal 12 0 a l)
    (cond (no_next a p || no_next a q) (refusal 13 0 a l)
    (reply 0 [] (with_links a (put (put a.prev d q.slot) e p.slot) (put (put a.next p.slot e) q.slot d)) l))

-- the generation after g, and whether that step overflows; top is the largest generation, and 2 comes after it (REFERENCE, Pointers and generations)
unfoldable pub next_generation : ℕ → ℕ → ℕ
next_generation top g = cond (eqb g top) 2 (g + 1)

unfoldable pub overflows : ℕ → ℕ → Bool
overflows top g = eqb g top

-- the number of a call that was done: 100 if the generation overflowed, else 0
abbrev pub done_number : Bool → ℕ
done_number over = cond over 100 0

-- g becomes the current generation; 15 if it is 0 or 1 (REFERENCE, Generation)
unfoldable pub set_generation : Arena → ℕ → List ℕ → Reply
set_generation a g l = cond (ltb g 2) (refusal 15 0 a l) (reply 0 [] (with_header a (with_current g a.header)) l)

-- the current generation is raised by one step, with 100 where that overflows (REFERENCE, Generation)
unfoldable pub inc_generation : ℕ → Arena → List ℕ → Reply
inc_generation top a l = reply (done_number (overflows top (current a))) [] (with_header a (with_current (next_generation top (current a)) a.header)) l
