-- Reading links and neighbours (`get_link`, `get_link_no_gen`, `are_neighbors`) in an arena that passed the check (REFERENCE, Reading).
use Rattle.std.specs.Prelude.{ℕ, Bool, cond, not, ◌&&◌, ◌||◌, List, [], ◌∷◌, eqb, ltb}
use Rattle.definitions.specs.Columns.{at}
use Rattle.definitions.specs.Arena.{Arena, stack_length}
use Rattle.definitions.specs.Reply.{Reply, reply, refusal}

-- a slot together with a generation (REFERENCE, Pointers and generations)
pub record Pointer : Type 0 where
  pub slot : ℕ
  pub generation : ℕ

abbrev pub pointer : ℕ → ℕ → Pointer
pointer s g = record { slot = s; generation = g }

-- no link of this generation is in that slot: the slot is 0, above the stack or free, or its link has another generation
-- (REFERENCE, Pointers and generations)
unfoldable pub stale : Arena → Pointer → Bool
stale a p =
    eqb p.slot 0
    || ltb (stack_length a) p.slot
    || eqb (at a.generation p.slot) 0
    || not (eqb (at a.generation p.slot) p.generation)

-- 12 if p is stale. Fields: prev and its generation, next and its generation, payload; a neighbour that is not there has 0 and 0 (REFERENCE, Reading)
unfoldable pub get_link : Arena → Pointer → List ℕ → Reply
get_link a p l =
    let before = at a.prev p.slot in
    let after = at a.next p.slot in
    cond (stale a p) (refusal 12 5 a l)
    (reply 0 (before ∷ at a.generation before ∷ after ∷ at a.generation after ∷ at a.payload p.slot ∷ []) a l)

-- the words of a link as get_link_no_gen and remove answer them: prev, next, payload
abbrev pub link_words : Arena → ℕ → List ℕ
link_words a s = at a.prev s ∷ at a.next s ∷ at a.payload s ∷ []

-- 12 if p is stale. Fields: prev, next, payload (REFERENCE, Reading)
unfoldable pub get_link_no_gen : Arena → Pointer → List ℕ → Reply
get_link_no_gen a p l = cond (stale a p) (refusal 12 3 a l) (reply 0 (link_words a p.slot) a l)

-- both pointers are good, and the next of p's link is q's slot. Stale ones are no refusal: the answer is 0 (REFERENCE, Reading)
unfoldable pub neighbors : Arena → Pointer → Pointer → Bool
neighbors a p q = not (stale a p) && not (stale a q) && eqb (at a.next p.slot) q.slot

unfoldable pub are_neighbors : Arena → Pointer → Pointer → List ℕ → Reply
are_neighbors a p q l = reply 0 (cond (neighbors a p q) 1 0 ∷ []) a l
