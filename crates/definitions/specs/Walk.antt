-- The walk along a chain (`ChainPtrAdvancer`) in an arena that passed the check (REFERENCE, Walk).
use Rattle.std.specs.Prelude.{ℕ, zero, suc, ◌-◌, cond, not, List, [], ◌∷◌, get_or, eqb}
use Rattle.definitions.specs.Columns.{at}
use Rattle.definitions.specs.Arena.{Arena, link_count, is_link}
use Rattle.definitions.specs.Reply.{Reply, reply, refusal}
use Rattle.definitions.specs.Read.{Pointer, pointer, stale}

-- the state of a walk: the slot where it began, the slot that it answers next (0: it is over), its direction (0: along next, any other: along prev)
-- and how many steps may still advance (REFERENCE, Walk)
pub record Walk : Type 0 where
  pub start : ℕ
  pub position : ℕ
  pub direction : ℕ
  pub left : ℕ

abbrev pub walk : ℕ → ℕ → ℕ → ℕ → Walk
walk s p d k = record { start = s; position = p; direction = d; left = k }

-- a walk that begins at slot s, along next, with as many advances as the link count says
abbrev pub start_at : Arena → ℕ → Walk
start_at a s = walk s s 0 (link_count a)

-- a state as words, and back
abbrev pub state_words : Walk → List ℕ
state_words w = w.start ∷ w.position ∷ w.direction ∷ w.left ∷ []

abbrev pub state_of : List ℕ → Walk
state_of l = walk (get_or l 0 0) (get_or l 1 0) (get_or l 2 0) (get_or l 3 0)

-- 12 if p is stale. Fields: the words of the state that begins at p (REFERENCE, Walk)
unfoldable pub walk_start : Arena → Pointer → List ℕ → Reply
walk_start a p l = cond (stale a p) (refusal 12 4 a l) (reply 0 (state_words (start_at a p.slot)) a l)

-- what a step answers, slot 0 and generation 0 for none, and the state it leaves
pub record Stepped : Type 0 where
  pub answer : Pointer
  pub state : Walk

abbrev pub none : Walk → Stepped
none w = record { answer = pointer 0 0; state = w }

-- the state after the link at the position was answered, one advance less. Along prev it goes on to prev. Along next it goes on to next; where there
-- is none it turns, to the prev of the start (0 if the start is no link); where next is the start it is over (REFERENCE, Walk)
unfoldable pub onward : Arena → Walk → Walk
onward a w =
    let ahead = at a.next w.position in
    let left = w.left - 1 in
    cond (not (eqb w.direction 0)) (walk w.start (at a.prev w.position) w.direction left)
    (cond (eqb ahead 0) (walk w.start (cond (is_link a w.start) (at a.prev w.start) 0) 1 left)
    (cond (eqb ahead w.start) (walk w.start 0 w.direction left)
    (walk w.start ahead w.direction left)))

-- with no advance left: none, and the same state. At a position that is no link: none, the walk is over, and there is one advance less. Else the link
-- at the position, and onward (REFERENCE, Walk)
unfoldable pub step : Arena → Walk → Stepped
step a w =
    cond (eqb w.left 0) (none w)
    (cond (not (is_link a w.position)) (none (walk w.start 0 w.direction (w.left - 1)))
    (record { answer = pointer w.position (at a.generation w.position); state = onward a w }))

-- a step by words: it is handed the words of a state and hands back those of the state after it. Fields: slot and generation (REFERENCE, Walk)
unfoldable pub walk_step : Arena → List ℕ → Reply
walk_step a l = let r = step a (state_of l) in reply 0 (r.answer.slot ∷ r.answer.generation ∷ []) a (state_words r.state)

-- the slots that a walk answers, until it answers none or the steps are used up
unfoldable pub walked : Arena → ℕ → Walk → List ℕ
walked a zero w = []
walked a (suc steps) w =
    let s = (step a w).answer.slot in
    let rest = walked a steps (step a w).state in
    cond (eqb s 0) [] (s ∷ rest)

-- the slots of a whole walk from slot s
abbrev pub walk_from : Arena → ℕ → List ℕ
walk_from a s = walked a (link_count a) (start_at a s)
