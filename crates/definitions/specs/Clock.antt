-- The frame clock: payloads as dots of a frame, the lines of the frame, and what of a chain is due in a window (REFERENCE, Frame clock).
use Rattle.std.specs.Prelude.{ℕ, ◌+◌, ◌*◌, ◌/◌, Bool, cond, ◌&&◌, ◌||◌, List, [], ◌∷◌, length, leb, ltb}
use Rattle.definitions.specs.Columns.{at, keep, written}
use Rattle.definitions.specs.Arena.{Arena}
use Rattle.definitions.specs.Reply.{Reply, reply, refusal}
use Rattle.definitions.specs.Read.{Pointer, stale}
use Rattle.definitions.specs.Walk.{walk_from}

-- a frame is 262 lines of 341 dots; its dots are counted from 0 on, line after line
abbrev pub frame_lines : ℕ
frame_lines = 262

abbrev pub dots_per_line : ℕ
dots_per_line = 341

abbrev pub frame_dots : ℕ
frame_dots = frame_lines * dots_per_line

-- the first and the last dot of a line, and the line of a dot
unfoldable pub first_dot : ℕ → ℕ
first_dot line = dots_per_line * line

unfoldable pub last_dot : ℕ → ℕ
last_dot line = first_dot line + 340

unfoldable pub line_of : ℕ → ℕ
line_of dot = dot / dots_per_line

-- what a call without an arena answers: its number and the further fields
pub record Told : Type 0 where
  pub number : ℕ
  pub fields : List ℕ

abbrev pub told : ℕ → List ℕ → Told
told k fs = record { number = k; fields = fs }

-- 19 for a dot that the frame does not have. Field: its line (REFERENCE, Frame clock)
unfoldable pub line_of_dot : ℕ → Told
line_of_dot dot = cond (ltb dot frame_dots) (told 0 (line_of dot ∷ [])) (told 19 (0 ∷ []))

-- 19 for a line that the frame does not have. Fields: its first and its last dot (REFERENCE, Frame clock)
unfoldable pub line_dots : ℕ → Told
line_dots line = cond (ltb line frame_lines) (told 0 (first_dot line ∷ last_dot line ∷ [])) (told 19 (0 ∷ 0 ∷ []))

-- a window begins with a dot of the frame and ends before another one, or with the frame
unfoldable pub is_window : ℕ → ℕ → Bool
is_window from to = ltb from frame_dots && leb to frame_dots

-- the payload v is due in a window: it is a dot of the frame, at or after from and before to. Where to is before from, the window crosses the end of the
-- frame, and a dot is due on either side of it (REFERENCE, Frame clock)
unfoldable pub due : ℕ → ℕ → ℕ → Bool
due from to v = ltb v frame_dots && cond (ltb to from) (leb from v || ltb v to) (leb from v && ltb v to)

-- the slots of the walk from slot s whose payloads are due, in the order of the walk
unfoldable pub due_slots : Arena → ℕ → ℕ → ℕ → List ℕ
due_slots a s from to = keep (λ x. due from to (at a.payload x)) (walk_from a s)

-- 12 if p is stale, then 19 for ends that make no window. Field: how many links of p's chain are due (REFERENCE, Frame clock)
unfoldable pub due_count : Arena → Pointer → ℕ → ℕ → List ℕ → Reply
due_count a p from to l =
    cond (stale a p) (refusal 12 1 a l)
    (cond (is_window from to) (reply 0 (length (due_slots a p.slot from to) ∷ []) a l) (refusal 19 1 a l))

-- 12, 19 as there; then 14 if the report has fewer words than p's chain has links. Field: how many are due. It hands back the report with their slots
-- (REFERENCE, Frame clock)
unfoldable pub due_events : Arena → Pointer → ℕ → ℕ → List ℕ → Reply
due_events a p from to report =
    let ss = due_slots a p.slot from to in
    cond (stale a p) (refusal 12 1 a report)
    (cond (is_window from to)
    (cond (ltb (length report) (length (walk_from a p.slot))) (refusal 14 1 a report) (reply 0 (length ss ∷ []) a (written ss report)))
    (refusal 19 1 a report))
