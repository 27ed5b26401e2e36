-- The tables that are computed: each has all its rows, and of every row what the definitions answer and leave is what the row expects, with the port's own limits.
use mathlib.Core.Path.{◌≡◌, refl}
use mathlib.Core.List.{[], ◌∷◌, ◌++◌, map}
use lib.ListN.{length}
use Rattle.definitions.specs.Check.{verdict, broken_slot, broken_side}
use Rattle.definitions.specs.Reply.{Reply}
use Rattle.definitions.specs.Calls.{replies_to, arena_after}
use Rattle.definitions.specs.Clock.{line_of_dot, line_dots}
use Rattle.definitions.specs.Cases as cases
use Rattle.definitions.specs.Insertions as insertions
use Rattle.definitions.specs.Refusals as refusals
use Rattle.definitions.specs.Lines as lines

-- what a row's calls answer, and the arena that they leave
abbrev answered : cases.Row → cases.Answer
answered row = record {
  answers = map (λ (r : Reply). r.number ∷ r.fields ++ r.back) (replies_to 1048576 4294967295 row.calls row.start);
  left = arena_after 1048576 4294967295 row.calls row.start;
}

abbrev stored : cases.Row → cases.Answer
stored row = record { answers = row.answers; left = row.left }

pub marked_cases_whole : (length cases.rows ≡ 12) × (map answered cases.rows ≡ map stored cases.rows)
unfolding cases.rows
marked_cases_whole = (refl, cases.marked_cases)

pub corners_hold_whole : (length cases.corners ≡ 28) × (map answered cases.corners ≡ map stored cases.corners)
unfolding cases.corners
corners_hold_whole = (refl, cases.corners_hold)

pub insertions_hold_whole : (length insertions.rows ≡ 43) × (map answered insertions.rows ≡ map stored insertions.rows)
unfolding insertions.rows
insertions_hold_whole = (refl, insertions.insertions_hold)

pub each_refusal_whole : (length refusals.rows ≡ 58)
    × (map (λ (r : refusals.Row). verdict 2 r.of ∷ broken_slot 2 r.of ∷ broken_side 2 r.of ∷ []) refusals.rows ≡ map (λ (r : refusals.Row). r.number ∷ r.broken ∷ r.side ∷ []) refusals.rows)
unfolding refusals.rows
each_refusal_whole = (refl, refusals.each_refusal)

pub line_cases_whole : (length lines.dots ≡ 12)
    × (map (λ (r : lines.Row). (line_of_dot r.asked).number ∷ (line_of_dot r.asked).fields) lines.dots ≡ map (λ (r : lines.Row). r.answer) lines.dots)
    × (length lines.lines ≡ 7)
    × (map (λ (r : lines.Row). (line_dots r.asked).number ∷ (line_dots r.asked).fields) lines.lines ≡ map (λ (r : lines.Row). r.answer) lines.lines)
unfolding lines.dots lines.lines
line_cases_whole = (refl, (lines.line_cases).0, refl, (lines.line_cases).1)
