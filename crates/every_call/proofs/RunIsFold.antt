-- A run is the fold of its commands (REFERENCE, Run): `reply_of_a_run` says what an accepted run replies, `run_goes_on` (crate `kept`) that what
-- comes after some commands is a run on the arena that they left, `run_by_calls` that it does and answers what the calls of its commands would
-- (`command_by_call` of one of them), `one_command` which numbers a command can answer, and that a refused one changes nothing. Assumes nothing.
use Prim.Native.Nat.{ℕ, ◌≤◌, ◌/◌, ◌%◌}
use mathlib.Core.Path.{◌≡◌, refl}
use mathlib.Core.Bool.{Bool, true, false, cond}
use mathlib.Core.List.{List, [], ◌∷◌, map}
use lib.ListN.{length}
use borrow.Author.Tests.{eq-eqb, le-ltb}
use Rattle.definitions.specs.Columns.{written}
use Rattle.definitions.specs.Arena.{Arena}
use Rattle.definitions.specs.Check.{verdict}
use Rattle.definitions.specs.Reply.{Reply, reply}
use Rattle.definitions.specs.Edit.{connect, break_prev, break_next, exchange_next, done_number}
use Rattle.definitions.specs.Remove.{remove}
use Rattle.definitions.specs.Insert.{Place, nowhere, between, place_of, new_slot, is_full, insert_at, insert, Coded, kind, unknown, insert_coded}
use Rattle.definitions.specs.Run.{Command, command_words, commands_of, apply, applied, answers_of, run}
use Rattle.definitions.specs.Calls.{Call, Run, accepted, reply_to, Made, call_of, replies_to, arena_after}
use Rattle.statements.specs.EveryCall.{AnswerWord, done, done_with_overflow, stale, neighbour, no_code, no_place, no_room, OneCommand}
use Rattle.every_call.proofs.RefusalChangesNothing.{refused_command}
use Rattle.every_call.proofs.EveryCallKeeps.{every_call_keeps}

-- ---- one command

answer_over : (over : Bool) → AnswerWord (done_number over)
answer_over true = done_with_overflow
answer_over false = done

either_answers : (t : Bool) (r s : Reply) → AnswerWord r.number → AnswerWord s.number → AnswerWord (cond t r s).number
either_answers true r s u v = u
either_answers false r s u v = v

-- an insertion at a place, and by its code
module _ (a : Arena) (x : ℕ) where
  place_answers : (p : Place) → AnswerWord (insert_at a p x []).number
  unfolding insert_at
  place_answers nowhere = no_place
  place_answers (between u v) = either_answers (is_full a) _ _ no_room done

  coded_answers : (k : Coded) → AnswerWord (insert_coded a k x []).number
  unfolding insert_coded insert
  coded_answers unknown = no_code
  coded_answers (kind k) = place_answers (place_of a (new_slot a) k)

pub one_command : (top : ℕ) (a : Arena) (c : Command) → OneCommand a (apply top a c)
unfolding apply connect break_prev break_next exchange_next remove
one_command top a c = record {
  answer = search (either_answers, answer_over, done, stale, neighbour, coded_answers) depth 12;
  refused = (refused_command top a c).arena;
}

module _ (top : ℕ) (a : Arena) where
  -- a test that chooses between two calls chooses between their replies
  chosen : (t : Bool) (c d : Call) (r s : Reply) → r ≡ accepted top c a [] → s ≡ accepted top d a [] → cond t r s ≡ accepted top (cond t c d) a []
  chosen true c d r s x y = x
  chosen false c d r s x y = y

-- what a command replies is the reply of its own call
pub command_by_call : (limit top : ℕ) (a : Arena) (c : Command) → verdict limit a ≡ 0 → apply top a c ≡ reply_to limit top (call_of c) a []
unfolding apply call_of reply_to accepted
command_by_call limit top a c passes = rw (eq-eqb (verdict limit a) 0 passes) (search chosen depth 8)

-- ---- all commands: what comes after some commands is a run on the arena that they left (`kept.proofs.Runs`)

-- a run on an arena that passes the check, with whole commands and room for their answers
pub reply_of_a_run : (limit top : ℕ) (a : Arena) (ws answers : List ℕ) → verdict limit a ≡ 0 → length ws % command_words ≡ 0 → length ws / command_words ≤ length answers
    → reply_to limit top (Run ws) a answers ≡ reply 0 [] (applied top a (commands_of ws)) (written (answers_of top a (commands_of ws)) answers)
unfolding reply_to accepted run
reply_of_a_run limit top a ws answers passes whole room = rw (eq-eqb (verdict limit a) 0 passes, eq-eqb (length ws % command_words) 0 whole, le-ltb (length answers) (length ws / command_words) room) refl

-- the calls of some commands, each handed nothing in
abbrev pub calls_of : List Command → List Made
calls_of = map (λ (c : Command). record { call = call_of c; hands = [] })

-- a run does and answers what its commands' own calls would, made one after the other
pub run_by_calls : (limit top : ℕ) (cs : List Command) (a : Arena) → verdict limit a ≡ 0 →
    (applied top a cs ≡ arena_after limit top (calls_of cs) a) × (answers_of top a cs ≡ map (λ (r : Reply). r.number) (replies_to limit top (calls_of cs) a))
unfolding applied answers_of arena_after replies_to
run_by_calls limit top [] a passes = (refl, refl)
run_by_calls limit top (c ∷ cs) a passes =
    let same = command_by_call limit top a c passes in
    let rest = run_by_calls limit top cs (reply_to limit top (call_of c) a []).arena (every_call_keeps limit top (call_of c) a [] passes) in
    (rw same rest.0, rw (same, rest.1) refl)
