-- What the theorems about every call say: `Unchanged`, `AnswerWord`, `OneCommand`. For each field a wrong reply that it alone refuses.
use Prim.Native.Nat.{ℕ}
use mathlib.Core.Path.{ap}
use mathlib.Core.Logic.{inl, inr}
use mathlib.Core.List.{List, [], ◌∷◌}
use native.Mathlib.Omega.{arith}
use lib.ListN.{get_or}
use Rattle.definitions.specs.Columns.{count}
use Rattle.definitions.specs.Arena.{Arena}
use Rattle.definitions.specs.Reply.{reply}
use Rattle.statements.specs.Demand3.{Accepted}
use Rattle.statements.specs.EveryCall.{Unchanged, AnswerWord, done, done_with_overflow, stale, neighbour, no_code, no_place, no_room, OneCommand}
use Rattle.definitions.proofs.Count.{In}
use Rattle.statements.proofs.Refused.Chains.{lone, ring}
use Rattle.statements.proofs.Refused.Compressions.{accepted_refusal_refused}

-- ---- a refusal that changes the arena, and one that changes the lent slice

pub unchanged_arena_refused : Unchanged lone [] (reply 14 [] ring []) → ⊥
unchanged_arena_refused u = omega (arith, ap (λ (a : Arena). get_or a.next 0 0) (u.arena accepted_refusal_refused))

pub unchanged_back_refused : Unchanged lone (3 ∷ []) (reply 14 [] lone (4 ∷ [])) → ⊥
unchanged_back_refused u = omega (arith, ap (λ (l : List ℕ). get_or l 0 0) (u.back accepted_refusal_refused))

-- ---- the answer words of a run are these seven

abbrev words : List ℕ
words = 0 ∷ 100 ∷ 12 ∷ 13 ∷ 16 ∷ 17 ∷ 18 ∷ []

pub answer_word_no_other : (w : ℕ) → AnswerWord w → In w words
unfolding count
answer_word_no_other w done = omega arith
answer_word_no_other w done_with_overflow = omega arith
answer_word_no_other w stale = omega arith
answer_word_no_other w neighbour = omega arith
answer_word_no_other w no_code = omega arith
answer_word_no_other w no_place = omega arith
answer_word_no_other w no_room = omega arith

-- a command that answers another word, and a refused one that changes the arena
pub one_command_answer_refused : OneCommand lone (reply 14 [] lone []) → ⊥
unfolding count
one_command_answer_refused o = omega (arith, answer_word_no_other 14 o.answer)

pub one_command_refused_refused : OneCommand lone (reply 12 [] ring []) → ⊥
one_command_refused_refused o = omega (arith, ap (λ (a : Arena). get_or a.next 0 0) (o.refused no))
  where
    no : Accepted (reply 12 [] ring []) → ⊥
    no (inl e) = omega (arith, e)
    no (inr e) = omega (arith, e)
