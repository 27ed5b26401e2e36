-- The words of an answer, of what a call's function gave (REFERENCE, Replies).
use Rattle.std.specs.Prelude.{ℕ, Result, Ok, Err}
use Rattle.ptr.specs.declared.InvalidationOption.{InvalidationOption}
use Rattle.ptr.specs.Extra.{invalidation_number}
use Rattle.refusals.specs.declared.Refusal.{Refusal}
use Rattle.refusals.specs.Refusal.{refusal_number, refusal_slot, refusal_side}
use Rattle.answers.specs.declared.Answer.{Answer}

-- an answer that names no slot
abbrev pub answer_of : ℕ → Answer
answer_of k = record { number = k; broken = 0; side = 0 }

-- the answer of a refused call
abbrev pub refusal_answer : Refusal → Answer
refusal_answer r = record { number = refusal_number r; broken = refusal_slot r; side = refusal_side r }

-- the answer of a call that gave r: done, or done with an overflow or without, else refused
abbrev pub done_answer : Result (Unit {0}) Refusal → Answer
done_answer (Ok u) = answer_of 0
done_answer (Err r) = refusal_answer r

abbrev pub invalidation_answer : Result InvalidationOption Refusal → Answer
invalidation_answer (Ok o) = answer_of (invalidation_number o)
invalidation_answer (Err r) = refusal_answer r
