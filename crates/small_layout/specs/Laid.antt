-- A small arena as the code lays it into columns and answers it (REFERENCE, Small arenas).
use Rattle.std.specs.Prelude.{ℕ, ◌≤◌, ◌≡◌, [], ◌∷◌, length, Option, None, Some, Result, Ok, Err}
use Rattle.definitions.specs.Arena.{Arena, header_words, stack_length}
use Rattle.definitions.specs.Reply.{Reply, reply, refusal}
use Rattle.refusals.specs.declared.Refusal.{Refusal}
use Rattle.refusals.specs.Refusal.{refusal_number}

-- the columns of a have room for the stack of e, and its header is one
pub record RoomFor (e a : Arena) : Type 0 where
  pub in_prev : stack_length e ≤ length a.prev
  pub in_next : stack_length e ≤ length a.next
  pub in_generation : stack_length e ≤ length a.generation
  pub in_payload : stack_length e ≤ length a.payload
  pub header : length a.header ≡ header_words

-- 0 with 1 and the stack length of what was found; 0 with 0 and 0 where there is none; a refusal with its number
abbrev pub small_reply : Result (Option ℕ) Refusal → Arena → Reply
small_reply (Ok (Some n)) a = reply 0 (1 ∷ n ∷ []) a []
small_reply (Ok None) a = reply 0 (0 ∷ 0 ∷ []) a []
small_reply (Err r) a = refusal (refusal_number r) 2 a []
