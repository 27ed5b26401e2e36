-- The reply of a step, of what its function gave (REFERENCE, Walk).
use Rattle.std.specs.Prelude.{[], ◌∷◌, Option, Result, Ok, Err}
use Rattle.definitions.specs.Arena.{Arena}
use Rattle.definitions.specs.Reply.{Reply, reply}
use Rattle.definitions.specs.Walk.{state_words}
use Rattle.ptr.specs.declared.Ptr.{Ptr}
use Rattle.refusals.specs.declared.Refusal.{Refusal}
use Rattle.refusals.specs.Refusal.{refused}
use Rattle.chain_iterators.specs.declared.ChainPtrAdvancer.{ChainPtrAdvancer}
use Rattle.chain_iterators.specs.Walk.{walk_of, stepped_of}

-- 0, slot and generation of what the step answered, or the refusal; the words of the state w after it are handed back. The arena a stays as it was
abbrev pub step_reply : Result (Option Ptr) Refusal → ChainPtrAdvancer → Arena → Reply
step_reply (Ok o) w a = let s = stepped_of o w in reply 0 (s.answer.slot ∷ s.answer.generation ∷ []) a (state_words s.state)
step_reply (Err r) w a = refused r 2 a (state_words (walk_of w))
