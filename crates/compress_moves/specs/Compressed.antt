-- What a compression replies (REFERENCE, Compression).
use Rattle.std.specs.Prelude.{ℕ, List, [], Result, Ok, Err}
use Rattle.definitions.specs.Arena.{Arena}
use Rattle.definitions.specs.Reply.{Reply, reply}
use Rattle.ptr.specs.declared.InvalidationOption.{InvalidationOption}
use Rattle.ptr.specs.Extra.{invalidation_number}
use Rattle.refusals.specs.declared.Refusal.{Refusal}
use Rattle.refusals.specs.Refusal.{refused}

-- the reply of a compression that gave this result and left the arena a, with l handed back: 0 or 100 where it was done, else why it is refused
abbrev pub compressed_reply : Result InvalidationOption Refusal → Arena → List ℕ → Reply
compressed_reply (Ok overflow) a l = reply (invalidation_number overflow) [] a l
compressed_reply (Err r) a l = refused r 0 a l
