-- The numbers of the refusals, and what a refused call replies (REFERENCE, Numbers and Replies).
use Rattle.std.specs.Prelude.{ℕ, List, [], replicate, Result, Ok, Err}
use Rattle.definitions.specs.Arena.{Arena}
use Rattle.definitions.specs.Reply.{Reply, reply}
use Rattle.refusals.specs.declared.Side.{Side}
use Rattle.refusals.specs.declared.Side.TheVariants.{Prev, Next}
use Rattle.refusals.specs.declared.Refusal.{Refusal}
use Rattle.refusals.specs.declared.Refusal.TheVariants.{Shape, CurrentGeneration, OverCapacity, LinkCount, Root, FreelistZero, FreelistAboveStack, FreelistLink, FreelistEndless, FreelistIncomplete, BrokenLink, StalePointer, Neighbor, SliceLength, GenerationTooLow, Command, LinkRequirement, NotWithinCapacity, OutOfFrame}

-- the word of a side
abbrev pub side_word : Side → ℕ
side_word Prev = 1
side_word Next = 2

-- the number of a refusal
abbrev pub refusal_number : Refusal → ℕ
refusal_number Shape = 1
refusal_number CurrentGeneration = 2
refusal_number OverCapacity = 3
refusal_number LinkCount = 4
refusal_number Root = 5
refusal_number FreelistZero = 6
refusal_number FreelistAboveStack = 7
refusal_number FreelistLink = 8
refusal_number FreelistEndless = 9
refusal_number FreelistIncomplete = 10
refusal_number (BrokenLink s d) = 11
refusal_number StalePointer = 12
refusal_number Neighbor = 13
refusal_number SliceLength = 14
refusal_number GenerationTooLow = 15
refusal_number Command = 16
refusal_number LinkRequirement = 17
refusal_number NotWithinCapacity = 18
refusal_number OutOfFrame = 19

-- the number of an answer that is nothing or a refusal: 0 where nothing is refused
abbrev pub ok_or_number : Result (Unit {0}) Refusal → ℕ
ok_or_number (Ok u) = 0
ok_or_number (Err r) = refusal_number r

-- the slot and the side at which rule 11 fails; 0 and 0 where the reason is another
abbrev pub refusal_slot : Refusal → ℕ
refusal_slot (BrokenLink s d) = s.0
refusal_slot _ = 0

abbrev pub refusal_side : Refusal → ℕ
refusal_side (BrokenLink s d) = side_word d
refusal_side _ = 0

-- what a refused call replies: the number, the slot and the side, so many further fields, all 0; the arena and l, what was handed in, are as they were
abbrev pub refused : Refusal → ℕ → Arena → List ℕ → Reply
refused r fields a l = record { number = refusal_number r; broken = refusal_slot r; side = refusal_side r; fields = replicate fields 0; arena = a; back = l }

-- the further fields of a call that answers none
abbrev pub no_words : {A : Type 0} → A → List ℕ
no_words x = []

-- what a call replies that gave r: 0 with the words of what it gave, or the refusal with so many further fields; a is the arena left, l what is handed back
abbrev pub result_reply : {A : Type 0} → (A → List ℕ) → ℕ → Result A Refusal → Arena → List ℕ → Reply
result_reply words fields (Ok x) a l = reply 0 (words x) a l
result_reply words fields (Err r) a l = refused r fields a l
