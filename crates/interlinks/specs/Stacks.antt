-- What the calls on a stack say of it.
use Rattle.std.specs.Prelude.{ℕ, Bool, Option, length}
use Rattle.definitions.specs.Columns.{first_or}
use Rattle.definitions.specs.Check.{neighbours_fine, broken_slots, side_at}
use Rattle.interlinks.specs.declared.Stack.{Stack}
use Rattle.interlinks.specs.Sides.{FreeStaysFree, side_fine, PrevSides, NextSides}

-- how many slots it has
abbrev pub slots : Stack → ℕ
slots s = length s.generation.now

-- no free slot leads to a link
abbrev pub StaysFree : Stack → Type 0
StaysFree s = FreeStaysFree s.next.now s.generation.now (slots s)

-- rule 11 on the next side of slot x, and on both its sides
abbrev pub next_side : Stack → ℕ → Bool
next_side s x = side_fine s.next.now s.prev.now s.generation.now (slots s) x

abbrev pub sides : Stack → ℕ → Bool
sides s x = neighbours_fine s.prev.now s.next.now s.generation.now (slots s) x

-- the lowest slot at which it fails, 0 if none, and on which side it fails at slot x
abbrev pub lowest_broken : Stack → ℕ
lowest_broken s = first_or 0 (broken_slots s.prev.now s.next.now s.generation.now (slots s))

abbrev pub side_of : Stack → ℕ → ℕ
side_of s x = side_at s.prev.now s.next.now s.generation.now (slots s) x

-- the answers of the passes over the prev sides and over the next sides below slot m
abbrev pub PrevPass : Stack → Option ℕ → Type 0
PrevPass s r = PrevSides s.prev.now s.next.now s.generation.now (slots s) r

abbrev pub NextPass : Stack → ℕ → Option ℕ → Type 0
NextPass s m r = NextSides s.prev.now s.next.now s.generation.now (slots s) m r
