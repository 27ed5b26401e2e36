-- The lent arena: columns prev, next, generation and payload, and the header. The word of slot s has index s − 1 (REFERENCE, Arena).
use Rattle.std.specs.Prelude.{ℕ, Bool, not, ◌&&◌, List, length, get_or, set, eqb, leb}
use Rattle.definitions.specs.Columns.{at, keep, slots_from}

pub record Arena : Type 0 where
  pub prev : List ℕ
  pub next : List ℕ
  pub generation : List ℕ
  pub payload : List ℕ
  pub header : List ℕ

abbrev pub arena : List ℕ → List ℕ → List ℕ → List ℕ → List ℕ → Arena
arena ps ns gs vs h = record { prev = ps; next = ns; generation = gs; payload = vs; header = h }

-- the length of prev; where the check passes all columns have it (REFERENCE, Arena)
abbrev pub capacity : Arena → ℕ
capacity a = length a.prev

-- the largest capacity and the largest generation; definitions that depend on them take them as parameters, limit and top
abbrev pub capacity_limit : ℕ
capacity_limit = 1048576

abbrev pub largest_generation : ℕ
largest_generation = 4294967295

-- how many words a header must have. Below, each of them by its index: stack length, link count, root, current generation (REFERENCE, Arena)
abbrev pub header_words : ℕ
header_words = 4

abbrev pub stack_length : Arena → ℕ
stack_length a = get_or a.header 0 0

abbrev pub link_count : Arena → ℕ
link_count a = get_or a.header 1 0

abbrev pub root : Arena → ℕ
root a = get_or a.header 2 0

abbrev pub current : Arena → ℕ
current a = get_or a.header 3 0

-- a header with one word changed, by name
abbrev pub with_stack_length : ℕ → List ℕ → List ℕ
with_stack_length v h = set h 0 v

abbrev pub with_link_count : ℕ → List ℕ → List ℕ
with_link_count v h = set h 1 v

abbrev pub with_root : ℕ → List ℕ → List ℕ
with_root v h = set h 2 v

abbrev pub with_current : ℕ → List ℕ → List ℕ
with_current v h = set h 3 v

-- an arena with other prev and next columns, and with another header
abbrev pub with_links : Arena → List ℕ → List ℕ → Arena
with_links a ps ns = arena ps ns a.generation a.payload a.header

abbrev pub with_header : Arena → List ℕ → Arena
with_header a h = arena a.prev a.next a.generation a.payload h

-- slot s is a link: not above the stack, and its generation is not 0. gs is the generation column, n the stack length (REFERENCE, Arena)
unfoldable pub allocated : List ℕ → ℕ → ℕ → Bool
allocated gs n s = leb s n && not (eqb (at gs s) 0)

-- the links and the free slots of the stack, each in rising order
unfoldable pub link_slots : List ℕ → ℕ → List ℕ
link_slots gs n = keep (allocated gs n) (slots_from 1 n)

unfoldable pub free_slots : List ℕ → ℕ → List ℕ
free_slots gs n = keep (λ s. not (allocated gs n s)) (slots_from 1 n)

-- slot s of the arena is a link
abbrev pub is_link : Arena → ℕ → Bool
is_link a s = allocated a.generation (stack_length a) s
