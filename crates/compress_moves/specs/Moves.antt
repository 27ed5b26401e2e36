-- What the steps of a compression leave: the generation, then the links' new slots in the generation column, then the columns moved down.
use Rattle.std.specs.Prelude.{ℕ, suc, ◌*◌, ◌≤◌, ◌<◌, ◌≡◌, Bool, true, List, map, length, get_or}
use Rattle.definitions.specs.Columns.{at, slots_from, written}
use Rattle.definitions.specs.Arena.{Arena, capacity_limit, with_current, allocated, link_slots}
use Rattle.definitions.specs.Compress.{compress_generation, compress_number, place, moves_of}

-- the generation is renewed: the answer's number, and the header that is left
pub record Renewed (top : ℕ) (reset : Bool) (a : Arena) (k : ℕ) (h : List ℕ) : Type 0 where
  pub number : k ≡ compress_number top reset a
  pub header : h ≡ with_current (compress_generation top reset a) a.header

-- a generation column in which each link up to slot n has its new slot instead, if the links go to the front in the order of their slots; a free slot
-- keeps its 0
unfoldable pub numbered : List ℕ → ℕ → List ℕ
numbered gs n = written (map (place (link_slots gs n)) (slots_from 1 n)) gs

-- the links of a are numbered, and reported with the new generation g
pub record Numbered (a : Arena) (n g : ℕ) (old numbers report : List ℕ) : Type 0 where
  pub named : numbers ≡ numbered a.generation n
  pub reported : report ≡ written (moves_of a g 1 (link_slots a.generation n)) old

-- the new name of the neighbour of slot o
abbrev pub new_name : List ℕ → List ℕ → ℕ → ℕ
new_name numbers column o = at numbers (at column o)

-- a column with the words f of its links, those that the numbers show, moved to its front in slot order
abbrev pub carried : (ℕ → ℕ) → List ℕ → ℕ → List ℕ → List ℕ
carried f numbers n column = written (map f (link_slots numbers n)) column

-- every slot up to n is a link, and keeps its slot
abbrev pub Full : List ℕ → ℕ → Type 0
Full numbers n = (link_slots numbers n ≡ slots_from 1 n) × ((s : ℕ) → s ≤ n → at numbers s ≡ s)

-- columns of a stack of n slots whose links are numbered, and a report that lists them: four words for each link, the first of them its slot
pub record Movable (ps ns vs numbers report : List ℕ) (n links : ℕ) : Type 0 where
  pub prev_within : n ≤ length ps
  pub next_within : n ≤ length ns
  pub payload_within : n ≤ length vs
  pub numbers_within : n ≤ length numbers
  pub prev : (o : ℕ) → allocated numbers n o ≡ true → at ps o ≤ n
  pub next : (o : ℕ) → allocated numbers n o ≡ true → at ns o ≤ n
  pub counted : links ≡ length (link_slots numbers n)
  pub room : 4 * links ≤ length report
  pub listed : (k : ℕ) → k < links → get_or report (4 * k) 0 ≡ at (link_slots numbers n) (suc k)
  pub full : links ≡ n → Full numbers n

-- columns with a stack of n slots whose links' neighbours are slots of the stack, and a report that is long enough
pub record Compressible (ps ns gs vs : List ℕ) (n links report : ℕ) : Type 0 where
  pub small : n ≤ capacity_limit
  pub prev_within : n ≤ length ps
  pub next_within : n ≤ length ns
  pub generation_within : n ≤ length gs
  pub payload_within : n ≤ length vs
  pub prev : (o : ℕ) → allocated gs n o ≡ true → at ps o ≤ n
  pub next : (o : ℕ) → allocated gs n o ≡ true → at ns o ≤ n
  pub counted : links ≡ length (link_slots gs n)
  pub room : 4 * links ≤ report
