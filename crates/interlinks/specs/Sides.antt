-- Rule 11 on one side of a slot, and what the two passes over the sides answer. A side is told by its columns: forth, which names the neighbour, and
-- back, in which the neighbour must name the slot; prev and next for the prev side, next and prev for the next side.
use Rattle.std.specs.Prelude.{ℕ, ◌+◌, ◌≤◌, ◌<◌, ◌≡◌, Bool, true, false, not, ◌&&◌, ◌||◌, List, eqb, leb, Option, None, Some, MatchOption}
use Rattle.definitions.specs.Columns.{at}
use Rattle.definitions.specs.Arena.{allocated}
use Rattle.definitions.specs.Check.{names_back}

-- next leads from each free slot of the first n to a slot of generation 0, so to no link
abbrev pub FreeStaysFree : List ℕ → List ℕ → ℕ → Type 0
FreeStaysFree ns gs n = (s : ℕ) → 0 < s → s ≤ n → at gs s ≡ 0 → at gs (at ns s) ≡ 0

-- slot s, not 0, is one of the first n, link or not, and its word in the column is x
unfoldable pub leads_to : List ℕ → ℕ → ℕ → ℕ → Bool
leads_to col n s x = leb s n && eqb (at col s) x

-- rule 11 on one side of slot x: it is no link, or its neighbour there is 0 or a link that names it back
unfoldable pub side_fine : List ℕ → List ℕ → List ℕ → ℕ → ℕ → Bool
side_fine forth back gs n x = not (allocated gs n x) || names_back back gs n x (at forth x)

-- that side is fine at every slot from 1 on and below m
abbrev pub SidesFine : List ℕ → List ℕ → List ℕ → ℕ → ℕ → Type 0
SidesFine forth back gs n m = (x : ℕ) → 0 < x → x < m → side_fine forth back gs n x ≡ true

-- the pass over the prev sides ended with slot r: the lowest slot whose prev side fails, or n + 1 where no prev side fails but some next side does
pub record PrevEnd (ps ns gs : List ℕ) (n r : ℕ) : Type 0 where
  pub some : 0 < r
  pub within : r ≤ n + 1
  pub lower : SidesFine ps ns gs n r
  pub fails : r ≤ n → side_fine ps ns gs n r ≡ false
  pub other : n < r → SidesFine ns ps gs n (n + 1) → ⊥

-- its answer: none where rule 11 holds at each of the n slots; else with which slot it ended
abbrev pub PrevSides : List ℕ → List ℕ → List ℕ → ℕ → Option ℕ → Type 0
PrevSides ps ns gs n None = SidesFine ps ns gs n (n + 1) × SidesFine ns ps gs n (n + 1)
PrevSides ps ns gs n (Some r) = PrevEnd ps ns gs n r

-- the answer of the pass over the next sides below slot m: the lowest slot whose next side fails, or none
abbrev pub NextSides : List ℕ → List ℕ → List ℕ → ℕ → ℕ → Option ℕ → Type 0
NextSides ps ns gs n m r = MatchOption r (SidesFine ns ps gs n m) (λ x. (0 < x) × (x < m) × (side_fine ns ps gs n x ≡ false) × SidesFine ns ps gs n x)

-- the answer is slot k, one of n, or none where k is 0
abbrev pub Finds : ℕ → ℕ → Option ℕ → Type 0
Finds n k None = k ≡ 0
Finds n k (Some s) = (s ≡ k) × (0 < s) × (s ≤ n)
