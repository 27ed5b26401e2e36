-- Links that are found, and the code's places as the definitions have them (REFERENCE, Insert).
use Rattle.std.specs.Prelude.{ℕ, ◌≤◌, ◌<◌, ◌≡◌, true, false, cond, eqb, List, length, Option, Some, None, MatchOption}
use Rattle.definitions.specs.Columns.{at}
use Rattle.definitions.specs.Arena.{Arena, capacity}
use Rattle.definitions.specs.Insert.{Named, slot_of, is_there, Place as Place₁, nowhere, between, place_if}
use Rattle.ptr.specs.declared.Slot.{Slot}
use Rattle.insert_places.specs.declared.Place.{Place}

abbrev pub placed : Option Place → Place₁
placed None = nowhere
placed (Some p) = between p.prev.0 p.next.0

-- the link that p names is there, and s is its slot
pub record FoundAt (a : Arena) (p : Named) (s : ℕ) : Type 0 where
  pub there : is_there a p ≡ true
  pub slot : s ≡ slot_of p
  pub some : 0 < s
  pub within : s ≤ capacity a

-- what was found of the link that p names: its slot, or nothing where it is not there
abbrev pub Found : Arena → Named → Option Slot → Type 0
Found a p r = MatchOption r (is_there a p ≡ false) (λ s. FoundAt a p s.0)

-- the slot of a link that was found, if it was, stands in the column xs
abbrev pub Stands : List ℕ → Option Slot → Type 0
Stands xs None = Unit {0}
Stands xs (Some s) = (0 < s.0) × (s.0 ≤ length xs)

-- the slot of a link that was found and has no neighbour in the column xs
abbrev pub lacking : List ℕ → Option Slot → Option Slot
lacking xs None = None
lacking xs (Some s) = cond (eqb (at xs s.0) 0) (Some s) None

-- between two slots, or nowhere where one is wanting
abbrev pub between_those : Option Slot → Option Slot → Place₁
between_those None t = nowhere
between_those (Some s) None = nowhere
between_those (Some s) (Some t) = between s.0 t.0

-- between the link, if it was found, and the next that the column has of it
abbrev pub before_next : List ℕ → Option Slot → Place₁
before_next ns None = nowhere
before_next ns (Some s) = between s.0 (at ns s.0)

-- between the prev that the column has of the link and the link, if it was found
abbrev pub behind_prev : List ℕ → Option Slot → Place₁
behind_prev ps None = nowhere
behind_prev ps (Some s) = between (at ps s.0) s.0

-- between two links, if both were found and the second is the next that the column has of the first
abbrev pub at_joint : List ℕ → Option Slot → Option Slot → Place₁
at_joint ns None t = nowhere
at_joint ns (Some s) None = nowhere
at_joint ns (Some s) (Some t) = place_if (eqb (at ns s.0) t.0) s.0 t.0
