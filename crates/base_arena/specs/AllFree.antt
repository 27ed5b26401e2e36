-- The walk of the freelist where no generation need be read, since every slot is free (REFERENCE, Check).
use Rattle.std.specs.Prelude.{ℕ, ◌+◌, ◌-◌, ◌≡◌, ◌≤◌, Bool, true, false, not, eqb, List, get_or, length}
use Rattle.definitions.specs.Arena.{free_slots}
use Rattle.definitions.specs.Check.{freelist_walk}

-- gs may be the generation column of n slots: where all of them are free, any column by which they are; else it is the column that is lent
abbrev pub MayBe : Bool → List ℕ → ℕ → List ℕ → Type 0
MayBe true lent n gs = n ≡ length (free_slots gs n)
MayBe false lent n gs = gs ≡ lent

-- link is whether slot s of a stack is a link, with any generations that these may be
abbrev pub Reads : Bool → List ℕ → ℕ → Bool → Type 0
Reads all_free lent s link = (gs : List ℕ) (n : ℕ) → s ≤ n → MayBe all_free lent n gs → link ≡ not (eqb (get_or gs (s - 1) 0) 0)

-- r is what the walk of the slots of ns from the root answers with any generations that these may be
abbrev pub Walks : Bool → List ℕ → List ℕ → ℕ → ℕ → Type 0
Walks all_free ns lent root r = (gs : List ℕ) → MayBe all_free lent (length ns) gs → r ≡ freelist_walk ns gs (length ns) (length ns + 2) root 0
