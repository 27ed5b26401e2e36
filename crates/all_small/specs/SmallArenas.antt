-- The small arenas, all of them, in their order: of all that the words of a short stack may be, what the check passes (REFERENCE, Small arenas).
use Rattle.std.specs.Prelude.{ℕ, zero, suc, Bool, cond, length, eqb}
use mathlib.Core.List.{List, [], ◌∷◌, ◌++◌, map, flat_map}
use Rattle.definitions.specs.Columns.{slots_from}
use Rattle.definitions.specs.Arena.{Arena, arena, link_slots, allocated}
use Rattle.definitions.specs.Check.{verdict}

-- every x of the first list with every y of the second, in their order
unfoldable pub pairs : {A B C : Type 0} → (A → B → C) → List A → List B → List C
pairs f xs ys = flat_map (λ x. map (f x) ys) xs

-- the members of a list that pass a test, in their order
unfoldable pub kept : {A : Type 0} → (A → Bool) → List A → List A
kept test [] = []
kept test (x ∷ xs) = let later = kept test xs in cond (test x) (x ∷ later) later

-- 0 and the slots of a stack of n
unfoldable pub up_to : ℕ → List ℕ
up_to n = slots_from 0 (suc n)

-- what a slot holds but for its payload
pub record Row : Type 0 where
  pub generation : ℕ
  pub prev : ℕ
  pub next : ℕ

abbrev pub row : ℕ → ℕ → ℕ → Row
row g p q = record { generation = g; prev = p; next = q }

-- what a slot of a stack of n may hold, in order: a free slot, of generation 0, whose next is any word up to n, or a link of generation 2 whose prev and next
-- are
unfoldable pub rows_of : ℕ → List Row
rows_of n = map (row 0 0) (up_to n) ++ pairs (row 2) (up_to n) (up_to n)

-- what the last k slots of a stack of n may hold, in order
unfoldable pub stacks : ℕ → ℕ → List (List Row)
stacks n zero = [] ∷ []
stacks n (suc k) = pairs (λ (r : Row) (rs : List Row). r ∷ rs) (rows_of n) (stacks n k)

-- the payloads: of a link its slot, of a free slot 0
unfoldable pub own_slots : List ℕ → ℕ → List ℕ
own_slots gs n = map (λ s. cond (allocated gs n s) s 0) (slots_from 1 n)

-- the arena of these rows and this root, with the right link count
unfoldable pub stacked : ℕ → List Row → Arena
stacked root rs =
    let gs = map (λ r. r.generation) rs in
    let n = length rs in
    arena (map (λ r. r.prev) rs) (map (λ r. r.next) rs) gs (own_slots gs n) (n ∷ length (link_slots gs n) ∷ root ∷ 2 ∷ [])

-- whether the check passes a, which is no longer than three slots
unfoldable pub passes_check : Arena → Bool
passes_check a = eqb (verdict 3 a) 0

-- of every root and all rows that a stack of n may have, in order, what the check passes
unfoldable pub of_length : ℕ → List Arena
of_length n = kept passes_check (pairs stacked (up_to n) (stacks n n))

unfoldable pub small_arenas : List Arena
small_arenas = flat_map of_length (up_to 3)
