-- What a call answers and leaves (REFERENCE, Replies).
use Rattle.std.specs.Prelude.{ℕ, List, replicate}
use Rattle.definitions.specs.Arena.{Arena}

-- the number (0: done, 100: done, and the generation overflowed, any other: refused), the slot and the side at which rule 11 fails (0 and 0 but with 11),
-- the further fields in their order, the arena that is left, and what is handed back: report, answers or where-from column as they are left, the words
-- of a walk's state, or what was handed in
pub record Reply : Type 0 where
  pub number : ℕ
  pub broken : ℕ
  pub side : ℕ
  pub fields : List ℕ
  pub arena : Arena
  pub back : List ℕ

-- a reply that names no slot
abbrev pub reply : ℕ → List ℕ → Arena → List ℕ → Reply
reply k fs a l = record { number = k; broken = 0; side = 0; fields = fs; arena = a; back = l }

-- a call's own refusal with number k: so many further fields, all 0; the arena and l, what was handed in, are as they were (REFERENCE, Replies)
abbrev pub refusal : ℕ → ℕ → Arena → List ℕ → Reply
refusal k fields a l = reply k (replicate fields 0) a l
