-- What a small arena is, in which order small arenas come, and what is said of a list of all of them and of a call that gives one (REFERENCE, Small arenas).
use Rattle.std.specs.Prelude.{ℕ, ◌+◌, ◌≤◌, ◌<◌, ◌≡◌, Bool, true, false, cond, List, [], ◌∷◌, map, length, get_or, take, drop, eqb, ltb}
use Rattle.definitions.specs.Columns.{at, slots_from}
use Rattle.definitions.specs.Arena.{Arena, arena, capacity, stack_length, root, current, is_link}
use Rattle.definitions.specs.Check.{verdict}
use Rattle.definitions.specs.Reply.{Reply}

-- a passes the check, its stack of at most three slots fills the columns, links and header are of generation 2, and a link's payload is its slot. Nobody
-- reads prev and payload of a free slot, nor of a slot that is not there: these words are 0 (REFERENCE, Small arenas)
pub record IsSmall (limit : ℕ) (a : Arena) : Type 0 where
  pub passes : verdict limit a ≡ 0
  pub full : stack_length a ≡ capacity a
  pub short : stack_length a ≤ 3
  pub current_two : current a ≡ 2
  pub generation_two : (s : ℕ) → is_link a s ≡ true → at a.generation s ≡ 2
  pub payload_own : (s : ℕ) → is_link a s ≡ true → at a.payload s ≡ s
  pub prev_unread : (s : ℕ) → is_link a s ≡ false → at a.prev s ≡ 0
  pub payload_unread : (s : ℕ) → is_link a s ≡ false → at a.payload s ≡ 0

-- generation, prev and next of each slot of a list
unfoldable pub slot_words : Arena → List ℕ → List ℕ
slot_words a [] = []
slot_words a (s ∷ ss) = at a.generation s ∷ at a.prev s ∷ at a.next s ∷ slot_words a ss

-- the words by which small arenas are ordered: the stack length, the root, and those of the slots (REFERENCE, Small arenas)
unfoldable pub order_words : Arena → List ℕ
order_words a = stack_length a ∷ root a ∷ slot_words a (slots_from 1 (stack_length a))

-- the first words that differ decide
unfoldable pub earlier : List ℕ → List ℕ → Bool
earlier [] ys = false
earlier (x ∷ xs) [] = false
earlier (x ∷ xs) (y ∷ ys) = let rest = earlier xs ys in cond (ltb x y) true (cond (eqb x y) rest false)

unfoldable pub before : Arena → Arena → Bool
before a b = earlier (order_words a) (order_words b)

-- entry i of a list of arenas, from 0 on; past its end an arena without words
unfoldable pub entry : List Arena → ℕ → Arena
entry arenas i = get_or arenas i (arena [] [] [] [] [])

-- how many arenas of a list have stack length n
unfoldable pub tally : List Arena → ℕ → ℕ
tally [] n = 0
tally (a ∷ arenas) n = cond (eqb (stack_length a) n) 1 0 + tally arenas n

-- a list that has all small arenas: 90 of them, so many with no slot, one, two and three; it rises, what is on it is small, and what is small is on it. As it
-- rises, nothing is on it twice (REFERENCE, Small arenas)
pub record AllSmall (limit : ℕ) (arenas : List Arena) : Type 0 where
  pub size : length arenas ≡ 90
  pub by_length : map (tally arenas) (0 ∷ 1 ∷ 2 ∷ 3 ∷ []) ≡ 1 ∷ 3 ∷ 13 ∷ 73 ∷ []
  pub rising : (i j : ℕ) → i < j → j < length arenas → before (entry arenas i) (entry arenas j) ≡ true
  pub small : (i : ℕ) → i < length arenas → IsSmall limit (entry arenas i)
  pub every : (a : Arena) → IsSmall limit a → (i : ℕ) × (i < length arenas) × (entry arenas i ≡ a)

-- the first n words of each column, which a host lends on, with the header; and the words behind them
unfoldable pub lent_part : ℕ → Arena → Arena
lent_part n a = arena (take n a.prev) (take n a.next) (take n a.generation) (take n a.payload) a.header

unfoldable pub behind : ℕ → Arena → List (List ℕ)
behind n a = drop n a.prev ∷ drop n a.next ∷ drop n a.generation ∷ drop n a.payload ∷ []

-- a reply that gives the small arena e in columns that held a: found, with its stack length; what is lent on is e, and the words behind it are those of a
-- (REFERENCE, Small arenas)
pub record GivesSmall (limit : ℕ) (e a : Arena) (r : Reply) : Type 0 where
  pub number : r.number ≡ 0
  pub fields : r.fields ≡ 1 ∷ stack_length e ∷ []
  pub lent_on : lent_part (stack_length e) r.arena ≡ e
  pub small : IsSmall limit e
  pub stays : behind (stack_length e) r.arena ≡ behind (stack_length e) a
