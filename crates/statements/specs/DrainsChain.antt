-- What a drain promises beyond its definition: it removes the links of one chain and no other, every other link stays as it is, and the report lists
-- the removed ones in the order of the walk (REFERENCE, Drain).
use Rattle.std.specs.Prelude.{ℕ, suc, ◌+◌, ◌*◌, ◌≤◌, ◌<◌, ◌≡◌, Bool, true, false, List, length, get_or, take, drop}
use Rattle.definitions.specs.Columns.{at, count}
use Rattle.definitions.specs.Arena.{Arena, current, is_link}
use Rattle.statements.specs.Chains.{Chain, IsChain}
use Rattle.definitions.specs.Check.{WellFormed}
use Rattle.definitions.specs.Edit.{overflows}
use Rattle.definitions.specs.Remove.{removed_all}
use Rattle.definitions.specs.Reply.{Reply}
use Rattle.statements.specs.WalkOrder.{WalkOrder}
use Rattle.definitions.specs.Report.{item_slots}

-- slot s is the link that it was, with its neighbours, its generation and its payload
pub record Untouched (a b : Arena) (s : ℕ) : Type 0 where
  pub link : is_link b s ≡ true
  pub prev : at b.prev s ≡ at a.prev s
  pub next : at b.next s ≡ at a.next s
  pub generation : at b.generation s ≡ at a.generation s
  pub payload : at b.payload s ≡ at a.payload s

-- whether the removal of slot k of a list, from 0, after those before it, overflows the generation
unfoldable pub overflows_at : ℕ → Arena → List ℕ → ℕ → Bool
overflows_at top a ss k = overflows top (current (removed_all top a (take k ss)))

-- a drain from the link o, whose walk is ss, replied r; report is what was handed in
pub record DrainsChain (limit top : ℕ) (a : Arena) (o : ℕ) (ss report : List ℕ) (r : Reply) : Type 0 where
  -- it was not refused, and leaves an arena that passes the check
  pub done : r.number ≡ 0
  pub kept : WellFormed limit r.arena
  -- ss has what any listing of the chain that o is on has, each link once
  pub exactly : (c : Chain) → IsChain a c.kind c.members → 1 ≤ count o c.members → (s : ℕ) → count s ss ≡ count s c.members
  pub once : (s : ℕ) → count s ss ≤ 1
  -- they are removed; every other link stays as it is; and no slot becomes a link
  pub removed : (s : ℕ) → 1 ≤ count s ss → is_link r.arena s ≡ false
  pub others : (s : ℕ) → is_link a s ≡ true → count s ss ≡ 0 → Untouched a r.arena s
  pub none_new : (s : ℕ) → is_link r.arena s ≡ true → is_link a s ≡ true
  -- the report lists them in the order of the walk, each with its own generation and payload; the words of the report after these stay
  pub order : WalkOrder a o ss
  pub items : get_or r.fields 0 0 ≡ length ss
  pub listed : item_slots (length ss) r.back ≡ ss
  pub generations : (k : ℕ) → k < length ss → get_or r.back (5 * k + 1) 0 ≡ at a.generation (get_or ss k 0)
  pub payloads : (k : ℕ) → k < length ss → get_or r.back (5 * k + 4) 0 ≡ at a.payload (get_or ss k 0)
  pub rest : drop (5 * length ss) r.back ≡ drop (5 * length ss) report
  -- the answer says which removal, counted from 1, overflows, so that one does at most; 0 where none does
  pub overflow : (k : ℕ) → k < length ss → overflows_at top a ss k ≡ true → get_or r.fields 1 0 ≡ suc k
  pub no_overflow : ((k : ℕ) → k < length ss → overflows_at top a ss k ≡ false) → get_or r.fields 1 0 ≡ 0
