-- Demand 3, as one statement about the very definition that the exported call cites, Calls.reply_to at CompressCanonical
-- (REFERENCE, What canonical compression keeps).
use Rattle.std.specs.Prelude.{ℕ, suc, ◌+◌, ◌≤◌, ◌<◌, ◌≡◌, ◌⊎◌, ◌↔◌, Bool, true, List, [], ◌∷◌, map, length, take}
use Rattle.definitions.specs.Columns.{at, last_or, slots_from}
use Rattle.definitions.specs.Arena.{Arena, capacity, stack_length, link_count, root, is_link}
use Rattle.statements.specs.Chains.{Chain, opened, IsChain, Like, nth, Listing, OnOneChain, Renaming, pieces, replaced, HoldTheSame, Alike, Paired}
use Rattle.definitions.specs.Check.{verdict}
use Rattle.definitions.specs.Reply.{Reply}
use Rattle.definitions.specs.Calls.{CompressCanonical, reply_to, Made, replies_to, arena_after}

-- a call was done: 0, or 100 where the generation overflowed
abbrev pub Accepted : Reply → Type 0
Accepted r = (r.number ≡ 0) ⊎ (r.number ≡ 100)

-- every member of a list of replies
unfoldable pub Every : (Reply → Type 0) → List Reply → Type 0
Every Q [] = Unit {0}
Every Q (r ∷ rs) = Q r × Every Q rs

-- slots 1 to n have the same prev, next and payload words in both arenas
pub record Agree (a b : Arena) (n : ℕ) : Type 0 where
  pub prev : (s : ℕ) → 1 ≤ s → s ≤ n → at a.prev s ≡ at b.prev s
  pub next : (s : ℕ) → 1 ≤ s → s ≤ n → at a.next s ≡ at b.next s
  pub payload : (s : ℕ) → 1 ≤ s → s ≤ n → at a.payload s ≡ at b.payload s

-- a canonical compression: its reset, and a where-from column, which may be of any length
pub record Further : Type 0 where
  pub reset : Bool
  pub where_from : List ℕ

abbrev pub made : Further → Made
made f = record { call = CompressCanonical f.reset; hands = f.where_from }

-- an old chain has the slots from s on, one after the other, each next being the following slot; read where they came from, they are the chain
pub record LiesFrom (b : Arena) (w : List ℕ) (n : ℕ) (c : Chain) (s : ℕ) : Type 0 where
  pub some : 1 ≤ s
  pub within : s + length c.members ≤ suc n
  pub came : Like c.kind (map (at w) (slots_from s (length c.members))) c.members
  pub following : (t : ℕ) → s ≤ t → suc t < s + length c.members → at b.next t ≡ suc t

module _ (limit top : ℕ) where
  abbrev pub compress : Further → Arena → Reply
  compress f a = reply_to limit top (CompressCanonical f.reset) a f.where_from

  -- a was canonically compressed to b and not refused, and its where-from column was left as col
  pub record Compressed (a b : Arena) (col : List ℕ) : Type 0 where
    pub call : Further
    pub accepted : Accepted (compress call a)
    pub left : (compress call a).arena ≡ b
    pub where_from : (compress call a).back ≡ col

  -- what one compression keeps. n is the link count, w the first n words of the where-from column, ps the pieces. Filled: stack, links, root, fills.
  -- Renaming: renaming. Consecutive: consecutive. Pieces: chains, ends. And every: each old link is on one chain and on one only
  pub record OfOne (a b : Arena) (w : List ℕ) (n : ℕ) (ps : List Chain) : Type 0 where
    pub stack : stack_length b ≡ n
    pub links : link_count b ≡ n
    pub root : root b ≡ 0
    pub fills : (s : ℕ) → (is_link b s ≡ true) ↔ ((1 ≤ s) × (s ≤ n))
    pub renaming : Renaming a b w n
    pub consecutive : (c : Chain) → IsChain a c.kind c.members → (s : ℕ) × LiesFrom b w n c s
    pub chains : Listing a (map (replaced (at w)) ps)
    pub ends : (k : ℕ) → k < length ps → (nth ps k).kind ≡ opened → at b.next (last_or 0 (nth ps k).members) ≡ 0
    pub every : (s : ℕ) → is_link a s ≡ true → OnOneChain a s

  -- after the calls no link has moved: the first three words of the header and all words but the generations of slots 1 to n are as in b, and each
  -- call that was done has left 1, 2, .., n at the front of its where-from column
  pub record Unmoved (b : Arena) (calls : List Made) (n : ℕ) : Type 0 where
    pub stack : stack_length (arena_after limit top calls b) ≡ stack_length b
    pub links : link_count (arena_after limit top calls b) ≡ link_count b
    pub root : root (arena_after limit top calls b) ≡ root b
    pub words : Agree (arena_after limit top calls b) b n
    pub columns : Every (λ r. Accepted r → take n r.back ≡ slots_from 1 n) (replies_to limit top calls b)

  -- demand 3, in five fields. accepted: when a compression is done. one: what it keeps. listings: any two listings of the old chains pair up. same:
  -- equal words mean equal chains of payloads. unmoved: further compressions, done or refused, move nothing
  pub record Demand3 : Type 0 where
    -- where the check passes and the where-from column has the length of the columns, with and without reset
    pub accepted : (a : Arena) (f : Further) → verdict limit a ≡ 0 → length f.where_from ≡ capacity a → Accepted (compress f a)
    pub one : (a b : Arena) (col : List ℕ) → Compressed a b col → OfOne a b (take (link_count a) col) (link_count a) (pieces (at b.next) (link_count a))
    pub listings : (a b : Arena) (col : List ℕ) → Compressed a b col → (cs ds : List Chain) → Listing a cs → Listing a ds → Paired Alike cs ds
    pub same : (a b a' b' : Arena) (colA colB : List ℕ) → Compressed a a' colA → Compressed b b' colB → link_count a ≡ link_count b → Agree a' b' (link_count a) → HoldTheSame a b
    pub unmoved : (a b : Arena) (col : List ℕ) → Compressed a b col → (fs : List Further) → Unmoved b (map made fs) (link_count a)
