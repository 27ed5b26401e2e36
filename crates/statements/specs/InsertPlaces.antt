-- What an accepted insertion does to the chains, in words of chains (REFERENCE, Insert).
use Rattle.std.specs.Prelude.{ℕ, ◌≡◌, ◌⊎◌, true, false, List, [], ◌∷◌, ◌++◌}
use Rattle.definitions.specs.Columns.{at, count, first_or, last_or}
use Rattle.definitions.specs.Arena.{Arena, current, is_link}
use Rattle.definitions.specs.Insert.{slot_of, is_there, InsertKind, Disconnected, SingleLinkCyclic, ChainEnd, ChainStart, NextTo, PrevTo, AtInterlink, Bridge}
use Rattle.statements.specs.Chains.{Kind, opened, closed, IsOpen, Chain, IsChain, Alike}

abbrev pub chain : Kind → List ℕ → Chain
chain k c = record { kind = k; members = c }

-- what comes after the links c of a chain, if e are the others, in their order: the first of e; behind the last link of an open chain nothing, behind
-- that of a closed one its first
unfoldable pub following : Kind → List ℕ → List ℕ → ℕ
following opened c e = first_or 0 e
following closed c e = first_or (first_or 0 c) e

-- d is the chain that the kind makes of the chains of a; t is the new link (REFERENCE, Insert)
unfoldable pub Makes : Arena → ℕ → InsertKind → Chain → Type 0
-- a chain of one, open or closed
Makes a t Disconnected d = d ≡ chain opened (t ∷ [])
Makes a t SingleLinkCyclic d = d ≡ chain closed (t ∷ [])
-- an open chain that ends with p, and the new link behind it; one that begins with p, and the new link before it
Makes a t (ChainEnd p) d = (c : List ℕ) × IsOpen a (c ++ slot_of p ∷ []) × (d ≡ chain opened (c ++ slot_of p ∷ t ∷ []))
Makes a t (ChainStart p) d = (c : List ℕ) × IsOpen a (slot_of p ∷ c) × (d ≡ chain opened (t ∷ slot_of p ∷ c))
-- the chain that p is on, open or closed as it was, with the new link right behind p, or right before p
Makes a t (NextTo p) d = (k : Kind) × (c : List ℕ) × (e : List ℕ) × IsChain a k (c ++ slot_of p ∷ e) × (d ≡ chain k (c ++ slot_of p ∷ t ∷ e))
Makes a t (PrevTo p) d = (k : Kind) × (c : List ℕ) × (e : List ℕ) × IsChain a k (c ++ slot_of p ∷ e) × (d ≡ chain k (c ++ t ∷ slot_of p ∷ e))
-- the same right behind p, where q comes after p
Makes a t (AtInterlink p q) d =
    (k : Kind) × (c : List ℕ) × (e : List ℕ) × IsChain a k (c ++ slot_of p ∷ e) × (following k (c ++ slot_of p ∷ []) e ≡ slot_of q) × (d ≡ chain k (c ++ slot_of p ∷ t ∷ e))
-- two open chains joined around the new link, of which the one ends with p and the other begins with q; or one that does both, closed by it
Makes a t (Bridge p q) d =
    ((c : List ℕ) × (e : List ℕ) × IsOpen a (c ++ slot_of p ∷ []) × IsOpen a (slot_of q ∷ e) × ((c ++ slot_of p ∷ [] ≡ slot_of q ∷ e) → ⊥) × (d ≡ chain opened (c ++ slot_of p ∷ t ∷ slot_of q ∷ e)))
    ⊎ ((c : List ℕ) × IsOpen a c × (first_or 0 c ≡ slot_of q) × (last_or 0 c ≡ slot_of p) × (d ≡ chain closed (c ++ t ∷ [])))

-- every link that the kind names is there, by pointer or by slot
unfoldable pub AllThere : Arena → InsertKind → Type 0
AllThere a Disconnected = Unit {0}
AllThere a SingleLinkCyclic = Unit {0}
AllThere a (ChainEnd p) = is_there a p ≡ true
AllThere a (ChainStart p) = is_there a p ≡ true
AllThere a (NextTo p) = is_there a p ≡ true
AllThere a (PrevTo p) = is_there a p ≡ true
AllThere a (AtInterlink p q) = (is_there a p ≡ true) × (is_there a q ≡ true)
AllThere a (Bridge p q) = (is_there a p ≡ true) × (is_there a q ≡ true)

-- the chain c has no link that the kind names
unfoldable pub Apart : InsertKind → Chain → Type 0
Apart Disconnected c = Unit {0}
Apart SingleLinkCyclic c = Unit {0}
Apart (ChainEnd p) c = count (slot_of p) c.members ≡ 0
Apart (ChainStart p) c = count (slot_of p) c.members ≡ 0
Apart (NextTo p) c = count (slot_of p) c.members ≡ 0
Apart (PrevTo p) c = count (slot_of p) c.members ≡ 0
Apart (AtInterlink p q) c = (count (slot_of p) c.members ≡ 0) × (count (slot_of q) c.members ≡ 0)
Apart (Bridge p q) c = (count (slot_of p) c.members ≡ 0) × (count (slot_of q) c.members ≡ 0)

-- what an insertion that is done leaves: the chain that the kind makes, and everything that the kind does not name as it was. a is the arena before, b
-- after, t the slot of the new link and x its payload
pub record InsertPlaces (a b : Arena) (kind : InsertKind) (t x : ℕ) : Type 0 where
  -- the kind makes a chain of the old ones, and what it makes is a chain now
  pub made : (d : Chain) × Makes a t kind d
  pub makes : (d : Chain) → Makes a t kind d → IsChain b d.kind d.members
  -- a chain without a link that the kind names is one still; and there is no chain but these and the one that was made
  pub stay : (c : Chain) → IsChain a c.kind c.members → Apart kind c → IsChain b c.kind c.members
  pub all : (c : Chain) → IsChain b c.kind c.members → ((d : Chain) × Makes a t kind d × Alike d c) ⊎ (IsChain a c.kind c.members × Apart kind c)
  -- every old link is one still, with its generation and its payload
  pub links : (s : ℕ) → is_link a s ≡ true → is_link b s ≡ true
  pub generations : (s : ℕ) → is_link a s ≡ true → at b.generation s ≡ at a.generation s
  pub payloads : (s : ℕ) → is_link a s ≡ true → at b.payload s ≡ at a.payload s
  -- the new link was none, and now is the only one that was none; it has the current generation and the payload
  pub fresh : is_link a t ≡ false
  pub new : is_link b t ≡ true
  pub only : (s : ℕ) → is_link b s ≡ true → (s ≡ t → ⊥) → is_link a s ≡ true
  pub generation : at b.generation t ≡ current a
  pub payload : at b.payload t ≡ x
