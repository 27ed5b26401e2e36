-- What demand 3 speaks of: chains of slots, listings, renamings, pieces and chains of payloads (REFERENCE, Chains;
-- REFERENCE, What canonical compression keeps).
use Rattle.std.specs.Prelude.{ℕ, suc, ◌≤◌, ◌<◌, ◌≡◌, true, cond, List, [], ◌∷◌, ◌++◌, map, length, get_or, eqb}
use Rattle.definitions.specs.Columns.{at, count, first_or, last_or, Linked, slots_from}
use Rattle.definitions.specs.Arena.{Arena, is_link}

-- open or closed
pub data Kind : Type 0 where
  opened closed : Kind

-- a list has a member, and all its members are links
abbrev pub Some : List ℕ → Type 0
Some c = c ≡ [] → ⊥

abbrev pub OfLinks : Arena → List ℕ → Type 0
OfLinks a c = (s : ℕ) → 1 ≤ count s c → is_link a s ≡ true

-- an open chain: at least one slot, links all of them; the first has no prev, next leads from each to the one after it, the last has no next
-- (REFERENCE, Chains)
pub record IsOpen (a : Arena) (c : List ℕ) : Type 0 where
  pub some : Some c
  pub links : OfLinks a c
  pub starts : at a.prev (first_or 0 c) ≡ 0
  pub linked : Linked (at a.next) c 0

-- a closed chain: at least one slot, links all of them, none twice; next leads from each to the one after it, and from the last to the first
-- (REFERENCE, Chains)
pub record IsClosed (a : Arena) (c : List ℕ) : Type 0 where
  pub some : Some c
  pub links : OfLinks a c
  pub once : (s : ℕ) → count s c ≤ 1
  pub linked : Linked (at a.next) c (first_or 0 c)

-- a list marked open or closed. Its members are slots, or payloads in a chain of payloads
pub record Chain : Type 0 where
  pub kind : Kind
  pub members : List ℕ

unfoldable pub IsChain : Arena → Kind → List ℕ → Type 0
IsChain a opened c = IsOpen a c
IsChain a closed c = IsClosed a c

-- d is c begun at another place: a front part of c stands behind the rest
unfoldable pub Rotation : List ℕ → List ℕ → Type 0
Rotation c d = (u : List ℕ) × (v : List ℕ) × (c ≡ u ++ v) × (d ≡ v ++ u)

-- two lists are one and the same chain: open ones if they are equal, closed ones if they differ by rotation only (REFERENCE, Chains)
unfoldable pub Like : Kind → List ℕ → List ℕ → Type 0
Like opened c d = c ≡ d
Like closed c d = Rotation c d

unfoldable pub Alike : Chain → Chain → Type 0
Alike c d = (c.kind ≡ d.kind) × Like c.kind c.members d.members

-- chain k of a list, from 0
unfoldable pub nth : List Chain → ℕ → Chain
nth cs k = get_or cs k (record { kind = opened; members = [] })

-- a listing of an arena's chains: every entry is a chain, and every chain is the same as one entry, and as one only (REFERENCE, Chains)
pub record Listing (a : Arena) (cs : List Chain) : Type 0 where
  pub are : (k : ℕ) → k < length cs → IsChain a (nth cs k).kind (nth cs k).members
  pub all : (c : Chain) → IsChain a c.kind c.members → (k : ℕ) × (k < length cs) × Alike (nth cs k) c
  pub one : (c : Chain) → IsChain a c.kind c.members → (j k : ℕ) → j < length cs → k < length cs → Alike (nth cs j) c → Alike (nth cs k) c → j ≡ k

-- slot s is on a chain, and all chains that it is on are the same (REFERENCE, Chains)
pub record OnOneChain (a : Arena) (s : ℕ) : Type 0 where
  pub chain : Chain
  pub is : IsChain a chain.kind chain.members
  pub on : 1 ≤ count s chain.members
  pub only : (c : Chain) → IsChain a c.kind c.members → 1 ≤ count s c.members → Alike chain c

-- b has the links of a in slots 1 to n, and w lists where each of these slots came from: every link of a once, and nothing else. Payloads go along.
-- Where the prev of a slot came from is the prev of where the slot came from, and so for next; both are at most n, and 0 came from 0
-- (REFERENCE, What canonical compression keeps)
pub record Renaming (a b : Arena) (w : List ℕ) (n : ℕ) : Type 0 where
  pub size : length w ≡ n
  pub each : (o : ℕ) → is_link a o ≡ true → count o w ≡ 1
  pub only : (o : ℕ) → 1 ≤ count o w → is_link a o ≡ true
  pub payload : (s : ℕ) → 1 ≤ s → s ≤ n → at b.payload s ≡ at a.payload (at w s)
  pub prev : (s : ℕ) → 1 ≤ s → s ≤ n → (at b.prev s ≤ n) × (at w (at b.prev s) ≡ at a.prev (at w s))
  pub next : (s : ℕ) → 1 ≤ s → s ≤ n → (at b.next s ≤ n) × (at w (at b.next s) ≡ at a.next (at w s))

-- slot s put before the first piece of the slots that follow it
unfoldable pub extended : ℕ → List (List ℕ) → List (List ℕ)
extended s [] = (s ∷ []) ∷ []
extended s (p ∷ ps) = (s ∷ p) ∷ ps

-- a row of slots cut into pieces: there is a cut behind slot s unless its next is s + 1 (REFERENCE, What canonical compression keeps)
unfoldable pub cut : (ℕ → ℕ) → List ℕ → List (List ℕ)
cut next [] = []
cut next (s ∷ ss) = cond (eqb (next s) (suc s)) (extended s (cut next ss)) ((s ∷ []) ∷ cut next ss)

-- a piece with its kind: closed if next leads from its last slot to its first one, else open
unfoldable pub marked : (ℕ → ℕ) → List ℕ → Chain
marked next p = record { kind = cond (eqb (next (last_or 0 p)) (first_or 0 p)) closed opened; members = p }

-- the pieces of slots 1 to n, marked
unfoldable pub pieces : (ℕ → ℕ) → ℕ → List Chain
pieces next n = map (marked next) (cut next (slots_from 1 n))

-- a chain of the same kind with f of each member: where the slots of a piece came from, or the payloads of a chain
unfoldable pub replaced : (ℕ → ℕ) → Chain → Chain
replaced f c = record { kind = c.kind; members = map f c.members }

-- the two lists are equally long, and chain k of the one goes with chain `to k` of the other, no two with the same one, and the two are alike
pub record Paired (Alike : Chain → Chain → Type 0) (cs ds : List Chain) : Type 0 where
  pub to : ℕ → ℕ
  pub size : length cs ≡ length ds
  pub within : (k : ℕ) → k < length cs → to k < length ds
  pub once : (j k : ℕ) → j < length cs → k < length cs → to j ≡ to k → j ≡ k
  pub like : (k : ℕ) → k < length cs → Alike (nth cs k) (nth ds (to k))

-- two arenas hold the same: a listing of each can be paired so that the chains of payloads are the same in pairs (REFERENCE, Chains)
pub record HoldTheSame (a b : Arena) : Type 0 where
  pub of_a : List Chain
  pub of_b : List Chain
  pub all_a : Listing a of_a
  pub all_b : Listing b of_b
  pub paired : Paired (λ c d. Alike (replaced (at a.payload) c) (replaced (at b.payload) d)) of_a of_b
