-- What the frame clock promises beyond the calls' own answers (REFERENCE, Frame clock).
use Rattle.std.specs.Prelude.{ℕ, suc, ◌+◌, ◌≤◌, ◌<◌, ◌≡◌, ◌⊎◌, List, [], ◌∷◌, map, length}
use Rattle.definitions.specs.Columns.{at, count, written, settled}
use Rattle.definitions.specs.Arena.{Arena, stack_length}
use Rattle.definitions.specs.Clock.{Told, told}
use Rattle.definitions.specs.Reply.{Reply}
use Rattle.statements.specs.Demand3.{Accepted}
use Rattle.statements.specs.WalkOrder.{WalkOrder}

-- ofDot, asked for the line of each dot, and dotsOf, asked for the first and the last dot of each line, part the frame: every dot is in the line that is
-- answered for it and in no other, and the lines follow one another from dot 0 on, 262 of them with 341 dots each. What the frame does not have is 19
pub record LinesPart (ofDot dotsOf : ℕ → Told) : Type 0 where
  pub has_line : (dot : ℕ) → dot < 89342 → (line : ℕ) × (line < 262) × (ofDot dot ≡ told 0 (line ∷ []))
  pub within : (dot line first last : ℕ) → ofDot dot ≡ told 0 (line ∷ []) → dotsOf line ≡ told 0 (first ∷ last ∷ []) → (first ≤ dot) × (dot ≤ last)
  pub only : (dot line first last : ℕ) → dotsOf line ≡ told 0 (first ∷ last ∷ []) → first ≤ dot → dot ≤ last → ofDot dot ≡ told 0 (line ∷ [])
  pub begins : dotsOf 0 ≡ told 0 (0 ∷ 340 ∷ [])
  pub follows : (line first last : ℕ) → suc line < 262 → dotsOf line ≡ told 0 (first ∷ last ∷ []) → dotsOf (suc line) ≡ told 0 ((last + 1) ∷ (last + 341) ∷ [])
  pub no_dot : (dot : ℕ) → 89342 ≤ dot → ofDot dot ≡ told 19 (0 ∷ [])
  pub no_line : (line : ℕ) → 262 ≤ line → dotsOf line ≡ told 19 (0 ∷ 0 ∷ [])

-- the payload v is due in the window that begins with from and ends before to: it is a dot of the frame; where the window does not cross the end of the
-- frame, v is at or after from, and before to; where it does, one of the two is enough
pub record DueIn (from to v : ℕ) : Type 0 where
  pub dot : v < 89342
  pub straight : from ≤ to → (from ≤ v) × (v < to)
  pub crossing : to < from → (from ≤ v) ⊎ (v < to)

-- ss is what is left of a list where only the members with P stay, in their order
unfoldable pub Thinned : (ℕ → Type 0) → List ℕ → List ℕ → Type 0
Thinned P ss [] = ss ≡ []
Thinned P ss (x ∷ xs) = (P x × ((rest : List ℕ) × (ss ≡ x ∷ rest) × Thinned P rest xs)) ⊎ ((P x → ⊥) × Thinned P ss xs)

-- ss is what is due of the chain that link o is on, in the order of a walk from o
pub record DueOf (a : Arena) (o from to : ℕ) (ss : List ℕ) : Type 0 where
  pub chain : List ℕ
  pub order : WalkOrder a o chain
  pub due : Thinned (λ s. DueIn from to (at a.payload s)) ss chain

-- the reply c tells how many are due of the chain that link s is on, and leaves the arena as it was
pub record CountsDue (a : Arena) (s from to : ℕ) (c : Reply) : Type 0 where
  pub slots : List ℕ
  pub due : DueOf a s from to slots
  pub fields : c.fields ≡ length slots ∷ []
  pub left : c.arena ≡ a

-- the reply r hands back the report with the slots of those that are due, tells how many they are, and leaves the arena as it was
pub record ReportsDue (a : Arena) (o from to : ℕ) (report : List ℕ) (r : Reply) : Type 0 where
  pub slots : List ℕ
  pub due : DueOf a o from to slots
  pub fields : r.fields ≡ length slots ∷ []
  pub back : r.back ≡ written slots report
  pub left : r.arena ≡ a

-- what is due from f to t and what is due from t to f are each dot of the frame once
pub record WindowsPart (f t : ℕ) : Type 0 where
  pub either : (v : ℕ) → v < 89342 → DueIn f t v ⊎ DueIn t f v
  pub not_both : (v : ℕ) → DueIn f t v → DueIn t f v → ⊥

-- so a chain is parted: each of its links whose payload is a dot is in one of the two lists, and no other link is
pub record ChainParted (a : Arena) (chain ss ts : List ℕ) : Type 0 where
  pub once : (s : ℕ) → at a.payload s < 89342 → count s ss + count s ts ≡ count s chain
  pub never : (s : ℕ) → 89342 ≤ at a.payload s → count s ss + count s ts ≡ 0

-- a and b differ in payloads alone
pub record SameButPayloads (a b : Arena) : Type 0 where
  pub prev : a.prev ≡ b.prev
  pub next : a.next ≡ b.next
  pub generation : a.generation ≡ b.generation
  pub payload_length : length a.payload ≡ length b.payload
  pub header : a.header ≡ b.header

-- the payloads of the slots that w lists were carried to slots 1, 2, .. of b in that order, with 0 above them up to the old stack length
abbrev pub CarriedTo : Arena → List ℕ → Arena → Type 0
CarriedTo a w b = b.payload ≡ settled (stack_length a) (map (at a.payload) w) a.payload

-- the replies r and s of a compression on the arenas a and b, which differ in payloads alone, are the same, and so is what they leave but for the
-- payloads, which are carried from the slots w or, where the call was refused, as they were
pub record IgnoresPayloads (a b : Arena) (w : List ℕ) (r s : Reply) : Type 0 where
  pub number : r.number ≡ s.number
  pub broken : r.broken ≡ s.broken
  pub side : r.side ≡ s.side
  pub fields : r.fields ≡ s.fields
  pub back : r.back ≡ s.back
  pub left : SameButPayloads r.arena s.arena
  pub carried : Accepted r → CarriedTo a w r.arena × CarriedTo b w s.arena
  pub refused : (Accepted r → ⊥) → (r.arena ≡ a) × (s.arena ≡ b)
