-- Every statement gives what it says for every slot, chain, arena and call: each field is used here once more in its full range, without the name of its record.
-- So a field that leaves out some slots, or one kind of chain, is refused although the small arenas of the other files do not show it.
use Prim.Native.Nat.{ℕ, suc, ◌+◌, ◌*◌, ◌≤◌, ◌<◌}
use mathlib.Core.Path.{◌≡◌, refl}
use mathlib.Core.Logic.{◌⊎◌, ◌↔◌}
use mathlib.Core.Bool.{true, false}
use mathlib.Core.List.{List, [], ◌∷◌, ◌++◌, map, reverse}
use lib.ListN.{length, get_or, take, drop}
use Rattle.definitions.specs.Columns.{at, count, first_or, last_or, slots_from, Linked}
use Rattle.definitions.specs.Arena.{Arena, capacity, stack_length, link_count, root, current, is_link}
use Rattle.definitions.specs.Insert.{InsertKind}
use Rattle.definitions.specs.Check.{verdict, WellFormed}
use Rattle.statements.specs.Chains.{opened, closed, IsOpen, IsClosed, Chain, IsChain, Like, Alike, nth, Listing, OnOneChain, Renaming, pieces, replaced, Paired, HoldTheSame}
use Rattle.definitions.specs.Reply.{Reply}
use Rattle.definitions.specs.Walk.{start_at, walked}
use Rattle.definitions.specs.Calls.{CompressCanonical, Made, reply_to, replies_to, arena_after}
use Rattle.statements.specs.Demand3.{Accepted, Every, Agree, Further, LiesFrom, Compressed, OfOne, Unmoved, Demand3}
use Rattle.statements.specs.WalkOrder.{WalkOrder, Walks}
use Rattle.definitions.specs.Report.{item_slots}
use Rattle.statements.specs.DrainsChain.{Untouched, overflows_at, DrainsChain}
use Rattle.statements.specs.InsertPlaces.{Makes, Apart, InsertPlaces}
use Rattle.statements.specs.BrokenSlot.{LowestBroken, NamesLowest}
use Rattle.statements.specs.EveryCall.{Unchanged, AnswerWord, OneCommand}

-- ---- chains

pub is_open_whole : (a : Arena) (c : List ℕ) → IsOpen a c → (c ≡ [] → ⊥) × ((s : ℕ) → 1 ≤ count s c → is_link a s ≡ true) × (at a.prev (first_or 0 c) ≡ 0) × Linked (at a.next) c 0
is_open_whole a c o = (o.some, o.links, o.starts, o.linked)

pub is_closed_whole : (a : Arena) (c : List ℕ) → IsClosed a c → (c ≡ [] → ⊥) × ((s : ℕ) → 1 ≤ count s c → is_link a s ≡ true) × ((s : ℕ) → count s c ≤ 1) × Linked (at a.next) c (first_or 0 c)
is_closed_whole a c o = (o.some, o.links, o.once, o.linked)

pub listing_whole : (a : Arena) (cs : List Chain) → Listing a cs →
    ((k : ℕ) → k < length cs → IsChain a (nth cs k).kind (nth cs k).members)
    × ((c : Chain) → IsChain a c.kind c.members → (k : ℕ) × (k < length cs) × Alike (nth cs k) c)
    × ((c : Chain) → IsChain a c.kind c.members → (j k : ℕ) → j < length cs → k < length cs → Alike (nth cs j) c → Alike (nth cs k) c → j ≡ k)
listing_whole a cs l = (l.are, l.all, l.one)

pub on_one_chain_whole : (a : Arena) (s : ℕ) (o : OnOneChain a s) →
    IsChain a o.chain.kind o.chain.members
    × (1 ≤ count s o.chain.members)
    × ((c : Chain) → IsChain a c.kind c.members → 1 ≤ count s c.members → Alike o.chain c)
on_one_chain_whole a s o = (o.is, o.on, o.only)

pub paired_whole : (R : Chain → Chain → Type 0) (cs ds : List Chain) (p : Paired R cs ds) →
    (length cs ≡ length ds)
    × ((k : ℕ) → k < length cs → p.to k < length ds)
    × ((j k : ℕ) → j < length cs → k < length cs → p.to j ≡ p.to k → j ≡ k)
    × ((k : ℕ) → k < length cs → R (nth cs k) (nth ds (p.to k)))
paired_whole R cs ds p = (p.size, p.within, p.once, p.like)

pub hold_the_same_whole : (a b : Arena) (h : HoldTheSame a b) → Listing a h.of_a × Listing b h.of_b
    × Paired (λ c d. Alike (replaced (at a.payload) c) (replaced (at b.payload) d)) h.of_a h.of_b
hold_the_same_whole a b h = (h.all_a, h.all_b, h.paired)

pub renaming_whole : (a b : Arena) (w : List ℕ) (n : ℕ) → Renaming a b w n →
    (length w ≡ n)
    × ((o : ℕ) → is_link a o ≡ true → count o w ≡ 1)
    × ((o : ℕ) → 1 ≤ count o w → is_link a o ≡ true)
    × ((s : ℕ) → 1 ≤ s → s ≤ n → at b.payload s ≡ at a.payload (at w s))
    × ((s : ℕ) → 1 ≤ s → s ≤ n → (at b.prev s ≤ n) × (at w (at b.prev s) ≡ at a.prev (at w s)))
    × ((s : ℕ) → 1 ≤ s → s ≤ n → (at b.next s ≤ n) × (at w (at b.next s) ≡ at a.next (at w s)))
renaming_whole a b w n r = (r.size, r.each, r.only, r.payload, r.prev, r.next)

-- ---- canonical compression, of any arena that passes the check, with any reset

pub agree_whole : (a b : Arena) (n : ℕ) → Agree a b n → (s : ℕ) → 1 ≤ s → s ≤ n → (at a.prev s ≡ at b.prev s) × (at a.next s ≡ at b.next s) × (at a.payload s ≡ at b.payload s)
agree_whole a b n g s i j = (g.prev s i j, g.next s i j, g.payload s i j)

-- a chain of either kind
pub lies_from_whole : (b : Arena) (w : List ℕ) (n : ℕ) (c : Chain) (s : ℕ) → LiesFrom b w n c s →
    (1 ≤ s)
    × (s + length c.members ≤ suc n)
    × Like c.kind (map (at w) (slots_from s (length c.members))) c.members
    × ((t : ℕ) → s ≤ t → suc t < s + length c.members → at b.next t ≡ suc t)
lies_from_whole b w n c s l = (l.some, l.within, l.came, l.following)

module _ (limit top : ℕ) where
  pub of_one_whole : (a b : Arena) (w : List ℕ) (n : ℕ) (ps : List Chain) → OfOne limit top a b w n ps →
      (stack_length b ≡ n)
      × (link_count b ≡ n)
      × (root b ≡ 0)
      × ((s : ℕ) → (is_link b s ≡ true) ↔ ((1 ≤ s) × (s ≤ n)))
      × Renaming a b w n
      × ((c : Chain) → IsChain a c.kind c.members → (s : ℕ) × LiesFrom b w n c s)
      × Listing a (map (replaced (at w)) ps)
      × ((k : ℕ) → k < length ps → (nth ps k).kind ≡ opened → at b.next (last_or 0 (nth ps k).members) ≡ 0)
      × ((s : ℕ) → is_link a s ≡ true → OnOneChain a s)
  of_one_whole a b w n ps o = (o.stack, o.links, o.root, o.fills, o.renaming, o.consecutive, o.chains, o.ends, o.every)

  pub unmoved_whole : (b : Arena) (calls : List Made) (n : ℕ) → Unmoved limit top b calls n →
      (stack_length (arena_after limit top calls b) ≡ stack_length b)
      × (link_count (arena_after limit top calls b) ≡ link_count b)
      × (root (arena_after limit top calls b) ≡ root b)
      × Agree (arena_after limit top calls b) b n
      × Every (λ r. Accepted r → take n r.back ≡ slots_from 1 n) (replies_to limit top calls b)
  unmoved_whole b calls n u = (u.stack, u.links, u.root, u.words, u.columns)

  -- the reply to a canonical compression of a, with this reset and where-from column
  abbrev replied : Arena → Further → Reply
  replied a f = reply_to limit top (CompressCanonical f.reset) a f.where_from

  abbrev Passes : Arena → Further → Type 0
  Passes a f = (verdict limit a ≡ 0) × (length f.where_from ≡ capacity a)

  module _ (d : Demand3 limit top) where
    pub demand_3_accepted_whole : (a : Arena) (f : Further) → verdict limit a ≡ 0 → length f.where_from ≡ capacity a → Accepted (replied a f)
    demand_3_accepted_whole a f p q = d.accepted a f p q

    pub compressed_whole : (a : Arena) (f : Further) → Passes a f → Compressed limit top a (replied a f).arena (replied a f).back
    compressed_whole a f p = record { call = f; accepted = d.accepted a f p.0 p.1; left = refl; where_from = refl }

    pub demand_3_one_whole : (a : Arena) (f : Further) → Passes a f →
        OfOne limit top a (replied a f).arena (take (link_count a) (replied a f).back) (link_count a) (pieces (at (replied a f).arena.next) (link_count a))
    demand_3_one_whole a f p = d.one a (replied a f).arena (replied a f).back (compressed_whole a f p)

    pub demand_3_listings_whole : (a : Arena) (f : Further) → Passes a f → (cs ds : List Chain) → Listing a cs → Listing a ds → Paired Alike cs ds
    demand_3_listings_whole a f p = d.listings a (replied a f).arena (replied a f).back (compressed_whole a f p)

    pub demand_3_same_whole : (a b : Arena) (f g : Further) → Passes a f → Passes b g → link_count a ≡ link_count b →
        Agree (replied a f).arena (replied b g).arena (link_count a) → HoldTheSame a b
    demand_3_same_whole a b f g p q = d.same a b (replied a f).arena (replied b g).arena (replied a f).back (replied b g).back (compressed_whole a f p) (compressed_whole b g q)

    pub demand_3_unmoved_whole : (a : Arena) (f : Further) → Passes a f → (fs : List Further) →
        Unmoved limit top (replied a f).arena (map (λ (g : Further). record { call = CompressCanonical g.reset; hands = g.where_from }) fs) (link_count a)
    demand_3_unmoved_whole a f p = d.unmoved a (replied a f).arena (replied a f).back (compressed_whole a f p)

-- ---- every call, walks, drains

pub unchanged_whole : (a : Arena) (l : List ℕ) (r : Reply) → Unchanged a l r → (Accepted r → ⊥) → (r.arena ≡ a) × (r.back ≡ l)
unchanged_whole a l r u refused = (u.arena refused, u.back refused)

pub one_command_whole : (a : Arena) (r : Reply) → OneCommand a r → AnswerWord r.number × ((Accepted r → ⊥) → r.arena ≡ a)
one_command_whole a r o = (o.answer, o.refused)

pub walk_order_whole : (a : Arena) (o : ℕ) (ss : List ℕ) (w : WalkOrder a o ss) → IsChain a w.kind (w.before ++ o ∷ w.after) × (w.kind ≡ closed → w.before ≡ []) × (ss ≡ o ∷ w.after ++ reverse w.before)
walk_order_whole a o ss w = (w.chain, w.round, w.order)

pub walks_whole : (a : Arena) (o : ℕ) (ss : List ℕ) → Walks a o ss →
    WalkOrder a o ss
    × ((s : ℕ) → 1 ≤ count s ss → is_link a s ≡ true)
    × ((s : ℕ) → count s ss ≤ 1)
    × ((steps : ℕ) → length ss ≤ steps → walked a steps (start_at a o) ≡ ss)
walks_whole a o ss w = (w.order, w.links, w.once, w.then_none)

pub untouched_whole : (a b : Arena) (s : ℕ) → Untouched a b s →
    (is_link b s ≡ true)
    × (at b.prev s ≡ at a.prev s)
    × (at b.next s ≡ at a.next s)
    × (at b.generation s ≡ at a.generation s)
    × (at b.payload s ≡ at a.payload s)
untouched_whole a b s u = (u.link, u.prev, u.next, u.generation, u.payload)

pub drains_chain_whole : (limit top : ℕ) (a : Arena) (o : ℕ) (ss report : List ℕ) (r : Reply) → DrainsChain limit top a o ss report r →
    (r.number ≡ 0)
    × WellFormed limit r.arena
    × ((c : Chain) → IsChain a c.kind c.members → 1 ≤ count o c.members → (s : ℕ) → count s ss ≡ count s c.members)
    × ((s : ℕ) → count s ss ≤ 1)
    × ((s : ℕ) → 1 ≤ count s ss → is_link r.arena s ≡ false)
    × ((s : ℕ) → is_link a s ≡ true → count s ss ≡ 0 → Untouched a r.arena s)
    × ((s : ℕ) → is_link r.arena s ≡ true → is_link a s ≡ true)
    × WalkOrder a o ss
    × (get_or r.fields 0 0 ≡ length ss)
    × (item_slots (length ss) r.back ≡ ss)
    × ((k : ℕ) → k < length ss → get_or r.back (5 * k + 1) 0 ≡ at a.generation (get_or ss k 0))
    × ((k : ℕ) → k < length ss → get_or r.back (5 * k + 4) 0 ≡ at a.payload (get_or ss k 0))
    × (drop (5 * length ss) r.back ≡ drop (5 * length ss) report)
    × ((k : ℕ) → k < length ss → overflows_at top a ss k ≡ true → get_or r.fields 1 0 ≡ suc k)
    × (((k : ℕ) → k < length ss → overflows_at top a ss k ≡ false) → get_or r.fields 1 0 ≡ 0)
drains_chain_whole limit top a o ss report r d = (
  d.done,
  d.kept,
  d.exactly,
  d.once,
  d.removed,
  d.others,
  d.none_new,
  d.order,
  d.items,
  d.listed,
  d.generations,
  d.payloads,
  d.rest,
  d.overflow,
  d.no_overflow,
)

-- ---- insertion

pub insert_places_whole : (a b : Arena) (kind : InsertKind) (t x : ℕ) → InsertPlaces a b kind t x →
    ((d : Chain) × Makes a t kind d)
    × ((d : Chain) → Makes a t kind d → IsChain b d.kind d.members)
    × ((c : Chain) → IsChain a c.kind c.members → Apart kind c → IsChain b c.kind c.members)
    × ((c : Chain) → IsChain b c.kind c.members → ((d : Chain) × Makes a t kind d × Alike d c) ⊎ (IsChain a c.kind c.members × Apart kind c))
    × ((s : ℕ) → is_link a s ≡ true → is_link b s ≡ true)
    × ((s : ℕ) → is_link a s ≡ true → at b.generation s ≡ at a.generation s)
    × ((s : ℕ) → is_link a s ≡ true → at b.payload s ≡ at a.payload s)
    × (is_link a t ≡ false)
    × (is_link b t ≡ true)
    × ((s : ℕ) → is_link b s ≡ true → (s ≡ t → ⊥) → is_link a s ≡ true)
    × (at b.generation t ≡ current a)
    × (at b.payload t ≡ x)
insert_places_whole a b kind t x p = (p.made, p.makes, p.stay, p.all, p.links, p.generations, p.payloads, p.fresh, p.new, p.only, p.generation, p.payload)

-- ---- what goes with 11

-- each neighbour of a slot is none, or a link that names the slot back
abbrev Prev : Arena → ℕ → Type 0
Prev a x = (at a.prev x ≡ 0 → ⊥) → (is_link a (at a.prev x) ≡ true) × (at a.next (at a.prev x) ≡ x)

abbrev Next : Arena → ℕ → Type 0
Next a x = (at a.next x ≡ 0 → ⊥) → (is_link a (at a.next x) ≡ true) × (at a.prev (at a.next x) ≡ x)

pub lowest_broken_whole : (a : Arena) (slot side : ℕ) → LowestBroken a slot side →
    (is_link a slot ≡ true)
    × ((side ≡ 1) ⊎ (side ≡ 2))
    × (side ≡ 1 → Prev a slot → ⊥)
    × (side ≡ 2 → Prev a slot)
    × (side ≡ 2 → Next a slot → ⊥)
    × ((x : ℕ) → x < slot → is_link a x ≡ true → Prev a x)
    × ((x : ℕ) → x < slot → is_link a x ≡ true → Next a x)
lowest_broken_whole a slot side l = (l.link, l.sides, l.prev, λ e. (l.next e).0, λ e. (l.next e).1, λ x h i. (l.lower x h i).0, λ x h i. (l.lower x h i).1)

pub names_lowest_whole : (a : Arena) (r : Reply) → NamesLowest a r →
    (r.number ≡ 11 → LowestBroken a r.broken r.side)
    × ((r.number ≡ 11 → ⊥) → r.broken ≡ 0)
    × ((r.number ≡ 11 → ⊥) → r.side ≡ 0)
names_lowest_whole a r n = (n.eleven, λ d. (n.other d).0, λ d. (n.other d).1)
