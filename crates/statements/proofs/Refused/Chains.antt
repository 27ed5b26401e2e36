-- The words in which canonical compression is told: chains, rotations, listings, renamings, pieces, pairings. For each field a wrong list, arena or column that it
-- alone refuses, or what it gives at a small arena.
use Prim.Native.Nat.{ℕ, zero, suc, ◌<◌}
use mathlib.Core.Path.{◌≡◌, refl, sym, ap, subst, ◌∙◌}
use mathlib.Core.Logic.{inl, inr}
use mathlib.Core.Bool.{true, true≢false}
use mathlib.Core.List.{List, [], ◌∷◌, ◌++◌, map}
use native.Mathlib.Omega.{arith}
use lib.ListN.{length, length-append, get_or}
use Rattle.definitions.specs.Columns.{at, first_or, last_or, slots_from, Linked}
use Rattle.definitions.specs.Arena.{Arena, arena, is_link, allocated}
use Rattle.statements.specs.Chains.{Kind, opened, closed, IsOpen, IsClosed, Chain, IsChain, Rotation, Like, Alike, nth, Listing, OnOneChain, Renaming, extended, cut, marked, pieces, replaced, Paired, HoldTheSame}
use Rattle.definitions.proofs.Slots.{count_nil, count_here, allocated_some, allocated_within}
use Rattle.definitions.proofs.Count.{In, in_here, in_there, in_only, in_cases}

-- one slot with these words, in a stack of one
abbrev pub one : ℕ → ℕ → ℕ → ℕ → Arena
one before after generation payload = arena (before ∷ []) (after ∷ []) (generation ∷ []) (payload ∷ []) (1 ∷ 1 ∷ 0 ∷ 5 ∷ [])

-- a lone link, a link closed alone, and the open chain of two links, 1 and 2
abbrev pub lone : Arena
lone = one 0 0 5 7

abbrev pub ring : Arena
ring = one 1 1 5 7

abbrev pub pair : Arena
pair = arena (0 ∷ 1 ∷ []) (2 ∷ 0 ∷ []) (5 ∷ 5 ∷ []) (7 ∷ 8 ∷ []) (2 ∷ 2 ∷ 0 ∷ 5 ∷ [])

abbrev pub open_of : List ℕ → Chain
open_of c = record { kind = opened; members = c }

abbrev pub closed_of : List ℕ → Chain
closed_of c = record { kind = closed; members = c }

-- ---- open and closed chains

pub is_open_some_refused : IsOpen lone [] → ⊥
is_open_some_refused o = o.some refl

-- a free slot
pub is_open_links_refused : IsOpen (one 0 0 0 0) (1 ∷ []) → ⊥
unfolding allocated at
is_open_links_refused o = true≢false (sym (o.links 1 (in_here 1 [])))

-- a chain without its first link, and without its last one
pub is_open_starts_refused : IsOpen pair (2 ∷ []) → ⊥
unfolding first_or at
is_open_starts_refused o = omega (arith, o.starts)

pub is_open_linked_refused : IsOpen pair (1 ∷ []) → ⊥
unfolding Linked first_or at
is_open_linked_refused o = omega (arith, o.linked.0)

pub is_closed_some_refused : IsClosed lone [] → ⊥
is_closed_some_refused c = c.some refl

-- a free slot that points at itself
pub is_closed_links_refused : IsClosed (one 0 1 0 0) (1 ∷ []) → ⊥
unfolding allocated at
is_closed_links_refused c = true≢false (sym (c.links 1 (in_here 1 [])))

-- a chain that is gone round twice
pub is_closed_once_refused : IsClosed ring (1 ∷ 1 ∷ []) → ⊥
is_closed_once_refused c = omega (arith, c.once 1, count_here 1 (1 ∷ []), count_here 1 [])

pub is_closed_linked_refused : IsClosed lone (1 ∷ []) → ⊥
unfolding Linked first_or at
is_closed_linked_refused c = omega (arith, c.linked.0)

-- the kinds are told apart
pub is_chain_closed_refused : IsChain lone closed (1 ∷ []) → ⊥
unfolding IsChain
is_chain_closed_refused c = is_closed_linked_refused c

pub is_chain_opened_refused : IsChain ring opened (1 ∷ []) → ⊥
unfolding IsChain first_or at
is_chain_opened_refused c = omega (arith, c.starts)

pub lone_is_open : IsOpen lone (1 ∷ [])
unfolding Linked first_or at allocated
lone_is_open = record { some = λ e. omega (arith, ap length e); links = λ s i. rw (in_only s 1 i) refl; starts = refl; linked = (refl, tt) }

-- ---- the same chain

pub rotation_turned : Rotation (1 ∷ 2 ∷ 3 ∷ []) (3 ∷ 1 ∷ 2 ∷ [])
unfolding Rotation
rotation_turned = (1 ∷ 2 ∷ [], 3 ∷ [], refl, refl)

-- a chain that is turned round is another chain
pub rotation_reversed_refused : Rotation (1 ∷ 2 ∷ 3 ∷ []) (3 ∷ 2 ∷ 1 ∷ []) → ⊥
unfolding Rotation
rotation_reversed_refused r = go r.0 r.1 r.2 r.3
  where
    place : (k : ℕ) {xs ys : List ℕ} → xs ≡ ys → get_or xs k 0 ≡ get_or ys k 0
    place k e = ap (λ (l : List ℕ). get_or l k 0) e

    go : (u v : List ℕ) → 1 ∷ 2 ∷ 3 ∷ [] ≡ u ++ v → 3 ∷ 2 ∷ 1 ∷ [] ≡ v ++ u → ⊥
    go [] [] e f = omega (arith, ap length e)
    go [] (x ∷ v) e f = omega (arith, place 0 e, place 0 f)
    go (x ∷ []) [] e f = omega (arith, ap length e)
    go (x ∷ []) (y ∷ v) e f = omega (arith, place 1 e, place 0 f)
    go (x ∷ y ∷ u) [] e f = omega (arith, place 0 e, place 0 f)
    go (x ∷ y ∷ u) (z ∷ []) e f = omega (arith, place 0 e, place 1 f)
    go (x ∷ y ∷ u) (z ∷ w ∷ v) e f = omega (arith, ap length e, length-append u (z ∷ w ∷ v))

-- open chains are not turned, closed ones may be
pub like_opened_refused : Like opened (1 ∷ 2 ∷ []) (2 ∷ 1 ∷ []) → ⊥
unfolding Like
like_opened_refused l = omega (arith, ap (λ (c : List ℕ). get_or c 0 0) l)

pub like_closed_refused : Like closed (1 ∷ 2 ∷ 3 ∷ []) (3 ∷ 2 ∷ 1 ∷ []) → ⊥
unfolding Like
like_closed_refused l = rotation_reversed_refused l

unfoldable pub kind_number : Kind → ℕ
kind_number opened = 0
kind_number closed = 1

pub alike_kind_refused : Alike (open_of (1 ∷ [])) (closed_of (1 ∷ [])) → ⊥
unfolding Alike kind_number
alike_kind_refused l = omega (arith, ap kind_number l.0)

pub alike_members_refused : Alike (open_of (1 ∷ [])) (open_of (2 ∷ [])) → ⊥
unfolding Alike Like
alike_members_refused l = omega (arith, ap (λ (c : List ℕ). get_or c 0 0) l.1)

-- ---- listings

alike_lone : Alike (open_of (1 ∷ [])) (open_of (1 ∷ []))
unfolding Alike Like
alike_lone = (refl, refl)

-- an entry that is no chain
pub listing_are_refused : Listing lone (open_of (1 ∷ []) ∷ open_of (2 ∷ []) ∷ []) → ⊥
unfolding nth IsChain allocated
listing_are_refused l = true≢false (sym ((l.are 1 (omega arith)).links 2 (in_here 2 [])))

-- a chain is left out
pub listing_all_refused : Listing lone [] → ⊥
unfolding IsChain
listing_all_refused l = omega (arith, (l.all (open_of (1 ∷ [])) lone_is_open).1)

-- a chain stands there twice
pub listing_one_refused : Listing lone (open_of (1 ∷ []) ∷ open_of (1 ∷ []) ∷ []) → ⊥
unfolding IsChain nth
listing_one_refused l = omega (arith, l.one (open_of (1 ∷ [])) lone_is_open 0 1 (omega arith) (omega arith) alike_lone alike_lone)

-- ---- the chain of a link

pub pair_is_open : IsOpen pair (1 ∷ 2 ∷ [])
unfolding Linked first_or at allocated
pair_is_open = record {
  some = λ e. omega (arith, ap length e);
  links = λ s i. elim (in_cases s 1 (2 ∷ []) i) [ inl e ↦ rw e refl | inr j ↦ rw (in_only s 2 j) refl ];
  starts = refl;
  linked = (refl, (refl, tt));
}

-- the chain that 2 is on is 1, 2 and no other
pub on_one_chain_only : (o : OnOneChain pair 2) → o.chain.members ≡ 1 ∷ 2 ∷ []
unfolding IsChain Alike Like
on_one_chain_only o =
    let same : Alike o.chain (open_of (1 ∷ 2 ∷ [])) = o.only (open_of (1 ∷ 2 ∷ [])) pair_is_open (in_there 2 1 (2 ∷ []) (in_here 2 [])) in
    subst (λ (k : Kind). Like k o.chain.members (1 ∷ 2 ∷ [])) same.0 same.1

-- a slot that is no link is on none
chain_links : (a : Arena) (k : Kind) (c : List ℕ) → IsChain a k c → (s : ℕ) → In s c → is_link a s ≡ true
unfolding IsChain
chain_links a opened c h = h.links
chain_links a closed c h = h.links

pub on_one_chain_is_and_on_refused : OnOneChain lone 2 → ⊥
unfolding allocated
on_one_chain_is_and_on_refused o = true≢false (sym (chain_links lone o.chain.kind o.chain.members o.is 2 o.on))

-- ---- renamings of one link

-- a where-from column that is too long
pub renaming_size_refused : Renaming lone lone (1 ∷ []) 0 → ⊥
renaming_size_refused r = omega (arith, r.size)

-- a link is lost, and a link comes twice
pub renaming_each_refused : Renaming lone (arena [] [] [] [] (0 ∷ 0 ∷ 0 ∷ 5 ∷ [])) [] 0 → ⊥
unfolding allocated at
renaming_each_refused r = omega (arith, r.each 1 refl, count_nil 1)

pub renaming_each_twice_refused : Renaming lone (arena (0 ∷ 0 ∷ []) (0 ∷ 0 ∷ []) (6 ∷ 6 ∷ []) (7 ∷ 7 ∷ []) (2 ∷ 2 ∷ 0 ∷ 6 ∷ [])) (1 ∷ 1 ∷ []) 2 → ⊥
unfolding allocated at
renaming_each_twice_refused r = omega (arith, r.each 1 refl, count_here 1 (1 ∷ []), count_here 1 [])

-- a link comes from a slot that was none
pub renaming_only_refused : Renaming lone (arena (0 ∷ 0 ∷ []) (0 ∷ 0 ∷ []) (6 ∷ 6 ∷ []) (7 ∷ 0 ∷ []) (2 ∷ 2 ∷ 0 ∷ 6 ∷ [])) (1 ∷ 2 ∷ []) 2 → ⊥
unfolding allocated
renaming_only_refused r = true≢false (sym (r.only 2 (in_there 2 1 (2 ∷ []) (in_here 2 []))))

pub renaming_payload_refused : Renaming lone (one 0 0 6 8) (1 ∷ []) 1 → ⊥
unfolding at
renaming_payload_refused r = omega (arith, r.payload 1 (omega arith) (omega arith))

-- a neighbour above the links, and one that was none
pub renaming_prev_within_refused : Renaming lone (one 2 0 6 7) (1 ∷ []) 1 → ⊥
unfolding at
renaming_prev_within_refused r = omega (arith, (r.prev 1 (omega arith) (omega arith)).0)

pub renaming_prev_refused : Renaming lone (one 1 0 6 7) (1 ∷ []) 1 → ⊥
unfolding at
renaming_prev_refused r = omega (arith, (r.prev 1 (omega arith) (omega arith)).1)

pub renaming_next_within_refused : Renaming lone (one 0 2 6 7) (1 ∷ []) 1 → ⊥
unfolding at
renaming_next_within_refused r = omega (arith, (r.next 1 (omega arith) (omega arith)).0)

pub renaming_next_refused : Renaming lone (one 0 1 6 7) (1 ∷ []) 1 → ⊥
unfolding at
renaming_next_refused r = omega (arith, (r.next 1 (omega arith) (omega arith)).1)

-- ---- pieces and chains of payloads, computed: an open piece, a closed one of two links, one of a link closed alone, and a lone link

pub pieces_computed : pieces (at (2 ∷ 0 ∷ 4 ∷ 3 ∷ 5 ∷ 0 ∷ [])) 6 ≡ open_of (1 ∷ 2 ∷ []) ∷ closed_of (3 ∷ 4 ∷ []) ∷ closed_of (5 ∷ []) ∷ open_of (6 ∷ []) ∷ []
unfolding pieces cut extended marked at slots_from first_or last_or
pieces_computed = refl

pub replaced_computed : map (replaced (at (7 ∷ 8 ∷ 9 ∷ []))) (closed_of (3 ∷ 1 ∷ []) ∷ open_of (2 ∷ []) ∷ []) ≡ closed_of (9 ∷ 7 ∷ []) ∷ open_of (8 ∷ []) ∷ []
unfolding replaced at
replaced_computed = refl

-- ---- pairings

pub paired_size_refused : (R : Chain → Chain → Type 0) → Paired R [] (open_of [] ∷ []) → ⊥
paired_size_refused R p = omega (arith, p.size)

-- one chain is paired with one chain, and is like it
pub paired_within_and_like : (R : Chain → Chain → Type 0) (c d : Chain) → Paired R (c ∷ []) (d ∷ []) → R c d
unfolding nth
paired_within_and_like R c d p =
    let first : p.to 0 ≡ 0 = omega (arith, p.within 0 (omega arith)) in
    subst (λ (k : ℕ). R c (nth (d ∷ []) k)) first (p.like 0 (omega arith))

-- the same chain twice is not paired with it and another one: each as often
pub paired_once_refused : Paired Alike (open_of (1 ∷ []) ∷ open_of (1 ∷ []) ∷ []) (open_of (1 ∷ []) ∷ open_of (2 ∷ []) ∷ []) → ⊥
unfolding nth
paired_once_refused p = omega (arith, p.once 0 1 (omega arith) (omega arith) (first 0 (omega arith) (p.like 0 (omega arith)) ∙ sym (first 1 (omega arith) (p.like 1 (omega arith)))))
  where
    is_first : (k : ℕ) → k < 2 → Alike (open_of (1 ∷ [])) (nth (open_of (1 ∷ []) ∷ open_of (2 ∷ []) ∷ []) k) → k ≡ 0
    is_first zero h l = refl
    is_first (suc zero) h l = absurd (alike_members_refused l)
    is_first (suc (suc k)) h l = absurd (omega arith)

    first : (k : ℕ) → k < 2 → Alike (open_of (1 ∷ [])) (nth (open_of (1 ∷ []) ∷ open_of (2 ∷ []) ∷ []) (p.to k)) → p.to k ≡ 0
    first k h l = is_first (p.to k) (p.within k h) l

-- ---- arenas that do not hold the same: a lone link of payload 7, and one of payload 8

only_link : (s : ℕ) → allocated (5 ∷ []) 1 s ≡ true → s ≡ 1
only_link s e = omega (arith, allocated_some (5 ∷ []) 1 s e, allocated_within (5 ∷ []) 1 s e)

-- a chain of an arena with one lone link is that link
alone : (x : ℕ) (c : List ℕ) (z : ℕ) → ((s : ℕ) → In s (x ∷ c) → s ≡ 1) → at (0 ∷ []) x ≡ first_or z c → x ∷ c ≡ 1 ∷ []
unfolding first_or at
alone x [] z members e = rw (members x (in_here x [])) refl
alone x (y ∷ c) z members e = absurd (omega (arith, sym e ∙ ap (at (0 ∷ [])) (members x (in_here x (y ∷ c))), members y (in_there y x (y ∷ c) (in_here y c))))

lone_chain : (v : ℕ) (k : Kind) (c : List ℕ) → IsChain (one 0 0 5 v) k c → c ≡ 1 ∷ []
unfolding IsChain Linked
lone_chain v opened [] h = absurd (h.some refl)
lone_chain v closed [] h = absurd (h.some refl)
lone_chain v opened (x ∷ c) h = alone x c 0 (λ s i. only_link s (h.links s i)) h.linked.0
lone_chain v closed (x ∷ c) h = alone x c (first_or 0 (x ∷ c)) (λ s i. only_link s (h.links s i)) h.linked.0

pub hold_the_same_refused : HoldTheSame lone (one 0 0 5 8) → ⊥
unfolding IsChain Alike Like replaced at
hold_the_same_refused h =
    let found = h.all_a.all (open_of (1 ∷ [])) lone_is_open in
    let c = nth h.of_a found.0 in
    let d = nth h.of_b (h.paired.to found.0) in
    let in_a : c.members ≡ 1 ∷ [] = lone_chain 7 c.kind c.members (h.all_a.are found.0 found.1) in
    let in_b : d.members ≡ 1 ∷ [] = lone_chain 8 d.kind d.members (h.all_b.are (h.paired.to found.0) (h.paired.within found.0 found.1)) in
    let like = h.paired.like found.0 found.1 in
    let same = subst (λ (k : Kind). Like k (map (at (7 ∷ [])) c.members) (map (at (8 ∷ [])) d.members)) found.2.0 like.1 in
    omega (arith, ap (λ (l : List ℕ). get_or l 0 0) (sym (ap (map (at (7 ∷ []))) in_a) ∙ same ∙ ap (map (at (8 ∷ []))) in_b))
