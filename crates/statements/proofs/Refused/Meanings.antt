-- What each definition of specs/ means, in full and without its name: a definition that means something else, or means it for short lists or small arenas only, is
-- refused although the small arenas of the other files do not show it.
use Prim.Native.Nat.{ℕ, suc, ◌≤◌}
use mathlib.Core.Path.{◌≡◌, refl}
use mathlib.Core.Logic.{◌⊎◌, ◌↔◌}
use mathlib.Core.Bool.{true, cond}
use mathlib.Core.List.{List, [], ◌∷◌, ◌++◌, map}
use lib.ListN.{take}
use lib.Dec.{eqb}
use Rattle.definitions.specs.Columns.{at, count, first_or, last_or, slots_from}
use Rattle.definitions.specs.Arena.{Arena, current, is_link}
use Rattle.definitions.specs.Edit.{overflows}
use Rattle.definitions.specs.Remove.{removed_all}
use Rattle.definitions.specs.Insert.{Named, slot_of, is_there, Disconnected, SingleLinkCyclic, ChainEnd, ChainStart, NextTo, PrevTo, AtInterlink, Bridge}
use Rattle.definitions.specs.Reply.{Reply}
use Rattle.definitions.specs.Walk.{Walk, step}
use Rattle.definitions.specs.Calls.{CompressCanonical, reply_to}
use Rattle.statements.specs.Chains.{Kind, opened, closed, Some, OfLinks, IsOpen, IsClosed, Chain, IsChain, Rotation, Like, Alike, nth, extended, cut, marked, pieces, replaced}
use Rattle.statements.specs.Demand3.{Accepted, Every, Further, made, compress}
use Rattle.statements.specs.Answers.{answers}
use Rattle.statements.specs.BrokenSlot.{PrevFine, NextFine}
use Rattle.statements.specs.DrainsChain.{overflows_at}
use Rattle.statements.specs.InsertPlaces.{chain, following, Makes, AllThere, Apart}

abbrev Same : Type 0 → Type 0 → Type 0
Same A B = A ↔ B

itself : {A : Type 0} → Same A A
itself = (λ h. h, λ h. h)

-- ---- chains

pub some_whole : (c : List ℕ) → Same (Some c) (c ≡ [] → ⊥)
some_whole c = itself

pub of_links_whole : (a : Arena) (c : List ℕ) → Same (OfLinks a c) ((s : ℕ) → 1 ≤ count s c → is_link a s ≡ true)
of_links_whole a c = itself

pub is_chain_whole : (a : Arena) (c : List ℕ) → Same (IsChain a opened c) (IsOpen a c) × Same (IsChain a closed c) (IsClosed a c)
unfolding IsChain
is_chain_whole a c = (itself, itself)

pub rotation_whole : (c d : List ℕ) → Same (Rotation c d) ((u : List ℕ) × (v : List ℕ) × (c ≡ u ++ v) × (d ≡ v ++ u))
unfolding Rotation
rotation_whole c d = itself

pub like_whole : (c d : List ℕ) → Same (Like opened c d) (c ≡ d) × Same (Like closed c d) (Rotation c d)
unfolding Like
like_whole c d = (itself, itself)

pub alike_whole : (c d : Chain) → Same (Alike c d) ((c.kind ≡ d.kind) × Like c.kind c.members d.members)
unfolding Alike
alike_whole c d = itself

pub nth_whole : (c : Chain) (cs : List Chain) (k : ℕ) → (nth (c ∷ cs) 0 ≡ c) × (nth (c ∷ cs) (suc k) ≡ nth cs k)
unfolding nth
nth_whole c cs k = (refl, refl)

-- ---- pieces

pub extended_whole : (s : ℕ) (p : List ℕ) (ps : List (List ℕ)) → (extended s [] ≡ (s ∷ []) ∷ []) × (extended s (p ∷ ps) ≡ (s ∷ p) ∷ ps)
unfolding extended
extended_whole s p ps = (refl, refl)

pub cut_whole : (next : ℕ → ℕ) (s : ℕ) (ss : List ℕ) →
    (cut next [] ≡ []) × (cut next (s ∷ ss) ≡ cond (eqb (next s) (suc s)) (extended s (cut next ss)) ((s ∷ []) ∷ cut next ss))
unfolding cut
cut_whole next s ss = (refl, refl)

pub marked_whole : (next : ℕ → ℕ) (p : List ℕ) → ((marked next p).kind ≡ cond (eqb (next (last_or 0 p)) (first_or 0 p)) closed opened) × ((marked next p).members ≡ p)
unfolding marked
marked_whole next p = (refl, refl)

pub pieces_whole : (next : ℕ → ℕ) (n : ℕ) → pieces next n ≡ map (marked next) (cut next (slots_from 1 n))
unfolding pieces
pieces_whole next n = refl

pub replaced_whole : (f : ℕ → ℕ) (c : Chain) → ((replaced f c).kind ≡ c.kind) × ((replaced f c).members ≡ map f c.members)
unfolding replaced
replaced_whole f c = (refl, refl)

-- ---- calls, walks, drains

pub accepted_whole : (r : Reply) → Same (Accepted r) ((r.number ≡ 0) ⊎ (r.number ≡ 100))
accepted_whole r = itself

pub every_whole : (Q : Reply → Type 0) (r : Reply) (rs : List Reply) → Same (Every Q []) (Unit {0}) × Same (Every Q (r ∷ rs)) (Q r × Every Q rs)
unfolding Every
every_whole Q r rs = (itself, itself)

pub made_whole : (f : Further) → ((made f).call ≡ CompressCanonical f.reset) × ((made f).hands ≡ f.where_from)
made_whole f = (refl, refl)

pub compress_whole : (limit top : ℕ) (f : Further) (a : Arena) → compress limit top f a ≡ reply_to limit top (CompressCanonical f.reset) a f.where_from
compress_whole limit top f a = refl

pub answers_whole : (a : Arena) (k : ℕ) (w : Walk) → (answers a 0 w ≡ []) × (answers a (suc k) w ≡ (step a w).answer.slot ∷ answers a k (step a w).state)
unfolding answers
answers_whole a k w = (refl, refl)

pub overflows_at_whole : (top : ℕ) (a : Arena) (ss : List ℕ) (k : ℕ) → overflows_at top a ss k ≡ overflows top (current (removed_all top a (take k ss)))
unfolding overflows_at
overflows_at_whole top a ss k = refl

-- ---- insertion: the chain that each kind makes, and the chains that it leaves alone

pub chain_whole : (k : Kind) (c : List ℕ) → ((chain k c).kind ≡ k) × ((chain k c).members ≡ c)
chain_whole k c = (refl, refl)

pub following_whole : (c e : List ℕ) → (following opened c e ≡ first_or 0 e) × (following closed c e ≡ first_or (first_or 0 c) e)
unfolding following
following_whole c e = (refl, refl)

pub makes_whole : (a : Arena) (t : ℕ) (p q : Named) (d : Chain) →
    Same (Makes a t Disconnected d) (d ≡ chain opened (t ∷ []))
    × Same (Makes a t SingleLinkCyclic d) (d ≡ chain closed (t ∷ []))
    × Same (Makes a t (ChainEnd p) d) ((c : List ℕ) × IsOpen a (c ++ slot_of p ∷ []) × (d ≡ chain opened (c ++ slot_of p ∷ t ∷ [])))
    × Same (Makes a t (ChainStart p) d) ((c : List ℕ) × IsOpen a (slot_of p ∷ c) × (d ≡ chain opened (t ∷ slot_of p ∷ c)))
    × Same (Makes a t (NextTo p) d) ((k : Kind) × (c : List ℕ) × (e : List ℕ) × IsChain a k (c ++ slot_of p ∷ e) × (d ≡ chain k (c ++ slot_of p ∷ t ∷ e)))
    × Same (Makes a t (PrevTo p) d) ((k : Kind) × (c : List ℕ) × (e : List ℕ) × IsChain a k (c ++ slot_of p ∷ e) × (d ≡ chain k (c ++ t ∷ slot_of p ∷ e)))
    × Same (Makes a t (AtInterlink p q) d)
    ((k : Kind) × (c : List ℕ) × (e : List ℕ) × IsChain a k (c ++ slot_of p ∷ e) × (following k (c ++ slot_of p ∷ []) e ≡ slot_of q) × (d ≡ chain k (c ++ slot_of p ∷ t ∷ e)))
    × Same (Makes a t (Bridge p q) d)
    (((c : List ℕ) × (e : List ℕ) × IsOpen a (c ++ slot_of p ∷ []) × IsOpen a (slot_of q ∷ e) × ((c ++ slot_of p ∷ [] ≡ slot_of q ∷ e) → ⊥) × (d ≡ chain opened (c ++ slot_of p ∷ t ∷ slot_of q ∷ e)))
    ⊎ ((c : List ℕ) × IsOpen a c × (first_or 0 c ≡ slot_of q) × (last_or 0 c ≡ slot_of p) × (d ≡ chain closed (c ++ t ∷ []))))
unfolding Makes
makes_whole a t p q d = (itself, itself, itself, itself, itself, itself, itself, itself)

pub all_there_whole : (a : Arena) (p q : Named) →
    Same (AllThere a Disconnected) (Unit {0})
    × Same (AllThere a SingleLinkCyclic) (Unit {0})
    × Same (AllThere a (ChainEnd p)) (is_there a p ≡ true)
    × Same (AllThere a (ChainStart p)) (is_there a p ≡ true)
    × Same (AllThere a (NextTo p)) (is_there a p ≡ true)
    × Same (AllThere a (PrevTo p)) (is_there a p ≡ true)
    × Same (AllThere a (AtInterlink p q)) ((is_there a p ≡ true) × (is_there a q ≡ true))
    × Same (AllThere a (Bridge p q)) ((is_there a p ≡ true) × (is_there a q ≡ true))
unfolding AllThere
all_there_whole a p q = (itself, itself, itself, itself, itself, itself, itself, itself)

pub apart_whole : (p q : Named) (c : Chain) →
    Same (Apart Disconnected c) (Unit {0})
    × Same (Apart SingleLinkCyclic c) (Unit {0})
    × Same (Apart (ChainEnd p) c) (count (slot_of p) c.members ≡ 0)
    × Same (Apart (ChainStart p) c) (count (slot_of p) c.members ≡ 0)
    × Same (Apart (NextTo p) c) (count (slot_of p) c.members ≡ 0)
    × Same (Apart (PrevTo p) c) (count (slot_of p) c.members ≡ 0)
    × Same (Apart (AtInterlink p q) c) ((count (slot_of p) c.members ≡ 0) × (count (slot_of q) c.members ≡ 0))
    × Same (Apart (Bridge p q) c) ((count (slot_of p) c.members ≡ 0) × (count (slot_of q) c.members ≡ 0))
unfolding Apart
apart_whole p q c = (itself, itself, itself, itself, itself, itself, itself, itself)

-- ---- rule 11 at a slot, on either side

pub prev_fine_whole : (a : Arena) (x : ℕ) → Same (PrevFine a x) ((at a.prev x ≡ 0 → ⊥) → (is_link a (at a.prev x) ≡ true) × (at a.next (at a.prev x) ≡ x))
prev_fine_whole a x = itself

pub next_fine_whole : (a : Arena) (x : ℕ) → Same (NextFine a x) ((at a.next x ≡ 0 → ⊥) → (is_link a (at a.next x) ≡ true) × (at a.prev (at a.next x) ≡ x))
next_fine_whole a x = itself
