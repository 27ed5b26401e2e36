-- Where an insertion puts the new link, kind by kind, in words of chains. Each kind is a pair of slots and one of the ways in which a chain grows
-- around a link between them. Assumes nothing.
use Prim.Native.Nat.{ℕ, ◌≤◌}
use mathlib.Core.Path.{◌≡◌, refl, sym, ap, ◌∙◌}
use mathlib.Core.Logic.{◌⊎◌, inl, inr}
use mathlib.Core.List.{List, [], ◌∷◌, ◌++◌}
use native.Mathlib.Omega.{arith}
use native.Mathlib.Decide.{dec_le}
use Rattle.definitions.specs.Columns.{at, count, first_or, last_or}
use Rattle.definitions.specs.Arena.{Arena}
use Rattle.statements.specs.Chains.{Kind, opened, closed, IsOpen, Chain, IsChain, Like, Alike}
use Rattle.definitions.proofs.Count.{In, in_here, in_there, in_right, none_of}
use Rattle.definitions.proofs.Linked.{first_append, last_append, linked_split}
use Rattle.chains.proofs.Runs.{linked_first}
use Rattle.chains.proofs.Links.{Link, DoublyLinked, link_nonzero}
use Rattle.chains.proofs.OneChain.{chain_run, chain_links, run_next, run_prev, one_chain}
use Rattle.definitions.specs.Insert.{Named, slot_of, InsertKind, Disconnected, SingleLinkCyclic, ChainEnd, ChainStart, NextTo, PrevTo, AtInterlink, Bridge}
use Rattle.statements.specs.InsertPlaces.{chain, following, Makes, Apart}
use Rattle.kept.proofs.PutIn.{PutIn, off_new, Fits}
use Rattle.insertion.proofs.Chains.{on_chain, end_chain, start_chain}
use Rattle.insertion.proofs.Grown.{stays_chain, was_chain, behind, alone, alone_closed, in_front, before, joins, closes}

-- the new link is on the chain that the kind makes
has_new : (a : Arena) (t : ℕ) (k : InsertKind) (d : Chain) → Makes a t k d → In t d.members
unfolding Makes
has_new a t Disconnected d m = rw m (in_here t [])
has_new a t SingleLinkCyclic d m = rw m (in_here t [])
has_new a t (ChainEnd p) d m = rw m.2 (in_right t m.0 _ (in_there t _ _ (in_here t _)))
has_new a t (ChainStart p) d m = rw m.2 (in_here t _)
has_new a t (NextTo p) d m = rw m.4 (in_right t m.1 _ (in_there t _ _ (in_here t _)))
has_new a t (PrevTo p) d m = rw m.4 (in_right t m.1 _ (in_here t _))
has_new a t (AtInterlink p q) d m = rw m.5 (in_right t m.1 _ (in_there t _ _ (in_here t _)))
has_new a t (Bridge p q) d (inl m) = rw m.5 (in_right t m.0 _ (in_there t _ _ (in_here t _)))
has_new a t (Bridge p q) d (inr m) = rw m.4 (in_right t m.0 _ (in_here t _))

-- ---- the kind makes a chain

-- what comes after a link in its chain is its next
pub follows_in : (a : Arena) (k : Kind) (c : List ℕ) (s : ℕ) (e : List ℕ) → IsChain a k (c ++ s ∷ e) → following k (c ++ s ∷ []) e ≡ at a.next s
unfolding IsChain following
follows_in a opened c s e h = sym (linked_first (at a.next) s e 0 (linked_split (at a.next) c (s ∷ e) 0 h.linked).1)
follows_in a closed c s e h =
    let same : first_or 0 (c ++ s ∷ []) ≡ first_or 0 (c ++ s ∷ e) = unfold first_or in first_append 0 c (s ∷ []) ∙ sym (first_append 0 c (s ∷ e)) in
    ap (λ (z : ℕ). first_or z e) same ∙ sym (linked_first (at a.next) s e _ (linked_split (at a.next) c (s ∷ e) _ h.linked).1)

module _ (a : Arena) (la : DoublyLinked a) (t u v : ℕ) where
  bridges : (p q : Named) → (c : List ℕ) → IsOpen a (c ++ slot_of p ∷ []) → (e : List ℕ) → IsOpen a (slot_of q ∷ e) → (d : Chain) × Makes a t (Bridge p q) d
  unfolding Makes first_or IsChain Like last_or
  bridges p q c h e g = go (dec_le 1 (count (slot_of q) (c ++ slot_of p ∷ [])))
    where
      go : Dec (1 ≤ count (slot_of q) (c ++ slot_of p ∷ [])) → (d : Chain) × Makes a t (Bridge p q) d
      go (yes i) =
          let same = (one_chain a la opened opened (c ++ slot_of p ∷ []) (slot_of q ∷ e) h g (slot_of q) i (in_here (slot_of q) e)).1 in
          (chain closed ((c ++ slot_of p ∷ []) ++ t ∷ []), inr (c ++ slot_of p ∷ [], h, ap (first_or 0) same, last_append 0 c (slot_of p ∷ []), refl))
      go (no i) = (chain opened (c ++ slot_of p ∷ t ∷ slot_of q ∷ e), inl (c, e, h, g, λ same. i (rw same (in_here (slot_of q) e)), refl))

  pub makes_one : (k : InsertKind) → Fits a t k u v → (d : Chain) × Makes a t k d
  unfolding Makes Fits
  makes_one Disconnected f = (chain opened (t ∷ []), refl)
  makes_one SingleLinkCyclic f = (chain closed (t ∷ []), refl)
  makes_one (ChainEnd p) f = let c = end_chain a la (slot_of p) f.2 f.3 in (chain opened (c.0 ++ slot_of p ∷ t ∷ []), (c.0, c.1, refl))
  makes_one (ChainStart p) f = let c = start_chain a la (slot_of p) f.2 f.3 in (chain opened (t ∷ slot_of p ∷ c.0), (c.0, c.1, refl))
  makes_one (NextTo p) f = let c = on_chain a la (slot_of p) f.2 in (chain c.0 (c.1 ++ slot_of p ∷ t ∷ c.2), (c.0, c.1, c.2, c.3, refl))
  makes_one (PrevTo p) f = let c = on_chain a la (slot_of p) f.2 in (chain c.0 (c.1 ++ t ∷ slot_of p ∷ c.2), (c.0, c.1, c.2, c.3, refl))
  makes_one (AtInterlink p q) f =
      let c = on_chain a la (slot_of p) f.2 in
      (chain c.0 (c.1 ++ slot_of p ∷ t ∷ c.2), (c.0, c.1, c.2, c.3, follows_in a c.0 c.1 (slot_of p) c.2 c.3 ∙ f.4, refl))
  makes_one (Bridge p q) f =
      let c = end_chain a la (slot_of p) f.2 f.4 in
      let e = start_chain a la (slot_of q) f.3 f.5 in
      bridges p q c.0 c.1 e.0 e.1

-- ---- what it makes is a chain now

module _ (a b : Arena) (la : DoublyLinked a) (lb : DoublyLinked b) (t u v : ℕ) (put : PutIn a b t u v) where
  pub made_is : (k : InsertKind) → Fits a t k u v → (d : Chain) → Makes a t k d → IsChain b d.kind d.members
  unfolding Makes Fits IsChain
  made_is Disconnected f d m = rw m (alone a b la lb t u v put (sym f.0) (sym f.1))
  made_is SingleLinkCyclic f d m = rw m (alone_closed a b la lb t u v put (sym f.1))
  made_is (ChainEnd p) f d m =
      let here : PutIn a b t (slot_of p) 0 = rw (f.0, f.1) put in
      rw m.2 (behind a b la lb t (slot_of p) 0 here f.2 (sym f.3) opened m.0 [] m.1)
  made_is (ChainStart p) f d m =
      let here : PutIn a b t 0 (slot_of p) = rw (f.0, f.1) put in
      rw m.2 (in_front a b la lb t 0 (slot_of p) here refl m.0 m.1)
  made_is (NextTo p) f d m =
      let here : PutIn a b t (slot_of p) (at a.next (slot_of p)) = rw (f.1, f.0) put in
      rw m.4 (behind a b la lb t (slot_of p) _ here f.2 refl m.0 m.1 m.2 m.3)
  made_is (PrevTo p) f d m =
      let here : PutIn a b t (at a.prev (slot_of p)) (slot_of p) = rw (f.0, f.1) put in
      rw m.4 (before a b la lb t _ (slot_of p) here f.2 refl m.0 m.1 m.2 m.3)
  made_is (AtInterlink p q) f d m =
      let here : PutIn a b t (slot_of p) (slot_of q) = rw (f.0, f.1) put in
      rw m.5 (behind a b la lb t (slot_of p) (slot_of q) here f.2 (sym f.4) m.0 m.1 m.2 m.3)
  made_is (Bridge p q) f d (inl m) =
      let here : PutIn a b t (slot_of p) (slot_of q) = rw (f.0, f.1) put in
      rw m.5 (joins a b la lb t (slot_of p) (slot_of q) here f.2 f.3 m.0 m.1 m.2 m.3 m.4)
  made_is (Bridge p q) f d (inr m) =
      let here : PutIn a b t (slot_of p) (slot_of q) = rw (f.0, f.1) put in
      rw m.4 (closes a b la lb t (slot_of p) (slot_of q) here f.2 m.0 m.1 m.2 m.3)

  -- ---- chains that hold no link that the kind names are those that hold neither u nor v

  abbrev Off : Chain → Type 0
  Off c = (In u c.members → ⊥) × (In v c.members → ⊥)

  module _ (c : Chain) (h : IsChain a c.kind c.members) where
    not_zero : (s : ℕ) → 0 ≡ s → In s c.members → ⊥
    not_zero s z i = link_nonzero a s (chain_links a c.kind c.members h s i) (sym z)

    not_new : (s : ℕ) → t ≡ s → In s c.members → ⊥
    not_new s e i = off_new put s (chain_links a c.kind c.members h s i) (sym e)

    not_named : (n s : ℕ) → n ≡ s → count n c.members ≡ 0 → In s c.members → ⊥
    not_named n s e z i = omega (arith, rw (← e) at i)

    -- who is next to a link that is not there is not there
    not_next : (n s : ℕ) → Link a n → at a.next n ≡ s → count n c.members ≡ 0 → In s c.members → ⊥
    not_next n s l e z i =
        let back = (la.next n l (λ q. not_zero s (sym q ∙ e) i)).1 in
        let prev : at a.prev s ≡ n = rw e at back in
        omega (arith, rw prev at (run_prev a la (chain_run a c.kind c.members h).1 s i (λ q. link_nonzero a n l (sym prev ∙ q))))

    not_prev : (n s : ℕ) → Link a n → at a.prev n ≡ s → count n c.members ≡ 0 → In s c.members → ⊥
    not_prev n s l e z i =
        let back = (la.prev n l (λ q. not_zero s (sym q ∙ e) i)).1 in
        let next : at a.next s ≡ n = rw e at back in
        omega (arith, rw next at (run_next a (chain_run a c.kind c.members h).1 s i (λ q. link_nonzero a n l (sym next ∙ q))))

    pub off_if_apart : (k : InsertKind) → Fits a t k u v → Apart k c → Off c
    unfolding Fits Apart
    off_if_apart Disconnected f n = (not_zero u f.0, not_zero v f.1)
    off_if_apart SingleLinkCyclic f n = (not_new u f.0, not_new v f.1)
    off_if_apart (ChainEnd p) f n = (not_named (slot_of p) u f.0 n, not_zero v f.1)
    off_if_apart (ChainStart p) f n = (not_zero u f.0, not_named (slot_of p) v f.1 n)
    off_if_apart (NextTo p) f n = (not_named (slot_of p) u f.0 n, not_next (slot_of p) v f.2 f.1 n)
    off_if_apart (PrevTo p) f n = (not_prev (slot_of p) u f.2 f.0 n, not_named (slot_of p) v f.1 n)
    off_if_apart (AtInterlink p q) f n = (not_named (slot_of p) u f.0 n.0, not_named (slot_of q) v f.1 n.1)
    off_if_apart (Bridge p q) f n = (not_named (slot_of p) u f.0 n.0, not_named (slot_of q) v f.1 n.1)

  none : (n s : ℕ) → n ≡ s → (xs : List ℕ) → (In s xs → ⊥) → count n xs ≡ 0
  none n s e xs off = none_of n xs (λ i. off (rw e at i))

  pub apart_if_off : (k : InsertKind) → Fits a t k u v → (c : Chain) → Off c → Apart k c
  unfolding Fits Apart
  apart_if_off Disconnected f c off = tt
  apart_if_off SingleLinkCyclic f c off = tt
  apart_if_off (ChainEnd p) f c off = none (slot_of p) u f.0 c.members off.0
  apart_if_off (ChainStart p) f c off = none (slot_of p) v f.1 c.members off.1
  apart_if_off (NextTo p) f c off = none (slot_of p) u f.0 c.members off.0
  apart_if_off (PrevTo p) f c off = none (slot_of p) v f.1 c.members off.1
  apart_if_off (AtInterlink p q) f c off = (none (slot_of p) u f.0 c.members off.0, none (slot_of q) v f.1 c.members off.1)
  apart_if_off (Bridge p q) f c off = (none (slot_of p) u f.0 c.members off.0, none (slot_of q) v f.1 c.members off.1)

  -- ---- and there is no other chain

  pub all_chains : (k : InsertKind) → Fits a t k u v → (c : Chain) → IsChain b c.kind c.members → ((d : Chain) × Makes a t k d × Alike d c) ⊎ (IsChain a c.kind c.members × Apart k c)
  unfolding Alike
  all_chains k f c h = go (dec_le 1 (count t c.members))
    where
      go : Dec (1 ≤ count t c.members) → ((d : Chain) × Makes a t k d × Alike d c) ⊎ (IsChain a c.kind c.members × Apart k c)
      go (yes i) =
          let m = makes_one a la t u v k f in
          let d = m.0 in
          inl (d, m.1, one_chain b lb d.kind c.kind d.members c.members (made_is k f d m.1) h t (has_new a t k d m.1) i)
      go (no i) = let r = was_chain a b la lb t u v put c.kind c.members h i in inr (r.0, apart_if_off k f c (r.1, r.2))

  pub others_stay : (k : InsertKind) → Fits a t k u v → (c : Chain) → IsChain a c.kind c.members → Apart k c → IsChain b c.kind c.members
  others_stay k f c h n = let off = off_if_apart c h k f n in stays_chain a b la lb t u v put c.kind c.members h off.0 off.1
