-- Every link is on one chain and on no other; the chains can be listed; and any two listings of one arena's chains pair up, each chain with the same
-- chain. Assumes nothing.
use Prim.Native.Nat.{ℕ, zero, suc, ◌+◌, ◌≤◌, ◌<◌}
use mathlib.Core.Path.{◌≡◌, refl, sym, ap, subst, ◌∙◌}
use mathlib.Core.Logic.{◌⊎◌, inl, inr}
use mathlib.Core.List.{List, [], ◌∷◌, map, flatten, append-nil}
use native.Mathlib.Omega.{arith}
use native.Mathlib.Decide.{dec_le, dec_lt}
use lib.ListN.{length}
use Rattle.definitions.specs.Columns.{count, first_or}
use Rattle.definitions.specs.Arena.{Arena, stack_length, link_slots}
use Rattle.definitions.specs.Check.{WellFormed}
use Rattle.statements.specs.Chains.{Kind, opened, closed, IsChain, Rotation, Like, Chain, Alike, nth, Listing, OnOneChain, Paired}
use Rattle.definitions.proofs.Slots.{count_append}
use Rattle.definitions.proofs.Count.{In, Once, in_here, in_there, in_cases, in_append, in_left, in_right, not_in_nil, once_nil, count_links, only_links}
use Rattle.definitions.proofs.Linked.{in_first}
use Rattle.chains.proofs.Links.{Link, AllLinks, DoublyLinked, well_formed_linked}
use Rattle.chains.proofs.OneChain.{chain_links, chain_some, one_chain, like_count}
use Rattle.chains.proofs.Find.{chain_from, ChainOf, chain_of}
use Rattle.chains.proofs.Pairing.{one_to_one}

-- ---- the same chain, both ways round

pub like_refl : (k : Kind) (c d : List ℕ) → c ≡ d → Like k c d
unfolding Like Rotation
like_refl opened c d e = e
like_refl closed c d e = ([], c, refl, sym e ∙ sym (append-nil c))

pub like_sym : (k : Kind) (c d : List ℕ) → Like k c d → Like k d c
unfolding Like Rotation
like_sym opened c d e = sym e
like_sym closed c d r = (r.1, r.0, r.3, r.2)

pub alike_sym : (c d : Chain) → Alike c d → Alike d c
unfolding Alike
alike_sym c d r = (sym r.0, subst (λ (k : Kind). Like k d.members c.members) r.0 (like_sym c.kind c.members d.members r.1))

-- ---- chains one after the other

-- the members of all chains of a list
abbrev pub members_of : List Chain → List (List ℕ)
members_of cs = map (λ (c : Chain). c.members) cs

-- who stands in them is a member of one; of one only, if nobody stands in them twice
pub in_some : (cs : List Chain) (x : ℕ) → In x (flatten (members_of cs)) → (k : ℕ) × (k < length cs) × In x (nth cs k).members
unfolding flatten nth
in_some [] x i = absurd (not_in_nil x i)
in_some (c ∷ cs) x i = go (in_append x c.members (flatten (members_of cs)) i) (in_some cs x)
  where
    go : In x c.members ⊎ In x (flatten (members_of cs)) → (In x (flatten (members_of cs)) → (k : ℕ) × (k < length cs) × In x (nth cs k).members) →
        (k : ℕ) × (k < suc (length cs)) × In x (nth (c ∷ cs) k).members
    go (inl j) ih = (0, omega arith, j)
    go (inr j) ih = let r = ih j in (suc r.0, omega (arith, r.1), r.2)

pub in_entry : (cs : List Chain) (x k : ℕ) → k < length cs → In x (nth cs k).members → In x (flatten (members_of cs))
unfolding flatten nth
in_entry [] x k h i = absurd (omega arith)
in_entry (c ∷ cs) x zero h i = in_left x c.members (flatten (members_of cs)) i
in_entry (c ∷ cs) x (suc k) h i = in_right x c.members (flatten (members_of cs)) (in_entry cs x k (omega arith) i)

in_one : (cs : List Chain) (x j k : ℕ) → count x (flatten (members_of cs)) ≤ 1 → j < length cs → k < length cs → In x (nth cs j).members → In x (nth cs k).members → j ≡ k
unfolding flatten nth
in_one [] x j k o h l p q = absurd (omega arith)
in_one (c ∷ cs) x zero zero o h l p q = refl
in_one (c ∷ cs) x zero (suc k) o h l p q = absurd (omega (arith, count_append x c.members (flatten (members_of cs)), in_entry cs x k (omega arith) q))
in_one (c ∷ cs) x (suc j) zero o h l p q = absurd (omega (arith, count_append x c.members (flatten (members_of cs)), in_entry cs x j (omega arith) p))
in_one (c ∷ cs) x (suc j) (suc k) o h l p q =
    ap suc (in_one cs x j k (omega (arith, count_append x c.members (flatten (members_of cs)))) (omega arith) (omega arith) p q)

module _ (a : Arena) (linked : DoublyLinked a) where
  -- chains that hold each link once are a listing
  pub listing : (cs : List Chain) → ((k : ℕ) → k < length cs → IsChain a (nth cs k).kind (nth cs k).members) → ((x : ℕ) → Link a x → count x (flatten (members_of cs)) ≡ 1) → Listing a cs
  unfolding Alike
  listing cs are each =
      record {
        are = are;
        all = λ c h.
            let x = first_or 0 c.members in
            let i : In x c.members = in_first 0 c.members (chain_some a c.kind c.members h) in
            let r = in_some cs x (omega (arith, each x (chain_links a c.kind c.members h x i))) in
            let k = r.0 in
            (k, r.1, one_chain a linked (nth cs k).kind c.kind (nth cs k).members c.members (are k r.1) h x r.2 i);
        one = λ c h j k lj lk p q.
            let x = first_or 0 c.members in
            let i : In x c.members = in_first 0 c.members (chain_some a c.kind c.members h) in
            in_one cs x j k (omega (arith, each x (chain_links a c.kind c.members h x i))) lj lk (omega (arith, i, like_count (nth cs j).kind (nth cs j).members c.members p.1 x))
            (omega (arith, i, like_count (nth cs k).kind (nth cs k).members c.members q.1 x));
      }

  -- ---- a listing, found: the chain of each link in turn, unless it is there already

  record Holds (xs : List ℕ) (cs : List Chain) : Type 0 where
    are : (k : ℕ) → k < length cs → IsChain a (nth cs k).kind (nth cs k).members
    all : (x : ℕ) → In x xs → In x (flatten (members_of cs))
    once : Once (flatten (members_of cs))

  collect : (xs : List ℕ) → AllLinks a xs → (cs : List Chain) × Holds xs cs
  unfolding flatten
  collect [] al = ([], record { are = λ k h. absurd (omega arith); all = λ x i. absurd (not_in_nil x i); once = once_nil })
  collect (x ∷ xs) al = go (collect xs (λ y i. al y (in_there y x xs i)))
    where
      go : (cs : List Chain) × Holds xs cs → (ds : List Chain) × Holds (x ∷ xs) ds
      go (cs, h) = add (dec_le 1 (count x (flatten (members_of cs))))
        where
          its : ChainOf a linked x (chain_from a x)
          its = chain_of a linked x (al x (in_here x xs))

          c : List ℕ
          c = chain_from a x

          rest : List ℕ
          rest = flatten (members_of cs)

          add : Dec (In x (flatten (members_of cs))) → (ds : List Chain) × Holds (x ∷ xs) ds
          add (yes i) = (cs, record { are = h.are; all = λ y j. elim (in_cases y x xs j) [ inl e ↦ rw e i | inr q ↦ h.all y q ]; once = h.once })
          add (no d) = (
            record { kind = its.kind; members = c } ∷ cs,
            record {
              are = λ k l. chains k l;
              all = λ y j. elim (in_cases y x xs j) [ inl e ↦ in_left y c rest (rw e its.has) | inr q ↦ in_right y c rest (h.all y q) ];
              once = λ y. omega (arith, count_append y c rest, its.once y, h.once y, apart y (dec_le 1 (count y c)) (dec_le 1 (count y rest)));
            },
          )
            where
              chains : (k : ℕ) → k < suc (length cs) → IsChain a (nth (record { kind = its.kind; members = c } ∷ cs) k).kind (nth (record { kind = its.kind; members = c } ∷ cs) k).members
              chains zero l = unfold nth in its.chain
              chains (suc k) l = unfold nth in h.are k (omega arith)

              -- a link of x's chain is on no chain that is there
              apart : (y : ℕ) → Dec (In y c) → Dec (In y rest) → count y c + count y rest ≤ 1
              apart y (no i) j = omega (arith, h.once y)
              apart y (yes i) (no j) = omega (arith, its.once y)
              apart y (yes i) (yes j) =
                  let r = in_some cs y j in
                  let k = r.0 in
                  let l = one_chain a linked its.kind (nth cs k).kind c (nth cs k).members its.chain (h.are k r.1) y i r.2 in
                  absurd (d (in_entry cs x k r.1 (omega (arith, its.has, like_count its.kind c (nth cs k).members l.1 x))))

  pub chains_listed : (cs : List Chain) × Listing a cs
  chains_listed = go (collect (link_slots a.generation (stack_length a)) (λ x i. only_links a.generation (stack_length a) x i))
    where
      go : (cs : List Chain) × Holds (link_slots a.generation (stack_length a)) cs → (cs : List Chain) × Listing a cs
      go (cs, h) =
          (cs, listing cs h.are (λ x l. omega (arith, h.once x, h.all x (omega (arith, count_links a.generation (stack_length a) x l)))))

-- ---- the chain of another listing that is like chain k of this one

module _ (a : Arena) (cs ds : List Chain) (x : Listing a cs) (y : Listing a ds) where
  found : (k : ℕ) → k < length cs → (j : ℕ) × (j < length ds) × Alike (nth ds j) (nth cs k)
  found k h = y.all (nth cs k) (x.are k h)

  partner : (k : ℕ) → Dec (k < length cs) → ℕ
  partner k (yes h) = (found k h).0
  partner k (no h) = 0

  partner_of : ℕ → ℕ
  partner_of k = partner k (dec_lt k (length cs))

  partner_within : (k : ℕ) → k < length cs → partner_of k < length ds
  unfolding partner_of
  partner_within k h = go (dec_lt k (length cs))
    where
      go : (d : Dec (k < length cs)) → partner k d < length ds
      go (yes l) = unfold partner in (found k l).1
      go (no l) = absurd (l h)

  partner_like : (k : ℕ) → k < length cs → Alike (nth cs k) (nth ds (partner_of k))
  unfolding partner_of
  partner_like k h = go (dec_lt k (length cs))
    where
      go : (d : Dec (k < length cs)) → Alike (nth cs k) (nth ds (partner k d))
      go (yes l) = unfold partner in alike_sym (nth ds (found k l).0) (nth cs k) (found k l).2
      go (no l) = absurd (l h)

  partner_once : (j k : ℕ) → j < length cs → k < length cs → partner_of j ≡ partner_of k → j ≡ k
  partner_once j k hj hk e =
      let d : Chain = nth ds (partner_of j) in
      x.one d (y.are (partner_of j) (partner_within j hj)) j k hj hk (partner_like j hj) (subst (λ (i : ℕ). Alike (nth cs k) (nth ds i)) (sym e) (partner_like k hk))

  no_more_chains : length cs ≤ length ds
  no_more_chains = one_to_one partner_of (length cs) (length ds) partner_within partner_once

-- ---- the theorems

-- every link is on a chain, and all chains that it is on are the same
pub linked_on_one_chain : (a : Arena) → DoublyLinked a → (s : ℕ) → Link a s → OnOneChain a s
unfolding Alike
linked_on_one_chain a linked s h =
    let its = chain_of a linked s h in
    record {
      chain = record { kind = its.kind; members = chain_from a s };
      is = its.chain;
      on = its.has;
      only = λ c k i. one_chain a linked its.kind c.kind (chain_from a s) c.members its.chain k s its.has i;
    }

pub every_link_on_one_chain : {limit : ℕ} {a : Arena} → WellFormed limit a → (s : ℕ) → Link a s → OnOneChain a s
every_link_on_one_chain {limit} {a} w s h = linked_on_one_chain a (well_formed_linked w) s h

-- any two listings of one arena's chains pair up: each chain of the one with the chain of the other that is like it
pub listings_pair : (a : Arena) (cs ds : List Chain) → Listing a cs → Listing a ds → Paired Alike cs ds
listings_pair a cs ds x y =
    record {
      to = partner_of a cs ds x y;
      size = omega (arith, no_more_chains a cs ds x y, no_more_chains a ds cs y x);
      within = partner_within a cs ds x y;
      once = partner_once a cs ds x y;
      like = partner_like a cs ds x y;
    }
