-- What an exchange of two slots keeps. The slots b as they are now hold the links of the arena a that is laid out, w says who is in each slot, and through w
-- every word is the old one. With the transposition σ of i and t, after the exchange prev(σ s) = σ(prev s), next(σ s) = σ(next s) and who(σ s) = who s; so
-- all of it holds again. Neighbours of each other, a free occupant, i = t and a single closed link need no case of their own. Assumes nothing.
use Prim.Native.Nat.{ℕ, zero, suc, ◌≤◌}
use mathlib.Core.Path.{◌≡◌, refl, sym, ap, ◌∙◌}
use mathlib.Core.Logic.{◌≢◌}
use mathlib.Core.List.{List}
use native.Mathlib.Omega.{arith}
use native.Mathlib.Decide.{ℕ_discrete}
use lib.ListN.{length, get_or}
use borrow.Author.Tests.{le-leb}
use Rattle.definitions.specs.Columns.{at, count, slots_from}
use Rattle.definitions.specs.Arena.{Arena, stack_length, allocated, is_link}
use Rattle.definitions.specs.Check.{Neighbour}
use Rattle.definitions.specs.Compress.{place, start_of, exchanged, exchange_words, exchange_links, exchange_slots}
use Rattle.definitions.proofs.Columns.{at_zero}
use Rattle.definitions.proofs.Slots.{length_slots}
use Rattle.definitions.proofs.Count.{Once, in_slots, slots_once}
use Rattle.definitions.proofs.Parts.{in_at, at_own}
use Rattle.chains.proofs.Links.{Link, DoublyLinked, link_some, link_within}
use Rattle.chains.proofs.Find.{start_stop, start_round, start_on}
use Rattle.renaming.proofs.Place.{place_at}
use Rattle.demand3.proofs.Exchange.{exchanged_twice, exchanged_within, exchanged_some, length_exchange, length_exchange_links, exchange_reads, exchange_links_reads}

-- the four columns are as long as the stack at least
pub record Room (a : Arena) : Type 0 where
  pub prev : stack_length a ≤ length a.prev
  pub next : stack_length a ≤ length a.next
  pub generation : stack_length a ≤ length a.generation
  pub payload : stack_length a ≤ length a.payload

-- a link column X of now against the old one: what a link names now came from what it named
pub record Names (a : Arena) (w old X : List ℕ) : Type 0 where
  pub size : length X ≡ length old
  pub within : (s : ℕ) → 1 ≤ s → s ≤ stack_length a → Link a (at w s) → at X s ≤ stack_length a
  pub came : (s : ℕ) → 1 ≤ s → s ≤ stack_length a → Link a (at w s) → at w (at X s) ≡ at old (at w s)

-- another column of now against the old one: each word went with its slot
pub record Moved (a : Arena) (w old X : List ℕ) : Type 0 where
  pub size : length X ≡ length old
  pub came : (s : ℕ) → s ≤ stack_length a → at X s ≡ at old (at w s)

pub record Carried (a b : Arena) (w : List ℕ) : Type 0 where
  pub header : b.header ≡ a.header
  pub size : length w ≡ stack_length a
  pub who : (x : ℕ) → count x w ≡ count x (slots_from 1 (stack_length a))
  pub prev : Names a w a.prev b.prev
  pub next : Names a w a.next b.next
  pub generation : Moved a w a.generation b.generation
  pub payload : Moved a w a.payload b.payload

-- ---- at the start every link is in its own slot

module _ (a : Arena) (linked : DoublyLinked a) where
  own_names : (X : List ℕ) → ((x : ℕ) → Link a x → at X x ≢ 0 → Link a (at X x)) → Names a (slots_from 1 (stack_length a)) X X
  own_names X fine = record { size = refl; within = λ s h l k. within s (own s l k); came = λ s h l k. at_own n (at X s) (within s (own s l k)) ∙ ap (at X) (sym (at_own n s l)) }
    where
      n : ℕ
      n = stack_length a

      own : (s : ℕ) → s ≤ n → Link a (at (slots_from 1 n) s) → Link a s
      own s l k = rw (at_own n s l) at k

      within : (s : ℕ) → Link a s → at X s ≤ n
      within s k = elim (ℕ_discrete (at X s) 0) [ yes z ↦ omega (arith, z) | no d ↦ link_within a (at X s) (fine s k d) ]

  own_moved : (X : List ℕ) → Moved a (slots_from 1 (stack_length a)) X X
  own_moved X = record { size = refl; came = λ s l. ap (at X) (sym (at_own (stack_length a) s l)) }

  pub carried_start : Carried a a (slots_from 1 (stack_length a))
  carried_start =
      record {
        header = refl;
        size = length_slots 1 (stack_length a);
        who = λ x. refl;
        prev = own_names a.prev (λ x h d. (linked.prev x h d).0);
        next = own_names a.next (λ x h d. (linked.next x h d).0);
        generation = own_moved a.generation;
        payload = own_moved a.payload;
      }

module _ (a b : Arena) (w : List ℕ) (carried : Carried a b w) where
  abbrev n : ℕ
  n = stack_length a

  -- ---- who is in a slot

  pub same_stack : stack_length b ≡ stack_length a
  same_stack = ap (λ (h : List ℕ). get_or h 0 0) carried.header

  pub who_once : Once w
  who_once x = omega (arith, carried.who x, slots_once 1 n x)

  pub who_within : (s : ℕ) → 1 ≤ s → s ≤ n → (1 ≤ at w s) × (at w s ≤ n)
  who_within s h l =
      let r = in_slots (at w s) 1 n (omega (arith, in_at w s h (omega (arith, carried.size)), carried.who (at w s))) in
      (r.0, omega (arith, r.1))

  -- two slots with one occupant are one, and slot 0 has none
  pub one_slot : (s t : ℕ) → s ≤ n → t ≤ n → at w s ≡ at w t → s ≡ t
  one_slot zero zero hs ht e = refl
  one_slot zero (suc t) hs ht e = absurd (omega (arith, (who_within (suc t) (omega arith) ht).0, sym (at_zero w) ∙ e))
  one_slot (suc s) zero hs ht e = absurd (omega (arith, (who_within (suc s) (omega arith) hs).0, e ∙ at_zero w))
  one_slot (suc s) (suc t) hs ht e =
      sym (place_at w (suc s) (omega arith) (omega (arith, carried.size)) (who_once (at w (suc s)))) ∙
      (ap (place w) e ∙ place_at w (suc t) (omega arith) (omega (arith, carried.size)) (who_once (at w (suc t))))

  -- a slot is a link now exactly if who is in it is a link of the old arena
  pub same_link : (s : ℕ) → s ≤ n → is_link b s ≡ is_link a (at w s)
  unfolding allocated
  same_link s l = rw (same_stack, carried.generation.came s l, le-leb s n l, le-leb (at w s) n (within s l)) refl
    where
      within : (s : ℕ) → s ≤ n → at w s ≤ n
      within zero l = omega (arith, at_zero w)
      within (suc s) l = (who_within (suc s) (omega arith) l).1

  pub link_came : (s : ℕ) → Link b s → (1 ≤ s) × (s ≤ n) × Link a (at w s)
  link_came s h =
      let l : s ≤ n = omega (arith, link_within b s h, same_stack) in
      (link_some b s h, l, sym (same_link s l) ∙ h)

  -- ---- the links are doubly linked now

  named_back : (X Y old back : List ℕ) → Names a w old X → Names a w back Y → ((x : ℕ) → Link a x → Neighbour a back x (at old x)) → (s : ℕ) → Link b s → Neighbour b Y s (at X s)
  named_back X Y old back there here fine s h d =
      let l = link_came s h in
      let p = at X s in
      let pn : p ≤ n = there.within s l.0 l.1 l.2 in
      let came : at w p ≡ at old (at w s) = there.came s l.0 l.1 l.2 in
      let named = fine (at w s) l.2 (λ z. d (one_slot p 0 pn (omega arith) (came ∙ (z ∙ sym (at_zero w))))) in
      let link : Link b p = same_link p pn ∙ (ap (is_link a) came ∙ named.0) in
      let m = link_came p link in
      (link, one_slot (at Y p) s (here.within p m.0 m.1 m.2) l.1 (here.came p m.0 m.1 m.2 ∙ (ap (at back) came ∙ named.1)))

  pub carried_linked : DoublyLinked a → DoublyLinked b
  carried_linked linked =
      record {
        prev = named_back b.prev b.next a.prev a.next carried.prev carried.next linked.prev;
        next = named_back b.next b.prev a.next a.prev carried.next carried.prev linked.next;
      }

  -- ---- the walk back to a chain's start, in the slots as they are now, is the walk back in old slots

  pub start_came : DoublyLinked a → (f j s : ℕ) → Link b j → Link b s → at w (start_of b f j s) ≡ start_of a f (at w j) (at w s)
  start_came linked zero j s hj hs = unfold start_of in refl
  start_came linked (suc f) j s hj hs = go (ℕ_discrete p 0) (ℕ_discrete p j) (start_came linked f j p hj)
    where
      p : ℕ
      p = at b.prev s

      ls : (1 ≤ s) × (s ≤ n) × Link a (at w s)
      ls = link_came s hs

      lj : (1 ≤ j) × (j ≤ n) × Link a (at w j)
      lj = link_came j hj

      pn : p ≤ n
      pn = carried.prev.within s ls.0 ls.1 ls.2

      came : at w p ≡ at a.prev (at w s)
      came = carried.prev.came s ls.0 ls.1 ls.2

      go : Dec (p ≡ 0) → Dec (p ≡ j) → (Link b p → at w (start_of b f j p) ≡ start_of a f (at w j) (at w p)) → at w (start_of b (suc f) j s) ≡ start_of a (suc f) (at w j) (at w s)
      go (yes z) d ih =
          let z' : at a.prev (at w s) ≡ 0 = sym came ∙ (ap (at w) z ∙ at_zero w) in
          rw (start_stop b f j s z, start_stop a f (at w j) (at w s) z')
      go (no m) (yes z) ih =
          let m' : at a.prev (at w s) ≢ 0 = λ q. m (one_slot p 0 pn (omega arith) (came ∙ (q ∙ sym (at_zero w)))) in
          let z' : at a.prev (at w s) ≡ at w j = sym came ∙ ap (at w) z in
          rw (start_round b f j s m z, start_round a f (at w j) (at w s) m' z')
      go (no m) (no d) ih =
          let m' : at a.prev (at w s) ≢ 0 = λ q. m (one_slot p 0 pn (omega arith) (came ∙ (q ∙ sym (at_zero w)))) in
          let d' : at a.prev (at w s) ≢ at w j = λ q. d (one_slot p j pn lj.1 (came ∙ q)) in
          let hp : Link b p = same_link p pn ∙ (ap (is_link a) came ∙ (linked.prev (at w s) ls.2 m').0) in
          rw (start_on b f j s m d, start_on a f (at w j) (at w s) m' d') (ih hp ∙ ap (start_of a f (at w j)) came)

  -- ---- the exchange of slots i and t

  module _ (i t : ℕ) (i1 : 1 ≤ i) (t1 : 1 ≤ t) (il : i ≤ stack_length a) (tl : t ≤ stack_length a) where
    abbrev σ : ℕ → ℕ
    σ s = exchanged i t s

    abbrev w' : List ℕ
    w' = exchange_words i t w

    who_now : (s : ℕ) → at w' s ≡ at w (σ s)
    who_now s = exchange_reads i t w i1 t1 (omega (arith, carried.size)) (omega (arith, carried.size)) s

    σ_within : (s : ℕ) → s ≤ n → σ s ≤ n
    σ_within s l = exchanged_within i t s n il tl l

    names_now : (old X : List ℕ) → n ≤ length old → Names a w old X → Names a w' old (exchange_links n i t X)
    names_now old X room names =
        record {
          size = length_exchange_links n i t X ∙ names.size;
          within = λ s h l k. rw (reads s h l) (σ_within (at X (σ s)) (names.within (σ s) (some s h) (σ_within s l) (was s k)));
          came = λ s h l k.
              rw (reads s h l, who_now s)
              (who_now (σ (at X (σ s))) ∙ (ap (at w) (exchanged_twice i t (at X (σ s))) ∙ names.came (σ s) (some s h) (σ_within s l) (was s k)));
        }
      where
        reads : (s : ℕ) → 1 ≤ s → s ≤ n → at (exchange_links n i t X) s ≡ σ (at X (σ s))
        reads s h l = exchange_links_reads i t X i1 t1 (omega (arith, names.size)) (omega (arith, names.size)) n (omega (arith, names.size)) s h l

        some : (s : ℕ) → 1 ≤ s → 1 ≤ σ s
        some s h = exchanged_some i t s i1 t1 h

        was : (s : ℕ) → Link a (at w' s) → Link a (at w (σ s))
        was s k = rw (who_now s) at k

    moved_now : (old X : List ℕ) → n ≤ length old → Moved a w old X → Moved a w' old (exchange_words i t X)
    moved_now old X room moved =
        record {
          size = length_exchange i t X ∙ moved.size;
          came = λ s l.
              exchange_reads i t X i1 t1 (omega (arith, moved.size)) (omega (arith, moved.size)) s ∙ (moved.came (σ s) (σ_within s l) ∙ ap (at old) (sym (who_now s)));
        }

    pub exchange_carries : Room a → ((x : ℕ) → count x (exchange_words i t w) ≡ count x w) → Carried a (exchange_slots i t b) (exchange_words i t w)
    unfolding exchange_slots
    exchange_carries room same =
        record {
          header = carried.header;
          size = length_exchange i t w ∙ carried.size;
          who = λ x. same x ∙ carried.who x;
          prev = rw same_stack (names_now a.prev b.prev room.prev carried.prev);
          next = rw same_stack (names_now a.next b.next room.next carried.next);
          generation = moved_now a.generation b.generation room.generation carried.generation;
          payload = moved_now a.payload b.payload room.payload carried.payload;
        }
