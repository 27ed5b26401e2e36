-- A chain laid out link by link: the loop's state is the definition's state on its way, and the definition's two tests are the code's. Assumes nothing.
use Prim.Native.Nat.{ℕ, suc, ◌+◌, ◌-◌, ◌≤◌, ◌<◌}
use mathlib.Core.Path.{◌≡◌, refl, sym, ap, ◌∙◌}
use mathlib.Core.Logic.{◌≢◌, ◌⊎◌, inl, inr}
use mathlib.Core.Bool.{Bool, true, false, ◌||◌, true≢false}
use native.Mathlib.Omega.{arith}
use native.Mathlib.Numerals.{add-one}
use lib.ListN.{length}
use lib.Dec.{eqb}
use borrow.Author.Tests.{eq-eqb, ne_eqb, eqb-true, eqb-false}
use Rattle.definitions.specs.Arena.{Arena, capacity_limit, stack_length}
use Rattle.definitions.specs.Compress.{Laying, put_at_i, lay_chain}
use Rattle.definitions.proofs.Tests.{the_first, the_second, neither}
use Rattle.demand3.proofs.Carried.{Room, same_stack}
use Rattle.demand3.proofs.LayChain.{lay_over, lay_on}
use Rattle.demand3.proofs.Loops.{within_few, within_free, within_turn, Turned, over, on}
use Rattle.demand3.proofs.Search.{FreeBetween}
use Rattle.canonical_exchange.specs.Lent.{Lent}
use Rattle.canonical_layout.specs.Steps.{InChain, LinkLaid, ChainLaid}
use Rattle.canonical_layout.proofs.LinkInPlace.{place_left}

-- the chain that starts in slot start is being laid out from the state l on; the link in slot t is next, and the columns hold the state
pub record OnTheWay (a : Arena) (l : Laying) (start : ℕ) (c : Lent) (count t : ℕ) : Type 0 where
  pub state : Laying
  pub steps : ℕ
  pub chain : InChain a state l.i t c count
  pub same : lay_chain steps l.i t state ≡ lay_chain (stack_length l.slots) l.i start l
  pub enough : length chain.within.os < steps
  pub free : (j : ℕ) → FreeBetween l.slots l.i j → FreeBetween state.slots state.i j

-- the loop's invariant, for whatever arena is being laid out
pub record Going (old : Lent) (laid start : ℕ) (c : Lent) (count t : ℕ) : Type 0 where
  pub begun : laid ≤ count
  pub on_the_way : (a : Arena) (l : Laying) → InChain a l l.i start old laid → OnTheWay a l start c count t

pub going_starts : (c : Lent) (laid start : ℕ) → Going c laid start c laid start
going_starts c laid start = record { begun = omega arith; on_the_way = begins }
  where
    begins : (a : Arena) (l : Laying) → InChain a l l.i start c laid → OnTheWay a l start c laid start
    begins a l chain =
        record {
          state = l;
          steps = stack_length l.slots;
          chain = chain;
          same = refl;
          enough = omega (
            arith,
            chain.i,
            within_few a chain.layable.room l l.i start chain.within,
            same_stack a l.slots l.from chain.within.state.carried,
          );
          free = λ j h. h;
        }

-- ---- one turn

module _ (a : Arena) (l : Laying) (start : ℕ) (c : Lent) (count t : ℕ) (way : OnTheWay a l start c count t)
    (left : Lent) (ahead : ℕ) (put : LinkLaid way.state t left ahead) where
  abbrev room : Room a
  room = way.chain.layable.room

  abbrev after : Laying
  after = put_at_i t way.state

  after_i : (put_at_i t way.state).i ≡ suc (count + 1)
  unfolding put_at_i
  after_i = ap suc (way.chain.i ∙ sym (add-one count))

  free_still : (j : ℕ) → FreeBetween l.slots l.i j → FreeBetween (put_at_i t way.state).slots (put_at_i t way.state).i j
  free_still j h = within_free a room way.state l.i t way.chain.within j (way.free j h)

  one_step : way.steps ≡ suc (way.steps - 1)
  one_step = omega (arith, way.enough)

  turn_goes_on : ahead ≢ 0 → ahead ≢ l.i → OnTheWay a l start left (count + 1) ahead
  turn_goes_on d e = go (within_turn a room way.state l.i t way.chain.within)
    where
      no_end : (eqb ahead 0 || eqb ahead l.i) ≡ false
      no_end = neither _ _ (ne_eqb ahead 0 d) (ne_eqb ahead l.i e)

      go : Turned a room way.state l.i t way.chain.within → OnTheWay a l start left (count + 1) ahead
      go (over none test between) = absurd (true≢false (sym test ∙ rw (← put.next) no_end))
      go (on test within shorter) =
          rw put.next
          (record {
            state = after;
            steps = way.steps - 1;
            chain = record { layable = way.chain.layable; within = within; i = after_i; held = put.held };
            same = sym (lay_on a (way.steps - 1) l.i t way.state test) ∙ rw (← one_step) way.same;
            enough = omega (arith, way.enough, shorter);
            free = free_still;
          })

  turn_ends : (ahead ≡ 0) ⊎ (ahead ≡ l.i) → (laid : ℕ) → laid ≤ count → ChainLaid a l (lay_chain (stack_length l.slots) l.i start l) laid left (count + 1)
  turn_ends e laid m = go (within_turn a room way.state l.i t way.chain.within)
    where
      end : (ahead ≡ 0) ⊎ (ahead ≡ l.i) → (eqb ahead 0 || eqb ahead l.i) ≡ true
      end (inl z) = the_first _ _ (eq-eqb ahead 0 z)
      end (inr z) = the_second (eqb ahead 0) _ (eq-eqb ahead l.i z)

      go : Turned a room way.state l.i t way.chain.within → ChainLaid a l (lay_chain (stack_length l.slots) l.i start l) laid left (count + 1)
      go (on test within shorter) = absurd (true≢false (sym (rw put.next at (end e)) ∙ test))
      go (over none test between) =
          let done : lay_chain (stack_length l.slots) l.i start l ≡ after =
          sym way.same ∙ (ap (λ (m : ℕ). lay_chain m l.i t way.state) one_step ∙ lay_over a (way.steps - 1) l.i t way.state test) in
          rw done (record { between = between; i = after_i; held = put.held; more = omega arith; free = free_still })

-- ---- the loop's needs

module _ {old : Lent} {laid start : ℕ} {c : Lent} {count t : ℕ} (going : Going old laid start c count t) where
  module _ (ready : (a : Arena) × (l : Laying) × InChain a l l.i start old laid) where
    abbrev way : OnTheWay ready.0 ready.1 start c count t
    way = going.on_the_way ready.0 ready.1 ready.2

    pub going_chain : (a : Arena) × (l : Laying) × (first : ℕ) × InChain a l first t c count
    going_chain = (ready.0, way.state, ready.1.i, way.chain)

    pub going_below : (count < length old.where_from) × (count + 1 ≤ capacity_limit)
    going_below =
        let place = place_left way.chain in
        let n = same_stack ready.0 way.state.slots way.state.from way.chain.within.state.carried in
        let m = same_stack ready.0 ready.1.slots ready.1.from ready.2.within.state.carried in
        (omega (arith, place, n, m, ready.2.held.from_long), omega (arith, place, n, way.chain.layable.small))

  -- one link more is put, and the code asks whether there is none ahead of it, and whether that is the slot where the first one is now
  module _ {left : Lent} {ahead : ℕ} (put : (a : Arena) (l : Laying) (first : ℕ) → InChain a l first t c count → LinkLaid l t left ahead) {none : Bool} (asks : none ≡ eqb ahead 0) where
    place_first : (l : Laying) → l.i ≡ suc laid → laid + 1 ≡ l.i
    place_first l e = add-one laid ∙ sym e

    chain_over : (ahead ≡ 0) ⊎ (ahead ≡ laid + 1) → (a : Arena) (l : Laying) → InChain a l l.i start old laid → ChainLaid a l (lay_chain (stack_length l.slots) l.i start l) laid left (count + 1)
    chain_over e a l chain =
        let way = going.on_the_way a l chain in
        turn_ends a l start c count t way left ahead (put a way.state l.i way.chain) (ended e) laid going.begun
      where
        ended : (ahead ≡ 0) ⊎ (ahead ≡ laid + 1) → (ahead ≡ 0) ⊎ (ahead ≡ l.i)
        ended (inl z) = inl z
        ended (inr z) = inr (z ∙ place_first l chain.i)

    pub going_ends : none ≡ true → (a : Arena) (l : Laying) → InChain a l l.i start old laid → ChainLaid a l (lay_chain (stack_length l.slots) l.i start l) laid left (count + 1)
    going_ends e = chain_over (inl (eqb-true _ _ (sym asks ∙ e)))

    module _ (some : none ≡ false) {round : Bool} (asks_again : round ≡ eqb ahead (laid + 1)) where
      pub going_round : round ≡ true → (a : Arena) (l : Laying) → InChain a l l.i start old laid → ChainLaid a l (lay_chain (stack_length l.slots) l.i start l) laid left (count + 1)
      going_round e = chain_over (inr (eqb-true _ _ (sym asks_again ∙ e)))

      pub going_on : round ≡ false → Going old laid start left (count + 1) ahead
      going_on e =
          record {
            begun = omega (arith, going.begun);
            on_the_way = λ a l chain.
                let way = going.on_the_way a l chain in
                turn_goes_on a l start c count t way left ahead (put a way.state l.i way.chain)
                (eqb-false _ _ (sym asks ∙ some))
                (λ q. eqb-false _ _ (sym asks_again ∙ e) (q ∙ sym (place_first l chain.i)));
          }
