-- Chain after chain laid out: between two chains the loop's state is the definition's. After a chain all slots from i up to the last found link's old slot are
-- free, so that the search resumes there and finds what the definition finds from i on. Assumes nothing.
use Prim.Native.Nat.{ℕ, zero, suc, ◌+◌, ◌-◌, ◌≤◌, ◌<◌, max}
use mathlib.Core.Path.{◌≡◌, refl, sym, ap, ◌∙◌}
use mathlib.Core.Logic.{◌≢◌, ◌⊎◌, inl, inr}
use mathlib.Core.List.{List}
use native.Mathlib.Omega.{arith}
use native.Mathlib.Decide.{dec_le}
use lib.ListN.{length}
use Rattle.definitions.specs.Columns.{slots_from}
use Rattle.definitions.specs.Arena.{Arena, capacity_limit, stack_length}
use Rattle.definitions.specs.Compress.{Laying, lowest_from, start_of, lay_chain, lay_chains, laid_out}
use Rattle.chains.proofs.Links.{Link, link_within}
use Rattle.demand3.proofs.Carried.{Carried, same_stack, carried_linked}
use Rattle.demand3.proofs.LayChains.{lowest_is_link, lay_done, lay_next}
use Rattle.demand3.proofs.Loops.{Between, between_start, within_begins}
use Rattle.demand3.proofs.Search.{FreeBetween, lowest_resumes, free_before}
use Rattle.canonical_exchange.specs.Lent.{Lent}
use Rattle.canonical_layout.specs.Held.{Held, Occupied, Rooted}
use Rattle.canonical_layout.specs.Steps.{Layable, InChain, ChainLaid, Ready, AllLaid, Larger}
use Rattle.canonical_layout.proofs.InPlace.{Exchangeable}
use Rattle.canonical_layout.proofs.LinkInPlace.{exchangeable, place_left}

-- ---- the larger of two numbers, where the search goes on

-- two numbers have one larger one
pub larger_determines : {x y r s : ℕ} → Larger x y r → Larger x y s → r ≡ s
larger_determines h k = elim h.one [ inl e ↦ elim k.one [ inl f ↦ e ∙ sym f | inr f ↦ omega (arith, h.right, k.left) ] | inr e ↦ elim k.one [ inl f ↦ omega (arith, h.left, k.right) | inr f ↦ e ∙ sym f ] ]

-- and max gives it
larger_by_max : (x y : ℕ) → Larger x y (max x y)
larger_by_max x y = record { left = omega arith; right = omega arith; one = one (dec_le y x) }
  where
    one : Dec (y ≤ x) → (max x y ≡ x) ⊎ (max x y ≡ y)
    one (yes h) = inl (omega arith)
    one (no h) = inr (omega arith)

-- ---- between two chains

-- a is being laid out and is between two chains; so many links are in place, and no link waits in the slots up to passed
pub record Waits (a : Arena) (c : Lent) (laid passed : ℕ) : Type 0 where
  pub layable : Layable a
  pub state : Laying
  pub steps : ℕ
  pub between : Between a state
  pub i : state.i ≡ suc laid
  pub held : Held state.slots state.from c
  pub same : lay_chains steps state ≡ laid_out a
  pub enough : stack_length a < steps + state.i
  pub lowest : lowest_from state.slots (passed + 1) ≡ lowest_from state.slots state.i

-- the loop's invariant, for whatever arena is being laid out
pub record LayingOut (old c : Lent) (laid passed : ℕ) : Type 0 where
  pub waits : (a : Arena) → Ready a old → Waits a c laid passed

-- where the columns hold a state, the where-from column has a word exactly where a link is
occupied : (b : Arena) (from : List ℕ) (c : Lent) → Exchangeable b from → Held b from c → Occupied b c.where_from
occupied b from c sound held = record { long = held.from_long; somebody = λ s h z. sound.somebody s h (sym (held.who s h) ∙ z); nobody = held.nobody }

pub laying_starts : (c : Lent) → LayingOut c c 0 0
unfolding laid_out
laying_starts c =
    record {
      waits = λ a ready.
          record {
            layable = ready.layable;
            state = record { slots = a; from = slots_from 1 (stack_length a); i = 1 };
            steps = stack_length a;
            between = between_start a ready.layable.linked;
            i = refl;
            held = ready.held;
            same = refl;
            enough = omega arith;
            lowest = refl;
          };
    }

-- ---- one chain

module _ (a : Arena) (c : Lent) (laid passed : ℕ) (waits : Waits a c laid passed) where
  abbrev l : Laying
  l = waits.state

  abbrev b : Arena
  b = waits.state.slots

  carried : Carried a waits.state.slots waits.state.from
  carried = waits.between.state.carried

  pub waits_occupied : Occupied waits.state.slots c.where_from
  waits_occupied = occupied b l.from c (exchangeable a waits.layable.linked waits.layable.room b l.from carried) waits.held

  -- all links are in place
  pub none_waits : 0 ≡ lowest_from waits.state.slots (passed + 1) → AllLaid a (laid_out a) c
  none_waits z = rw (← waits.same, done waits.steps) (record { between = waits.between; none = none; held = waits.held })
    where
      none : lowest_from waits.state.slots waits.state.i ≡ 0
      none = sym (z ∙ waits.lowest)

      done : (steps : ℕ) → lay_chains steps waits.state ≡ waits.state
      done zero = unfold lay_chains in refl
      done (suc steps) = lay_done steps waits.state none

  -- a link waits in slot found
  module _ (found : ℕ) (at_found : found ≡ lowest_from waits.state.slots (passed + 1)) (d : found ≢ 0) where
    lowest : found ≡ lowest_from waits.state.slots waits.state.i
    lowest = at_found ∙ waits.lowest

    some : lowest_from waits.state.slots waits.state.i ≢ 0
    some z = d (lowest ∙ z)

    link : Link waits.state.slots found
    link =
        let k = waits.between.k in
        let at-k : lowest_from b l.i ≡ lowest_from b (suc k) = ap (lowest_from b) waits.between.state.i in
        rw (lowest, at-k) (lowest_is_link a b l.from carried k (λ z. some (at-k ∙ z)))

    pub found_within : found ≤ length c.where_from
    found_within = omega (arith, link_within b found link, waits.held.from_long)

    pub rooted : Rooted waits.state.slots c.prev found
    rooted = record { long = waits.held.prev_long; linked = carried_linked a b l.from carried waits.layable.linked; same = waits.held.prev; link = link }

    module _ (start : ℕ) (is : start ≡ start_of waits.state.slots (stack_length waits.state.slots) found found) where
      start_is : start ≡ start_of b (stack_length b) (lowest_from b l.i) (lowest_from b l.i)
      start_is = is ∙ ap (λ (o : ℕ). start_of b (stack_length b) o o) lowest

      pub chain_begins : InChain a waits.state waits.state.i start c laid
      chain_begins =
          record {
            layable = waits.layable;
            within = rw start_is (within_begins a waits.layable.linked waits.layable.room l waits.between some);
            i = waits.i;
            held = waits.held;
          }

      module _ (left : Lent) (now : ℕ) (laid_out_lem : ChainLaid a waits.state (lay_chain (stack_length waits.state.slots) waits.state.i start waits.state) laid left now) where
        abbrev after : Laying
        after = lay_chain (stack_length waits.state.slots) waits.state.i start waits.state

        -- the columns are as long as they were
        pub same_length : length left.where_from ≡ length c.where_from
        same_length = omega (
          arith,
          laid_out_lem.held.from_long,
          waits.held.from_long,
          same_stack a after.slots after.from laid_out_lem.between.state.carried,
          same_stack a b l.from carried,
        )

        pub now_within : now ≤ length left.where_from
        now_within =
            omega (
              arith,
              laid_out_lem.i,
              laid_out_lem.between.state.i,
              laid_out_lem.between.state.within,
              same_stack a after.slots after.from laid_out_lem.between.state.carried,
              laid_out_lem.held.from_long,
            )

        -- the search that goes on at the larger place finds what the definition finds
        resumes : lowest_from after.slots (max now (found - 1) + 1) ≡ lowest_from after.slots after.i
        resumes = let larger = larger_by_max now (found - 1) in sym (lowest_resumes after.slots after.i (max now (found - 1) + 1) (omega (arith, laid_out_lem.i, larger.left)) (free larger.one))
          where
            free : (max now (found - 1) ≡ now) ⊎ (max now (found - 1) ≡ found - 1) → FreeBetween after.slots after.i (max now (found - 1) + 1)
            free (inl e) = λ s k m. absurd (omega (arith, laid_out_lem.i))
            free (inr e) =
                let last : max now (found - 1) + 1 ≡ lowest_from b l.i = omega (arith, lowest) in
                rw last (laid_out_lem.free (lowest_from b l.i) (free_before b l.i))

        pub next_waits : Waits a left now (max now (found - 1))
        next_waits =
            let one_step : waits.steps ≡ suc (waits.steps - 1) = omega (arith, waits.enough, waits.i, place_left chain_begins, same_stack a b l.from carried) in
            let step = lay_next (waits.steps - 1) l some in
            record {
              layable = waits.layable;
              state = after;
              steps = waits.steps - 1;
              between = laid_out_lem.between;
              i = laid_out_lem.i;
              held = laid_out_lem.held;
              same = rw start_is (sym step ∙ rw (← one_step) waits.same);
              enough = omega (arith, waits.enough, waits.i, laid_out_lem.i, laid_out_lem.more, one_step);
              lowest = resumes;
            }

-- ---- the loop's needs

pub ready_small : {c : Lent} → ((a : Arena) × Ready a c) → length c.where_from ≤ capacity_limit
ready_small (a, ready) = omega (arith, ready.held.from_long, ready.layable.small)

not_none : {s : ℕ} → 0 < s → s ≢ 0
not_none h z = omega arith

module _ {old c : Lent} {laid passed : ℕ} (laying : LayingOut old c laid passed) where
  -- the columns stay as long as they were
  pub laying_long : ((a : Arena) × Ready a old) → length c.where_from ≡ length old.where_from
  laying_long (a, ready) = let waits = laying.waits a ready in omega (arith, waits.held.from_long, ready.held.from_long, same_stack a waits.state.slots waits.state.from waits.between.state.carried)

  pub laying_ends : ((b : Arena) → Occupied b c.where_from → 0 ≡ lowest_from b (passed + 1)) → (a : Arena) → Ready a old → AllLaid a (laid_out a) c
  laying_ends lowest a ready = let waits = laying.waits a ready in none_waits a c laid passed waits (lowest waits.state.slots (waits_occupied a c laid passed waits))

  -- a link was found
  module _ {found : ℕ} (lowest : (b : Arena) → Occupied b c.where_from → found ≡ lowest_from b (passed + 1)) (some : 0 < found) where
    at_found : (a : Arena) (waits : Waits a c laid passed) → found ≡ lowest_from waits.state.slots (passed + 1)
    at_found a waits = lowest waits.state.slots (waits_occupied a c laid passed waits)

    pub some_rooted : ((a : Arena) × Ready a old) → (b : Arena) × Rooted b c.prev found
    some_rooted (a, ready) = let waits = laying.waits a ready in (waits.state.slots, rooted a c laid passed waits found (at_found a waits) (not_none some))

    module _ {start : ℕ} (walk : (b : Arena) → Rooted b c.prev found → start ≡ start_of b (stack_length b) found found) where
      is : (a : Arena) (waits : Waits a c laid passed) → start ≡ start_of waits.state.slots (stack_length waits.state.slots) found found
      is a waits = walk waits.state.slots (rooted a c laid passed waits found (at_found a waits) (not_none some))

      begins : (a : Arena) (waits : Waits a c laid passed) → InChain a waits.state waits.state.i start c laid
      begins a waits = chain_begins a c laid passed waits found (at_found a waits) (not_none some) start (is a waits)

      pub some_chain : ((a : Arena) × Ready a old) → (a : Arena) × (l : Laying) × InChain a l l.i start c laid
      some_chain (a, ready) = let waits = laying.waits a ready in (a, waits.state, begins a waits)

      module _ {left : Lent} {now : ℕ}
          (laid_out_lem : (a : Arena) (l : Laying) → InChain a l l.i start c laid → ChainLaid a l (lay_chain (stack_length l.slots) l.i start l) laid left now) where
        its : (a : Arena) (waits : Waits a c laid passed) → ChainLaid a waits.state (lay_chain (stack_length waits.state.slots) waits.state.i start waits.state) laid left now
        its a waits = laid_out_lem a waits.state (begins a waits)

        -- more links are in place, no more than there are slots; and the found slot is one of them
        pub some_more : ((a : Arena) × Ready a old) → (laid < now) × (now ≤ length left.where_from) × (found ≤ length c.where_from) × (length left.where_from ≡ length c.where_from)
        some_more (a, ready) =
            let waits = laying.waits a ready in (
              (its a waits).more,
              now_within a c laid passed waits found (at_found a waits) (not_none some) start (is a waits) left now (its a waits),
              found_within a c laid passed waits found (at_found a waits) (not_none some),
              same_length a c laid passed waits found (at_found a waits) (not_none some) start (is a waits) left now (its a waits),
            )

        pub laying_goes_on : LayingOut old left now (max now (found - 1))
        laying_goes_on =
            record { waits = λ a ready. let waits = laying.waits a ready in next_waits a c laid passed waits found (at_found a waits) (not_none some) start (is a waits) left now (its a waits) }
