-- What an insertion promises: for each field of `InsertPlaces` a result that it alone refuses, or at least it.
use Prim.Native.Nat.{ℕ}
use mathlib.Core.Path.{◌≡◌, refl, sym, ap}
use mathlib.Core.Logic.{◌⊎◌, inl, inr}
use mathlib.Core.Bool.{true≢false}
use mathlib.Core.List.{List, [], ◌∷◌}
use native.Mathlib.Omega.{arith}
use lib.ListN.{get_or}
use Rattle.definitions.specs.Columns.{at, first_or, Linked}
use Rattle.definitions.specs.Arena.{Arena, arena, allocated}
use Rattle.definitions.specs.Insert.{by_slot, slot_of, Disconnected, ChainStart}
use Rattle.definitions.proofs.Count.{in_here, in_only}
use Rattle.statements.specs.Chains.{opened, Chain, IsOpen, IsChain, Like, Alike}
use Rattle.statements.specs.InsertPlaces.{Makes, Apart, InsertPlaces}
use Rattle.statements.proofs.Refused.Chains.{open_of}

-- a lone link of payload 7 with two slots after the stack, and an arena of three slots in general: the words of slots 2 and 3, and the stack length
abbrev before : Arena
before = arena (0 ∷ 9 ∷ 9 ∷ []) (0 ∷ 9 ∷ 9 ∷ []) (5 ∷ 9 ∷ 9 ∷ []) (7 ∷ 9 ∷ 9 ∷ []) (1 ∷ 1 ∷ 0 ∷ 6 ∷ [])

abbrev after : List ℕ → List ℕ → List ℕ → List ℕ → ℕ → Arena
after ps ns gs vs n = arena ps ns gs vs (n ∷ n ∷ 0 ∷ 6 ∷ [])

-- a lone link of payload 70 was inserted in slot 2; right are prev 0, 0, next 0, 0, generation 5, 6, payload 7, 70 and a stack of two
abbrev places : Arena → Type 0
places b = InsertPlaces before b Disconnected 2 70

-- slot 0 begins no chain
pub insert_places_made_refused : (b : Arena) → InsertPlaces before b (ChainStart (by_slot 0)) 2 70 → ⊥
unfolding Makes slot_of allocated at
insert_places_made_refused b p = true≢false (sym (p.made.1.1.links 0 (in_here 0 _)))

-- the new link is closed
pub insert_places_makes_refused : places (after (0 ∷ 2 ∷ 9 ∷ []) (0 ∷ 2 ∷ 9 ∷ []) (5 ∷ 6 ∷ 9 ∷ []) (7 ∷ 70 ∷ 9 ∷ []) 2) → ⊥
unfolding Makes IsChain Linked first_or at
insert_places_makes_refused p = omega (arith, (p.makes (open_of (2 ∷ [])) refl).linked.0)

-- the old link is closed
lone_is_open : IsOpen before (1 ∷ [])
unfolding Linked first_or allocated at
lone_is_open = record {
  some = λ e. (let z : ◌≡◌ {A = ℕ} 0 1 = cc in omega arith);
  links = λ s i. rw (in_only s 1 i) refl;
  starts = refl;
  linked = (refl, tt);
}

pub insert_places_stay_refused : places (after (1 ∷ 0 ∷ 9 ∷ []) (1 ∷ 0 ∷ 9 ∷ []) (5 ∷ 6 ∷ 9 ∷ []) (7 ∷ 70 ∷ 9 ∷ []) 2) → ⊥
unfolding Apart IsChain Linked first_or at
insert_places_stay_refused p = omega (arith, (p.stay (open_of (1 ∷ [])) lone_is_open tt).linked.0)

-- a third link has come, alone
abbrev third : Arena
third = after (0 ∷ 0 ∷ 0 ∷ []) (0 ∷ 0 ∷ 0 ∷ []) (5 ∷ 6 ∷ 6 ∷ []) (7 ∷ 70 ∷ 9 ∷ []) 3

third_is_open : IsOpen third (3 ∷ [])
unfolding Linked first_or allocated at
third_is_open = record {
  some = λ e. (let z : ◌≡◌ {A = ℕ} 0 1 = cc in omega arith);
  links = λ s i. rw (in_only s 3 i) refl;
  starts = refl;
  linked = (refl, tt);
}

pub insert_places_all_refused : places third → ⊥
unfolding Makes IsChain allocated at
insert_places_all_refused p = no (p.all (open_of (3 ∷ [])) third_is_open)
  where
    no : ((d : Chain) × Makes before 2 Disconnected d × Alike d (open_of (3 ∷ []))) ⊎ (IsChain before opened (3 ∷ []) × Apart Disconnected (open_of (3 ∷ []))) → ⊥
    no (inl made) = unfold Makes Alike Like in omega (arith, ap (λ (l : List ℕ). get_or l 0 0) (rw made.1 at made.2.1))
    no (inr old) = unfold IsChain allocated at in true≢false (sym (old.0.links 3 (in_here 3 [])))

-- the old link is gone, or has another generation or payload
pub insert_places_links_refused : places (after (0 ∷ 0 ∷ 9 ∷ []) (1 ∷ 0 ∷ 9 ∷ []) (0 ∷ 6 ∷ 9 ∷ []) (7 ∷ 70 ∷ 9 ∷ []) 2) → ⊥
unfolding allocated at
insert_places_links_refused p = true≢false (sym (p.links 1 refl))

pub insert_places_generations_refused : places (after (0 ∷ 0 ∷ 9 ∷ []) (0 ∷ 0 ∷ 9 ∷ []) (6 ∷ 6 ∷ 9 ∷ []) (7 ∷ 70 ∷ 9 ∷ []) 2) → ⊥
unfolding allocated at
insert_places_generations_refused p = omega (arith, p.generations 1 refl)

pub insert_places_payloads_refused : places (after (0 ∷ 0 ∷ 9 ∷ []) (0 ∷ 0 ∷ 9 ∷ []) (5 ∷ 6 ∷ 9 ∷ []) (8 ∷ 70 ∷ 9 ∷ []) 2) → ⊥
unfolding allocated at
insert_places_payloads_refused p = omega (arith, p.payloads 1 refl)

-- the slot of the old link is taken; nothing was inserted; two links have come
pub insert_places_fresh_refused : (b : Arena) → InsertPlaces before b Disconnected 1 7 → ⊥
unfolding allocated at
insert_places_fresh_refused b p = true≢false p.fresh

pub insert_places_new_refused : places before → ⊥
unfolding allocated at
insert_places_new_refused p = true≢false (sym p.new)

pub insert_places_only_refused : places third → ⊥
unfolding allocated at
insert_places_only_refused p = true≢false (sym (p.only 3 refl (λ e. omega (arith, e))))

-- the new link is of the generation before, or has another payload
pub insert_places_generation_refused : places (after (0 ∷ 0 ∷ 9 ∷ []) (0 ∷ 0 ∷ 9 ∷ []) (5 ∷ 5 ∷ 9 ∷ []) (7 ∷ 70 ∷ 9 ∷ []) 2) → ⊥
unfolding at
insert_places_generation_refused p = omega (arith, p.generation)

pub insert_places_payload_refused : places (after (0 ∷ 0 ∷ 9 ∷ []) (0 ∷ 0 ∷ 9 ∷ []) (5 ∷ 6 ∷ 9 ∷ []) (7 ∷ 71 ∷ 9 ∷ []) 2) → ⊥
unfolding at
insert_places_payload_refused p = omega (arith, p.payload)
