-- What follows for a program that keeps the contract of the call that gives small arenas: what it finds is the small arena of the index, a refusal writes nothing,
-- and whatever calls are made on what is lent on, or on the columns as a whole, the arena passes the check. Assumes nothing.
use Prim.Native.Nat.{ℕ, ◌≤◌, ◌<◌}
use mathlib.Core.Path.{◌≡◌, sym, ap, subst, ◌∙◌}
use mathlib.Core.Bool.{false}
use mathlib.Core.List.{List, [], ◌∷◌}
use native.Mathlib.Omega.{arith}
use lib.ListN.{get_or}
use Rattle.definitions.specs.Arena.{Arena}
use Rattle.definitions.specs.Check.{misshapen, verdict}
use Rattle.definitions.specs.Reply.{Reply}
use Rattle.definitions.specs.Calls.{Made, arena_after}
use Rattle.definitions.proofs.Tests.{by_test}
use Rattle.statements.specs.SmallArenas.{entry, lent_part, GivesSmall}
use Rattle.all_small.specs.SmallArenas.{small_arenas}
use Rattle.all_small.specs.SmallArena.{small_arena}
use Rattle.all_small.proofs.SmallCall.{wrong_lengths, small_found_exactly, refusal_finds_none, gives_small, held_with_room}
use Rattle.every_call.proofs.EveryCallKeeps.{any_calls_keep}

module _ (limit : ℕ) (a : Arena) (index : ℕ) (r : Reply) (p : r ≡ small_arena limit a index) where
  pub small_refusal_by_contract : (r.number ≡ 0 → ⊥) → (r.fields ≡ 0 ∷ 0 ∷ []) × (r.arena ≡ a)
  small_refusal_by_contract refused =
      let told = refusal_finds_none limit a index (λ e. refused (ap (λ (s : Reply). s.number) p ∙ e)) in
      (ap (λ (s : Reply). s.fields) p ∙ told.0, ap (λ (s : Reply). s.arena) p ∙ told.1)

  module _ (h : 3 ≤ limit) (found : get_or r.fields 0 0 ≡ 1) where
    found_there : get_or (small_arena limit a index).fields 0 0 ≡ 1
    found_there = ap (λ (s : Reply). get_or s.fields 0 0) (sym p) ∙ found

    right_lengths : misshapen limit a ≡ false
    right_lengths = by_test (misshapen limit a) (λ m. absurd (omega (arith, sym found_there ∙ ap (λ (s : Reply). get_or s.fields 0 0) (wrong_lengths limit a index m)))) (λ m. m)

    pub small_by_contract : (index < 90) × GivesSmall limit (entry small_arenas index) a r
    small_by_contract =
        let f = (small_found_exactly limit a index right_lengths).0 found_there in
        (f.0, subst (λ (s : Reply). GivesSmall limit (entry small_arenas index) a s) (sym p) (gives_small limit h a index right_lengths f.0 f.1))

    -- be it lent on alone, or the columns as a whole
    pub calls_after_small : (top : ℕ) (ms : List Made) →
        (verdict limit (arena_after limit top ms (lent_part (get_or r.fields 1 0) r.arena)) ≡ 0)
        × (verdict limit (arena_after limit top ms r.arena) ≡ 0)
    calls_after_small top ms =
        let f = (small_found_exactly limit a index right_lengths).0 found_there in
        let g = small_by_contract.1 in
        let same : lent_part (get_or r.fields 1 0) r.arena ≡ entry small_arenas index = ap (λ (fs : List ℕ). lent_part (get_or fs 1 0) r.arena) g.fields ∙ g.lent_on in (
          rw same (any_calls_keep limit top ms (entry small_arenas index) g.small.passes),
          any_calls_keep limit top ms r.arena (ap (λ (s : Reply). verdict limit s.arena) p ∙ held_with_room limit h a index right_lengths f.0 f.1),
        )
