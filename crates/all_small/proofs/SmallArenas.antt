-- The list of small arenas is whole and in order: 90 of them, how many of each stack length, each before those that follow it, each small, and no small arena
-- is missing. By computation the list is the table, unpacked, and of the table sizes, order and words are computed. That no small arena is missing is
-- an argument: its words are among those that are tried, and the check passes it. Assumes nothing.
use Prim.Native.Nat.{ℕ, zero, suc, ◌≤◌, ◌<◌}
use mathlib.Core.Path.{◌≡◌, refl, sym, subst}
use mathlib.Core.Bool.{Bool, true, ◌&&◌}
use mathlib.Core.List.{List, [], ◌∷◌, map}
use native.Mathlib.Omega.{arith}
use lib.ListN.{length, get_or}
use borrow.Author.Tests.{eq-eqb}
use Rattle.definitions.specs.Columns.{at, slots_from, keep}
use Rattle.definitions.specs.Arena.{Arena, arena, capacity_limit, stack_length, allocated, link_slots, free_slots}
use Rattle.definitions.specs.Check.{misshapen, freelist_walk, names_back, neighbours_fine, all_fine, counts_of, verdict}
use Rattle.definitions.proofs.Tests.{both_first, both_second}
use Rattle.statements.specs.SmallArenas.{IsSmall, slot_words, order_words, earlier, before, entry, tally, AllSmall}
use Rattle.all_small.specs.SmallArenas.{up_to, passes_check, of_length, small_arenas}
use Rattle.all_small.proofs.Among.{Among, among_flat, among_slots, place_of, among_kept}
use Rattle.all_small.proofs.Facts.{passes_at, slot_fine, slots_fine, words_fine, small_if_fine}
use Rattle.all_small.proofs.Candidates.{tried}
use Rattle.all_small.proofs.Packed.{digit, after, digits, unpacked}
use Rattle.all_small.proofs.Table.{table, listed}

abbrev none : Arena
none = arena [] [] [] [] []

-- ---- what is computed of a list: whether all pass a test, and whether each comes before all that follow it

unfoldable all_pass : (Arena → Bool) → List Arena → Bool
all_pass test [] = true
all_pass test (a ∷ arenas) = test a && all_pass test arenas

unfoldable ascends : List Arena → Bool
ascends [] = true
ascends (a ∷ arenas) = all_pass (before a) arenas && ascends arenas

pass_at : (test : Arena → Bool) (xs : List Arena) → all_pass test xs ≡ true → (i : ℕ) → i < length xs → test (get_or xs i none) ≡ true
unfolding all_pass
pass_at test [] e i h = absurd (omega arith)
pass_at test (x ∷ xs) e zero h = both_first _ _ e
pass_at test (x ∷ xs) e (suc i) h = pass_at test xs (both_second (test x) _ e) i (omega arith)

rises_at : (xs : List Arena) → ascends xs ≡ true → (i j : ℕ) → i < j → j < length xs → before (get_or xs i none) (get_or xs j none) ≡ true
unfolding ascends
rises_at [] e i j l h = absurd (omega arith)
rises_at (x ∷ xs) e i zero l h = absurd (omega arith)
rises_at (x ∷ xs) e zero (suc j) l h = pass_at (before x) xs (both_first _ _ e) j (omega arith)
rises_at (x ∷ xs) e (suc i) (suc j) l h = rises_at xs (both_second (all_pass (before x) xs) _ e) i j (omega arith) (omega arith)

record Computed (arenas : List Arena) : Type 0 where
  pub size : length arenas ≡ 90
  pub by_length : map (tally arenas) (0 ∷ 1 ∷ 2 ∷ 3 ∷ []) ≡ 1 ∷ 3 ∷ 13 ∷ 73 ∷ []
  pub rising : ascends arenas ≡ true
  pub small : all_pass words_fine arenas ≡ true

computed : Computed (map unpacked table)
unfolding all_pass ascends slot_words order_words earlier before tally slot_fine slots_fine words_fine digit after digits unpacked at slots_from keep allocated link_slots free_slots misshapen freelist_walk names_back neighbours_fine all_fine counts_of verdict
computed = record { size = refl; by_length = refl; rising = refl; small = refl }

of_list : Computed small_arenas
of_list = subst Computed (sym listed) computed

-- ---- every small arena is there

every : (limit : ℕ) (a : Arena) → IsSmall limit a → Among a small_arenas
unfolding small_arenas of_length up_to passes_check
every limit a h =
    among_flat of_length (stack_length a) (up_to 3) a (among_slots (stack_length a) 0 4 (omega arith) (omega (arith, h.short)))
    (among_kept passes_check a _ (tried limit a h) (eq-eqb _ _ (passes_at limit 3 a (omega (arith, h.full, h.short)) h.passes)))

pub small_arenas_at : (limit : ℕ) → 3 ≤ limit → AllSmall limit small_arenas
unfolding entry
small_arenas_at limit h = record {
  size = of_list.size;
  by_length = of_list.by_length;
  rising = rises_at small_arenas of_list.rising;
  small = λ i l. small_if_fine (get_or small_arenas i none) limit h (pass_at words_fine small_arenas of_list.small i l);
  every = λ a s. place_of none a small_arenas (every limit a s);
}

-- at the port's own limit
pub small_arenas_lem : AllSmall capacity_limit small_arenas
small_arenas_lem = small_arenas_at capacity_limit (omega arith)
