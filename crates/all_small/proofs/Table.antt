-- The list of all small arenas, computed: it is the table, unpacked. What breaks rule 11 is left out before the roots are tried, so that few arenas are checked.
-- Assumes nothing.
use Prim.Native.Nat.{ℕ, zero, suc, ◌<◌}
use mathlib.Core.Path.{◌≡◌, refl, sym, ap, ◌∙◌}
use mathlib.Core.Bool.{Bool, true}
use mathlib.Core.List.{List, [], ◌∷◌, map, flat_map}
use native.Mathlib.Omega.{arith}
use lib.ListN.{length, get_or}
use borrow.Author.Tests.{eqb-true}
use Rattle.definitions.specs.Columns.{at, slots_from, keep}
use Rattle.definitions.specs.Arena.{Arena, arena, allocated, link_slots, free_slots}
use Rattle.definitions.specs.Check.{misshapen, freelist_walk, names_back, neighbours_fine, all_fine, counts_of, verdict}
use Rattle.definitions.proofs.Shaped.{passed_links}
use Rattle.statements.specs.SmallArenas.{entry}
use Rattle.all_small.specs.SmallArenas.{pairs, kept, up_to, Row, rows_of, stacks, own_slots, stacked, passes_check, of_length, small_arenas}
use Rattle.all_small.proofs.Among.{kept_pairs}
use Rattle.all_small.proofs.Packed.{digit, after, digits, unpacked}

-- whether rule 11 holds at every slot of a stack of these rows
unfoldable interlinked : List Row → Bool
interlinked rs = all_fine (map (λ (r : Row). r.prev) rs) (map (λ (r : Row). r.next) rs) (map (λ (r : Row). r.generation) rs) (length rs) (length rs)

unfoldable thinned : ℕ → List Arena
thinned n = kept passes_check (pairs stacked (up_to n) (kept interlinked (stacks n n)))

links_fine : (root : ℕ) (rs : List Row) → passes_check (stacked root rs) ≡ true → interlinked rs ≡ true
unfolding passes_check stacked interlinked
links_fine root rs e = passed_links 3 (stacked root rs) (eqb-true _ _ e)

of_length_lem : (n : ℕ) → thinned n ≡ of_length n
unfolding thinned of_length
of_length_lem n = kept_pairs passes_check interlinked stacked (up_to n) (stacks n n) links_fine

abbrev pub table : List ℕ
table =
    0 ∷ 6149 ∷ 6469 ∷ 273 ∷ 2627594 ∷ 2791434 ∷ 2644490 ∷ 2627914 ∷ 2791754 ∷ 2693258 ∷
    2710154 ∷ 2621718 ∷ 2785558 ∷ 131602 ∷ 65826 ∷ 137254 ∷ 137574 ∷ 942151695 ∷ 1005066255 ∷ 950736911 ∷
    942315535 ∷ 1005230095 ∷ 975755279 ∷ 984340495 ∷ 942168591 ∷ 1005083151 ∷ 950753807 ∷ 946346767 ∷ 946510607 ∷ 979950351 ∷
    942152015 ∷ 1005066575 ∷ 950737231 ∷ 942315855 ∷ 1005230415 ∷ 975755599 ∷ 984340815 ∷ 942217359 ∷ 1005131919 ∷ 975820943 ∷
    942234255 ∷ 1005148815 ∷ 946412431 ∷ 980016015 ∷ 958929103 ∷ 967514319 ∷ 959092943 ∷ 958945999 ∷ 967531215 ∷ 963124175 ∷
    963288015 ∷ 942145819 ∷ 1005060379 ∷ 950731035 ∷ 942309659 ∷ 1005224219 ∷ 975749403 ∷ 984334619 ∷ 939655703 ∷ 1002570263 ∷
    50528787 ∷ 33686291 ∷ 52953879 ∷ 53117719 ∷ 939589927 ∷ 1002504487 ∷ 16974115 ∷ 50397987 ∷ 939661355 ∷ 1002575915 ∷
    50534439 ∷ 943856427 ∷ 939661675 ∷ 1002576235 ∷ 50534759 ∷ 956438763 ∷ 960633835 ∷ 33620275 ∷ 19398967 ∷ 19562807 ∷
    16908851 ∷ 33691703 ∷ 52959291 ∷ 53123131 ∷ 52976187 ∷ 33692023 ∷ 52959611 ∷ 53123451 ∷ 53024955 ∷ 53041851 ∷
    []

computes : flat_map thinned (up_to 3) ≡ map unpacked table
unfolding flat_map pairs kept up_to rows_of stacks own_slots stacked passes_check interlinked thinned digit after digits unpacked at slots_from keep allocated link_slots free_slots misshapen freelist_walk names_back neighbours_fine all_fine counts_of verdict
computes = refl

same_lists : (ns : List ℕ) → flat_map thinned ns ≡ flat_map of_length ns
unfolding flat_map
same_lists [] = refl
same_lists (n ∷ ns) = rw (of_length_lem n, same_lists ns) refl

pub listed : small_arenas ≡ map unpacked table
unfolding small_arenas
listed = sym (same_lists (up_to 3)) ∙ computes

-- ---- entry by entry

at_place : (ps : List ℕ) (i : ℕ) → i < length ps → unpacked (get_or ps i 0) ≡ get_or (map unpacked ps) i (arena [] [] [] [] [])
at_place [] i h = absurd (omega arith)
at_place (p ∷ ps) zero h = refl
at_place (p ∷ ps) (suc i) h = at_place ps i (omega arith)

pub table_entry : (i : ℕ) → i < 90 → unpacked (get_or table i 0) ≡ entry small_arenas i
unfolding entry
table_entry i h = at_place table i h ∙ ap (λ (l : List Arena). get_or l i (arena [] [] [] [] [])) (sym listed)
