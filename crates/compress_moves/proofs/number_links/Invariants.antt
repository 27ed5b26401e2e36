-- `compress_moves::number_links` meets its contract. The loop's invariant: the links in the first i slots are numbered and reported, and the
-- generations from place i on are the old ones. While links are left so are slots, and the measure is how many words there are. Assumes nothing.
use Prim.Native.Nat.{ℕ, ◌-◌, ◌≤◌}
use mathlib.Core.Path.{◌≡◌}
use mathlib.Core.List.{List, []}
use lib.ListN.{length}
use Rattle.definitions.specs.Arena.{Arena, arena, link_slots}
use Rattle.compress_moves.proofs.Numbers.{Numbering}
use Rattle.compress_moves.proofs.number_links.Given as goal

-- an arena with this generation column; nothing else of it is read
abbrev with-generation : List ℕ → Arena
with-generation gs = arena [] [] gs [] []

abbrev pub invariant-loop-count : goal.invariant-loop-count
invariant-loop-count l =
    (n : ℕ) → n ≤ length l.initial.generation → l.links ≡ length (link_slots l.initial.generation n) →
    Numbering (with-generation l.initial.generation) n l.new.0 l.links l.initial.report l.i l.count l.generation l.report

abbrev pub decreases-loop-count : goal.decreases-loop-count
decreases-loop-count l = length l.initial.generation - l.i
