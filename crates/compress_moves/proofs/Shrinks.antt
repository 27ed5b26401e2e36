-- Columns whose slots after the links are popped, with the links in one generation. Assumes nothing.
use Prim.Native.Nat.{ℕ, ◌≤◌}
use mathlib.Core.Path.{◌≡◌, refl, sym, ap, ◌∙◌}
use mathlib.Core.List.{List, ◌++◌}
use native.Mathlib.Omega.{arith}
use lib.ListN.{length, get_or, set, drop, replicate, length-replicate}
use lib.Seq.{take_at, set-get_or, get_or-set_other}
use Rattle.definitions.specs.Columns.{settled, written}
use Rattle.definitions.specs.Arena.{Arena, arena, stack_length, link_count, current, with_header, with_stack_length, with_root}
use Rattle.definitions.specs.Compress.{compressed_header}
use Rattle.definitions.proofs.Written.{written_rest}
use Rattle.base_freelist.specs.Popped.{popped, all_popped}
use Rattle.base_freelist.proofs.Settled.{settled_over}
use Rattle.compress_moves.specs.Shrunk.{shrunk, Shrinkable}

in_front : (ws old : List ℕ) (k : ℕ) → length ws ≡ k → ws ++ drop k old ≡ written ws old
unfolding written
in_front ws old k e = rw e refl

-- m slots filled with g, and the slots after them popped
filled_popped : (m n g : ℕ) (gs : List ℕ) → m ≤ n → popped m n (replicate m g ++ drop m gs) ≡ settled n (replicate m g) gs
filled_popped m n g gs h =
    let size : length (replicate m g) ≡ m = length-replicate m g in
    rw (take_at (replicate m g) (drop m gs) m size)
    (settled_over n (replicate m g) (replicate m g ++ drop m gs) gs (ap (drop n) (in_front (replicate m g) gs m size) ∙ written_rest (replicate m g) gs n (omega (arith, size))))

-- the links filled, the slots after them popped, and the header set
pub shrinks : {a popped : Arena} {filled : List ℕ} → Shrinkable a
    → filled ≡ replicate (link_count a) (current a) ++ drop (link_count a) a.generation
    → popped ≡ all_popped (link_count a) (stack_length a) (arena a.prev a.next filled a.payload a.header)
    → with_header popped (set (set popped.header 2 0) 0 (link_count a)) ≡ shrunk a
unfolding shrunk
shrinks {a} can f p = rw (p, f, filled_popped (link_count a) (stack_length a) (current a) a.generation can.links) refl

-- the header that is left is that of a compression of all links in the current generation
pub shrunk_header : (a : Arena) → with_stack_length (link_count a) (with_root 0 a.header) ≡ compressed_header (link_count a) (current a) a.header
shrunk_header a =
    let h = with_root 0 a.header in
    let word : get_or h 1 0 ≡ link_count a = get_or-set_other a.header 2 1 0 0 (omega arith) in
    let same : set h 1 (link_count a) ≡ h = ap (λ (v : ℕ). set h 1 v) (sym word) ∙ set-get_or h 1 0 in
    rw (set-get_or a.header 3 0, same) refl
