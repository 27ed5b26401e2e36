-- What the check reads of a column is the column's part in the stack, its first n words: the part and the column agree there. Assumes nothing.
use Prim.Native.Nat.{ℕ, ◌≤◌}
use mathlib.Core.Path.{◌≡◌, refl, ap}
use mathlib.Core.Bool.{true, not}
use mathlib.Core.List.{List}
use lib.ListN.{take}
use Rattle.definitions.specs.Columns.{at, slots_from}
use Rattle.definitions.specs.Arena.{allocated}
use Rattle.definitions.specs.Check.{counts_of, broken_slots, side_at}
use Rattle.definitions.proofs.Parts.{at_take}
use Rattle.definitions.proofs.Slots.{allocated_within}
use Rattle.definitions.proofs.Count.{keep_agree}
use Rattle.well_formed.proofs.ReadsOnly.{same_counts, same_names_back, same_fine}

module _ (n : ℕ) (gs ns : List ℕ) where
  pub counts_take : (m s : ℕ) → counts_of (take n ns) (take n gs) n m s ≡ counts_of ns gs n m s
  counts_take = same_counts (take n gs) gs n (at_take n gs) (take n ns) ns (at_take n ns)

  -- at a link in particular
  link_take : (xs : List ℕ) (s : ℕ) → allocated (take n gs) n s ≡ true → at (take n xs) s ≡ at xs s
  link_take xs s l = at_take n xs s (allocated_within (take n gs) n s l)

  module _ (ps : List ℕ) where
    pub broken_take : broken_slots (take n ps) (take n ns) (take n gs) n ≡ broken_slots ps ns gs n
    unfolding broken_slots
    broken_take =
        keep_agree _ _ (slots_from 1 n) (λ s i. ap not (same_fine (take n gs) gs n (at_take n gs) (take n ns) ns (at_take n ns) (take n ps) ps (link_take ps) s))

    pub side_take : (x : ℕ) → x ≤ n → side_at (take n ps) (take n ns) (take n gs) n x ≡ side_at ps ns gs n x
    unfolding side_at
    side_take x h =
        rw (at_take n ps x h, same_names_back (take n gs) gs n (at_take n gs) (take n ns) ns (at_take n ns) (take n ps) ps (link_take ps) (take n ns) ns x (at ps x) (link_take ns)) refl
