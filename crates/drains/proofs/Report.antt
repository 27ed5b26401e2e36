-- The slots that a report names, as items are written and read. Assumes nothing.
use Prim.Native.Nat.{ℕ, zero, suc, ◌+◌, ◌-◌, ◌*◌, ◌≤◌, ◌<◌}
use mathlib.Core.Path.{◌≡◌, refl, sym, ap, ap₂, ◌∙◌}
use mathlib.Core.List.{List, [], ◌∷◌, ◌++◌}
use native.Mathlib.Omega.{arith}
use lib.ListN.{length, get_or, set, drop}
use lib.Seq.{get_or-set_same, get_or-set_other, get_or-drop, drop-drop, drop-set-add}
use Rattle.definitions.specs.Arena.{Arena}
use Rattle.definitions.specs.Remove.{removed, drain_items}
use Rattle.definitions.specs.Report.{item_slots}

pub length_items : (items : ℕ) (report : List ℕ) → length (item_slots items report) ≡ items
unfolding item_slots
length_items zero report = refl
length_items (suc items) report = ap suc (length_items items (drop 5 report))

-- the last item: its slot is the first of its five words
items_last : (items : ℕ) (report : List ℕ) → item_slots (suc items) report ≡ item_slots items report ++ get_or report (5 * items) 0 ∷ []
unfolding item_slots
items_last zero report = refl
items_last (suc items) report =
    let e : 5 * suc items ≡ 5 + 5 * items = omega arith in
    ap (λ (l : List ℕ). get_or report 0 0 ∷ l)
    (items_last items (drop 5 report) ∙ ap (λ (s : ℕ). item_slots items (drop 5 report) ++ s ∷ []) (get_or-drop 5 report (5 * items) 0 ∙ ap (λ (i : ℕ). get_or report i 0) (sym e)))

-- a word past the items is none of them
items_before : (items i v : ℕ) (report : List ℕ) → 5 * items ≤ i → item_slots items (set report i v) ≡ item_slots items report
unfolding item_slots
items_before zero i v report h = refl
items_before (suc items) i v report h =
    let e : i ≡ 5 + (i - 5) = omega arith in
    ap₂ (λ (s : ℕ) (l : List ℕ). s ∷ l) (get_or-set_other report i 0 v 0 (λ z. omega arith))
    (ap (λ (j : ℕ). item_slots items (drop 5 (set report j v))) e ∙ ap (item_slots items) (drop-set-add 5 report (i - 5) v) ∙ items_before items (i - 5) v (drop 5 report) (omega arith))

-- the next item is begun with slot s
pub items_more : (items s : ℕ) (report : List ℕ) → 5 * items < length report → item_slots (items + 1) (set report (5 * items) s) ≡ item_slots items report ++ s ∷ []
items_more items s report h =
    let e : items + 1 ≡ suc items = omega arith in
    rw e
    (items_last items (set report (5 * items) s)
    ∙ ap₂ (λ (l : List ℕ) (x : ℕ). l ++ x ∷ []) (items_before items (5 * items) s report (omega arith)) (get_or-set_same report (5 * items) s 0 h))

-- the items from word 5 k on: the first of them, and the others
pub items_from : (items k : ℕ) (report : List ℕ) → k < items → item_slots (items - k) (drop (5 * k) report) ≡ get_or report (5 * k) 0 ∷ item_slots (items - (k + 1)) (drop (5 * (k + 1)) report)
unfolding item_slots
items_from items k report h =
    let e : items - k ≡ suc (items - (k + 1)) = omega arith in
    let f : 5 * k + 0 ≡ 5 * k = omega arith in
    let g : 5 * k + 5 ≡ 5 * (k + 1) = omega arith in
    rw e
    (ap₂ (λ (s : ℕ) (l : List ℕ). s ∷ l) (get_or-drop (5 * k) report 0 0 ∙ ap (λ (i : ℕ). get_or report i 0) f)
    (ap (item_slots (items - (k + 1))) (drop-drop 5 (5 * k) report ∙ ap (λ (i : ℕ). drop i report) g)))

-- a drain reports five words for each link
pub length_drained : (top : ℕ) (a : Arena) (ss : List ℕ) → length (drain_items top a ss) ≡ 5 * length ss
unfolding drain_items
length_drained top a [] = refl
length_drained top a (s ∷ ss) = omega (arith, length_drained top (removed top a s) ss)

-- its items name the links in their order, whatever follows
pub items_drained : (top : ℕ) (a : Arena) (ss rest : List ℕ) → item_slots (length ss) (drain_items top a ss ++ rest) ≡ ss
unfolding item_slots drain_items
items_drained top a [] rest = refl
items_drained top a (s ∷ ss) rest = ap (λ (l : List ℕ). s ∷ l) (items_drained top (removed top a s) ss rest)
