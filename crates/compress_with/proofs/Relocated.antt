-- Links that are numbered, moved down and stamped with the new generation, with the slots behind them popped, are the definition's `relocate`.
-- Assumes nothing.
use Prim.Native.Nat.{ℕ, zero, suc, ◌*◌, ◌≤◌, ◌<◌}
use mathlib.Core.Path.{◌≡◌, refl, sym, ap, ◌∙◌}
use mathlib.Core.Bool.{true}
use mathlib.Core.List.{List, [], ◌∷◌, map}
use native.Mathlib.Omega.{arith}
use lib.ListN.{length, get_or, drop, replicate, length-map}
use lib.Seq.{take-append_seam}
use Rattle.definitions.specs.Columns.{at, slots_from, settled, written}
use Rattle.definitions.specs.Arena.{Arena, arena, header_words, stack_length, link_count, current, allocated, link_slots}
use Rattle.definitions.specs.Compress.{place, moves_of, compressed_header, relocate}
use Rattle.definitions.proofs.Columns.{at_suc}
use Rattle.definitions.proofs.Slots.{links_and_free}
use Rattle.definitions.proofs.Count.{only_links}
use Rattle.definitions.proofs.Written.{length_written, written_rest, written_reads}
use Rattle.base_freelist.specs.Popped.{popped}
use Rattle.base_freelist.proofs.Settled.{settled_over}
use Rattle.compress_moves.specs.Moves.{numbered, new_name, carried, Movable, Compressible}
use Rattle.compress_moves.specs.Shrunk.{Shrinkable, shrunk}
use Rattle.renaming.proofs.CompressWith.{moves_read}
use Rattle.compress_moves.proofs.Numbers.{length_moves}
use Rattle.compress_moves.proofs.Moving.{map_agree}
use Rattle.compress_moves.proofs.Shrinks.{shrunk_header}
use Rattle.compress_moves.proofs.Names.{numbered_at, numbered_links, numbered_link, numbered_full, length_numbered, numbers_long}

-- popping leaves the words at the front, and the old words past the stack
written_popped : (ws old : List ℕ) (k n : ℕ) → length ws ≡ k → k ≤ n → popped k n (written ws old) ≡ settled n ws old
unfolding written
written_popped ws old k n e h =
    rw (← e) (ap (λ (l : List ℕ). settled n l (written ws old)) (take-append_seam ws (drop (length ws) old)) ∙ settled_over n ws (written ws old) old (written_rest ws old n (omega arith)))

length_carried : (f : ℕ → ℕ) (numbers : List ℕ) (n : ℕ) (column : List ℕ) → n ≤ length column → length (carried f numbers n column) ≡ length column
length_carried f numbers n column h = length_written (map f (link_slots numbers n)) column (omega (arith, length-map (link_slots numbers n) f, links_and_free numbers n))

filled : (g : ℕ) (w : List ℕ) → replicate (length w) g ≡ map (λ (o : ℕ). g) w
filled g [] = refl
filled g (o ∷ w) = ap (λ (l : List ℕ). g ∷ l) (filled g w)

-- the first of the four words of a link in the report is its slot
moves_slot : (a : Arena) (g s k : ℕ) (os : List ℕ) → k < length os → get_or (moves_of a g s os) (4 * k) 0 ≡ at os (suc k)
unfolding moves_of at
moves_slot a g s k [] h = absurd (omega arith)
moves_slot a g s zero (o ∷ os) h = refl
moves_slot a g s (suc k) (o ∷ os) h =
    let e : 4 * suc k ≡ suc (suc (suc (suc (4 * k)))) = omega arith in
    rw e (moves_slot a g (suc s) k os (omega arith))

module _ {ps ns gs vs : List ℕ} {n links room : ℕ} (can : Compressible ps ns gs vs n links room) where
  abbrev w : List ℕ
  w = link_slots gs n

  abbrev numbers : List ℕ
  numbers = numbered gs n

  fits : n ≤ length gs
  fits = can.generation_within

  same_links : link_slots numbers n ≡ w
  same_links = numbered_links gs n fits

  pub few : links ≤ n
  few = omega (arith, can.counted, links_and_free gs n)

  -- the numbers and the report say what to move where
  pub movable : (a : Arena) (g : ℕ) (old : List ℕ) {report : List ℕ} → report ≡ written (moves_of a g 1 w) old → room ≤ length report → Movable ps ns vs numbers report n links
  movable a g old e l = record {
    prev_within = can.prev_within;
    next_within = can.next_within;
    payload_within = can.payload_within;
    numbers_within = omega (arith, length_numbered gs n fits, fits);
    prev = λ o h. can.prev o (numbered_link gs n fits o h);
    next = λ o h. can.next o (numbered_link gs n fits o h);
    counted = can.counted ∙ ap length (sym same_links);
    room = omega (arith, can.room);
    listed = λ k h.
        let within : k < length w = omega (arith, can.counted) in
        let word : get_or (written (moves_of a g 1 w) old) (4 * k) 0 ≡ get_or (moves_of a g 1 w) (4 * k) 0 = sym (at_suc _ (4 * k)) ∙ (written_reads (moves_of a g 1 w) old (suc (4 * k)) (omega (arith, length_moves a g 1 w)) ∙ at_suc _ (4 * k)) in
        rw (e, same_links) (word ∙ moves_slot a g 1 k w within);
    full = λ e. numbered_full gs n fits (sym can.counted ∙ e);
  }

  -- a link column: a neighbour's number is its place among the links
  renamed : (column : List ℕ) → ((o : ℕ) → allocated gs n o ≡ true → at column o ≤ n) →
      popped links n (carried (new_name numbers column) numbers n column) ≡ settled n (map (λ o. place w (at column o)) w) column
  renamed column named =
      rw same_links (written_popped (map (new_name numbers column) w) column links n (length-map w _ ∙ sym can.counted) few)
      ∙ ap (λ (l : List ℕ). settled n l column) (map_agree _ _ w (λ o i. numbered_at gs n fits (at column o) (named o (only_links gs n o i))))

  payloads : popped links n (carried (at vs) numbers n vs) ≡ settled n (map (λ o. at vs o) w) vs
  payloads = rw same_links (written_popped (map (at vs) w) vs links n (length-map w (at vs) ∙ sym can.counted) few)

  numbers_rest : drop n numbers ≡ drop n gs
  unfolding numbered
  numbers_rest = written_rest (map (place w) (slots_from 1 n)) gs n (omega (arith, numbers_long gs n fits))

  -- the links are all of the new generation
  stamped : (g : ℕ) → settled n (replicate links g) numbers ≡ settled n (map (λ o. g) w) gs
  stamped g =
      settled_over n (replicate links g) numbers gs numbers_rest
      ∙ ap (λ (l : List ℕ). settled n l gs) (ap (λ (k : ℕ). replicate k g) can.counted ∙ filled g w)

  -- there are as many slots as before
  pub roomy : (n ≤ length (carried (new_name numbers ps) numbers n ps)) × (n ≤ length (carried (new_name numbers ns) numbers n ns)) × (n ≤ length numbers)
      × (n ≤ length (carried (at vs) numbers n vs)) × (links ≤ n)
  roomy = (
    omega (arith, length_carried (new_name numbers ps) numbers n ps can.prev_within, can.prev_within),
    omega (arith, length_carried (new_name numbers ns) numbers n ns can.next_within, can.next_within),
    omega (arith, length_numbered gs n fits, fits),
    omega (arith, length_carried (at vs) numbers n vs can.payload_within, can.payload_within),
    few,
  )

-- columns that were compressed with the header k are compressed with any other h that has the same stack length
module _ {ps ns gs vs : List ℕ} {n links room : ℕ} (can : Compressible ps ns gs vs n links room) (g : ℕ) where
  pub any_header : {ps' ns' gs' vs' k' : List ℕ} (k h : List ℕ) → arena ps' ns' gs' vs' k' ≡ relocate (link_slots gs n) g (arena ps ns gs vs k) → get_or k 0 0 ≡ n → get_or h 0 0 ≡ n
      → arena ps' ns' gs' vs' (compressed_header links g h) ≡ relocate (link_slots gs n) g (arena ps ns gs vs h)
  unfolding relocate
  any_header k h e ek eh =
      rw (ap (λ (a : Arena). a.prev) e, ap (λ (a : Arena). a.next) e, ap (λ (a : Arena). a.generation) e, ap (λ (a : Arena). a.payload) e, ek, eh, can.counted) refl

  pub any_report : (k h old : List ℕ) {new : List ℕ} → new ≡ written (moves_of (arena ps ns gs vs k) g 1 (link_slots gs n)) old → new ≡ written (moves_of (arena ps ns gs vs h) g 1 (link_slots gs n)) old
  any_report k h old e = e ∙ ap (λ (m : List ℕ). written m old) (moves_read (arena ps ns gs vs k) (arena ps ns gs vs h) g 1 (link_slots gs n) refl)

module _ (a : Arena) {room : ℕ} (can : Compressible a.prev a.next a.generation a.payload (stack_length a) (link_count a) room)
    {ps ns numbers vs : List ℕ} (named : numbers ≡ numbered a.generation (stack_length a))
    (moves : (ps ≡ carried (new_name numbers a.prev) numbers (stack_length a) a.prev)
    × (ns ≡ carried (new_name numbers a.next) numbers (stack_length a) a.next)
    × (vs ≡ carried (at a.payload) numbers (stack_length a) a.payload)) where
  pub shrinkable : length a.header ≡ header_words → Shrinkable (arena ps ns numbers vs a.header)
  shrinkable four =
      let fits = roomy can in
      rw (moves.0, moves.1, moves.2, named) (record { header = four; room = record { prev = fits.0; next = fits.1; generation = fits.2; payload = fits.3 }; links = fits.4 })

  -- the columns together, once the links are moved down and stamped, and the slots behind them popped
  pub relocated : {left : Arena} → left ≡ shrunk (arena ps ns numbers vs a.header) → left ≡ relocate (link_slots a.generation (stack_length a)) (current a) a
  unfolding relocate shrunk
  relocated shrinks =
      rw (shrinks, moves.0, moves.1, moves.2, named, renamed can a.prev can.prev, renamed can a.next can.next, payloads can, stamped can (current a), ← can.counted, shrunk_header a) refl
