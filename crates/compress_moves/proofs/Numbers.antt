-- Laws of numbering the links in slot order: what one slot more adds to the numbers and to the report. Assumes nothing.
use Prim.Native.Nat.{ℕ, zero, suc, ◌+◌, ◌-◌, ◌*◌, ◌≤◌, ◌<◌}
use mathlib.Core.Path.{◌≡◌, refl, sym, ap, ◌∙◌}
use mathlib.Core.Bool.{Bool, true, false}
use mathlib.Core.List.{List, [], ◌∷◌, ◌++◌, map, map-append, append-nil}
use native.Mathlib.Omega.{arith}
use native.Mathlib.Nat.{zero-add}
use native.Mathlib.Numerals.{add-one, one-add}
use native.Mathlib.Decide.{ℕ_discrete}
use lib.ListN.{length, get_or, set, take, drop, length-append, length-map, length-set, length-take}
use lib.Seq.{sets, sets-eq, length-sets, set-get_or, take_at, take-set-le, drop-set-lt}
use Rattle.definitions.specs.Columns.{at, slots_from, keep, written}
use Rattle.definitions.specs.Arena.{Arena, capacity_limit, allocated, link_slots}
use Rattle.definitions.specs.Compress.{place, moves_of}
use Rattle.definitions.specs.Read.{Pointer, pointer}
use Rattle.definitions.proofs.Columns.{at_suc}
use Rattle.definitions.proofs.Slots.{allocated_yes, allocated_free, slots_snoc, length_slots, keep_append}
use Rattle.ptr.specs.declared.Ptr.{Ptr}
use Rattle.ptr.specs.Pointers.{pointer_of}
use Rattle.renaming.proofs.CompressWith.{moves_read}
use Rattle.compress_moves.specs.Moves.{numbered, Numbered}
use Rattle.definitions.proofs.Written.{written_none, written_more, written_kept, written_behind, written_parts}
use Rattle.compress_moves.proofs.Place.{place_lacks, place_has, place_within}

-- ---- a run of slots with one more at its end

pub slots_end : (k : ℕ) → slots_from 1 (suc k) ≡ slots_from 1 k ++ (suc k ∷ [])
slots_end k = slots_snoc 1 k ∙ ap (λ (x : ℕ). slots_from 1 k ++ (x ∷ [])) (one-add k)

module _ (test : ℕ → Bool) (k : ℕ) where
  pub keep_end : test (suc k) ≡ true → keep test (slots_from 1 (suc k)) ≡ keep test (slots_from 1 k) ++ (suc k ∷ [])
  unfolding keep
  keep_end e = rw (slots_end k, keep_append, e) refl

  pub keep_not_end : test (suc k) ≡ false → keep test (slots_from 1 (suc k)) ≡ keep test (slots_from 1 k)
  unfolding keep
  keep_not_end e = rw (slots_end k, keep_append, e) (append-nil _)

pub map_end : (f : ℕ → ℕ) (k : ℕ) → map f (slots_from 1 (suc k)) ≡ map f (slots_from 1 k) ++ (f (suc k) ∷ [])
map_end f k = ap (map f) (slots_end k) ∙ map-append f (slots_from 1 k) (suc k ∷ [])

-- ---- the report

module _ (a : Arena) (g : ℕ) where
  pub length_moves : (s : ℕ) (os : List ℕ) → length (moves_of a g s os) ≡ 4 * length os
  unfolding moves_of
  length_moves s [] = refl
  length_moves s (o ∷ os) = omega (arith, length_moves (suc s) os)

  pub moves_end : (s : ℕ) (os : List ℕ) (o : ℕ) → moves_of a g s (os ++ (o ∷ [])) ≡ moves_of a g s os ++ (o ∷ at a.generation o ∷ (length os + s) ∷ g ∷ [])
  unfolding moves_of
  moves_end s [] o = rw (zero-add s) refl
  moves_end s (x ∷ os) o =
      let e : suc (length os) + s ≡ length os + suc s = omega arith in
      rw (e, moves_end (suc s) os o) refl

-- ---- a run of stores: what stands before it, up to its end, and behind it

take_sets_below : (m : ℕ) (l : List ℕ) (i : ℕ) (vs : List ℕ) → m ≤ i → take m (sets l i vs) ≡ take m l
take_sets_below m l i [] h = refl
take_sets_below m l i (v ∷ vs) h = take_sets_below m (set l i v) (suc i) vs (omega arith) ∙ take-set-le m l i v h

take_sets : (vs l : List ℕ) (i : ℕ) → i + length vs ≤ length l → take (i + length vs) (sets l i vs) ≡ take i l ++ vs
take_sets vs l i h =
    let size : length (take i l ++ vs) ≡ i + length vs = simp (length-append, length-take) (omega arith) in
    rw (sets-eq vs l i h) (take_at (take i l ++ vs) (drop (i + length vs) l) (i + length vs) size)

drop_sets : (m : ℕ) (l : List ℕ) (i : ℕ) (vs : List ℕ) → i + length vs ≤ m → drop m (sets l i vs) ≡ drop m l
drop_sets m l i [] h = refl
drop_sets m l i (v ∷ vs) h = drop_sets m (set l i v) (suc i) vs (omega arith) ∙ drop-set-lt m l i v (omega arith)

-- ---- numbering the links of a stack of n slots, when the first i slots are passed

abbrev pub links_upto : List ℕ → ℕ → ℕ → List ℕ
links_upto gs n i = keep (allocated gs n) (slots_from 1 i)

-- of the links, so many, those in the first i slots are numbered and reported; the report's words of the next link are anything
pub record Numbering (a : Arena) (n g links : ℕ) (old : List ℕ) (i count : ℕ) (numbers report : List ℕ) : Type 0 where
  pub within : i ≤ n
  pub few : count ≤ i
  pub counted : count ≡ length (links_upto a.generation n i)
  pub named : numbers ≡ written (map (place (link_slots a.generation n)) (slots_from 1 i)) a.generation
  pub front : take (4 * count) report ≡ moves_of a g 1 (links_upto a.generation n i)
  pub rest : drop (4 * links) report ≡ drop (4 * links) old
  pub numbers_length : length numbers ≡ length a.generation
  pub report_length : length report ≡ length old

-- the words that are reported of slot i + 1
abbrev pub report_words : ℕ → ℕ → ℕ → ℕ → List ℕ
report_words i count generation g = (i + 1) ∷ generation ∷ (count + 1) ∷ g ∷ []

-- those words, as the code tells them: the words of two pointers
pub words_told : (report : List ℕ) (i count generation g : ℕ) {p q : Ptr} {told : List ℕ}
    → told ≡ sets report (4 * count) (p.inx.0 ∷ p.generation.0 ∷ q.inx.0 ∷ q.generation.0 ∷ [])
    → pointer_of p ≡ pointer (i + 1) generation
    → pointer_of q ≡ pointer (count + 1) g
    → told ≡ sets report (4 * count) (report_words i count generation g)
words_told report i count generation g {p} {q} is e f =
    let words : p.inx.0 ∷ p.generation.0 ∷ q.inx.0 ∷ q.generation.0 ∷ [] ≡ report_words i count generation g =
    rw (ap (λ (x : Pointer). x.slot) e, ap (λ (x : Pointer). x.generation) e, ap (λ (x : Pointer). x.slot) f, ap (λ (x : Pointer). x.generation) f) refl in
    is ∙ ap (sets report (4 * count)) words

pub numbering_starts : (a : Arena) (n g links : ℕ) (old : List ℕ) → Numbering a n g links old 0 0 a.generation old
unfolding keep slots_from moves_of
numbering_starts a n g links old = record {
  within = omega arith;
  few = omega arith;
  counted = refl;
  named = sym (written_none a.generation);
  front = refl;
  rest = refl;
  numbers_length = refl;
  report_length = refl;
}

module _ {a : Arena} {n g links : ℕ} {old : List ℕ} {i count : ℕ} {numbers report : List ℕ} (r : Numbering a n g links old i count numbers report) where
  abbrev gs : List ℕ
  gs = a.generation

  passed : length (map (place (link_slots gs n)) (slots_from 1 i)) ≡ i
  passed = length-map (slots_from 1 i) (place (link_slots gs n)) ∙ length_slots 1 i

  -- the next slot's generation is still there
  pub numbering_reads : get_or numbers i 0 ≡ at gs (suc i)
  numbering_reads = ap (λ (l : List ℕ). get_or l i 0) r.named ∙ (written_behind _ gs i (omega (arith, passed)) ∙ sym (at_suc gs i))

  -- where links are left, so are slots
  pub numbering_within : links ≡ length (link_slots gs n) → count < links → i < n
  unfolding link_slots
  numbering_within e h = go (ℕ_discrete i n)
    where
      go : Dec (i ≡ n) → i < n
      go (yes q) = absurd (omega (arith, r.counted, ap (λ (k : ℕ). length (links_upto gs n k)) q))
      go (no d) = omega (arith, r.within)

  -- a free slot is passed over: its number is 0, as its generation was
  module _ (h : i < n) (l : n ≤ length gs) (z : get_or numbers i 0 ≡ 0) where
    free : at gs (suc i) ≡ 0
    free = sym numbering_reads ∙ z

    same : links_upto gs n (suc i) ≡ links_upto gs n i
    same = keep_not_end (allocated gs n) i (allocated_free gs n (suc i) free)

    pub numbering_passes : Numbering a n g links old (suc i) count numbers report
    unfolding link_slots
    numbering_passes =
        let lacks : place (link_slots gs n) (suc i) ≡ 0 = place_lacks (allocated gs n) (suc i) 1 n (allocated_free gs n (suc i) free) in
        let word : get_or gs i 0 ≡ 0 = sym (at_suc gs i) ∙ free in
        record {
          within = h;
          few = omega (arith, r.few);
          counted = rw same r.counted;
          named = r.named ∙ sym (rw (map_end (place (link_slots gs n)) i, lacks, ← word) (written_kept _ gs i passed (omega arith)));
          front = rw same r.front;
          rest = r.rest;
          numbers_length = r.numbers_length;
          report_length = r.report_length;
        }

    -- and what was reported of it counts for nothing
    pub numbering_skips : count < links → Numbering a n g links old (i + 1) count (set numbers i 0) (sets report (4 * count) (report_words i count (get_or numbers i 0) g))
    numbering_skips more =
        let r' = numbering_passes in
        let words = report_words i count (get_or numbers i 0) g in
        let next : links_upto gs n (i + 1) ≡ links_upto gs n (suc i) = rw (add-one i) refl in
        record {
          within = omega arith;
          few = omega (arith, r.few);
          counted = rw next r'.counted;
          named = rw (add-one i) (ap (λ (v : ℕ). set numbers i v) (sym z) ∙ (set-get_or numbers i 0 ∙ r'.named));
          front = rw next (take_sets_below (4 * count) report (4 * count) words (omega arith) ∙ r'.front);
          rest = drop_sets (4 * links) report (4 * count) words (omega arith) ∙ r.rest;
          numbers_length = length-set numbers i 0 ∙ r.numbers_length;
          report_length = length-sets report (4 * count) words ∙ r.report_length;
        }

  module _ (h : i < n) (live : get_or numbers i 0 ≡ 0 → ⊥) where
    taken : allocated gs n (suc i) ≡ true
    taken = allocated_yes gs n (suc i) h (λ z. live (numbering_reads ∙ z))

    -- the next link's new slot
    numbering_next : place (link_slots gs n) (suc i) ≡ count + 1
    unfolding link_slots
    numbering_next =
        let e : suc i - 1 ≡ i = omega arith in
        place_has (allocated gs n) (suc i) 1 n taken (omega arith) (omega arith)
        ∙ (ap (λ (k : ℕ). suc (length (links_upto gs n k))) e ∙ omega (arith, r.counted))

    pub one_more : count + 1 ≤ length (link_slots gs n)
    one_more = rw (← numbering_next) (place_within (link_slots gs n) (suc i))

    -- a link is numbered and reported
    pub numbering_names : n ≤ length gs → links ≡ length (link_slots gs n) → 4 * links ≤ length old →
        Numbering a n g links old (i + 1) (count + 1) (set numbers i (count + 1)) (sets report (4 * count) (report_words i count (get_or numbers i 0) g))
    numbering_names l e room =
        let w = link_slots gs n in
        let words = report_words i count (get_or numbers i 0) g in
        let more : links_upto gs n (i + 1) ≡ links_upto gs n i ++ (suc i ∷ []) = rw (add-one i) (keep_end (allocated gs n) i taken) in
        let numbered_more : map (place w) (slots_from 1 (i + 1)) ≡ map (place w) (slots_from 1 i) ++ ((count + 1) ∷ []) = rw (add-one i) (rw numbering_next at (map_end (place w) i)) in
        let enough : 4 * count + 4 ≤ 4 * links = omega (arith, one_more) in
        let four : 4 * (count + 1) ≡ 4 * count + 4 = omega arith in
        let told : moves_of a g 1 (links_upto gs n (i + 1)) ≡ moves_of a g 1 (links_upto gs n i) ++ words = rw (more, moves_end a g 1 (links_upto gs n i) (suc i), ← numbering_reads, ← r.counted, add-one i) refl in
        record {
          within = omega arith;
          few = omega (arith, r.few);
          counted = rw (more, length-append) (omega (arith, r.counted));
          named = rw (r.named, numbered_more) (written_more _ gs i ((count + 1) ∷ []) passed (omega arith));
          front = rw (four, told, take_sets words report (4 * count) (omega (arith, r.report_length))) (ap (λ (t : List ℕ). t ++ words) r.front);
          rest = drop_sets (4 * links) report (4 * count) words enough ∙ r.rest;
          numbers_length = length-set numbers i (count + 1) ∙ r.numbers_length;
          report_length = length-sets report (4 * count) words ∙ r.report_length;
        }

-- while links are left there is room for one more, in the column and in the report
pub numbering_room : {a : Arena} {g links : ℕ} {old : List ℕ} {i count : ℕ} {numbers report : List ℕ}
    → (n : ℕ) × (n ≤ capacity_limit) × (n ≤ length a.generation) × (links ≡ length (link_slots a.generation n)) × (4 * links ≤ length old)
    → ((n : ℕ) → n ≤ length a.generation → links ≡ length (link_slots a.generation n) → Numbering a n g links old i count numbers report)
    → count < links → (i < length numbers) × (i < length a.generation) × (i < capacity_limit) × (count ≤ i) × (4 * count + 4 ≤ length report)
numbering_room (n, small, h, e, room) so_far more =
    let r = so_far n h e in
    let left = numbering_within r e more in
    (omega (arith, r.numbers_length), omega arith, omega arith, r.few, omega (arith, r.report_length))

module _ {a : Arena} {n g links : ℕ} {old : List ℕ} (e : links ≡ length (link_slots a.generation n)) (l : n ≤ length a.generation) where
  -- once every link is numbered, the slots left are free
  all_passed : (k : ℕ) {i count : ℕ} {numbers report : List ℕ} → Numbering a n g links old i count numbers report → links ≤ count → i + k ≡ n → Numbering a n g links old n count numbers report
  all_passed zero {i} r h q = let at_end : i ≡ n = omega arith in rw at_end at r
  all_passed (suc k) {i} {count} {numbers} r h q =
      let free : get_or numbers i 0 ≡ 0 = go (ℕ_discrete (get_or numbers i 0) 0) in
      all_passed k (numbering_passes r (omega arith) l free) h (omega arith)
    where
      go : Dec (get_or numbers i 0 ≡ 0) → get_or numbers i 0 ≡ 0
      go (yes z) = z
      go (no d) = absurd (omega (arith, one_more r (omega arith) d))

  pub numbering_done : {i count : ℕ} {numbers report : List ℕ} → Numbering a n g links old i count numbers report → links ≤ count → Numbered a n g old numbers report
  unfolding link_slots numbered
  numbering_done {i} {count} {report = report} r h =
      let all = all_passed (n - i) r h (omega (arith, r.within)) in
      let whole : count ≡ links = all.counted ∙ sym e in
      let size : length (moves_of a g 1 (link_slots a.generation n)) ≡ 4 * links = omega (arith, length_moves a g 1 (link_slots a.generation n)) in
      record { named = all.named; reported = written_parts _ report old (4 * links) size (rw whole at all.front) all.rest }

-- the other columns and the header are not read
pub numbered_any : {a : Arena} {n g : ℕ} {old numbers report : List ℕ} (b : Arena) → a.generation ≡ b.generation → Numbered a n g old numbers report → Numbered b n g old numbers report
numbered_any {a} {n} {g} {old} b e r =
    record {
      named = rw (← e) r.named;
      reported = r.reported ∙ ap (λ (l : List ℕ). written l old) (moves_read a b g 1 (link_slots a.generation n) e ∙ ap (λ (gs : List ℕ). moves_of b g 1 (link_slots gs n)) e);
    }
