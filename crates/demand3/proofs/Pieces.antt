-- Slots cut where next does not lead on to the slot above: if an order of the links is chain after chain, the pieces of the arena laid out in it are
-- these chains, one piece for each, open or closed as it is. Assumes nothing.
use Prim.Native.Nat.{ℕ, zero, suc, ◌+◌, ◌-◌, ◌≤◌, ◌<◌}
use mathlib.Core.Path.{◌≡◌, refl, sym, ap, ◌∙◌}
use mathlib.Core.Logic.{◌≢◌}
use mathlib.Core.List.{List, [], ◌∷◌, ◌++◌, map, append_assoc, flatten}
use native.Mathlib.Omega.{arith}
use native.Mathlib.Nat.{add-zero}
use lib.ListN.{length, length-append}
use borrow.Author.Tests.{eq-eqb, ne_eqb}
use Rattle.definitions.specs.Columns.{at, first_or, last_or, slots_from, Linked}
use Rattle.definitions.specs.Arena.{Arena}
use Rattle.statements.specs.Chains.{Kind, opened, closed, IsChain, extended, cut, marked}
use Rattle.definitions.specs.Compress.{place, relocate}
use Rattle.definitions.proofs.Parts.{at_one, at_cons, at_append_left, at_append_right, slots_append}
use Rattle.chains.proofs.Runs.{linked_at, linked_end}
use Rattle.chains.proofs.OneChain.{chain_some}
use Rattle.chains.proofs.Find.{opened≢closed}
use Rattle.renaming.proofs.Orders.{OrderOf}
use Rattle.renaming.proofs.Relocated.{new_next, place_zero, place_back}
use Rattle.demand3.proofs.Order.{All, all_nil, all_cons, SomeChain}

-- ---- cutting

module _ (next : ℕ → ℕ) where
  cut_on : (s : ℕ) (ss : List ℕ) → next s ≡ suc s → cut next (s ∷ ss) ≡ extended s (cut next ss)
  unfolding cut
  cut_on s ss e = rw (eq-eqb (next s) (suc s) e)

  cut_off : (s : ℕ) (ss : List ℕ) → next s ≢ suc s → cut next (s ∷ ss) ≡ (s ∷ []) ∷ cut next ss
  unfolding cut
  cut_off s ss d = rw (ne_eqb (next s) (suc s) d)

  -- a run of slots whose next is the following slot, up to one whose next is not, is a piece
  cut_run : (s k : ℕ) (rest : List ℕ) → ((i : ℕ) → i < k → next (s + i) ≡ suc (s + i)) → next (s + k) ≢ suc (s + k) → cut next (slots_from s (suc k) ++ rest) ≡ slots_from s (suc k) ∷ cut next rest
  unfolding slots_from
  cut_run s zero rest h d = cut_off s rest (rw (add-zero s) at d)
  cut_run s (suc k) rest h d =
      let e : next s ≡ suc s = rw (add-zero s) at (h 0 (omega arith)) in
      let q : s + suc k ≡ suc s + k = omega arith in
      let rest-cut = cut_run (suc s) k rest (λ i l. go i l) (rw q at d) in
      cut_on s (slots_from (suc s) (suc k) ++ rest) e ∙ (ap (extended s) rest-cut ∙ (unfold extended in refl))
    where
      go : (i : ℕ) → i < k → next (suc s + i) ≡ suc (suc s + i)
      go i l = let q : s + suc i ≡ suc s + i = omega arith in rw q at (h (suc i) (omega arith))

  -- ---- marking

  pub marked_members : (p : List ℕ) → (marked next p).members ≡ p
  unfolding marked
  marked_members p = refl

  marked_open : (p : List ℕ) → next (last_or 0 p) ≢ first_or 0 p → (marked next p).kind ≡ opened
  unfolding marked
  marked_open p d = rw (ne_eqb (next (last_or 0 p)) (first_or 0 p) d)

  marked_closed : (p : List ℕ) → next (last_or 0 p) ≡ first_or 0 p → (marked next p).kind ≡ closed
  unfolding marked
  marked_closed p e = rw (eq-eqb (next (last_or 0 p)) (first_or 0 p) e)

-- ---- rising runs

pub last_slots : (s k z : ℕ) → last_or z (slots_from s (suc k)) ≡ s + k
unfolding slots_from last_or
last_slots s zero z = sym (add-zero s)
last_slots s (suc k) z = last_slots (suc s) k s ∙ omega arith

pub first_slots : (s k z : ℕ) → first_or z (slots_from s (suc k)) ≡ s
unfolding slots_from first_or
first_slots s k z = refl

-- a list, read slot by slot
pub map_slots : (f : ℕ → ℕ) (s : ℕ) (c : List ℕ) → ((i : ℕ) → i < length c → f (s + i) ≡ at c (suc i)) → map f (slots_from s (length c)) ≡ c
unfolding slots_from
map_slots f s [] h = refl
map_slots f s (x ∷ c) h =
    let e : f s ≡ x = rw (add-zero s) at (h 0 (omega arith) ∙ at_one x c) in
    let t : map f (slots_from (suc s) (length c)) ≡ c = map_slots f (suc s) c (λ i l. let q : s + suc i ≡ suc s + i = omega arith in rw q at (h (suc i) (omega arith) ∙ at_cons x c (suc i) (omega arith))) in
    cc

-- ---- pieces and chains, one by one

-- two lists of lists, entry by entry
pub data Match (R : List ℕ → List ℕ → Type 0) : List (List ℕ) → List (List ℕ) → Type 0 where
  match_nil : Match R [] []
  match_cons : {p c : List ℕ} {ps cs : List (List ℕ)} → R p c → Match R ps cs → Match R (p ∷ ps) (c ∷ cs)

-- piece p lies on consecutive slots, came from chain c, and is open or closed as it is
pub record PieceOf (a : Arena) (w : List ℕ) (next : ℕ → ℕ) (p c : List ℕ) : Type 0 where
  pub slot : ℕ
  pub on : p ≡ slots_from slot (length c)
  pub low : 1 ≤ slot
  pub high : slot + length c ≤ suc (length w)
  pub came : map (at w) p ≡ c
  pub following : (t : ℕ) → slot ≤ t → suc t < slot + length c → next t ≡ suc t
  pub chain : IsChain a (marked next p).kind c
  pub ends : (marked next p).kind ≡ opened → next (last_or 0 p) ≡ 0

module _ (a : Arena) (w : List ℕ) (order : OrderOf a w) (g : ℕ) where
  abbrev pub next_now : ℕ → ℕ
  next_now s = at (relocate w g a).next s

  -- one chain of the order, after the links of `before`
  module _ (before : List ℕ) (x : ℕ) (xs rest : List ℕ) (e : w ≡ before ++ (x ∷ xs ++ rest)) where
    abbrev pub c : List ℕ
    c = x ∷ xs

    abbrev pub s : ℕ
    s = suc (length before)

    pub size : length w ≡ length before + (suc (length xs) + length rest)
    size = ap length e ∙ (length-append before (x ∷ xs ++ rest) ∙ ap (λ (n : ℕ). length before + n) (length-append (x ∷ xs) rest))

    pub reads : (i : ℕ) → i < length c → at w (s + i) ≡ at c (suc i)
    reads i h =
        let q : s + i ≡ length before + suc i = omega arith in
        rw (q, e) (at_append_right before (x ∷ xs ++ rest) (suc i) (omega arith) ∙ at_append_left (x ∷ xs) rest (suc i) h)

    -- the new next of member i, whose old next is o
    goes : (i o : ℕ) → i < length c → at a.next (at c (suc i)) ≡ o → next_now (s + i) ≡ place w o
    goes i o h k = new_next a w order g (s + i) (omega arith) (omega (arith, size)) ∙ ap (place w) (ap (at a.next) (reads i h) ∙ k)

    place_of : (i : ℕ) → i < length c → place w (at c (suc i)) ≡ s + i
    place_of i h = rw (reads i h) at (place_back a w order (s + i) (omega arith) (omega (arith, size)))

    pub place_first : place w x ≡ s
    place_first = (ap (place w) (sym (at_one x xs)) ∙ place_of 0 (omega arith)) ∙ add-zero s

    -- it is cut off as one piece
    record Cut : Type 0 where
      cuts : (r : List ℕ) → cut next_now (slots_from s (suc (length xs)) ++ r) ≡ slots_from s (suc (length xs)) ∷ cut next_now r
      piece : PieceOf a w next_now (slots_from s (suc (length xs))) (x ∷ xs)

    module _ (z : ℕ) (run : Linked (at a.next) (x ∷ xs) z) where
      -- inside, each next is the following slot; the last is where the end went
      pub inside : (i : ℕ) → i < length xs → next_now (s + i) ≡ suc (s + i)
      inside i h = goes i (at c (suc (suc i))) (omega arith) (linked_at (at a.next) c z run i (omega arith)) ∙ (place_of (suc i) (omega arith) ∙ omega arith)

      pub at_end : next_now (s + length xs) ≡ place w z
      at_end = goes (length xs) z (omega arith) (linked_end (at a.next) x xs z run)

      last_next : next_now (last_or 0 (slots_from s (suc (length xs)))) ≡ place w z
      last_next = ap next_now (last_slots s (length xs) 0) ∙ at_end

      one_piece : (k : Kind) → (marked next_now (slots_from s (suc (length xs)))).kind ≡ k → IsChain a k (x ∷ xs) → place w z ≢ suc (s + length xs) → (k ≡ opened → place w z ≡ 0) → Cut
      one_piece k kind h d ends =
          record {
            cuts = λ r. cut_run next_now s (length xs) r inside (λ q. d (sym at_end ∙ q));
            piece = record {
              slot = s;
              on = refl;
              low = omega arith;
              high = omega (arith, size);
              came = map_slots (at w) s (x ∷ xs) reads;
              following = λ t l m. let q : s + (t - s) ≡ t = omega arith in rw q at (inside (t - s) (omega arith));
              chain = rw kind h;
              ends = λ q. last_next ∙ ends (sym kind ∙ q);
            };
          }

    a_piece : (k : Kind) → IsChain a k (x ∷ xs) → Cut
    unfolding IsChain first_or
    a_piece opened h =
        let z = place_zero a w order in
        let kind = marked_open next_now (slots_from s (suc (length xs))) (λ q. omega (arith, sym (last_next 0 h.linked) ∙ (q ∙ first_slots s (length xs) 0), z)) in
        one_piece 0 h.linked opened kind h (λ q. omega (arith, z, q)) (λ q. z)
    a_piece closed h =
        let kind = marked_closed next_now (slots_from s (suc (length xs))) (last_next x h.linked ∙ (place_first ∙ sym (first_slots s (length xs) 0))) in
        one_piece x h.linked closed kind h (λ q. omega (arith, place_first, q)) (λ q. absurd (opened≢closed (sym q)))

  -- chain after chain
  pub all_pieces : (before : List ℕ) (cs : List (List ℕ)) → w ≡ before ++ flatten cs → All (SomeChain a) cs → Match (PieceOf a w next_now) (cut next_now (slots_from (suc (length before)) (length (flatten cs)))) cs
  all_pieces before [] e all_nil = unfold flatten slots_from cut in match_nil
  all_pieces before ([] ∷ cs) e (all_cons so al) = absurd (chain_some a so.kind [] so.chain refl)
  all_pieces before ((x ∷ xs) ∷ cs) e (all_cons so al) =
      go (a_piece before x xs (flatten cs) e' so.kind so.chain) (all_pieces (before ++ x ∷ xs) cs (e' ∙ sym (append_assoc before (x ∷ xs) (flatten cs))) al)
    where
      e' : w ≡ before ++ (x ∷ xs ++ flatten cs)
      e' = unfold flatten in e

      n : ℕ
      n = suc (length before)

      there : suc (length (before ++ x ∷ xs)) ≡ n + suc (length xs)
      there = omega (arith, length-append before (x ∷ xs))

      both : length (flatten ((x ∷ xs) ∷ cs)) ≡ suc (length xs) + length (flatten cs)
      both = unfold flatten in length-append (x ∷ xs) (flatten cs)

      go : Cut before x xs (flatten cs) e' → Match (PieceOf a w next_now) (cut next_now (slots_from (suc (length (before ++ x ∷ xs))) (length (flatten cs)))) cs →
          Match (PieceOf a w next_now) (cut next_now (slots_from n (length (flatten ((x ∷ xs) ∷ cs))))) ((x ∷ xs) ∷ cs)
      go q ih =
          rw (both, slots_append n (suc (length xs)) (length (flatten cs)), q.cuts (slots_from (n + suc (length xs)) (length (flatten cs)))) (match_cons q.piece (rw there at ih))
