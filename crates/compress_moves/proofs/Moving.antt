-- Laws of moving the words of the links to the front of a column, one after the other, each from further back. Assumes nothing.
use Prim.Native.Nat.{ℕ, zero, suc, ◌+◌, ◌*◌, ◌≤◌, ◌<◌}
use mathlib.Core.Path.{◌≡◌, refl, sym, ap, ◌∙◌}
use mathlib.Core.Bool.{Bool, true}
use mathlib.Core.List.{List, [], ◌∷◌, ◌++◌, map, map-append}
use native.Mathlib.Omega.{arith}
use native.Mathlib.Numerals.{add-one}
use lib.ListN.{length, get_or, set, take, length-map}
use lib.Seq.{take-suc, take_all, length-take-le}
use Rattle.definitions.specs.Columns.{at, slots_from, keep, written}
use Rattle.definitions.specs.Arena.{allocated, link_slots}
use Rattle.definitions.proofs.Tests.{by_test}
use Rattle.definitions.proofs.Columns.{at_suc}
use Rattle.definitions.proofs.Slots.{allocated_within, links_and_free}
use Rattle.definitions.proofs.Count.{In, in_here, in_there, only_links}
use Rattle.definitions.proofs.Parts.{at_one, at_cons, in_at}
use Rattle.definitions.proofs.Written.{written_none, written_more, written_behind, written_parts}
use Rattle.compress_moves.specs.Moves.{new_name, carried, Full, Movable}
use Rattle.compress_moves.proofs.Numbers.{map_end}

-- ---- links in rising order are each at or past their own place

kept_past : (test : ℕ → Bool) (s m k : ℕ) → k < length (keep test (slots_from s m)) → s + k ≤ at (keep test (slots_from s m)) (suc k)
unfolding slots_from keep
kept_past test s zero k h = absurd (omega arith)
kept_past test s (suc m) k h =
    by_test (test s) (λ e. first k e (rw e at h) (λ j l. kept_past test (suc s) m j l)) (λ e. rw e (omega (arith, kept_past test (suc s) m k (rw e at h))))
  where
    first : (j : ℕ) → test s ≡ true → j < length (s ∷ keep test (slots_from (suc s) m)) → ((i : ℕ) → i < length (keep test (slots_from (suc s) m)) → suc s + i ≤ at (keep test (slots_from (suc s) m)) (suc i)) → s + j ≤ at (keep test (slots_from s (suc m))) (suc j)
    first zero e l rest = rw (e, at_one) (omega arith)
    first (suc j) e l rest = rw (e, at_cons s (keep test (slots_from (suc s) m)) (suc j) (omega arith)) (omega (arith, rest j (omega arith)))

module _ (gs : List ℕ) (n k : ℕ) (h : k < length (link_slots gs n)) where
  pub link_past : k < at (link_slots gs n) (suc k)
  unfolding link_slots
  link_past = omega (arith, kept_past (allocated gs n) 1 n k h)

  pub listed_link : allocated gs n (at (link_slots gs n) (suc k)) ≡ true
  listed_link = only_links gs n _ (in_at (link_slots gs n) (suc k) (omega arith) h)

-- ---- one column, when the words f of the first k slots of a list are at its front

module _ (f : ℕ → ℕ) (old w : List ℕ) (k : ℕ) (h : k < length w) where
  moved_size : length (map f (take k w)) ≡ k
  moved_size = length-map (take k w) f ∙ length-take-le k w (omega arith)

  moved_reads : (s : ℕ) → k < s → at (written (map f (take k w)) old) s ≡ at old s
  moved_reads zero l = absurd (omega arith)
  moved_reads (suc j) l = at_suc _ j ∙ (written_behind _ old j (omega (arith, moved_size)) ∙ sym (at_suc old j))

  moved_more : length w ≤ length old → set (written (map f (take k w)) old) k (f (at w (suc k))) ≡ written (map f (take (k + 1) w)) old
  moved_more room =
      let one : take (k + 1) w ≡ take k w ++ (at w (suc k) ∷ []) = rw (add-one k, at_suc w k) (take-suc w k 0 h) in
      rw (one, map-append f (take k w) (at w (suc k) ∷ [])) (written_more _ old k (f (at w (suc k)) ∷ []) moved_size (omega arith))

-- ---- the three columns that move, when the first k links are at their front

pub record Moving (ps ns vs numbers : List ℕ) (n links k : ℕ) (ps' ns' vs' : List ℕ) : Type 0 where
  pub within : k ≤ links
  pub prevs : ps' ≡ written (map (new_name numbers ps) (take k (link_slots numbers n))) ps
  pub nexts : ns' ≡ written (map (new_name numbers ns) (take k (link_slots numbers n))) ns
  pub payloads : vs' ≡ written (map (at vs) (take k (link_slots numbers n))) vs

module _ {ps ns vs numbers report : List ℕ} {n links : ℕ} (can : Movable ps ns vs numbers report n links) where
  abbrev w : List ℕ
  w = link_slots numbers n

  pub moving_starts : Moving ps ns vs numbers n links 0 ps ns vs
  moving_starts = record {
    within = omega arith;
    prevs = sym (written_none ps);
    nexts = sym (written_none ns);
    payloads = sym (written_none vs);
  }

  module _ {k : ℕ} {ps' ns' vs' : List ℕ} (r : Moving ps ns vs numbers n links k ps' ns' vs') (h : k < links) where
    -- the next link's slot, as the report lists it
    abbrev s : ℕ
    s = get_or report (4 * k) 0

    left : k < length w
    left = omega (arith, can.counted)

    slot : s ≡ at w (suc k)
    slot = can.listed k h

    link : allocated numbers n s ≡ true
    link = rw slot (listed_link numbers n k left)

    past : k < s
    past = rw slot (link_past numbers n k left)

    pub moving_slot : (k < s) × (s ≤ n)
    moving_slot = (past, allocated_within numbers n s link)

    -- its words are still there
    prev_here : at ps' s ≡ at ps s
    prev_here = ap (λ (l : List ℕ). at l s) r.prevs ∙ moved_reads _ ps w k left s past

    next_here : at ns' s ≡ at ns s
    next_here = ap (λ (l : List ℕ). at l s) r.nexts ∙ moved_reads _ ns w k left s past

    payload_here : at vs' s ≡ at vs s
    payload_here = ap (λ (l : List ℕ). at l s) r.payloads ∙ moved_reads _ vs w k left s past

    pub moving_names : (at ps' s ≤ length numbers) × (at ns' s ≤ length numbers)
    moving_names = rw (prev_here, next_here) (omega (arith, can.prev s link, can.numbers_within), omega (arith, can.next s link, can.numbers_within))

    fits : (old : List ℕ) → n ≤ length old → length w ≤ length old
    fits old l = omega (arith, links_and_free numbers n)

    -- the next link is moved
    pub moving_goes_on : Moving ps ns vs numbers n links (k + 1) (set ps' k (new_name numbers ps' s)) (set ns' k (new_name numbers ns' s)) (set vs' k (at vs' s))
    moving_goes_on = record {
      within = omega arith;
      prevs = rw (prev_here, r.prevs, slot) (moved_more (new_name numbers ps) ps w k left (fits ps can.prev_within));
      nexts = rw (next_here, r.nexts, slot) (moved_more (new_name numbers ns) ns w k left (fits ns can.next_within));
      payloads = rw (payload_here, r.payloads, slot) (moved_more (at vs) vs w k left (fits vs can.payload_within));
    }

  pub moving_done : {k : ℕ} {ps' ns' vs' : List ℕ} → Moving ps ns vs numbers n links k ps' ns' vs' → links ≤ k →
      (ps' ≡ carried (new_name numbers ps) numbers n ps) × (ns' ≡ carried (new_name numbers ns) numbers n ns) × (vs' ≡ carried (at vs) numbers n vs)
  moving_done {k} r h =
      let all : take k w ≡ w = take_all k w (omega (arith, can.counted)) in
      (rw all at r.prevs, rw all at r.nexts, rw all at r.payloads)

-- ---- where no slot is free every word is where it belongs

pub map_agree : (f g : ℕ → ℕ) (xs : List ℕ) → ((x : ℕ) → In x xs → f x ≡ g x) → map f xs ≡ map g xs
map_agree f g [] h = refl
map_agree f g (x ∷ xs) h = rw (h x (in_here x xs), map_agree f g xs (λ y i. h y (in_there y x xs i))) refl

take_slots : (xs : List ℕ) (n : ℕ) → n ≤ length xs → take n xs ≡ map (at xs) (slots_from 1 n)
unfolding slots_from
take_slots xs zero h = refl
take_slots xs (suc k) h = take-suc xs k 0 h ∙ (rw (take_slots xs k (omega arith), ← at_suc xs k) (sym (map_end (at xs) k)))

in_place : (f : ℕ → ℕ) (numbers column : List ℕ) (n : ℕ) → n ≤ length column → Full numbers n → ((o : ℕ) → allocated numbers n o ≡ true → f o ≡ at column o) → column ≡ carried f numbers n column
in_place f numbers column n room full same =
    let words : map f (link_slots numbers n) ≡ take n column = map_agree f (at column) (link_slots numbers n) (λ o i. same o (only_links numbers n o i)) ∙ rw full.0 (sym (take_slots column n room)) in
    written_parts _ column column n (ap length words ∙ length-take-le n column room) (sym words) refl

pub all_in_place : {ps ns vs numbers report : List ℕ} {n links : ℕ} → Movable ps ns vs numbers report n links → links ≡ n →
    (ps ≡ carried (new_name numbers ps) numbers n ps) × (ns ≡ carried (new_name numbers ns) numbers n ns) × (vs ≡ carried (at vs) numbers n vs)
all_in_place {ps} {ns} {vs} {numbers} {n = n} can e =
    let full = can.full e in (
      in_place _ numbers ps n can.prev_within full (λ o a. full.1 (at ps o) (can.prev o a)),
      in_place _ numbers ns n can.next_within full (λ o a. full.1 (at ns o) (can.next o a)),
      in_place _ numbers vs n can.payload_within full (λ o a. refl),
    )
