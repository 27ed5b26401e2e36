-- Neither compression looks at a payload: `compression_ignores_payloads`. Both lay links out in an order that is read off prev, next and generation alone.
-- Assumes nothing.
use Prim.Native.Nat.{ℕ, zero, suc, ◌*◌}
use mathlib.Core.Path.{◌≡◌, refl, sym, ap, ap₂, subst, ◌∙◌}
use mathlib.Core.Logic.{◌⊎◌, inl, inr}
use mathlib.Core.Bool.{Bool, true, false}
use mathlib.Core.List.{List, [], ◌∷◌, map, flatten}
use native.Mathlib.Omega.{arith}
use native.Mathlib.Decide.{ℕ_discrete}
use lib.ListN.{length, take, replicate, length-map}
use lib.Dec.{eqb, ltb}
use borrow.Author.Tests.{eqb-true, eqb-false}
use Rattle.definitions.specs.Columns.{at, settled}
use Rattle.definitions.specs.Arena.{Arena, arena, capacity, stack_length, link_count, link_slots}
use Rattle.definitions.specs.Check.{verdict, WellFormed, SameRead}
use Rattle.definitions.specs.Compress.{raises, compress_generation, compress_number, relocate, compress_with, compress_canonical, start_of}
use Rattle.definitions.specs.Reply.{Reply, reply, refusal}
use Rattle.definitions.specs.Calls.{Call, CompressWith, CompressCanonical, accepted, reply_to}
use Rattle.definitions.proofs.Fields.{fields_length}
use Rattle.definitions.proofs.Numbers.{verdict_most}
use Rattle.definitions.proofs.Parts.{length_settled, take_settled}
use Rattle.definitions.proofs.Tests.{by_test}
use Rattle.statements.specs.Demand3.{Accepted}
use Rattle.statements.specs.FrameClock.{SameButPayloads, IgnoresPayloads}
use Rattle.chains.proofs.Find.{along, chain_from}
use Rattle.chains.proofs.Links.{well_formed_linked}
use Rattle.renaming.proofs.CompressWith.{moves_read}
use Rattle.renaming.proofs.Orders.{OrderOf, rising_order, order_within}
use Rattle.demand3.proofs.Bring.{brings}
use Rattle.demand3.proofs.Order.{lowest_link, chains_from, canonical_chains, canonical_order, canonical_order_lem}
use Rattle.demand3.proofs.Accepted.{number_accepts}
use Rattle.demand3.proofs.Equivalence.{links_laid, canonical_accepted, canonical_refused}
use Rattle.well_formed.proofs.ReadsOnly.{verdict_reads_only, broken_reads_only}
use Rattle.well_formed.proofs.WellFormed.{well_formed_if_passes}

-- the arena with other payloads
abbrev over : Arena → List ℕ → Arena
over a vs = arena a.prev a.next a.generation vs a.header

pub same_as : {a b : Arena} → SameButPayloads a b → b ≡ over a b.payload
same_as h = rw (h.prev, h.next, h.generation, h.header) refl

-- ---- the order of both compressions

module _ (a : Arena) (vs : List ℕ) where
  start_same : (steps o s : ℕ) → start_of (over a vs) steps o s ≡ start_of a steps o s
  unfolding start_of
  start_same zero o s = refl
  start_same (suc steps) o s =
      ap (λ (x : ℕ). elim (eqb (at a.prev s) 0) [ true ↦ s | false ↦ elim (eqb (at a.prev s) o) [ true ↦ o | false ↦ x ] ]) (start_same steps o (at a.prev s))

  chain_same : (o : ℕ) → chain_from (over a vs) o ≡ chain_from a o
  unfolding chain_from
  chain_same o = ap (λ (s : ℕ). along (at a.next) (stack_length a) s s) (start_same (stack_length a) o o)

  chains_same : (steps : ℕ) (r : List ℕ) → chains_from (over a vs) steps r ≡ chains_from a steps r
  unfolding chains_from lowest_link
  chains_same zero r = refl
  chains_same (suc steps) r =
      let o = lowest_link a r in
      ap₂ (λ (c : List ℕ) (cs : List (List ℕ)). elim (eqb o 0) [ true ↦ [] | false ↦ c ∷ cs ]) (chain_same o)
      (chains_same steps (brings (chain_from (over a vs) o) r) ∙ ap (λ (c : List ℕ). chains_from a steps (brings c r)) (chain_same o))

  order_same : canonical_order (over a vs) ≡ canonical_order a
  unfolding canonical_order canonical_chains
  order_same = ap flatten (chains_same (stack_length a) _)

-- ---- the replies on an arena and on one with other payloads

module _ (limit : ℕ) (a : Arena) (vs : List ℕ) (same : length a.payload ≡ length vs) where
  read_alike : SameRead a (over a vs)
  read_alike = record {
    header = refl;
    prev_length = refl;
    next_length = refl;
    generation_length = refl;
    payload_length = same;
    generation = λ s i. refl;
    next = λ s i. refl;
    prev = λ s i. refl;
  }

  verdict_same : verdict limit a ≡ verdict limit (over a vs)
  verdict_same = verdict_reads_only limit a (over a vs) read_alike

  alike : SameButPayloads a (over a vs)
  alike = record { prev = refl; next = refl; generation = refl; payload_length = same; header = refl }

  -- a refusal
  kept :
      {w : List ℕ} (r s : Reply) → r.number ≡ s.number → r.broken ≡ s.broken → r.side ≡ s.side → r.fields ≡ s.fields → r.back ≡ s.back → r.arena ≡ a → s.arena ≡ over a vs
      → (Accepted r → ⊥) → IgnoresPayloads a (over a vs) w r s
  kept r s number broken side fields back first second not_done =
      record {
        number = number;
        broken = broken;
        side = side;
        fields = fields;
        back = back;
        left = rw (first, second) alike;
        carried = λ done. absurd (not_done done);
        refused = λ not. (first, second);
      }

  kept_own : {w : List ℕ} (k n : ℕ) (l : List ℕ) → (k ≡ 0 → ⊥) → (k ≡ 100 → ⊥) → IgnoresPayloads a (over a vs) w (refusal k n a l) (refusal k n (over a vs) l)
  kept_own k n l not-0 not-100 =
      kept (refusal k n a l) (refusal k n (over a vs) l) refl refl refl refl refl refl refl (λ done. elim done [ inl e ↦ not-0 e | inr e ↦ not-100 e ])

  -- laid out in one and the same order
  laid_out_lem :
      (ok : WellFormed limit a) {w : List ℕ} → OrderOf a w → (k g : ℕ) (m : List ℕ) → (k ≡ 0) ⊎ (k ≡ 100)
      → IgnoresPayloads a (over a vs) w (reply k [] (relocate w g a) m) (reply k [] (relocate w g (over a vs)) m)
  unfolding relocate
  laid_out_lem ok {w} order k g m done =
      let within = order_within a w order in
      record {
        number = refl;
        broken = refl;
        side = refl;
        fields = refl;
        back = refl;
        left = record {
          prev = refl;
          next = refl;
          generation = refl;
          payload_length =
              length_settled (stack_length a) (map (λ o. at a.payload o) w) a.payload (omega (arith, length-map w (λ o. at a.payload o))) (omega (arith, ok.within, ok.payload_length))
              ∙ same
              ∙ sym (length_settled (stack_length a) (map (λ o. at vs o) w) vs (omega (arith, length-map w (λ o. at vs o))) (omega (arith, ok.within, ok.payload_length)));
          header = refl;
        };
        carried = λ d. (refl, refl);
        refused = λ not_done. absurd (not_done done);
      }

  -- where the check has passed
  with_ignores : (top : ℕ) (reset : Bool) (l : List ℕ) → WellFormed limit a → IgnoresPayloads a (over a vs) (link_slots a.generation (stack_length a)) (compress_with top reset a l) (compress_with top reset (over a vs) l)
  unfolding compress_with compress_generation compress_number raises
  with_ignores top reset l ok =
      by_test (ltb (length l) (4 * link_count a))
      (λ t. rw t (kept_own 14 0 l (λ e. omega (arith, e)) (λ e. omega (arith, e))))
      (λ t. rw (t, moves_read (over a vs) a _ _ _ refl) (laid_out_lem ok (rising_order a) _ _ _ (number_accepts top reset a)))

  canonical_ignores :
      (top : ℕ) (reset : Bool) (l : List ℕ) → WellFormed limit a → WellFormed limit (over a vs)
      → IgnoresPayloads a (over a vs) (take (link_count a) (compress_canonical top reset a l).back) (compress_canonical top reset a l) (compress_canonical top reset (over a vs) l)
  unfolding compress_generation compress_number raises
  canonical_ignores top reset l ok other-ok =
      elim (ℕ_discrete (length l) (capacity a)) [
        | yes e ↦
            let w = canonical_order a in
            let front : take (link_count a) (settled (stack_length a) w l) ≡ w = rw (← links_laid limit top a ok reset l) (take_settled (stack_length a) w l) in
            rw (canonical_accepted limit top a ok reset l e, canonical_accepted limit top (over a vs) other-ok reset l e, order_same a vs, front)
            (laid_out_lem ok (canonical_order_lem a (well_formed_linked ok)) _ _ _ (number_accepts top reset a))
        | no d ↦ rw (canonical_refused limit top a ok reset l d, canonical_refused limit top (over a vs) other-ok reset l d) (kept_own 14 0 l (λ e. omega (arith, e)) (λ e. omega (arith, e)))
      ]

  -- and where it has not
  module _ (top : ℕ) (c : Call) (l : List ℕ) (w : Reply → List ℕ) where
    any_ignores :
        (WellFormed limit a → WellFormed limit (over a vs) → IgnoresPayloads a (over a vs) (w (accepted top c a l)) (accepted top c a l) (accepted top c (over a vs) l))
        → IgnoresPayloads a (over a vs) (w (reply_to limit top c a l)) (reply_to limit top c a l) (reply_to limit top c (over a vs) l)
    unfolding reply_to
    any_ignores own =
        by_test (eqb (verdict limit a) 0)
        (λ t. rw (← verdict_same, t) (own (well_formed_if_passes limit a (eqb-true _ _ t)) (well_formed_if_passes limit (over a vs) (rw (← verdict_same) (eqb-true _ _ t)))))
        (λ t. rw (← verdict_same, t) (kept _ _ refl (broken_reads_only a (over a vs) read_alike limit).0 (broken_reads_only a (over a vs) read_alike limit).1 (ap (λ (n : ℕ). replicate n 0) (fields_length top c a l ∙ sym (fields_length top c (over a vs) l))) refl refl refl
        (λ done. elim done [ inl e ↦ eqb-false (verdict limit a) 0 t e | inr e ↦ omega (arith, e, verdict_most limit a) ])))

-- ---- both compressions, on arenas that differ in payloads alone

module _ (limit top : ℕ) (reset : Bool) {a b : Arena} (h : SameButPayloads a b) (l : List ℕ) where
  abbrev in_order : Arena → Reply
  in_order x = reply_to limit top (CompressWith reset) x l

  abbrev canonically : Arena → Reply
  canonically x = reply_to limit top (CompressCanonical reset) x l

  -- payloads go with their links: in slot order, or as the where-from column tells
  pub compression_ignores_payloads :
      IgnoresPayloads a b (link_slots a.generation (stack_length a)) (in_order a) (in_order b) × IgnoresPayloads a b (take (link_count a) (canonically a).back) (canonically a) (canonically b)
  unfolding accepted
  compression_ignores_payloads =
      let other = b.payload in
      let same = h.payload_length in
      let rising = link_slots a.generation (stack_length a) in
      subst
      (λ (x : Arena). IgnoresPayloads a x rising (in_order a) (in_order x) × IgnoresPayloads a x (take (link_count a) (canonically a).back) (canonically a) (canonically x))
      (sym (same_as h)) (
        any_ignores limit a other same top (CompressWith reset) l (λ r. rising) (λ ok other-ok. with_ignores limit a other same top reset l ok),
        any_ignores limit a other same top (CompressCanonical reset) l (λ r. take (link_count a) r.back) (λ ok other-ok. canonical_ignores limit a other same top reset l ok other-ok),
      )
