-- A drain takes the links of p's chain and no other: `drain_takes_the_chain`, and of the public call `done_drain_takes_the_chain`. The walk from p
-- lists the chain that p is on, each link once; a chain holds all neighbours of its links, so that no link outside it names one that is removed.
-- Assumes nothing.
use Prim.Native.Nat.{ℕ, ◌*◌, ◌≤◌, ◌<◌}
use mathlib.Core.Path.{◌≡◌, refl, sym, ◌∙◌}
use mathlib.Core.Bool.{true, false}
use mathlib.Core.List.{List, [], ◌∷◌, ◌++◌, reverse}
use native.Mathlib.Omega.{arith}
use lib.ListN.{length, drop}
use lib.Dec.{eqb, ltb}
use borrow.Author.Tests.{le-ltb, ltb-false, eqb-true, eqb-false}
use Rattle.definitions.specs.Columns.{at, count, written}
use Rattle.definitions.specs.Arena.{Arena, is_link}
use Rattle.statements.specs.Chains.{Chain, IsChain}
use Rattle.definitions.specs.Calls.{Drain, accepted, reply_to}
use Rattle.definitions.specs.Check.{WellFormed, verdict}
use Rattle.definitions.specs.Read.{Pointer, stale}
use Rattle.definitions.specs.Remove.{removed_all, drain_items, overflow_item, drain}
use Rattle.definitions.specs.Reply.{reply}
use Rattle.definitions.specs.Walk.{walk_from}
use Rattle.definitions.proofs.Count.{In, in_here, in_right}
use Rattle.definitions.proofs.Pointers.{fresh_link}
use Rattle.definitions.proofs.Slots.{count_append}
use Rattle.definitions.proofs.Tests.{by_test}
use Rattle.definitions.proofs.Written.{written_rest}
use Rattle.chains.proofs.Links.{DoublyLinked, well_formed_linked, few_links, link_nonzero}
use Rattle.chains.proofs.OneChain.{chain_run, chain_links, run_next, run_prev, one_chain, like_count}
use Rattle.kept.proofs.Drain.{removed_all_keeps}
use Rattle.well_formed.proofs.WellFormed.{well_formed_if_passes}
use Rattle.statements.specs.WalkOrder.{WalkOrder}
use Rattle.walks.proofs.Walks.{walk_gives_chain, count_reverse}
use Rattle.drains.specs.Drainable.{Drainable}
use Rattle.statements.specs.DrainsChain.{DrainsChain}
use Rattle.drains.proofs.Report.{length_drained, items_drained}
use Rattle.drains.proofs.Drainable.{drained_was, drained_gone, drained_untouched}
use Rattle.drains.proofs.Overflow.{overflow_named, overflow_none}
use Rattle.drains.proofs.ItemWords.{generations_drained, payloads_drained}

-- a list in the order of a walk has the links of the chain, each as often
module _ (a : Arena) (o : ℕ) (ss : List ℕ) (w : WalkOrder a o ss) where
  abbrev members : List ℕ
  members = w.before ++ o ∷ w.after

  as_often : (s : ℕ) → count s ss ≡ count s members
  as_often s = rw w.order (omega (arith, count_append s (o ∷ w.after) (reverse w.before), count_append s w.before (o ∷ w.after), count_reverse s w.before))

  module _ (linked : DoublyLinked a) where
    -- and so has any listing of the chain
    any_listing : (c : Chain) → IsChain a c.kind c.members → In o c.members → (s : ℕ) → count s ss ≡ count s c.members
    any_listing c is on s =
        let on_walk : In o members = in_right o w.before (o ∷ w.after) (in_here o w.after) in
        as_often s ∙ like_count w.kind members c.members (one_chain a linked w.kind c.kind members c.members w.chain is o on_walk on).1 s

    -- the neighbours of a link that is not on it are not on it either
    module _ (x : ℕ) (lx : is_link a x ≡ true) (out : In x ss → ⊥) where
      on_chain : (y : ℕ) → In y ss → In y members
      on_chain y i = omega (arith, as_often y)

      on_walk : (y : ℕ) → In y members → In y ss
      on_walk y i = omega (arith, as_often y)

      some : (y : ℕ) → In y ss → y ≡ 0 → ⊥
      some y i = link_nonzero a y (chain_links a w.kind members w.chain y (on_chain y i))

      prev_out : In (at a.prev x) ss → ⊥
      prev_out i =
          let names = (linked.prev x lx (some (at a.prev x) i)).1 in
          let follows = run_next a (chain_run a w.kind members w.chain).1 (at a.prev x) (on_chain (at a.prev x) i) (λ z. link_nonzero a x lx (sym names ∙ z)) in
          out (on_walk x (rw names at follows))

      next_out : In (at a.next x) ss → ⊥
      next_out i =
          let names = (linked.next x lx (some (at a.next x) i)).1 in
          let leads = run_prev a linked (chain_run a w.kind members w.chain).1 (at a.next x) (on_chain (at a.next x) i) (λ z. link_nonzero a x lx (sym names ∙ z)) in
          out (on_walk x (rw names at leads))

module _ (limit top : ℕ) (enough : limit < top) (a : Arena) (ok : WellFormed limit a) (p : Pointer) (fresh : stale a p ≡ false) (report : List ℕ) where
  abbrev ss : List ℕ
  ss = walk_from a p.slot

  module _ (room : 5 * length ss ≤ length report) where
    replied : drain top a p report ≡ reply 0 (length ss ∷ overflow_item top a ss 1 ∷ []) (removed_all top a ss) (written (drain_items top a ss) report)
    unfolding drain
    replied = rw (fresh, le-ltb (length report) (5 * length ss) room) refl

    pub drain_takes_the_chain : DrainsChain limit top a p.slot ss report (drain top a p report)
    drain_takes_the_chain =
        let walks = walk_gives_chain limit a ok p.slot (fresh_link a p fresh) in
        let linked = well_formed_linked ok in
        let can : Drainable limit a ss = record { arena = ok; links = walks.links; once = walks.once } in
        let few : length ss < top = omega (arith, few_links a ss walks.once walks.links, ok.within, ok.small) in
        let words = drain_items top a ss in
        rw replied
        (record {
          done = refl;
          kept = removed_all_keeps limit top a ok ss walks.once walks.links;
          exactly = any_listing a p.slot ss walks.order linked;
          once = walks.once;
          removed = drained_gone limit top a ss can;
          others = λ s ls out.
              let off : In s ss → ⊥ = λ i. omega arith in
              drained_untouched limit top a ss can s ls off (prev_out a p.slot ss walks.order linked s ls off) (next_out a p.slot ss walks.order linked s ls off);
          none_new = λ s ls. (drained_was limit top a ss can s ls).0;
          order = walks.order;
          items = refl;
          listed = unfold written in items_drained top a ss (drop (length words) report);
          generations = unfold written in generations_drained top a ss (drop (length words) report) walks.once;
          payloads = unfold written in payloads_drained top a ss (drop (length words) report) walks.once;
          rest = written_rest words report (5 * length ss) (omega (arith, length_drained top a ss));
          overflow = λ k h over. overflow_named top a ok.header ss k 1 few h over ∙ omega arith;
          no_overflow = overflow_none top a ss 1;
        })

-- a drain that was not refused: the pointer was not stale, and the report had room
drain_accepts : (top : ℕ) (a : Arena) (p : Pointer) (report : List ℕ) → (drain top a p report).number ≡ 0 → (stale a p ≡ false) × (5 * length (walk_from a p.slot) ≤ length report)
unfolding drain
drain_accepts top a p report e =
    by_test (stale a p)
    (λ s. absurd (omega (arith, rw s at e)))
    (λ s. by_test (ltb (length report) (5 * length (walk_from a p.slot))) (λ t. absurd (omega (arith, rw (s, t) at e))) (λ t. (s, ltb-false (length report) (5 * length (walk_from a p.slot)) t)))

-- so it is whenever the public call answers 0, on whatever arena
pub done_drain_takes_the_chain :
    (limit top : ℕ) → limit < top → (a : Arena) (p : Pointer) (report : List ℕ) → (reply_to limit top (Drain p) a report).number ≡ 0
    → DrainsChain limit top a p.slot (walk_from a p.slot) report (reply_to limit top (Drain p) a report)
unfolding reply_to accepted
done_drain_takes_the_chain limit top enough a p report e =
    by_test (eqb (verdict limit a) 0)
    (λ v.
    let did = drain_accepts top a p report (rw v at e) in
    rw v (drain_takes_the_chain limit top enough a (well_formed_if_passes limit a (eqb-true (verdict limit a) 0 v)) p did.0 report did.1))
    (λ v. absurd (eqb-false (verdict limit a) 0 v (rw v at e)))
