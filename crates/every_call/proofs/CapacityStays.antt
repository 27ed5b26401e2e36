-- No call makes the columns longer or shorter: `capacity_stays` for every call, accepted or refused, and `capacity_after_calls` for any list of
-- calls. Edits write words of slots, and the other calls fill a column up to the stack and leave the rest of it. The other columns are as long as
-- prev wherever the check passes. Assumes nothing.
use Prim.Native.Nat.{ℕ, ◌≤◌}
use mathlib.Core.Path.{◌≡◌, refl, ◌∙◌}
use mathlib.Core.Bool.{Bool, true, false, cond}
use mathlib.Core.List.{List, [], ◌∷◌}
use native.Mathlib.Omega.{arith}
use native.Mathlib.Decide.{ℕ_discrete}
use lib.ListN.{length, take, length-map}
use lib.Seq.{length-take-le}
use lib.Dec.{eqb}
use borrow.Author.Tests.{eqb-true}
use Rattle.definitions.specs.Columns.{at, put, last_or}
use Rattle.definitions.specs.Arena.{Arena, capacity, stack_length, link_slots}
use Rattle.definitions.specs.Check.{WellFormed, verdict}
use Rattle.definitions.specs.Reply.{Reply, reply}
use Rattle.definitions.specs.Read.{get_link, get_link_no_gen, are_neighbors}
use Rattle.definitions.specs.Walk.{walk_start, walk_step}
use Rattle.definitions.specs.Clock.{due_count, due_events}
use Rattle.definitions.specs.Edit.{connect, break_prev, break_next, exchange_next, set_generation, inc_generation}
use Rattle.definitions.specs.Remove.{joined, vacated, removed, remove, removed_all, drain, canonicalize_freelist}
use Rattle.definitions.specs.Insert.{Place, nowhere, between, place_of, new_slot, inserted, insert_at, insert, Coded, kind, unknown, kind_of, insert_coded}
use Rattle.definitions.specs.Run.{Command, apply, applied, run}
use Rattle.definitions.specs.Compress.{compress_generation, place, relocate, compress_with, compress_canonical}
use Rattle.definitions.specs.Calls.{
  Call,
  Check,
  GetLink,
  GetLinkNoGen,
  AreNeighbors,
  WalkStart,
  WalkStep,
  DueCount,
  DueEvents,
  Connect,
  BreakPrev,
  BreakNext,
  ExchangeNext,
  Insert,
  Remove,
  Drain,
  SetGeneration,
  IncGeneration,
  CanonicalizeFreelist,
  Run,
  CompressWith,
  CompressCanonical,
  accepted,
  reply_to,
  Made,
  arena_after,
}
use Rattle.definitions.proofs.Tests.{by_test}
use Rattle.definitions.proofs.Columns.{length_put}
use Rattle.definitions.proofs.Parts.{length_settled}
use Rattle.definitions.proofs.Relisted.{highest_within}
use Rattle.well_formed.proofs.WellFormed.{well_formed_if_passes}
use Rattle.chains.proofs.Links.{well_formed_linked}
use Rattle.renaming.proofs.Orders.{OrderOf, rising_order, order_within}
use Rattle.demand3.proofs.Order.{canonical_order, canonical_order_lem}
use Rattle.demand3.proofs.Equivalence.{canonical_accepted, canonical_refused}

length_put_twice : (xs : List ℕ) (s v t w : ℕ) → length (put (put xs s v) t w) ≡ length xs
length_put_twice xs s v t w = length_put (put xs s v) t w ∙ length_put xs s v

-- a reply that leaves as many slots as a has
record Stays (a : Arena) (r : Reply) : Type 0 where
  same : capacity r.arena ≡ capacity a

module _ (a : Arena) where
  either : (t : Bool) (r s : Reply) → Stays a r → Stays a s → Stays a (cond t r s)
  either true r s x y = x
  either false r s x y = y

  stays : (k : ℕ) (fs : List ℕ) (m : List ℕ) → Stays a (reply k fs a m)
  stays k fs m = record { same = refl }

  left : (k : ℕ) (fs : List ℕ) (b : Arena) (m : List ℕ) → capacity b ≡ capacity a → Stays a (reply k fs b m)
  left k fs b m e = record { same = e }

  ruleset branches = (either, stays, left, length_put, length_put_twice)

  -- ---- insertion, removal

  inserted_at : (p : Place) (x : ℕ) (l : List ℕ) → Stays a (insert_at a p x l)
  unfolding insert_at inserted
  inserted_at nowhere x l = search branches
  inserted_at (between u v) x l = search branches

  insert_stays : (k : Coded) (x : ℕ) (l : List ℕ) → Stays a (insert_coded a k x l)
  unfolding insert_coded insert
  insert_stays unknown x l = search branches
  insert_stays (kind k) x l = inserted_at (place_of a (new_slot a) k) x l

removed_stays : (top : ℕ) (a : Arena) (s : ℕ) → capacity (removed top a s) ≡ capacity a
unfolding removed joined vacated
removed_stays top a s = by_test (eqb s (stack_length a)) (λ e. rw e (length_put_twice _ _ _ _ _)) (λ e. rw e (length_put_twice _ _ _ _ _))

removed_all_stays : (top : ℕ) (a : Arena) (ss : List ℕ) → capacity (removed_all top a ss) ≡ capacity a
unfolding removed_all
removed_all_stays top a [] = refl
removed_all_stays top a (s ∷ ss) = removed_all_stays top (removed top a s) ss ∙ removed_stays top a s

-- ---- the run

apply_stays : (top : ℕ) (a : Arena) (c : Command) → Stays a (apply top a c)
unfolding apply connect break_prev break_next exchange_next remove
apply_stays top a c = search (branches, removed_stays, insert_stays) depth 12

applied_stays : (top : ℕ) (a : Arena) (cs : List Command) → capacity (applied top a cs) ≡ capacity a
unfolding applied
applied_stays top a [] = refl
applied_stays top a (c ∷ cs) = applied_stays top (apply top a c).arena cs ∙ (apply_stays top a c).same

-- ---- the calls that fill columns

relocate_stays : (a : Arena) (w : List ℕ) → OrderOf a w → (g : ℕ) → stack_length a ≤ capacity a → capacity (relocate w g a) ≡ capacity a
unfolding relocate
relocate_stays a w order g within = length_settled (stack_length a) _ a.prev (omega (arith, order_within a w order, length-map w (λ o. place w (at a.prev o)))) within

module _ (limit top : ℕ) (a : Arena) (ok : WellFormed limit a) where
  listed_stays : (l : List ℕ) → Stays a (canonicalize_freelist a l)
  unfolding canonicalize_freelist
  listed_stays l =
      let m = last_or 0 (link_slots a.generation (stack_length a)) in
      let fewer = highest_within a.generation (stack_length a) in
      record { same = length_settled (stack_length a) (take m a.prev) a.prev (omega (arith, length-take-le m a.prev (omega (arith, fewer, ok.within)), fewer)) ok.within }

  with_stays : (reset : Bool) (report : List ℕ) → Stays a (compress_with top reset a report)
  unfolding compress_with
  with_stays reset report =
      let moved = relocate_stays a _ (rising_order a) (compress_generation top reset a) ok.within in
      search (branches, moved)

  canonical_stays : (reset : Bool) (where_from : List ℕ) → Stays a (compress_canonical top reset a where_from)
  canonical_stays reset where_from = elim (ℕ_discrete (length where_from) (capacity a)) [
    | yes e ↦
        rw (canonical_accepted limit top a ok reset where_from e)
        (left a _ _ _ _ (relocate_stays a (canonical_order a) (canonical_order_lem a (well_formed_linked ok)) (compress_generation top reset a) ok.within))
    | no d ↦ rw (canonical_refused limit top a ok reset where_from d) (stays a _ _ _)
  ]

  -- ---- every call

  call_stays : (c : Call) (l : List ℕ) → Stays a (accepted top c a l)
  unfolding accepted get_link get_link_no_gen are_neighbors walk_start walk_step due_count due_events connect break_prev break_next exchange_next remove drain set_generation inc_generation run
  call_stays Check l = search branches
  call_stays (GetLink p) l = search branches
  call_stays (GetLinkNoGen p) l = search branches
  call_stays (AreNeighbors p q) l = search branches
  call_stays (WalkStart p) l = search branches
  call_stays WalkStep l = search branches
  call_stays (DueCount p from to) l = search branches
  call_stays (DueEvents p from to) l = search branches
  call_stays (Connect p q) l = search branches depth 8
  call_stays (BreakPrev p) l = search branches depth 8
  call_stays (BreakNext p) l = search branches depth 8
  call_stays (ExchangeNext p q) l = search branches depth 8
  call_stays (Insert code p q x) l = insert_stays a (kind_of code p q) x l
  call_stays (Remove p) l = search (branches, removed_stays)
  call_stays (Drain p) l = search (branches, removed_all_stays)
  call_stays (SetGeneration g) l = search branches
  call_stays IncGeneration l = search branches
  call_stays CanonicalizeFreelist l = listed_stays l
  call_stays (Run commands) l = search (branches, applied_stays)
  call_stays (CompressWith reset) l = with_stays reset l
  call_stays (CompressCanonical reset) l = canonical_stays reset l

module _ (limit top : ℕ) where
  -- every public call, accepted or refused
  pub capacity_stays : (c : Call) (a : Arena) (l : List ℕ) → capacity (reply_to limit top c a l).arena ≡ capacity a
  unfolding reply_to
  capacity_stays c a l =
      by_test (eqb (verdict limit a) 0)
      (λ e. rw e (call_stays limit top a (well_formed_if_passes limit a (eqb-true (verdict limit a) 0 e)) c l).same)
      (λ e. rw e refl)

  -- after any list of calls, made one after the other
  pub capacity_after_calls : (ms : List Made) (a : Arena) → capacity (arena_after limit top ms a) ≡ capacity a
  unfolding arena_after
  capacity_after_calls [] a = refl
  capacity_after_calls (m ∷ ms) a = capacity_after_calls ms (reply_to limit top m.call a m.hands).arena ∙ capacity_stays m.call a m.hands
