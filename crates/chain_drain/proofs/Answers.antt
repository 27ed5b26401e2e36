-- What the steps of a drain found and left is what the definition says. Assumes nothing.
use Prim.Native.Nat.{ℕ, ◌*◌, ◌≤◌}
use mathlib.Core.Path.{◌≡◌, refl, sym, ap, ◌∙◌}
use mathlib.Core.Bool.{Bool, true, false}
use mathlib.Core.List.{List, []}
use native.Mathlib.Omega.{arith}
use lib.ListN.{length}
use lib.Dec.{ltb}
use borrow.Author.Tests.{ltb-false, le-ltb}
use Rattle.definitions.specs.Columns.{written}
use Rattle.definitions.specs.Arena.{Arena}
use Rattle.definitions.specs.Check.{WellFormed}
use Rattle.definitions.specs.Read.{Pointer}
use Rattle.definitions.specs.Remove.{drain}
use Rattle.definitions.specs.Walk.{walk_start, walk_from}
use Rattle.definitions.proofs.Pointers.{fresh_link}
use Rattle.lent.specs.Arenas.{checked_of}
use Rattle.drains.specs.Drainable.{Drainable}
use Rattle.definitions.specs.Report.{item_slots}
use Rattle.drains.proofs.Report.{length_items, length_drained}
use Rattle.walks.proofs.Walks.{walk_gives_chain}
use Rattle.std.specs.Prelude.{Option, Ok, Err}
use Rattle.refusals.specs.declared.Refusal.{Refusal}
use Rattle.refusals.specs.declared.Refusal.TheVariants.{SliceLength}
use Rattle.refusals.specs.Refusal.{result_reply}
use Rattle.chain_drain.specs.Drained.{drained_words}
use Rattle.chain_ahead.specs.Rest.{rest_of, rest_words}
use Rattle.chain_ahead.specs.declared.ChainWalk.{ChainWalk}
use Rattle.chain_ahead.proofs.Started.{StartedAt, started, not_started}
use Rattle.chain_drain_items.specs.Items.{Listed, ItemsDrained}

-- a report that is not too short has room
pub has_room : (room words : ℕ) {r : Bool} → r ≡ ltb room words → r ≡ false → words ≤ room
has_room room words e f = ltb-false room words (sym e ∙ f)

-- also once the slots are listed in it
pub listed_room : {ss old new : List ℕ} {items : ℕ} → Listed ss old new items → length new ≡ length old → 5 * length ss ≤ length old → 5 * items ≤ length new
listed_room {new = new} {items} l same room = omega (arith, ap length l.slots, length_items items new)

-- no walk is started at a stale pointer, and nothing is drained
pub drain_none : {a b : Arena} → b ≡ a → (p : Pointer) (r : Refusal) (top : ℕ) (report : List ℕ) → result_reply rest_words 4 (Err r) b [] ≡ walk_start b p [] → result_reply drained_words 2 (Err r) a report ≡ drain top a p report
unfolding drain
drain_none {a} same p r top report e = let none = not_started a p r (rw same at e) in rw (none.stale, none.refused 2 a report) refl

-- the arena b that is read is the one that is drained
pub started_there : {a b : Arena} → b ≡ a → (p : Pointer) (k : ChainWalk) → result_reply rest_words 4 (Ok k) b [] ≡ walk_start b p [] → checked_of k.arena ≡ b → StartedAt a p k
started_there {a} same p k e there = started a p k (rw same at e) (there ∙ same)

-- a walk was started
module _ {a : Arena} {p : Pointer} (k : ChainWalk) (start : StartedAt a p k) where
  -- the report is too short
  pub drain_short : (top : ℕ) (report : List ℕ) {r : Bool} → r ≡ ltb (length report) (5 * length (rest_of k)) → r ≡ true → result_reply drained_words 2 (Err SliceLength) a report ≡ drain top a p report
  unfolding drain
  drain_short top report e t = rw (start.fresh, ← start.whole, ← e, t) refl

  -- the slots are listed
  module _ {report listed : List ℕ} {items : ℕ} (l : Listed (rest_of k) report listed items) where
    slots : item_slots items listed ≡ walk_from a p.slot
    slots = l.slots ∙ start.whole

    pub drain_can : {limit : ℕ} → WellFormed limit a → Drainable limit a (item_slots items listed)
    drain_can {limit} ok = let walks = walk_gives_chain limit a ok p.slot (fresh_link a p start.fresh) in rw slots (record { arena = ok; links = walks.links; once = walks.once })

    pub drain_done :
        {top : ℕ} {left : Arena} {words : List ℕ} {overflowed : Option ℕ} → 5 * length (rest_of k) ≤ length report
        → ItemsDrained top a (item_slots items listed) listed left words overflowed → result_reply drained_words 2 (Ok (record { items = items; overflowed = overflowed })) left words ≡ drain top a p report
    unfolding drain written
    drain_done room done =
        let fits : ltb (length report) (5 * length (item_slots items listed)) ≡ false = le-ltb (length report) (5 * length (item_slots items listed)) (rw l.slots room) in
        rw (start.fresh, ← slots, fits, done.arena, done.report, done.overflowed, length_drained, length_items, l.rest) refl
