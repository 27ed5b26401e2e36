-- What the steps of the two calls found and wrote is what the definitions say. Assumes nothing.
use Prim.Native.Nat.{ℕ}
use mathlib.Core.Path.{◌≡◌, refl, ap}
use mathlib.Core.Bool.{true, false}
use mathlib.Core.List.{List, [], ◌∷◌}
use lib.ListN.{length}
use lib.Dec.{ltb}
use Rattle.definitions.specs.Columns.{written}
use Rattle.definitions.specs.Arena.{Arena}
use Rattle.definitions.specs.Clock.{is_window, due_slots, due_count, due_events}
use Rattle.definitions.specs.Read.{Pointer}
use Rattle.definitions.specs.Reply.{reply}
use Rattle.refusals.specs.declared.Refusal.{Refusal}
use Rattle.refusals.specs.declared.Refusal.TheVariants.{SliceLength, OutOfFrame}
use Rattle.refusals.specs.Refusal.{refused}
use Rattle.frame_clock.specs.declared.Window.{Window}
use Rattle.chain_ahead.specs.Rest.{rest_of}
use Rattle.chain_ahead.specs.declared.ChainWalk.{ChainWalk}
use Rattle.chain_ahead.proofs.Started.{StartedAt, NotStarted}
use Rattle.chain_due.specs.Due.{due_ahead}

-- no walk is started at a stale pointer
module _ {a : Arena} {p : Pointer} {r : Refusal} (n : NotStarted a p r) (from to : ℕ) (l : List ℕ) where
  pub count_stale : refused r 1 a l ≡ due_count a p from to l
  unfolding due_count
  count_stale = rw n.stale (n.refused 1 a l)

  pub events_stale : refused r 1 a l ≡ due_events a p from to l
  unfolding due_events
  events_stale = rw n.stale (n.refused 1 a l)

module _ {a : Arena} {p : Pointer} (k : ChainWalk) (start : StartedAt a p k) where
  -- the ends make no window
  module _ (from to : ℕ) (l : List ℕ) (none : is_window from to ≡ false) where
    pub count_no_window : refused OutOfFrame 1 a l ≡ due_count a p from to l
    unfolding due_count
    count_no_window = rw (start.fresh, none) refl

    pub events_no_window : refused OutOfFrame 1 a l ≡ due_events a p from to l
    unfolding due_events
    events_no_window = rw (start.fresh, none) refl

  -- they make the window w
  module _ (w : Window) (l : List ℕ) where
    -- what is due of the walk that was started
    due_slots_lem : due_ahead w k ≡ due_slots a p.slot w.from w.to
    unfolding due_slots
    due_slots_lem = rw (start.whole, ap (λ (b : Arena). b.payload) start.arena) refl

    pub count_done_lem : {count : ℕ} → count ≡ length (due_ahead w k) → reply 0 (count ∷ []) a l ≡ due_count a p w.from w.to l
    unfolding due_count
    count_done_lem e = rw (start.fresh, w.in_frame, e, due_slots_lem) refl

    -- the report has fewer words than the walk has links
    pub events_short : ltb (length l) (length (rest_of k)) ≡ true → refused SliceLength 1 a l ≡ due_events a p w.from w.to l
    unfolding due_events
    events_short few = rw (start.fresh, w.in_frame, ← start.whole, few) refl

    pub events_done_lem :
        {new : List ℕ} {count : ℕ} → ltb (length l) (length (rest_of k)) ≡ false
        → (count ≡ length (due_ahead w k)) × (new ≡ written (due_ahead w k) l) → reply 0 (count ∷ []) a new ≡ due_events a p w.from w.to l
    unfolding due_events
    events_done_lem room e = rw (start.fresh, w.in_frame, ← start.whole, room, e.0, e.1, due_slots_lem) refl
