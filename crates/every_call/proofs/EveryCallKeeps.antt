-- Every accepted call, single or inside a run, leaves an arena that passes the check: `every_call_keeps` for every call, `any_calls_keep` for any list
-- of calls, `inside_a_run` for the commands of a run. Each definition has its own theorem that it keeps an arena well formed, and the check passes exactly if
-- the arena is well formed. Assumes nothing.
use Prim.Native.Nat.{ℕ}
use mathlib.Core.Path.{◌≡◌}
use mathlib.Core.List.{List, [], ◌∷◌}
use borrow.Author.Tests.{eq-eqb}
use Rattle.definitions.specs.Arena.{Arena}
use Rattle.definitions.specs.Check.{verdict, WellFormed}
use Rattle.definitions.specs.Read.{get_link, get_link_no_gen, are_neighbors}
use Rattle.definitions.specs.Walk.{walk_start, walk_step}
use Rattle.definitions.specs.Clock.{due_count, due_events}
use Rattle.definitions.specs.Insert.{kind_of}
use Rattle.definitions.specs.Run.{Command, applied}
use Rattle.definitions.specs.Calls.{
  Call,
  Check,
  GetLink,
  GetLinkNoGen,
  AreNeighbors,
  WalkStart,
  WalkStep,
  DueCount,
  DueEvents,
  Connect,
  BreakPrev,
  BreakNext,
  ExchangeNext,
  Insert,
  Remove,
  Drain,
  SetGeneration,
  IncGeneration,
  CanonicalizeFreelist,
  Run,
  CompressWith,
  CompressCanonical,
  accepted,
  reply_to,
  Made,
  arena_after,
}
use Rattle.well_formed.proofs.WellFormed.{well_formed_if_passes, passes_if_well_formed}
use Rattle.kept.proofs.Edits.{either_keeps, connect_keeps, break_prev_keeps, break_next_keeps, exchange_next_keeps}
use Rattle.kept.proofs.Header.{set_generation_keeps, inc_generation_keeps}
use Rattle.kept.proofs.Removal.{remove_keeps}
use Rattle.kept.proofs.Insertion.{insert_coded_keeps}
use Rattle.kept.proofs.Drain.{drain_keeps}
use Rattle.kept.proofs.CanonicalFreelist.{canonicalize_freelist_keeps}
use Rattle.kept.proofs.Runs.{applied_keeps, run_keeps}
use Rattle.renaming.proofs.CompressWith.{compress_with_keeps}
use Rattle.demand3.proofs.Kept.{compress_canonical_keeps}

module _ (limit top : ℕ) where
  call_keeps : (c : Call) (a : Arena) (l : List ℕ) → WellFormed limit a → WellFormed limit (accepted top c a l).arena
  unfolding accepted get_link get_link_no_gen are_neighbors walk_start walk_step due_count due_events
  call_keeps Check a l ok = ok
  call_keeps (GetLink p) a l ok = search either_keeps
  call_keeps (GetLinkNoGen p) a l ok = search either_keeps
  call_keeps (AreNeighbors p q) a l ok = ok
  call_keeps (WalkStart p) a l ok = search either_keeps
  call_keeps WalkStep a l ok = ok
  call_keeps (DueCount p from to) a l ok = search either_keeps
  call_keeps (DueEvents p from to) a l ok = search either_keeps
  call_keeps (Connect p q) a l ok = connect_keeps limit a ok p q l
  call_keeps (BreakPrev p) a l ok = break_prev_keeps limit a ok p l
  call_keeps (BreakNext p) a l ok = break_next_keeps limit a ok p l
  call_keeps (ExchangeNext p q) a l ok = exchange_next_keeps limit a ok p q l
  call_keeps (Insert code p q x) a l ok = insert_coded_keeps limit a ok (kind_of code p q) x l
  call_keeps (Remove p) a l ok = remove_keeps limit top a ok p l
  call_keeps (Drain p) a l ok = drain_keeps limit top a ok p l
  call_keeps (SetGeneration g) a l ok = set_generation_keeps limit a ok g l
  call_keeps IncGeneration a l ok = inc_generation_keeps limit a ok top l
  call_keeps CanonicalizeFreelist a l ok = canonicalize_freelist_keeps limit a ok l
  call_keeps (Run commands) a l ok = run_keeps limit top a ok commands l
  call_keeps (CompressWith reset) a l ok = compress_with_keeps limit top a ok reset l
  call_keeps (CompressCanonical reset) a l ok = compress_canonical_keeps limit top a ok reset l

  -- every public call, accepted or refused
  pub every_call_keeps : (c : Call) (a : Arena) (l : List ℕ) → verdict limit a ≡ 0 → verdict limit (reply_to limit top c a l).arena ≡ 0
  unfolding reply_to
  every_call_keeps c a l passes =
      rw (eq-eqb (verdict limit a) 0 passes) (passes_if_well_formed limit _ (call_keeps c a l (well_formed_if_passes limit a passes)))

  -- after any list of calls, made one after the other
  pub any_calls_keep : (ms : List Made) (a : Arena) → verdict limit a ≡ 0 → verdict limit (arena_after limit top ms a) ≡ 0
  unfolding arena_after
  any_calls_keep [] a passes = passes
  any_calls_keep (m ∷ ms) a passes = any_calls_keep ms (reply_to limit top m.call a m.hands).arena (every_call_keeps m.call a m.hands passes)

  -- after any commands of a run
  pub inside_a_run : (a : Arena) → verdict limit a ≡ 0 → (cs : List Command) → verdict limit (applied top a cs) ≡ 0
  inside_a_run a passes cs = passes_if_well_formed limit _ (applied_keeps limit top a (well_formed_if_passes limit a passes) cs)
