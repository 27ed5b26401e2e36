-- What a call may reply where the check has passed: a refusal with a number above 11, which leaves the arena and what was handed in as they were, or that it was done,
-- with 0 or 100. Every definition branches by `cond` into such replies, and none of them names a slot. Assumes nothing.
use Prim.Native.Nat.{ℕ, ◌<◌}
use mathlib.Core.Bool.{Bool, true, false, cond}
use mathlib.Core.List.{List, []}
use lib.Dec.{lit<}
use Rattle.definitions.specs.Arena.{Arena}
use Rattle.definitions.specs.Reply.{Reply, reply, refusal}
use Rattle.definitions.specs.Read.{get_link, get_link_no_gen, are_neighbors}
use Rattle.definitions.specs.Walk.{walk_start, walk_step}
use Rattle.definitions.specs.Clock.{due_count, due_events}
use Rattle.definitions.specs.Edit.{connect, break_prev, break_next, exchange_next, done_number, set_generation, inc_generation}
use Rattle.definitions.specs.Remove.{remove, drain, canonicalize_freelist}
use Rattle.definitions.specs.Insert.{Place, nowhere, between, place_of, new_slot, insert_at, insert, Coded, kind, unknown, kind_of, insert_coded}
use Rattle.definitions.specs.Run.{Command, apply, run}
use Rattle.definitions.specs.Compress.{compress_number, compress_with, compress_canonical}
use Rattle.definitions.specs.Calls.{
  Call,
  Check,
  GetLink,
  GetLinkNoGen,
  AreNeighbors,
  WalkStart,
  WalkStep,
  DueCount,
  DueEvents,
  Connect,
  BreakPrev,
  BreakNext,
  ExchangeNext,
  Insert,
  Remove,
  Drain,
  SetGeneration,
  IncGeneration,
  CanonicalizeFreelist,
  Run,
  CompressWith,
  CompressCanonical,
  accepted,
}

-- the replies of a call itself, on the arena a with l handed in
pub data Own (a : Arena) (l : List ℕ) : Reply → Type 0 where
  refused : (k n : ℕ) → 11 < k → Own a l (refusal k n a l)
  done : (over : Bool) (fs : List ℕ) (b : Arena) (m : List ℕ) → Own a l (reply (done_number over) fs b m)

module _ (a : Arena) (l : List ℕ) where
  either : (t : Bool) (r s : Reply) → Own a l r → Own a l s → Own a l (cond t r s)
  either true r s u v = u
  either false r s u v = v

  plainly : (fs : List ℕ) (b : Arena) (m : List ℕ) → Own a l (reply 0 fs b m)
  plainly fs b m = done false fs b m

  raised : (up over : Bool) (fs : List ℕ) (b : Arena) (m : List ℕ) → Own a l (reply (cond up (done_number over) 0) fs b m)
  raised true over fs b m = done over fs b m
  raised false over fs b m = plainly fs b m

  inserted_at : (p : Place) (x : ℕ) → Own a l (insert_at a p x l)
  unfolding insert_at
  inserted_at nowhere x = refused 17 2 (lit< tt)
  inserted_at (between u v) x = search (either, refused, lit<, plainly)

  inserted : (k : Coded) (x : ℕ) → Own a l (insert_coded a k x l)
  unfolding insert_coded insert
  inserted unknown x = refused 16 2 (lit< tt)
  inserted (kind k) x = inserted_at (place_of a (new_slot a) k) x

  ruleset branches = (either, refused, lit<, plainly, done, raised, inserted)

  pub own_reply : (top : ℕ) (c : Call) → Own a l (accepted top c a l)
  unfolding accepted get_link get_link_no_gen are_neighbors walk_start walk_step due_count due_events connect break_prev break_next exchange_next remove drain set_generation inc_generation canonicalize_freelist run compress_number compress_with compress_canonical
  own_reply top Check = search branches depth 12
  own_reply top (GetLink p) = search branches depth 12
  own_reply top (GetLinkNoGen p) = search branches depth 12
  own_reply top (AreNeighbors p q) = search branches depth 12
  own_reply top (WalkStart p) = search branches depth 12
  own_reply top WalkStep = search branches depth 12
  own_reply top (DueCount p from to) = search branches depth 12
  own_reply top (DueEvents p from to) = search branches depth 12
  own_reply top (Connect p q) = search branches depth 12
  own_reply top (BreakPrev p) = search branches depth 12
  own_reply top (BreakNext p) = search branches depth 12
  own_reply top (ExchangeNext p q) = search branches depth 12
  own_reply top (Insert code p q x) = inserted (kind_of code p q) x
  own_reply top (Remove p) = search branches depth 12
  own_reply top (Drain p) = search branches depth 12
  own_reply top (SetGeneration g) = search branches depth 12
  own_reply top IncGeneration = search branches depth 12
  own_reply top CanonicalizeFreelist = search branches depth 12
  own_reply top (Run commands) = search branches depth 12
  own_reply top (CompressWith reset) = search branches depth 12
  own_reply top (CompressCanonical reset) = search branches depth 12

-- and a command's of a run
pub own_command : (top : ℕ) (a : Arena) (c : Command) → Own a [] (apply top a c)
unfolding apply connect break_prev break_next exchange_next remove
own_command top a c = search branches depth 12
