-- How many further fields each call answers, refused or not. Assumes nothing.
use Prim.Native.Nat.{ℕ}
use mathlib.Core.Path.{◌≡◌, refl}
use mathlib.Core.Bool.{Bool, true, false, cond}
use mathlib.Core.List.{List}
use lib.ListN.{length}
use Rattle.definitions.specs.Arena.{Arena}
use Rattle.definitions.specs.Reply.{Reply}
use Rattle.definitions.specs.Read.{get_link, get_link_no_gen, are_neighbors}
use Rattle.definitions.specs.Walk.{walk_start, walk_step}
use Rattle.definitions.specs.Edit.{connect, break_prev, break_next, exchange_next, set_generation, inc_generation}
use Rattle.definitions.specs.Remove.{remove, drain, canonicalize_freelist}
use Rattle.definitions.specs.Insert.{Coded, kind, unknown, kind_of, Place, nowhere, between, place_of, new_slot, insert_at, insert, insert_coded}
use Rattle.definitions.specs.Run.{run}
use Rattle.definitions.specs.Compress.{compress_with, compress_canonical}
use Rattle.definitions.specs.Clock.{due_count, due_events}
use Rattle.definitions.specs.Calls.{Call, Check, GetLink, GetLinkNoGen, AreNeighbors, WalkStart, WalkStep, DueCount, DueEvents, Connect, BreakPrev, BreakNext, ExchangeNext, Insert, Remove, Drain, SetGeneration, IncGeneration, CanonicalizeFreelist, Run, CompressWith, CompressCanonical, accepted}

abbrev pub fields_of : Call → ℕ
fields_of Check = 0
fields_of (GetLink p) = 5
fields_of (GetLinkNoGen p) = 3
fields_of (AreNeighbors p q) = 1
fields_of (WalkStart p) = 4
fields_of WalkStep = 2
fields_of (DueCount p from to) = 1
fields_of (DueEvents p from to) = 1
fields_of (Connect p q) = 0
fields_of (BreakPrev p) = 0
fields_of (BreakNext p) = 0
fields_of (ExchangeNext p q) = 0
fields_of (Insert code p q x) = 2
fields_of (Remove p) = 3
fields_of (Drain p) = 2
fields_of (SetGeneration g) = 0
fields_of IncGeneration = 0
fields_of CanonicalizeFreelist = 0
fields_of (Run commands) = 0
fields_of (CompressWith reset) = 0
fields_of (CompressCanonical reset) = 0

either : (t : Bool) (x y : Reply) (k : ℕ) → length x.fields ≡ k → length y.fields ≡ k → length (cond t x y).fields ≡ k
either true x y k p q = p
either false x y k p q = q

insert_fields : (a : Arena) (p : Place) (x : ℕ) (l : List ℕ) → length (insert_at a p x l).fields ≡ 2
unfolding insert_at
insert_fields a nowhere x l = refl
insert_fields a (between u v) x l = search either depth 8

coded_fields : (a : Arena) (k : Coded) (x : ℕ) (l : List ℕ) → length (insert_coded a k x l).fields ≡ 2
unfolding insert_coded insert
coded_fields a unknown x l = refl
coded_fields a (kind k) x l = insert_fields a (place_of a (new_slot a) k) x l

pub fields_length : (top : ℕ) (c : Call) (a : Arena) (l : List ℕ) → length (accepted top c a l).fields ≡ fields_of c
unfolding accepted get_link get_link_no_gen are_neighbors walk_start walk_step due_count due_events connect break_prev break_next exchange_next set_generation inc_generation remove drain canonicalize_freelist run compress_with compress_canonical
fields_length top Check a l = refl
fields_length top (GetLink p) a l = search either depth 8
fields_length top (GetLinkNoGen p) a l = search either depth 8
fields_length top (AreNeighbors p q) a l = refl
fields_length top (WalkStart p) a l = search either depth 8
fields_length top WalkStep a l = refl
fields_length top (DueCount p from to) a l = search either depth 8
fields_length top (DueEvents p from to) a l = search either depth 8
fields_length top (Connect p q) a l = search either depth 8
fields_length top (BreakPrev p) a l = search either depth 8
fields_length top (BreakNext p) a l = search either depth 8
fields_length top (ExchangeNext p q) a l = search either depth 8
fields_length top (Insert code p q x) a l = coded_fields a (kind_of code p q) x l
fields_length top (Remove p) a l = search either depth 8
fields_length top (Drain p) a l = search either depth 8
fields_length top (SetGeneration g) a l = search either depth 8
fields_length top IncGeneration a l = refl
fields_length top CanonicalizeFreelist a l = refl
fields_length top (Run commands) a l = search either depth 8
fields_length top (CompressWith reset) a l = search either depth 8
fields_length top (CompressCanonical reset) a l = search either depth 8
