-- The public calls, each with what it answers and leaves, and the check that comes before it (REFERENCE, Replies).
use Rattle.std.specs.Prelude.{ℕ, Bool, cond, List, [], ◌∷◌, length, replicate, eqb}
use Rattle.definitions.specs.Arena.{Arena}
use Rattle.definitions.specs.Check.{verdict, broken_slot, broken_side}
use Rattle.definitions.specs.Reply.{Reply, reply}
use Rattle.definitions.specs.Read.{Pointer, get_link, get_link_no_gen, are_neighbors}
use Rattle.definitions.specs.Walk.{walk_start, walk_step}
use Rattle.definitions.specs.Edit.{connect, break_prev, break_next, exchange_next, set_generation, inc_generation}
use Rattle.definitions.specs.Remove.{remove, drain, canonicalize_freelist}
use Rattle.definitions.specs.Insert.{kind_of, insert_coded}
use Rattle.definitions.specs.Run.{Command, run}
use Rattle.definitions.specs.Compress.{compress_with, compress_canonical}
use Rattle.definitions.specs.Clock.{due_count, due_events}

-- a call with its arguments. What is handed in to be handed back, the lent slice that a call may write or the state of a walk, stands beside it
pub data Call : Type 0 where
  Check : Call
  GetLink : Pointer → Call
  GetLinkNoGen : Pointer → Call
  AreNeighbors : Pointer → Pointer → Call
  WalkStart : Pointer → Call
  WalkStep : Call
  DueCount : Pointer → ℕ → ℕ → Call
  DueEvents : Pointer → ℕ → ℕ → Call
  Connect : Pointer → Pointer → Call
  BreakPrev : Pointer → Call
  BreakNext : Pointer → Call
  ExchangeNext : Pointer → Pointer → Call
  Insert : ℕ → Pointer → Pointer → ℕ → Call
  Remove : Pointer → Call
  Drain : Pointer → Call
  SetGeneration : ℕ → Call
  IncGeneration : Call
  CanonicalizeFreelist : Call
  Run : List ℕ → Call
  CompressWith : Bool → Call
  CompressCanonical : Bool → Call

-- the reply where the check has passed; l is what is handed in
unfoldable pub accepted : ℕ → Call → Arena → List ℕ → Reply
accepted top Check a l = reply 0 [] a l
accepted top (GetLink p) a l = get_link a p l
accepted top (GetLinkNoGen p) a l = get_link_no_gen a p l
accepted top (AreNeighbors p q) a l = are_neighbors a p q l
accepted top (WalkStart p) a l = walk_start a p l
accepted top WalkStep a l = walk_step a l
accepted top (DueCount p from to) a l = due_count a p from to l
accepted top (DueEvents p from to) a l = due_events a p from to l
accepted top (Connect p q) a l = connect a p q l
accepted top (BreakPrev p) a l = break_prev a p l
accepted top (BreakNext p) a l = break_next a p l
accepted top (ExchangeNext p q) a l = exchange_next a p q l
accepted top (Insert code p q x) a l = insert_coded a (kind_of code p q) x l
accepted top (Remove p) a l = remove top a p l
accepted top (Drain p) a l = drain top a p l
accepted top (SetGeneration g) a l = set_generation a g l
accepted top IncGeneration a l = inc_generation top a l
accepted top CanonicalizeFreelist a l = canonicalize_freelist a l
accepted top (Run commands) a l = run top a commands l
accepted top (CompressWith reset) a l = compress_with top reset a l
accepted top (CompressCanonical reset) a l = compress_canonical top reset a l

-- the reply of every call on an arena that the check refuses: the check's number, slot and side, so many further fields, all 0; the arena and l, what
-- was handed in, are as they were (REFERENCE, Replies)
abbrev pub refused_by_check : ℕ → ℕ → Arena → List ℕ → Reply
refused_by_check limit fields a l = record {
  number = verdict limit a;
  broken = broken_slot limit a;
  side = broken_side limit a;
  fields = replicate fields 0;
  arena = a;
  back = l;
}

-- the reply of a call, which is what a public call promises: its own where the check passes, else the check's with as many further fields. limit is the
-- capacity limit, top the largest generation (REFERENCE, Replies)
unfoldable pub reply_to : ℕ → ℕ → Call → Arena → List ℕ → Reply
reply_to limit top c a l = cond (eqb (verdict limit a) 0) (accepted top c a l) (refused_by_check limit (length (accepted top c a l).fields) a l)

-- calls made one after the other, each with what is handed in: their replies, and the arena in the end
pub record Made : Type 0 where
  pub call : Call
  pub hands : List ℕ

-- the call that a command of a run stands for. A code that is no command's is no kind of insertion either (REFERENCE, Run)
unfoldable pub call_of : Command → Call
call_of c =
    cond (eqb c.code 1) (Connect c.first c.second)
    (cond (eqb c.code 2) (BreakPrev c.first)
    (cond (eqb c.code 3) (BreakNext c.first)
    (cond (eqb c.code 4) (ExchangeNext c.first c.second)
    (cond (eqb c.code 5) (Remove c.first) (Insert c.code c.first c.second c.payload)))))

unfoldable pub replies_to : ℕ → ℕ → List Made → Arena → List Reply
replies_to limit top [] a = []
replies_to limit top (m ∷ ms) a = let r = reply_to limit top m.call a m.hands in r ∷ replies_to limit top ms r.arena

unfoldable pub arena_after : ℕ → ℕ → List Made → Arena → Arena
arena_after limit top [] a = a
arena_after limit top (m ∷ ms) a = arena_after limit top ms (reply_to limit top m.call a m.hands).arena
