-- The codes of the calls.
use Rattle.std.specs.Prelude.{ℕ}
use Rattle.replay_cases.specs.declared.calls.Call.{Call}
use Rattle.replay_cases.specs.declared.calls.Call.TheVariants.{
  Check,
  GetLink,
  GetLinkNoGen,
  AreNeighbors,
  WalkStart,
  WalkStep,
  Connect,
  BreakPrev,
  BreakNext,
  ExchangeNext,
  Remove,
  Drain,
  SetGeneration,
  IncGeneration,
  CanonicalizeFreelist,
  Run,
  CompressWith,
  CompressCanonical,
  Insert,
  LineOfDot,
  LineDots,
  DueCount,
  DueEvents,
}

-- the code that a case of the call begins with
abbrev pub code_of : Call → ℕ
code_of Check = 1
code_of GetLink = 2
code_of GetLinkNoGen = 3
code_of AreNeighbors = 4
code_of WalkStart = 5
code_of WalkStep = 6
code_of Connect = 7
code_of BreakPrev = 8
code_of BreakNext = 9
code_of ExchangeNext = 10
code_of Remove = 11
code_of Drain = 12
code_of SetGeneration = 13
code_of IncGeneration = 14
code_of CanonicalizeFreelist = 15
code_of Run = 16
code_of CompressWith = 17
code_of CompressCanonical = 18
code_of Insert = 19
code_of LineOfDot = 20
code_of LineDots = 21
code_of DueCount = 22
code_of DueEvents = 23
