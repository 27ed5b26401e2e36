-- The words of a line that are not read yet.
use Rattle.std.specs.Prelude.{ℕ, List}
use Rattle.replay_cases.specs.declared.words.Words.{Words}

-- the words that are left, in their order
abbrev pub words_left : Words → List ℕ
words_left w = w.rest.now
