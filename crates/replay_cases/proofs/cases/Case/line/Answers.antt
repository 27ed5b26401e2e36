use native.Mathlib.Omega.{arith}
use Rattle.std.proofs.Common.{◌∙◌}
use Rattle.std.proofs.lemmas.List.{append-nil}
use Rattle.std.specs.List.{each_same}
use Rattle.replay_cases.proofs.cases.Case.line.Goals as goal

pub returns : goal.returns
returns c = each_same _ _ c.in_ok-words.ensures.ok ∙ grind (arith, append-nil)
