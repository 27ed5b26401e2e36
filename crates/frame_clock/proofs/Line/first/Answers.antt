-- `frame_clock::Line::first` meets its contract: the table is the computed one. Assumes nothing.
use native.Mathlib.Omega.{arith}
use Rattle.definitions.specs.Clock.{first_dot}
use Rattle.frame_clock.proofs.Starts.{entry}
use Rattle.frame_clock.proofs.Line.first.Goals as goal

pub invariant_of-result : goal.invariant_of-result
unfolding first_dot
invariant_of-result c = record { in_frame = omega (arith, entry c.args.self.index c.args.self.in_frame, c.args.self.in_frame) }

pub returns : goal.returns
unfolding first_dot
returns c = entry c.args.self.index c.args.self.in_frame
