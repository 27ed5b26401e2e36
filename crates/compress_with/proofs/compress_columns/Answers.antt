-- `compress_with::compress_columns` meets its contract: the header that it makes is one of those that its columns may have (Relocated). Assumes nothing.
use borrow.Author.Rules.{rules}
use mathlib.Core.List.{[], ◌∷◌}
use mathlib.Core.Path.{refl}
use native.Mathlib.Omega.{arith}
use Rattle.compress_with.proofs.Relocated.{few, any_header, any_report}
use Rattle.compress_with.proofs.compress_columns.Goals as goal

pub overflow_cast-header-2 : goal.overflow_cast-header-2
overflow_cast-header-2 c = omega (arith, few c.requires, c.requires.small)

pub returns-clause-moved : goal.returns-clause-moved
returns-clause-moved c h e = any_header c.requires c.args.new.0 {k' = c.compress_links.new.arena.header.now} (c.args.n ∷ c.args.links ∷ 0 ∷ c.args.new.0 ∷ []) h (search rules) refl e

pub returns-clause-reported : goal.returns-clause-reported
returns-clause-reported c h = any_report c.requires c.args.new.0 (c.args.n ∷ c.args.links ∷ 0 ∷ c.args.new.0 ∷ []) h c.args.report.now c.compress_links.ensures.reported
