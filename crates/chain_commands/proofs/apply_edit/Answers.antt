-- `chain_commands::apply_edit` meets its contract: each edit is its code's. Assumes nothing.
use mathlib.Core.Path.{◌∙◌}
use borrow.Author.Rules.{rules}
use Rattle.chain_commands.specs.Commands.{command_of}
use Rattle.chain_commands.proofs.Step.{connects, breaks, exchanges}
use Rattle.chain_commands.proofs.apply_edit.Goals as goal

pub returns-then-c-lt2 : goal.returns-then-c-lt2
returns-then-c-lt2 c = λ top. search rules ∙ connects top _ (command_of c.args.c) c.requires.edit.0 c.if-c-lt2.true

pub returns-then-c-lt4 : goal.returns-then-c-lt4
returns-then-c-lt4 c = λ top. search rules ∙ breaks top _ (command_of c.args.c) c.if-c-lt2.false c.if-c-lt4.true

pub returns-else-c-lt4 : goal.returns-else-c-lt4
returns-else-c-lt4 c = λ top. search rules ∙ exchanges top _ (command_of c.args.c) c.if-c-lt4.false c.requires.edit.1
