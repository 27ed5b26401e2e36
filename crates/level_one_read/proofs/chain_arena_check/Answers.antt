-- `level_one_read::chain_arena_check` meets its contract. It answers what the check answers. Assumes nothing.
use Rattle.answers.proofs.Exports.{answers_check}
use Rattle.level_one_read.proofs.chain_arena_check.Goals as goal

pub returns : goal.returns
returns c = answers_check c.checked.ensures _
