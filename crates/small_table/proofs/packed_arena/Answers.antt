-- `small_table::packed_arena` meets its contract: the table is the list of all small arenas, each packed. Assumes nothing.
use Rattle.all_small.proofs.Table.{table_entry}
use Rattle.small_table.proofs.packed_arena.Goals as goal

pub returns : goal.returns
returns c = table_entry c.args.index c.requires
