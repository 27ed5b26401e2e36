-- `base_insertion::insert_between` meets its contract. The header is written while the next column is as it was, then each column at the new slot and at the
-- neighbours. Assumes nothing.
use Rattle.base_insertion.proofs.Inserting.{all_written}
use Rattle.base_insertion.proofs.insert_between.Goals as goal

pub returns-clause-inserted : goal.returns-clause-inserted
returns-clause-inserted c = all_written _ c.requires c.put_in-2.ensures c.put_in.ensures (c.count_insertion.ensures _ _ _)
