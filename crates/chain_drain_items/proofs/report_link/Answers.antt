-- `chain_drain_items::report_link` meets its contract: the five stores are the item's words, as they stand in the columns. Assumes nothing.
use Rattle.lent.specs.Arenas.{lent_of}
use Rattle.chain_drain_items.proofs.Items.{item_stores}
use Rattle.chain_drain_items.proofs.report_link.Goals as goal

pub returns : goal.returns
returns c = item_stores (lent_of c.args.arena) _ _ _ _ _ _ _ c.word_at.ensures c.slot_at.ensures c.slot_at-2.ensures c.word_at-2.ensures c.requires.room
