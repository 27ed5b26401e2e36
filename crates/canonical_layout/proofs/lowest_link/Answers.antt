-- `canonical_layout::lowest_link` meets its contract: the first word after the first `from` is that of the lowest slot (Search). Assumes nothing.
use Rattle.std.proofs.lemmas.List.{take_rest}
use Rattle.canonical_layout.proofs.Search.{lowest_found, lowest_none}
use Rattle.canonical_layout.proofs.lowest_link.Goals as goal

pub returns-in-Some-clause-lowest : goal.returns-in-Some-clause-lowest
returns-in-Some-clause-lowest c = lowest_found _ _ c.requires.0 (rw (take_rest c.args.where_from.now c.args.from) at c.in-Some.ensures.some)

pub returns-in-None-clause-lowest : goal.returns-in-None-clause-lowest
returns-in-None-clause-lowest c = lowest_none _ _ c.requires.0 (rw (take_rest c.args.where_from.now c.args.from) at c.in-None.ensures.none)
