-- DEMAND 3, proved of the definition that the exported canonical compression cites, `reply_to` at `CompressCanonical`. Clause by clause
-- (REFERENCE, What canonical compression keeps), with the field of `Demand3` that says it; `specs/Demand3.antt` of `statements` states the fields,
-- and `one` is a record `OfOne`:
--
--   where the check passes and the where-from column fits, the call is done
--        accepted: with any reset, if that column has the length of the columns; done means 0 or 100
--   the links are in slots 1 to n and in no other                      one.fills, one.stack, one.links
--   and there is no root                                               one.root
--   slots 1 to n came from the old links, from each of them once       one.renaming: size, each, only
--   payloads went along, and neighbours under their new names          one.renaming: payload, prev, next
--   the links of an old chain are side by side now, along next         one.consecutive: each next is the slot above, but for the last
--   the row of slots 1 to n, cut where next does not lead on to the slot above, falls into the old chains
--        one.chains: where the pieces came from is a listing of the old chains; one.ends: the last link of an open piece has no next
--        one.every and listings: the old chains are well defined, for each link is on one of them and no other, and any two listings pair up
--   equal words mean equal chains of payloads
--        same: two arenas with as many links, which compressed have the same prev, next and payload words in slots 1 to n, held the same; of what
--        generations and capacity they were, and what was free in them, does not matter
--   further canonical compressions move nothing
--        unmoved: said of a list of calls as a whole, with any resets and where-from columns of any lengths, so that some may be refused
--
-- The argument: a chain brought to the front by exchanges is on consecutive slots (LayChain), so that the links end in the canonical order, chain by
-- chain (LayChains, Equivalence); laying out any order renames every link once (crate `renaming`); its pieces are the chains of the order (Pieces);
-- and the canonical order of what is left is 1 to n (Again). Assumes nothing.
use Prim.Native.Nat.{ℕ}
use Rattle.definitions.specs.Arena.{capacity_limit, largest_generation}
use Rattle.statements.specs.Demand3.{Demand3}
use Rattle.chains.proofs.Listings.{listings_pair}
use Rattle.demand3.proofs.Accepted.{done_accepted}
use Rattle.demand3.proofs.OneCompression.{one_compression}
use Rattle.demand3.proofs.SameChains.{same_chains}
use Rattle.demand3.proofs.Unmoved.{unmoved}

-- at every capacity limit and every largest generation
pub demand_3_at : (limit top : ℕ) → Demand3 limit top
demand_3_at limit top =
    record {
      accepted = λ a f passed size. done_accepted limit top f a passed size;
      one = one_compression limit top;
      listings = λ a b col z cs ds x y. listings_pair a cs ds x y;
      same = same_chains limit top;
      unmoved = unmoved limit top;
    }

-- of the port: 1,048,576 slots, generations up to 4,294,967,295
pub demand_3 : Demand3 capacity_limit largest_generation
demand_3 = demand_3_at capacity_limit largest_generation

-- and with 65,535 slots, the most that 16 bits number
pub demand_3_at_65535 : Demand3 65535 largest_generation
demand_3_at_65535 = demand_3_at 65535 largest_generation
