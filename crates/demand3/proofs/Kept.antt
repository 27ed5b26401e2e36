-- Both compressions leave an arena that passes the check: an accepted one lays the links out in an order, a refused one changes nothing. Assumes nothing.
use Prim.Native.Nat.{ℕ}
use mathlib.Core.Path.{◌≡◌}
use mathlib.Core.Bool.{Bool}
use mathlib.Core.List.{List}
use native.Mathlib.Decide.{ℕ_discrete}
use lib.ListN.{length}
use Rattle.definitions.specs.Arena.{Arena, capacity}
use Rattle.definitions.specs.Check.{verdict, WellFormed}
use Rattle.definitions.specs.Compress.{compress_generation, compress_with, compress_canonical}
use Rattle.well_formed.proofs.WellFormed.{well_formed_if_passes, passes_if_well_formed}
use Rattle.chains.proofs.Links.{well_formed_linked}
use Rattle.renaming.proofs.Relocated.{any_order_well_formed}
use Rattle.renaming.proofs.CompressWith.{compress_generation_two, compress_with_keeps}
use Rattle.demand3.proofs.Order.{canonical_order, canonical_order_lem}
use Rattle.demand3.proofs.Equivalence.{canonical_accepted, canonical_refused}

pub compress_canonical_keeps : (limit top : ℕ) (a : Arena) → WellFormed limit a → (reset : Bool) (where_from : List ℕ) → WellFormed limit (compress_canonical top reset a where_from).arena
compress_canonical_keeps limit top a ok reset where_from =
    elim (ℕ_discrete (length where_from) (capacity a)) [
      | yes e ↦
          rw (canonical_accepted limit top a ok reset where_from e)
          (any_order_well_formed a (canonical_order a) (canonical_order_lem a (well_formed_linked ok)) (compress_generation top reset a) limit ok (compress_generation_two top reset a ok.generation))
      | no d ↦ rw (canonical_refused limit top a ok reset where_from d) ok
    ]

pub compressions_pass_the_check : (limit top : ℕ) (a : Arena) → verdict limit a ≡ 0 → (reset : Bool) (report where_from : List ℕ) →
    (verdict limit (compress_with top reset a report).arena ≡ 0) × (verdict limit (compress_canonical top reset a where_from).arena ≡ 0)
compressions_pass_the_check limit top a passed reset report where_from =
    let ok = well_formed_if_passes limit a passed in
    (passes_if_well_formed limit _ (compress_with_keeps limit top a ok reset report), passes_if_well_formed limit _ (compress_canonical_keeps limit top a ok reset where_from))
