-- The numbers of the overflow answers of extra.rs (REFERENCE, Numbers).
use Rattle.std.specs.Prelude.{ℕ}
use Rattle.ptr.specs.declared.InvalidationOption.{InvalidationOption}
use Rattle.ptr.specs.declared.InvalidationOption.TheVariants.{Success, GenerationOverflow}

-- 0 where nothing overflowed, 100 where the generation did
abbrev pub invalidation_number : InvalidationOption → ℕ
invalidation_number Success = 0
invalidation_number GenerationOverflow = 100
