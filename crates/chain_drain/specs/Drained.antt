-- What a drain answers, as words (REFERENCE, Drain).
use Rattle.std.specs.Prelude.{List, ℕ, [], ◌∷◌}
use Rattle.std.specs.Option.{unwrap_or}
use Rattle.chain_drain.specs.declared.Drained.{Drained}

-- how many links were removed, and which one of them overflowed, 0 if none did
abbrev pub drained_words : Drained → List ℕ
drained_words d = d.items ∷ unwrap_or d.overflowed 0 ∷ []
