-- The code's pointers, as the definitions have them (REFERENCE, Pointers and generations).
use Rattle.std.specs.Prelude.{ℕ, List, [], ◌∷◌}
use Rattle.definitions.specs.Read.{Pointer, pointer}
use Rattle.ptr.specs.declared.Ptr.{Ptr}

-- the code's pointer, as the definitions have it
abbrev pub pointer_of : Ptr → Pointer
pointer_of p = pointer p.inx.0 p.generation.0

-- its words: slot, generation
abbrev pub pointer_words : Ptr → List ℕ
pointer_words p = p.inx.0 ∷ p.generation.0 ∷ []
