-- What the reading functions answer, as numbers and words (REFERENCE, Reading).
use Rattle.std.specs.Prelude.{ℕ, Bool, List, [], ◌∷◌, Option, Some, None}
use Rattle.definitions.specs.Arena.{Arena, arena}
use Rattle.definitions.specs.Reply.{Reply, reply}
use Rattle.definitions.specs.Read.{Pointer, stale}
use Rattle.links.specs.declared.Link.{Link}
use Rattle.links.specs.declared.LinkNoGen.{LinkNoGen}
use Rattle.links.specs.Links.{no_gen_words}
use Rattle.refusals.specs.declared.Refusal.TheVariants.{StalePointer}
use Rattle.refusals.specs.Refusal.{refused}

-- whether p is stale where gs is the generation column and n the stack length: of an arena, `stale` reads nothing else
unfoldable pub stale_in : List ℕ → ℕ → Pointer → Bool
stale_in gs n p = stale (arena [] [] gs [] (n ∷ [])) p

-- the words of a link with generations: prev and its generation, next and its generation, payload
abbrev pub gen_words : Link → List ℕ
gen_words l = l.prev.inx.0 ∷ l.prev.generation.0 ∷ l.next.inx.0 ∷ l.next.generation.0 ∷ l.t ∷ []

-- 0 and the link's words; 12 where there is none. The arena a and what was handed in stay as they were
abbrev pub link_reply : Option Link → Arena → List ℕ → Reply
link_reply (Some l) a hands = reply 0 (gen_words l) a hands
link_reply None a hands = refused StalePointer 5 a hands

abbrev pub link_no_gen_reply : Option LinkNoGen → Arena → List ℕ → Reply
link_no_gen_reply (Some l) a hands = reply 0 (no_gen_words l) a hands
link_no_gen_reply None a hands = refused StalePointer 3 a hands
