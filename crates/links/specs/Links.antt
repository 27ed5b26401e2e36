-- What a removal answers, as number and words (REFERENCE, Remove).
use Rattle.std.specs.Prelude.{ℕ, List, [], ◌∷◌, Result, Ok, Err}
use Rattle.definitions.specs.Arena.{Arena}
use Rattle.definitions.specs.Reply.{Reply, reply, refusal}
use Rattle.refusals.specs.declared.Refusal.{Refusal}
use Rattle.refusals.specs.Refusal.{refused}
use Rattle.links.specs.declared.LinkNoGen.{LinkNoGen}
use Rattle.links.specs.declared.InvalidationResult.{InvalidationResult}
use Rattle.links.specs.declared.InvalidationResult.TheVariants.{Success, GenerationOverflow, InvalidPtr}

-- the words of a link: prev, next, payload
abbrev pub no_gen_words : LinkNoGen → List ℕ
no_gen_words l = l.prev.0 ∷ l.next.0 ∷ l.t ∷ []

-- 0 or 100 with the link's words before the removal, or 12. a is the arena left, b what is handed back
abbrev pub removal_reply : InvalidationResult → Arena → List ℕ → Reply
removal_reply (Success l) a b = reply 0 (no_gen_words l) a b
removal_reply (GenerationOverflow l) a b = reply 100 (no_gen_words l) a b
removal_reply InvalidPtr a b = refusal 12 3 a b

-- where the check is made first: the reply of the removal, or of the refusal
abbrev pub removed_reply : Result InvalidationResult Refusal → Arena → List ℕ → Reply
removed_reply (Ok i) a b = removal_reply i a b
removed_reply (Err r) a b = refused r 3 a b
