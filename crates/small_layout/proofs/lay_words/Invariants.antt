-- `small_layout::lay_words` meets its contract. The loop's invariant: the digits of the slots that were passed stand at the front. Assumes nothing.
use Rattle.std.proofs.Common.{◌≡◌, take}
use Rattle.all_small.proofs.Packed.{after, digits}
use Rattle.small_layout.proofs.lay_words.Given as goal

abbrev pub invariant-loop-word : goal.invariant-loop-word
invariant-loop-word l = (l.rest ≡ after l.rows l.word-index) × (take l.word-index l.word-items ≡ digits l.weight l.rows l.word-index)
