-- The generation is renewed in one of three ways: set to 2, left alone, raised. Assumes nothing.
use Prim.Native.Nat.{ℕ}
use mathlib.Core.Path.{◌≡◌, refl, sym, ap}
use mathlib.Core.Bool.{true, false}
use mathlib.Core.List.{List, []}
use lib.Seq.{set-get_or}
use borrow.Author.Tests.{eq-eqb, ne_eqb}
use Rattle.definitions.specs.Arena.{Arena, link_count, with_current, with_header}
use Rattle.definitions.specs.Reply.{Reply, reply}
use Rattle.definitions.specs.Edit.{inc_generation}
use Rattle.definitions.specs.Compress.{raises, compress_generation, compress_number}
use Rattle.compress_moves.specs.Moves.{Renewed}

module _ (top : ℕ) (a : Arena) where
  pub renewed_by_reset : Renewed top true a 0 (with_current 2 a.header)
  unfolding raises compress_generation compress_number
  renewed_by_reset = record { number = refl; header = refl }

  pub not_renewed : link_count a ≡ 0 → Renewed top false a 0 a.header
  unfolding raises compress_generation compress_number
  not_renewed z = record { number = rw (eq-eqb _ _ z) refl; header = rw (eq-eqb _ _ z) (sym (set-get_or a.header 3 0)) }

  pub renewed_by_raise : {k : ℕ} {h : List ℕ} → (link_count a ≡ 0 → ⊥) → reply k [] (with_header a h) [] ≡ inc_generation top a [] → Renewed top false a k h
  unfolding raises compress_generation compress_number inc_generation
  renewed_by_raise d e =
      record {
        number = rw (ne_eqb _ _ d) (ap (λ (r : Reply). r.number) e);
        header = rw (ne_eqb _ _ d) (ap (λ (r : Reply). r.arena.header) e);
      }
