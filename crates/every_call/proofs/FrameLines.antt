-- The lines of the frame: `lines_part_the_frame`, and `dot_in_its_line` for the words that two calls answered. Assumes nothing.
use Prim.Native.Nat.{ℕ, suc, ◌+◌, ◌≤◌, ◌<◌}
use mathlib.Core.Path.{◌≡◌, refl, sym, ap, ap₂, ◌∙◌}
use mathlib.Core.List.{[], ◌∷◌}
use native.Mathlib.Omega.{arith}
use lib.ListN.{get_or}
use lib.Dec.{ltb}
use borrow.Author.Tests.{ltb-true, ltb-false}
use Rattle.definitions.specs.Clock.{Told, told, frame_dots, frame_lines, first_dot, last_dot, line_of, line_of_dot, line_dots}
use Rattle.definitions.proofs.Clock.{of_dot, no_dot, dots_of, no_line}
use Rattle.definitions.proofs.Tests.{by_test}
use Rattle.statements.specs.FrameClock.{LinesPart}

-- what an answer says
word : ℕ → Told → ℕ
word k t = get_or t.fields k 0

pub line_told : (dot line : ℕ) → line_of_dot dot ≡ told 0 (line ∷ []) → (dot < 89342) × (line ≡ line_of dot)
unfolding word
line_told dot line e =
    by_test (ltb dot frame_dots)
    (λ t. let h = ltb-true dot frame_dots t in (h, ap (word 0) (sym e ∙ sym (of_dot dot h))))
    (λ t. absurd (omega (arith, ap (λ (r : Told). r.number) (sym e ∙ sym (no_dot dot (ltb-false dot frame_dots t))))))

pub dots_told : (line first last : ℕ) → line_dots line ≡ told 0 (first ∷ last ∷ []) → (line < 262) × (first ≡ first_dot line) × (last ≡ last_dot line)
unfolding word
dots_told line first last e =
    by_test (ltb line frame_lines)
    (λ t. let h = ltb-true line frame_lines t in (h, ap (word 0) (sym e ∙ sym (dots_of line h)), ap (word 1) (sym e ∙ sym (dots_of line h))))
    (λ t. absurd (omega (arith, ap (λ (r : Told). r.number) (sym e ∙ sym (no_line line (ltb-false line frame_lines t))))))

-- a dot is in its line, and in no other
in_line : (dot : ℕ) → (first_dot (line_of dot) ≤ dot) × (dot ≤ last_dot (line_of dot))
unfolding first_dot last_dot line_of
in_line dot = (omega arith, omega arith)

in_one_line : (dot line : ℕ) → first_dot line ≤ dot → dot ≤ last_dot line → line ≡ line_of dot
unfolding first_dot last_dot line_of
in_one_line dot line f l = omega arith

few_lines : (dot : ℕ) → dot < 89342 → line_of dot < 262
unfolding line_of
few_lines dot h = omega arith

few_dots : (dot line : ℕ) → line < 262 → dot ≤ last_dot line → dot < 89342
unfolding first_dot last_dot
few_dots dot line h l = omega arith

next_line : (line : ℕ) → suc line < 262 → line_dots (suc line) ≡ told 0 ((last_dot line + 1) ∷ (last_dot line + 341) ∷ [])
unfolding first_dot last_dot
next_line line h =
    let f : first_dot (suc line) ≡ last_dot line + 1 = omega arith in
    let l : last_dot (suc line) ≡ last_dot line + 341 = omega arith in
    sym (dots_of (suc line) h) ∙ ap₂ (λ (x y : ℕ). told 0 (x ∷ y ∷ [])) f l

pub lines_part_the_frame : LinesPart line_of_dot line_dots
unfolding first_dot last_dot
lines_part_the_frame = record {
  has_line = λ dot h. (line_of dot, few_lines dot h, sym (of_dot dot h));
  within = λ dot line first last e f.
      let told_Line = line_told dot line e in
      let ends = dots_told line first last f in
      rw (ends.1, ends.2, told_Line.1) (in_line dot);
  only = λ dot line first last f from to.
      let ends = dots_told line first last f in
      let there = in_one_line dot line (rw (← ends.1) from) (rw (← ends.2) to) in
      sym (of_dot dot (few_dots dot line ends.0 (rw (← ends.2) to))) ∙ rw (← there) refl;
  begins = sym (dots_of 0 (omega arith));
  follows = λ line first last h f. rw (dots_told line first last f).2 (next_line line h);
  no_dot = λ dot h. sym (no_dot dot h);
  no_line = λ line h. sym (no_line line h);
}

-- the words of two answers: the line that was answered for a dot has it between the ends that were answered for that line
pub dot_in_its_line :
    (dot n line m first last : ℕ) → told n (line ∷ []) ≡ line_of_dot dot → told m (first ∷ last ∷ []) ≡ line_dots line → dot < 89342
    → (n ≡ 0) × (m ≡ 0) × (line < 262) × (first ≤ dot) × (dot ≤ last) × (last ≡ first + 340)
unfolding word first_dot last_dot
dot_in_its_line dot n line m first last e f h =
    let line-is : line ≡ line_of dot = ap (word 0) (e ∙ sym (of_dot dot h)) in
    let few : line < 262 = rw line-is (few_lines dot h) in
    let first_is : first ≡ first_dot line = ap (word 0) (f ∙ sym (dots_of line few)) in
    let last-is : last ≡ last_dot line = ap (word 1) (f ∙ sym (dots_of line few)) in
    let there = in_line dot in (
      ap (λ (r : Told). r.number) (e ∙ sym (of_dot dot h)),
      ap (λ (r : Told). r.number) (f ∙ sym (dots_of line few)),
      few,
      rw (first_is, line-is) there.0,
      rw (last-is, line-is) there.1,
      rw (first_is, last-is) refl,
    )
