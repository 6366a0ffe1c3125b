-- How long a line is at most: `LINE` bytes, where its numbers fit their types. Assumes nothing.
use Rattle.std.proofs.Common.{ℕ, ◌+◌, ◌^◌, ◌≤◌, ◌<◌, List, length, arith, length-append}
use Rattle.model.specs.declared.Side.{Side}
use Rattle.model.specs.declared.Side.TheVariants.{Earlier, Later}
use Rattle.lines.specs.declared.TheConstants.{LINE}
use Rattle.lines.specs.Text.{side_text, line_text, named_text, units_text, refused_text}
use Rattle.lines.proofs.Numerals.{numeral_short}

side_short : (side : Side) → length (side_text side) ≤ 3
unfolding side_text
side_short Earlier = omega arith
side_short Later = omega arith

pub line_short : (time page : ℕ) (side : Side) (rows : ℕ) → time < 2 ^ 64 → page < 2 ^ 32 → rows < 2 ^ 32 → length (line_text time page side rows) ≤ LINE
unfolding line_text
line_short time page side rows t p r =
    simp length-append (omega (arith, numeral_short time t, numeral_short page (omega arith), numeral_short rows (omega arith), side_short side))

named_short : (word : List ℕ) (n : ℕ) → n < 2 ^ 64 → length (named_text word n) ≤ length word + 21
unfolding named_text
named_short word n h = simp length-append (omega (arith, numeral_short n h))

pub units_short : (units : ℕ) → units < 2 ^ 64 → length (units_text units) ≤ 27
unfolding units_text
units_short units h = named_short _ units h

pub refused_short : (k : ℕ) → k < 2 ^ 8 → length (refused_text k) ≤ 29
unfolding refused_text
refused_short k h = named_short _ k (omega arith)
