-- Numerals are what std and `itoa` write of a number: its digits, the fewest that hold it. Assumes nothing.
use Rattle.std.proofs.Common.{ℕ, ◌^◌, ◌≤◌, ◌<◌, ◌≡◌, refl, sym, length, arith, mod-eq_of_lt}
use Rattle.std.specs.Fmt.{decimal}
use Rattle.std.proofs.lemmas.Fmt.{AppendsLastDigit, decimal_from_appends, length-decimal-le}
use borrow.Author.Tests.{lt-ltb, le-ltb}
use Rattle.lines.specs.Text.{last_digits, numeral}

last_digit_appended : AppendsLastDigit last_digits
unfolding last_digits
last_digit_appended = record {
  one = λ k n h. rw (lt-ltb n 10 h, mod-eq_of_lt h) refl;
  more = λ k n h. rw (le-ltb n 10 h) refl;
}

-- twenty digits are enough
pub few_digits : (n : ℕ) → n < 2 ^ 64 → length (decimal n) ≤ 20
few_digits n h = length-decimal-le 20 n (omega arith) (omega arith) h

pub decimal_numeral : (n : ℕ) → n < 2 ^ 64 → decimal n ≡ numeral n
unfolding numeral
decimal_numeral n h = sym (decimal_from_appends last_digits last_digit_appended 20 n h (few_digits n h))

pub numeral_short : (n : ℕ) → n < 2 ^ 64 → length (numeral n) ≤ 20
numeral_short n h = rw (← decimal_numeral n h) (few_digits n h)
