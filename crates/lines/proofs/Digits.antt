-- How many digits a number has. Assumes nothing.
use Rattle.std.proofs.Common.{◌≡◌, ℕ, ◌<◌, ◌≤◌, length, decimal, ap, arith}
use Rattle.std.proofs.lemmas.Fmt.{decimal_digit, length-decimal-le}

-- a number below ten has one digit
pub one_digit : (n : ℕ) → n < 10 → length (decimal n) ≡ 1
one_digit n h = ap length (decimal_digit n h)

-- how many digits a number has at the most
pub two_digits : (n : ℕ) → n < 100 → length (decimal n) ≤ 2
two_digits n h = length-decimal-le 2 n (omega arith) h (omega arith)

pub three_digits : (n : ℕ) → n < 1000 → length (decimal n) ≤ 3
three_digits n h = length-decimal-le 3 n (omega arith) h (omega arith)

pub five_digits : (n : ℕ) → n < 100000 → length (decimal n) ≤ 5
five_digits n h = length-decimal-le 5 n (omega arith) h (omega arith)

pub seven_digits : (n : ℕ) → n < 10000000 → length (decimal n) ≤ 7
seven_digits n h = length-decimal-le 7 n (omega arith) h (omega arith)

pub ten_digits : (n : ℕ) → n < 10000000000 → length (decimal n) ≤ 10
ten_digits n h = length-decimal-le 10 n (omega arith) h (omega arith)
