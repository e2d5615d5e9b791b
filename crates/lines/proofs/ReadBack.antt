-- A number in a text can be read back: a run of digits ends at the first byte that is none. So texts that begin with a
-- number and such a byte have the same number and the same rest where they are the same. Assumes nothing.
use Rattle.std.proofs.Common.{◌≡◌, ℕ, ◌^◌, ◌<◌, Bool, false, cond, ltb, List, [], ◌∷◌, ◌++◌, drop, decimal, sym, ap, ◌∙◌}
use Rattle.std.proofs.lemmas.Fmt.{decimal_is_IsNumeral}
use Rattle.std.proofs.lemmas.Bool.{lt-ltb}
use Rattle.std.specs.Str.Parse.{digits_value, AllDigits}
use Rattle.std.specs.Char.{digit_value}

abbrev pub is_digit : ℕ → Bool
is_digit b = ltb (digit_value b) 10

-- the digits that a text begins with
abbrev pub lead : List ℕ → List ℕ
lead [] = []
lead (b ∷ bs) = cond (is_digit b) (b ∷ lead bs) []

-- the text past them
abbrev pub past : List ℕ → List ℕ
past [] = []
past (b ∷ bs) = cond (is_digit b) (past bs) (b ∷ bs)

-- the number that a text begins with
abbrev pub number_in : List ℕ → ℕ
number_in bs = digits_value 10 (lead bs)

split : (ds : List ℕ) (x : ℕ) (xs : List ℕ) → AllDigits 10 ds → is_digit x ≡ false → (lead (ds ++ x ∷ xs) ≡ ds) × (past (ds ++ x ∷ xs) ≡ x ∷ xs)
split [] x xs u f = (ap (λ (b : Bool). cond b (x ∷ lead xs) []) f, ap (λ (b : Bool). cond b (past xs) (x ∷ xs)) f)
split (d ∷ ds) x xs u f =
    let digit = lt-ltb (digit_value d) 10 u.0 in
    let rest = split ds x xs u.1 f in (
      ap (λ (b : Bool). cond b (d ∷ lead (ds ++ x ∷ xs)) []) digit ∙ ap (λ (es : List ℕ). d ∷ es) rest.0,
      ap (λ (b : Bool). cond b (past (ds ++ x ∷ xs)) (d ∷ (ds ++ x ∷ xs))) digit ∙ rest.1,
    )

-- the digits of a number before a byte that is no digit
pub digits_back : (n x : ℕ) (xs : List ℕ) → n < 2 ^ 64 → is_digit x ≡ false → lead (decimal n ++ x ∷ xs) ≡ decimal n
digits_back n x xs h f = (split (decimal n) x xs (decimal_is_IsNumeral n h).0.1 f).0

-- a number before a byte that is no digit is read back
pub number_back : (n x : ℕ) (xs : List ℕ) → n < 2 ^ 64 → is_digit x ≡ false → (number_in (decimal n ++ x ∷ xs) ≡ n) × (past (decimal n ++ x ∷ xs) ≡ x ∷ xs)
number_back n x xs h f =
    let reads = decimal_is_IsNumeral n h in
    let parts = split (decimal n) x xs reads.0.1 f in
    (ap (digits_value 10) parts.0 ∙ reads.1, parts.1)

-- the same text has the same number, and the same past it and the byte behind it
pub same_number : (m n x : ℕ) (xs ys : List ℕ) → m < 2 ^ 64 → n < 2 ^ 64 → is_digit x ≡ false → decimal m ++ x ∷ xs ≡ decimal n ++ x ∷ ys → (m ≡ n) × (xs ≡ ys)
same_number m n x xs ys hm hn f e =
    let one = number_back m x xs hm f in
    let two = number_back n x ys hn f in
    (sym one.0 ∙ ap number_in e ∙ two.0, ap (drop 1) (sym one.1 ∙ ap past e ∙ two.1))
