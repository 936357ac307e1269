-- Decimal numbers as text: a digit is a byte from `0` (48) to `9` (57).
use Rattle.std.specs.Prelude.{Bool, true, false, cond, ◌&&◌, ◌||◌, List, [], ◌∷◌, ℕ, zero, suc, ◌+◌, ◌-◌, ◌*◌, ◌/◌, ◌%◌, ltb, leb, eqb, ℤ, pos, negsuc, neg_ℤ, drop, Option, Some, None, option_map}

-- ---- read

abbrev pub is_digit : (b : ℕ) → Bool
is_digit b = leb 48 b && ltb b 58

unfoldable pub are_digits : List ℕ → Bool
are_digits [] = true
are_digits (b ∷ t) = is_digit b && are_digits t

-- the number of v's digits with those of a text behind them
unfoldable pub value_from : (v : ℕ) → List ℕ → ℕ
value_from v [] = v
value_from v (b ∷ t) = value_from (v * 10 + (b - 48)) t

-- that number, if the text has digits only and it is at most `most`
unfoldable pub number_from : (most v : ℕ) → List ℕ → Option ℕ
number_from most v t = cond (are_digits t && leb (value_from v t) most) (Some (value_from v t)) None

-- the number that a text is, if it is at most `most`: one digit or more, with any zeros in front, and nothing else
unfoldable pub number : (most : ℕ) → List ℕ → Option ℕ
number most [] = None
number most (b ∷ t) = number_from most 0 (b ∷ t)

abbrev pub starts_minus : List ℕ → Bool
starts_minus [] = false
starts_minus (b ∷ t) = eqb b 45

-- the i32 that a text is: a number, or a minus (45) and a number
unfoldable pub signed : List ℕ → Option ℤ
signed t =
    cond (starts_minus t) (option_map (λ n. neg_ℤ (pos n)) (number 2147483648 (drop 1 t))) (option_map pos (number 2147483647 t))

-- the test of one byte, as the code makes it: b is a digit, and v with b behind it is at most `most`
abbrev pub takes : (most v b : ℕ) → Bool
takes most v b = leb 48 b && ltb b 58 && (ltb v (most / 10) || (eqb v (most / 10) && leb b (48 + most % 10)))

-- ---- written

-- the digits of n in front of a text. `enough` bounds how many more digits than one there are; n itself is enough
unfoldable pub digits_before : (enough n : ℕ) → List ℕ → List ℕ
digits_before zero n t = (48 + n) ∷ t
digits_before (suc k) n t = cond (ltb n 10) ((48 + n) ∷ t) (digits_before k (n / 10) ((48 + n % 10) ∷ t))

-- the digits of n, without zeros in front; of 0 the one digit 0
unfoldable pub digits_of : (n : ℕ) → List ℕ
digits_of n = digits_before n n []

unfoldable pub signed_of : (n : ℤ) → List ℕ
signed_of (pos n) = digits_of n
signed_of (negsuc n) = 45 ∷ digits_of (suc n)
