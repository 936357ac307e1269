-- Small examples, computed from the definitions: what is a number, and what is just not.
use Rattle.std.specs.Prelude.{◌≡◌, refl, [], ◌∷◌, pos, negsuc, Some, None}
use Rattle.decimal.specs.Decimal.{are_digits, value_from, number_from, number, signed, digits_before, digits_of, signed_of}

-- ---- numbers: none, with zeros in front, the most and one more, a blank, a sign
empty : number 255 [] ≡ None
unfolding number
empty = refl

zeros : number 255 (48 ∷ 48 ∷ 55 ∷ []) ≡ Some 7
unfolding number number_from are_digits value_from
zeros = refl

most : number 255 (50 ∷ 53 ∷ 53 ∷ []) ≡ Some 255
unfolding number number_from are_digits value_from
most = refl

more : number 255 (50 ∷ 53 ∷ 54 ∷ []) ≡ None
unfolding number number_from are_digits value_from
more = refl

blank : number 255 (32 ∷ 55 ∷ []) ≡ None
unfolding number number_from are_digits value_from
blank = refl

sign : number 255 (43 ∷ 55 ∷ []) ≡ None
unfolding number number_from are_digits value_from
sign = refl

-- ---- with a minus: none behind it, two of them, minus 0
bare : signed (45 ∷ []) ≡ None
unfolding signed number
bare = refl

twice : signed (45 ∷ 45 ∷ 49 ∷ []) ≡ None
unfolding signed number number_from are_digits value_from
twice = refl

minus_zero : signed (45 ∷ 48 ∷ []) ≡ Some (pos 0)
unfolding signed number number_from are_digits value_from
minus_zero = refl

-- the least i32, one below it, the most, and one above it
least : signed (45 ∷ 50 ∷ 49 ∷ 52 ∷ 55 ∷ 52 ∷ 56 ∷ 51 ∷ 54 ∷ 52 ∷ 56 ∷ []) ≡ Some (negsuc 2147483647)
unfolding signed number number_from are_digits value_from
least = refl

lower : signed (45 ∷ 50 ∷ 49 ∷ 52 ∷ 55 ∷ 52 ∷ 56 ∷ 51 ∷ 54 ∷ 52 ∷ 57 ∷ []) ≡ None
unfolding signed number number_from are_digits value_from
lower = refl

highest : signed (50 ∷ 49 ∷ 52 ∷ 55 ∷ 52 ∷ 56 ∷ 51 ∷ 54 ∷ 52 ∷ 55 ∷ []) ≡ Some (pos 2147483647)
unfolding signed number number_from are_digits value_from
highest = refl

higher : signed (50 ∷ 49 ∷ 52 ∷ 55 ∷ 52 ∷ 56 ∷ 51 ∷ 54 ∷ 52 ∷ 56 ∷ []) ≡ None
unfolding signed number number_from are_digits value_from
higher = refl

-- ---- written
written : digits_of 105 ≡ 49 ∷ 48 ∷ 53 ∷ []
unfolding digits_of digits_before
written = refl

written_minus : signed_of (negsuc 9) ≡ 45 ∷ 49 ∷ 48 ∷ []
unfolding signed_of digits_of digits_before
written_minus = refl
