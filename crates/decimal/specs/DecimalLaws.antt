-- Laws of decimal numbers: the ways of one byte that is read, and the digits of a number by its tenth.
use Rattle.std.specs.Prelude.{◌≡◌, refl, true, false, List, [], ◌∷◌, ◌++◌, ℕ, zero, suc, ◌+◌, ◌-◌, ◌*◌, ◌/◌, ◌%◌, ◌^◌, ◌≤◌, ◌<◌, ltb, leb, eqb, length, take, drop, get_or, set, Some, None}
use Rattle.std.proofs.Common.{sym, ap, ◌∙◌, true≢false, arith, add-one, lt-ltb, le-ltb, le-leb, eq-eqb, ne_eqb, length-append, drop-cons, length-take-le, take-suc}
use Rattle.std.proofs.Math.Bool.{and-false}
use Rattle.std.proofs.Math.Decide.{dec_lt}
use Rattle.std.proofs.lemmas.Bool.{lt-leb}
use Rattle.std.proofs.Math.Seq.{drop-length, append_snoc}
use Rattle.std.proofs.lemmas.List.{set-append_left, set_at}
use Rattle.ring.specs.Runs.{copied}
use Rattle.ring.specs.Lent.{copied_all}
use Rattle.decimal.specs.Decimal.{is_digit, are_digits, value_from, number_from, number, takes, digits_before, digits_of}

-- ---- read

-- the ways of a byte b behind a number v
data Way (most v b : ℕ) : Type 0 where
  taken : 48 ≤ b → b < 58 → v * 10 + (b - 48) ≤ most → is_digit b ≡ true → takes most v b ≡ true → Way most v b
  other : is_digit b ≡ false → takes most v b ≡ false → Way most v b
  over : most < v * 10 + (b - 48) → is_digit b ≡ true → takes most v b ≡ false → Way most v b

way : (most v b : ℕ) → Way most v b
way most v b =
    elim (dec_lt b 48) [
      | yes l ↦ other (rw (lt-leb 48 b l) refl) (rw (lt-leb 48 b l) refl)
      | no l ↦
          let low : leb 48 b ≡ true = le-leb 48 b (omega arith) in
          elim (dec_lt b 58) [
            | no h ↦
                let high : ltb b 58 ≡ false = le-ltb b 58 (omega arith) in
                other (rw (low, high) refl) (rw (low, high) refl)
            | yes h ↦
                let high : ltb b 58 ≡ true = lt-ltb b 58 h in
                let is : is_digit b ≡ true = rw (low, high) refl in
                elim (dec_lt v (most / 10)) [
                  | yes m ↦ taken (omega arith) h (omega arith) is (rw (low, high, lt-ltb v (most / 10) m) refl)
                  | no m ↦
                      let more : ltb v (most / 10) ≡ false = le-ltb v (most / 10) (omega arith) in
                      elim (dec_lt (most / 10) v) [
                        | yes k ↦ over (omega arith) is (rw (low, high, more, ne_eqb v (most / 10) (omega arith)) refl)
                        | no k ↦
                            let same : eqb v (most / 10) ≡ true = eq-eqb v (most / 10) (omega arith) in
                            elim (dec_lt (48 + most % 10) b) [
                              | yes j ↦ over (omega arith) is (rw (low, high, more, same, lt-leb b (48 + most % 10) j) refl)
                              | no j ↦
                                  taken (omega arith) h (omega arith) is (rw (low, high, more, same, le-leb b (48 + most % 10) (omega arith)) refl)
                            ]
                      ]
                ]
          ]
    ]

-- a byte that is taken is a digit, and the number with it is at most `most`
pub takes_fits : (most v b : ℕ) → takes most v b ≡ true → (48 ≤ b) × (b < 58) × (v * 10 + (b - 48) ≤ most)
takes_fits most v b h =
    elim (way most v b) [
      | taken l m f is e ↦ (l, m, f)
      | other is e ↦ absurd (true≢false cc)
      | over m is e ↦ absurd (true≢false cc)
    ]

pub value_least : (v : ℕ) (t : List ℕ) → v ≤ value_from v t
unfolding value_from
value_least v [] = omega arith
value_least v (b ∷ t) = omega (arith, value_least (v * 10 + (b - 48)) t)

-- an empty text is no number
pub number_none : (most : ℕ) (t : List ℕ) → length t ≡ 0 → number most t ≡ None
unfolding number
number_none most [] h = refl
number_none most (b ∷ t) h = absurd (omega arith)

-- where reading begins: a text that is not empty
pub number_from_lem : (most : ℕ) (t : List ℕ) → 0 < length t → number most t ≡ number_from most 0 t
unfolding number
number_from_lem most [] h = absurd (omega arith)
number_from_lem most (b ∷ t) h = refl

-- its end
pub drop_all : (i : ℕ) (s : List ℕ) → i ≡ length s → drop i s ≡ []
drop_all i s h = rw h (drop-length s)

pub from_end : (most v : ℕ) → v ≤ most → number_from most v [] ≡ Some v
unfolding number_from are_digits value_from
from_end most v h = rw (le-leb v most h) refl

-- a byte that is taken
from_taken : (most v b : ℕ) (t : List ℕ) → takes most v b ≡ true → number_from most v (b ∷ t) ≡ number_from most (v * 10 + (b - 48)) t
unfolding number_from are_digits value_from
from_taken most v b t h =
    elim (way most v b) [
      | taken l m f is e ↦ rw is refl
      | other is e ↦ absurd (true≢false cc)
      | over m is e ↦ absurd (true≢false cc)
    ]

-- and one that is not
from_refused : (most v b : ℕ) (t : List ℕ) → takes most v b ≡ false → number_from most v (b ∷ t) ≡ None
unfolding number_from are_digits value_from
from_refused most v b t h =
    elim (way most v b) [
      | taken l m f is e ↦ absurd (true≢false cc)
      | other is e ↦ rw is refl
      | over m is e ↦
          let w = v * 10 + (b - 48) in
          let big : leb (value_from w t) most ≡ false = lt-leb (value_from w t) most (omega (arith, value_least w t)) in
          rw (is, big, and-false (are_digits t)) refl
    ]

-- both in a text of which the first i bytes are read
pub turn_taken : (most v b : ℕ) (s : List ℕ) (i : ℕ) → i < length s → b ≡ get_or s i 0 → takes most v b ≡ true
    → number_from most v (drop i s) ≡ number_from most (v * 10 + (b - 48)) (drop (i + 1) s)
turn_taken most v b s i l e h =
    ap (number_from most v) (drop-cons s i 0 l ∙ rw (e, add-one) refl) ∙ from_taken most v b (drop (i + 1) s) h

pub turn_refused : (most v b : ℕ) (s : List ℕ) (i : ℕ) → i < length s → b ≡ get_or s i 0 → takes most v b ≡ false
    → number_from most v (drop i s) ≡ None
turn_refused most v b s i l e h =
    ap (number_from most v) (drop-cons s i 0 l ∙ rw e refl) ∙ from_refused most v b (drop (suc i) s) h

-- ---- written

-- more than enough changes nothing
before_enough : (k j n : ℕ) (t : List ℕ) → n ≤ k → n ≤ j → digits_before k n t ≡ digits_before j n t
unfolding digits_before
before_enough zero zero n t h i = refl
before_enough zero (suc j) n t h i = rw (lt-ltb n 10 (omega arith)) refl
before_enough (suc k) zero n t h i = rw (lt-ltb n 10 (omega arith)) refl
before_enough (suc k) (suc j) n t h i =
    elim (dec_lt n 10) [
      | yes l ↦ rw (lt-ltb n 10 l) refl
      | no l ↦ rw (le-ltb n 10 (omega arith)) (before_enough k j (n / 10) ((48 + n % 10) ∷ t) (omega arith) (omega arith))
    ]

-- the digits of n in front of t: one, or those of its tenth and one more
pub before_one : (k n : ℕ) (t : List ℕ) → n < 10 → digits_before k n t ≡ (48 + n) ∷ t
unfolding digits_before
before_one zero n t h = refl
before_one (suc k) n t h = rw (lt-ltb n 10 h) refl

pub before_more : (k n : ℕ) (t : List ℕ) → n ≤ k → 10 ≤ n → digits_before k n t ≡ digits_before (n / 10) (n / 10) ((48 + n % 10) ∷ t)
unfolding digits_before
before_more zero n t e h = absurd (omega arith)
before_more (suc k) n t e h = rw (le-ltb n 10 h) (before_enough k (n / 10) (n / 10) ((48 + n % 10) ∷ t) (omega arith) (omega arith))

-- their count
before_length : (k n : ℕ) (t : List ℕ) → length (digits_before k n t) ≡ length (digits_before k n []) + length t
unfolding digits_before
before_length zero n t = omega arith
before_length (suc k) n t =
    elim (dec_lt n 10) [
      | yes l ↦ rw (lt-ltb n 10 l) (omega arith)
      | no l ↦
          let x = 48 + n % 10 in
          rw (le-ltb n 10 (omega arith)) (omega (arith, before_length k (n / 10) (x ∷ t), before_length k (n / 10) (x ∷ [])))
    ]

pub before_count : (n : ℕ) (t : List ℕ) → length (digits_before n n t) ≡ length (digits_of n) + length t
unfolding digits_of
before_count n t = before_length n n t

pub count_one : (n : ℕ) → n < 10 → length (digits_of n) ≡ 1
unfolding digits_of
count_one n h = ap length (before_one n n [] h)

pub count_more : (n : ℕ) → 10 ≤ n → length (digits_of n) ≡ length (digits_of (n / 10)) + 1
unfolding digits_of
count_more n h =
    ap length (before_more n n [] (omega arith) h) ∙ before_length (n / 10) (n / 10) ((48 + n % 10) ∷ [])

pub count_least : (n : ℕ) → 1 ≤ length (digits_of n)
count_least n =
    elim (dec_lt n 10) [
      | yes l ↦ omega (arith, count_one n l)
      | no l ↦ omega (arith, count_more n (omega arith))
    ]

pub count_most : (p n : ℕ) → n < 10 ^ suc p → length (digits_of n) ≤ suc p
count_most zero n h = omega (arith, count_one n (omega arith))
count_most (suc p) n h =
    elim (dec_lt n 10) [
      | yes l ↦ omega (arith, count_one n l)
      | no l ↦ omega (arith, count_more n (omega arith), count_most p (n / 10) (omega arith))
    ]

-- and the powers of ten that n reaches
power_some : (p : ℕ) → 0 < 10 ^ p
power_some zero = omega arith
power_some (suc p) = omega (arith, power_some p)

count_reached : (p n : ℕ) → 10 ^ p ≤ n → suc p ≤ length (digits_of n)
count_reached zero n h = count_least n
count_reached (suc p) n h =
    let some : 0 < 10 ^ p = power_some p in
    omega (arith, count_more n (omega arith), count_reached p (n / 10) (omega arith))

pub count_power : (p n : ℕ) → 10 ^ p ≤ n → n < 10 * 10 ^ p → length (digits_of n) ≡ p + 1
count_power p n h most = omega (arith, count_reached p n h, count_most p n (omega arith))

-- the last k digits of n in front of t, the last of them first
unfoldable pub last_digits : (k n : ℕ) → List ℕ → List ℕ
last_digits zero n t = t
last_digits (suc k) n t = last_digits k (n / 10) ((48 + n % 10) ∷ t)

last_enough : (k n : ℕ) (t : List ℕ) → n ≤ k → digits_before k n t ≡ last_digits (length (digits_of n)) n t
unfolding digits_before last_digits
last_enough zero n t h = rw (count_one n (omega arith)) (ap (λ (x : ℕ). (48 + x) ∷ t) (omega arith))
last_enough (suc k) n t h =
    elim (dec_lt n 10) [
      | yes l ↦ rw (lt-ltb n 10 l, count_one n l) (ap (λ (x : ℕ). (48 + x) ∷ t) (omega arith))
      | no l ↦
          rw
          (le-ltb n 10 (omega arith), count_more n (omega arith), add-one)
          (last_enough k (n / 10) ((48 + n % 10) ∷ t) (omega arith))
    ]

-- so many as there are, are all
pub last_all : (n : ℕ) → digits_of n ≡ last_digits (length (digits_of n)) n []
unfolding digits_of
last_all n = last_enough n n [] (omega arith)

-- where writing begins
pub digits_begin : (n : ℕ) → digits_of n ≡ digits_before n n []
unfolding digits_of
digits_begin n = refl

-- a digit, and those before it
last_before : (k n : ℕ) (t : List ℕ) → last_digits k n t ≡ last_digits k n [] ++ t
unfolding last_digits
last_before zero n t = refl
last_before (suc k) n t =
    let x = 48 + n % 10 in
    last_before k (n / 10) (x ∷ t) ∙ sym (append_snoc (last_digits k (n / 10) []) x t) ∙ ap (λ (s : List ℕ). s ++ t) (sym (last_before k (n / 10) (x ∷ [])))

pub last_more : (k m n : ℕ) → m ≡ k + 1 → last_digits k (n / 10) [] ++ (48 + n % 10) ∷ [] ≡ last_digits m n []
unfolding last_digits
last_more k m n h = rw (h, add-one) (sym (last_before k (n / 10) ((48 + n % 10) ∷ [])))

pub last_empty : (d : List ℕ) (n : ℕ) → length d ≡ 0 → d ≡ last_digits (length d) n []
unfolding last_digits
last_empty [] n h = refl
last_empty (x ∷ d) n h = absurd (omega arith)

-- d, whose first k places are filled with so many digits as n has
pub last_filled : (d s : List ℕ) (n k : ℕ) → s ≡ last_digits (length (take k d)) n [] → k ≡ length (digits_of n) → k ≤ length d
    → s ++ drop k d ≡ digits_of n ++ drop (length (digits_of n)) d
last_filled d s n k h e room =
    let all : s ≡ digits_of n = h ∙ ap (λ (m : ℕ). last_digits m n []) (length-take-le k d room ∙ e) ∙ sym (last_all n) in
    rw (all, e) refl

-- with t written up to `end` and more than one digit to come, there is room for two
pub digits_room : (n rest : ℕ) (t : List ℕ) → digits_of n ≡ digits_before rest rest t → 10 ≤ rest → 2 + length t ≤ length (digits_of n)
digits_room n rest t e h =
    let c = ap length e in
    omega (arith, before_count rest t, count_more rest h, count_least (rest / 10))

-- a digit written in front of a copy
copied_front : (d : List ℕ) (i x : ℕ) (t : List ℕ) (m : ℕ) → length t ≡ m → i + 1 + m ≤ length d
    → set (copied d (i + 1) t 0 m) i x ≡ copied d i (x ∷ t) 0 (m + 1)
copied_front d i x t m h room =
    let y = get_or d i 0 in
    let l : length (take i d) ≡ i = length-take-le i d (omega arith) in
    let one : take (i + 1) d ≡ take i d ++ (y ∷ []) = rw add-one (take-suc d i 0 (omega arith)) in
    let k : i + 1 + m ≡ i + (m + 1) = omega arith in
    ap
    (λ (z : List ℕ). set z i x)
    (copied_all d (i + 1) t m h
    ∙ ap (λ (z : List ℕ). z ++ t ++ drop (i + 1 + m) d) one
    ∙ ap (λ (z : List ℕ). z ++ drop (i + 1 + m) d) (append_snoc (take i d) y t))
    ∙ set-append_left (take i d ++ y ∷ t) (drop (i + 1 + m) d) i x (simp length-append (omega arith))
    ∙ ap (λ (z : List ℕ). z ++ drop (i + 1 + m) d) (set_at (take i d) y t x i l)
    ∙ ap (λ (z : ℕ). take i d ++ x ∷ t ++ drop z d) k
    ∙ sym (copied_all d i (x ∷ t) (m + 1) (omega arith))

-- a turn of the loop that writes them
pub last_turn : (d s : List ℕ) (i at n : ℕ) (t : List ℕ) → at < i → i + length t ≤ length d → s ≡ last_digits (i - at) n t
    → (s ≡ last_digits (i - 1 - at) (n / 10) ((48 + n % 10) ∷ t))
    × (set (copied d i t 0 (length t)) (i - 1) (48 + n % 10) ≡ copied d (i - 1) ((48 + n % 10) ∷ t) 0 (length ((48 + n % 10) ∷ t)))
unfolding last_digits
last_turn d s i at n t h room e =
    let x = 48 + n % 10 in
    let j : i ≡ i - 1 + 1 = omega arith in
    let k : i - at ≡ suc (i - 1 - at) = omega arith in (
      e ∙ ap (λ (z : ℕ). last_digits z n t) k,
      ap (λ (z : ℕ). set (copied d z t 0 (length t)) (i - 1) x) j
          ∙ copied_front d (i - 1) x t (length t) refl (omega arith)
          ∙ ap (copied d (i - 1) (x ∷ t) 0) (omega arith),
    )

-- and its end
pub last_none : (n : ℕ) (t : List ℕ) → last_digits 0 n t ≡ t
unfolding last_digits
last_none n t = refl

-- a digit that is not the first
pub spell_turn : (d : List ℕ) (i x : ℕ) (t : List ℕ) → 1 ≤ i → i + 1 + length t ≤ length d
    → set (copied d (i + 1) t 0 (length t)) i x ≡ copied d (i - 1 + 1) (x ∷ t) 0 (length (x ∷ t))
spell_turn d i x t h room =
    let k : i - 1 + 1 ≡ i = omega arith in
    rw k (copied_front d i x t (length t) refl room ∙ ap (copied d i (x ∷ t) 0) (omega arith))

-- the first
pub spell_end : (d s : List ℕ) (i x : ℕ) (t : List ℕ) (end : ℕ) → s ≡ x ∷ t → i + 1 + length t ≡ end → end ≤ length d
    → set (copied d (i + 1) t 0 (length t)) i x ≡ copied d (end - length s) s 0 (length s)
spell_end d s i x t end e h room =
    let m : length s ≡ length t + 1 = omega (arith, ap length e) in
    let j : end - length s ≡ i = omega arith in
    rw (j, m, e) (copied_front d i x t (length t) refl (omega arith))
