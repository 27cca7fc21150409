-- The types over their bits (document 01, "Inputs", "Digits", "Sizes"): a type is bits, and signed or not. Nothing here fixes a word's size.
use Rattle.std.specs.Prelude.{Bool, true, false, cond, ◌||◌, ◌≡◌, ℕ, suc, ◌-◌, ◌^◌, ◌≤◌, ltb, eqb, ℤ, pos, negsuc, nat_abs, length}
use Rattle.digits.specs.Text.{signed}
use Rattle.kinds.specs.declared.Split.{Split}

-- The bits that a type can have.
abbrev pub known : ℕ → Bool
known bits = eqb bits 8 || (eqb bits 16 || (eqb bits 32 || eqb bits 64))

-- Whether z is a value of the type: unsigned from 0 to 2 ^ bits - 1; signed from -2 ^ (bits - 1) to 2 ^ (bits - 1) - 1, where `negsuc k` is -(k + 1).
abbrev pub is_in_type : Bool → ℕ → ℤ → Bool
is_in_type false bits (pos n) = ltb n (2 ^ bits)
is_in_type false bits (negsuc k) = false
is_in_type true bits (pos n) = ltb n (2 ^ (bits - 1))
is_in_type true bits (negsuc k) = ltb k (2 ^ (bits - 1))

-- The two's complement pattern of z at so many bits.
abbrev pub pattern : ℕ → ℤ → ℕ
pattern bits (pos n) = n
pattern bits (negsuc k) = 2 ^ bits - suc k

-- The number that a two's complement pattern of so many bits stands for.
abbrev pub reading : ℕ → ℕ → ℤ
reading bits p = cond (ltb p (2 ^ (bits - 1))) (pos p) (negsuc (2 ^ bits - suc p))

-- A value comes as the pattern of a word; of an unsigned type as an unsigned number.
abbrev pub meaning : ℕ → Bool → ℕ → ℤ
meaning word false p = pos p
meaning word true p = reading word p

abbrev pub negative : ℤ → Bool
negative (pos n) = false
negative (negsuc k) = true

-- Sign and magnitude.
abbrev pub split_of : ℤ → Split
split_of z = record { negative = negative z; magnitude = nat_abs z }

-- size is the greatest decimal length of the type: no value's text is longer, and some value's is as long.
pub record Greatest (sign : Bool) (bits size : ℕ) : Type 0 where
  pub never : (z : ℤ) → is_in_type sign bits z ≡ true → length (signed z) ≤ size
  pub longest : ℤ
  pub is-value : is_in_type sign bits longest ≡ true
  pub reached : length (signed longest) ≡ size

-- The size of a buffer for the decimals of a type: of a type the greatest decimal length, of bits that no type has 0.
pub record BufSize (sign : Bool) (bits size : ℕ) : Type 0 where
  pub of-type : known bits ≡ true → Greatest sign bits size
  pub of_none : known bits ≡ false → size ≡ 0
