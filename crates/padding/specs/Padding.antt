-- What stands around the digits (document 01, "Sign and prefix", "Padding").
use Rattle.std.specs.Prelude.{Bool, true, false, cond, ◌||◌, List, [], ◌∷◌, ◌++◌, ℕ, ◌+◌, ◌-◌, ◌/◌, ◌≡◌, eqb, length, replicate}

-- `-` (45) for a negative; else `+` (43) under the plus flag.
abbrev pub sign_of : Bool → Bool → List ℕ
sign_of true plus = 45 ∷ []
sign_of false true = 43 ∷ []
sign_of false false = []

-- The alternate flag puts `0b`, `0o`, `0x` for the codes 1 to 4, `0x` for upper hex also, and does nothing for others.
abbrev pub prefix_of : Bool → ℕ → List ℕ
prefix_of false code = []
prefix_of true code =
    cond (eqb code 1) (48 ∷ 98 ∷ [])
    (cond (eqb code 2) (48 ∷ 111 ∷ [])
    (cond (eqb code 3 || eqb code 4) (48 ∷ 120 ∷ []) []))

-- Where k bytes are lacking to the width: under the zero flag they are zeros in front of the digits, and alignment is ignored;
-- otherwise fill: left (1) behind, right (3) and unset (0) in front, centre (2) on both sides with the extra byte behind.
abbrev pub zeros_of : Bool → ℕ → ℕ
zeros_of pad k = cond pad k 0

abbrev pub before_of : Bool → ℕ → ℕ → ℕ
before_of pad align k = cond pad 0 (cond (eqb align 1) 0 (cond (eqb align 2) (k / 2) k))

abbrev pub behind_of : Bool → ℕ → ℕ → ℕ
behind_of pad align k = cond pad 0 (k - before_of pad align k)

-- The three counts, as a writer plans them.
pub record Planned (pad : Bool) (align k before zeros behind : ℕ) : Type 0 where
  pub before-is : before ≡ before_of pad align k
  pub zeros-is : zeros ≡ zeros_of pad k
  pub behind-is : behind ≡ behind_of pad align k

-- The whole text: k is what the text with sign and prefix lacks to the width.
unfoldable pub padded : Bool → ℕ → ℕ → ℕ → List ℕ → List ℕ → List ℕ → List ℕ
padded pad fill align width sign prefix digits =
    let k = width - (length sign + (length prefix + length digits)) in
    replicate (before_of pad align k) fill ++ (sign ++ (prefix ++ (replicate (zeros_of pad k) 48 ++ (digits ++ replicate (behind_of pad align k) fill))))
