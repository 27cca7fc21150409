-- How a program lays the text out: the lead, the point and the digits that it has; zeros behind them; the letter and the exponent.
-- That digits come one or two at a time from the end, and an exponent's one or two digits, are laws of digits: last_text-split, text-small, text-last.
-- Assumes nothing.
use mathlib.Core.List.{List, [], ◌∷◌, ◌++◌, append_assoc, append-nil}
use Rattle.std.specs.Prelude.{Some}
use mathlib.Core.Path.{◌≡◌, ap, ◌∙◌}
use Prim.Native.Nat.{ℕ, ◌+◌, ◌-◌, ◌*◌, ◌/◌, ◌^◌, ◌≤◌}
use native.Mathlib.Nat.{mul-div-mul_right, sub-zero}
use native.Mathlib.Omega.{arith}
use lib.ListN.{replicate}
use lib.Pow.{pow-add}
use Rattle.digits.specs.Digits.{digits, last}
use Rattle.digits.specs.Text.{ascii, text, last_text, decimal}
use Rattle.digits.proofs.Text.{last_text-zeros}
use Rattle.scientific.specs.Sci.{exponent_of, sci}
use Rattle.scientific.specs.Layout.{point, layout, exp_text}
use Rattle.scientific.proofs.Tens as T
use Rattle.scientific.proofs.Fixed.{fixed-long}

-- the digits of m are in hand, f of them behind the point, and z zeros follow
pub layout-zeros : (letter m f z k : ℕ) → layout letter (record { coef = m * 10 ^ z; frac = f + z; expo = k })
    ≡ (ascii (m / 10 ^ f) ∷ point (f + z) ++ last_text ascii 10 f m) ++ (replicate z 48 ++ letter ∷ decimal k)
unfolding layout
layout-zeros letter m f z k =
    rw (pow-add 10 f z, mul-div-mul_right {m = 10 ^ z} m (10 ^ f) (T.pos z), last_text-zeros ascii 10 T.ten f z m) (simp append_assoc)

-- p is at least e: the digits of n and then p - e zeros
pub long-text : (letter n p : ℕ) → exponent_of n ≤ p → exp_text letter (Some p) n
    ≡ (ascii (n / 10 ^ exponent_of n) ∷ point p ++ last_text ascii 10 (exponent_of n) n) ++ (replicate (p - exponent_of n) 48 ++ letter ∷ decimal (exponent_of n))
unfolding exp_text sci
long-text letter n p l =
    let f : exponent_of n + (p - exponent_of n) ≡ p = omega arith in
    ap (layout letter) (fixed-long n p l) ∙ (rw f at (layout-zeros letter n (exponent_of n) (p - exponent_of n) (exponent_of n)))

-- zero has p fraction zeros and exponent 0
pub zero-text : (letter p : ℕ) → exp_text letter (Some p) 0 ≡ 48 ∷ point p ++ (replicate p 48 ++ letter ∷ 48 ∷ [])
unfolding exponent_of text last_text last digits
zero-text letter p =
    long-text letter 0 p (omega arith)
    ∙ ap (λ (k : ℕ). (48 ∷ point p ++ []) ++ (replicate k 48 ++ letter ∷ 48 ∷ [])) (sub-zero p)
    ∙ ap (λ (l : List ℕ). (48 ∷ l) ++ (replicate p 48 ++ letter ∷ 48 ∷ [])) (append-nil (point p))
