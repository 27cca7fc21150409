-- The arithmetic of the exponent form (document 01, "Exponent"; `impl_Exp` of fmt/num.rs): from a magnitude and a precision
-- to a coefficient, its fraction digits and an exponent. Over all naturals.
use Rattle.std.specs.Prelude.{Option, None, Some, true, false, ℕ, zero, suc, ◌+◌, ◌-◌, ◌*◌, ◌/◌, ◌%◌, ◌^◌, leb, ltb, eqb, length}
use Rattle.digits.specs.Digits.{digits}

-- The digits, the point left out, as one number M; how many of them, f, stand behind the point; an exponent k. That is M times 10^k over 10^f.
pub record Sci : Type 0 where
  pub coef : ℕ
  pub frac : ℕ
  pub expo : ℕ

-- n has e + 1 digits: this is e.
unfoldable pub exponent_of : ℕ → ℕ
exponent_of n = length (digits 10 n) - 1

-- Without precision: all digits of n, one in front of the point and e behind it, less the zeros that end the fraction.
unfoldable pub trimmed : ℕ → ℕ → ℕ → Sci
trimmed e zero m = record { coef = m; frac = 0; expo = e }
trimmed e (suc f) m =
    elim (eqb (m % 10) 0) [
      | true ↦ trimmed e f (m / 10)
      | false ↦ record { coef = m; frac = suc f; expo = e }
    ]

unfoldable pub short : ℕ → Sci
short n = trimmed (exponent_of n) (exponent_of n) n

-- What is added to the quotient q, where the rest is r and half of the scale is h: 1 if r is above h, or equal to it with q odd.
unfoldable pub up : ℕ → ℕ → ℕ → ℕ
up h r q = elim (ltb h r) [ true ↦ 1 | false ↦ elim (eqb r h) [ true ↦ q % 2 | false ↦ 0 ] ]

-- The quotient of n by scale, rounded so.
unfoldable pub rounded : ℕ → ℕ → ℕ
rounded scale n = n / scale + up (scale / 2) (n % scale) (n / scale)

-- If q is then 10^(p+1): 10^p and exponent e + 1, else q and e.
unfoldable pub carried : ℕ → ℕ → ℕ → Sci
carried p e q =
    elim (eqb q (10 ^ suc p)) [
      | true ↦ record { coef = 10 ^ p; frac = p; expo = suc e }
      | false ↦ record { coef = q; frac = p; expo = e }
    ]

-- With precision p, for n of e + 1 digits: if p is at least e, the digits of n and then p - e zeros; otherwise rounded, with scale 10^(e-p).
unfoldable pub fixed_at : ℕ → ℕ → ℕ → Sci
fixed_at p e n =
    elim (leb e p) [
      | true ↦ record { coef = n * 10 ^ (p - e); frac = p; expo = e }
      | false ↦ carried p e (rounded (10 ^ (e - p)) n)
    ]

unfoldable pub fixed : ℕ → ℕ → Sci
fixed p n = fixed_at p (exponent_of n) n

unfoldable pub sci : Option ℕ → ℕ → Sci
sci None n = short n
sci (Some p) n = fixed p n
