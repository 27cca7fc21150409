-- The greatest decimal length of a type, once over the bits; and which bits a type has.
-- Assumes nothing.
use mathlib.Core.Bool.{Bool, true, false}
use mathlib.Core.Path.{◌≡◌, refl, sym, ◌∙◌}
use Prim.Native.Nat.{ℕ, suc, ◌-◌, ◌^◌, ◌≤◌}
use native.Mathlib.Omega.{arith}
use borrow.Author.Tests.{eqb-true, ltb-true, lt-ltb}
use lib.Dec.{eqb, lit<}
use lib.IntN.{ℤ, pos, negsuc}
use lib.ListN.{length}
use lib.Pow.{pow_pos}
use Rattle.digits.specs.Text.{ascii, decimal, signed}
use Rattle.digits.proofs.Text.{text-mono}
use Rattle.kinds.specs.Kinds.{known, is_in_type, Greatest, BufSize}

longer : {n m : ℕ} → n ≤ m → length (decimal n) ≤ length (decimal m)
longer h = text-mono ascii 10 (lit< tt) h

-- unsigned: that of the greatest value
pub greatest-unsigned : (b : ℕ) → Greatest false b (length (decimal (2 ^ b - 1)))
unfolding signed
greatest-unsigned b = record {
  never = never;
  longest = pos (2 ^ b - 1);
  is-value = lt-ltb (2 ^ b - 1) (2 ^ b) (omega (arith, pow_pos b));
  reached = refl;
}
  where
    never : (z : ℤ) → is_in_type false b z ≡ true → length (signed z) ≤ length (decimal (2 ^ b - 1))
    never (pos n) t = longer (omega (arith, ltb-true n (2 ^ b) t))
    never (negsuc k) t = absurd (let z : ◌≡◌ {A = ℕ} 0 1 = cc in omega arith)

-- signed: that of the least value, which has the greatest magnitude and a minus
pub greatest-signed : (b : ℕ) → Greatest true b (suc (length (decimal (suc (2 ^ (b - 1) - 1)))))
unfolding signed
greatest-signed b = record {
  never = never;
  longest = negsuc (2 ^ (b - 1) - 1);
  is-value = lt-ltb (2 ^ (b - 1) - 1) (2 ^ (b - 1)) (omega (arith, pow_pos (b - 1)));
  reached = refl;
}
  where
    never : (z : ℤ) → is_in_type true b z ≡ true → length (signed z) ≤ suc (length (decimal (suc (2 ^ (b - 1) - 1))))
    never (pos n) t = omega (arith, longer {n = n} {m = suc (2 ^ (b - 1) - 1)} (omega (arith, ltb-true n (2 ^ (b - 1)) t)))
    never (negsuc k) t = omega (arith, longer {n = suc k} {m = suc (2 ^ (b - 1) - 1)} (omega (arith, ltb-true k (2 ^ (b - 1)) t)))

-- a type has one: each of two is reached, and is not exceeded by the other
one-greatest : {sign : Bool} {b m n : ℕ} → Greatest sign b m → Greatest sign b n → m ≡ n
one-greatest p q = omega (arith, p.never q.longest q.is-value, q.never p.longest p.is-value, p.reached, q.reached)

pub one_answer : {sign : Bool} {b m n : ℕ} → BufSize sign b m → BufSize sign b n → m ≡ n
one_answer {sign} {b} {m} {n} p q = go (known b) refl
  where
    go : (t : Bool) → known b ≡ t → m ≡ n
    go true e = one-greatest (p.of-type e) (q.of-type e)
    go false e = p.of_none e ∙ sym (q.of_none e)

-- the size of a type
pub of-type : {sign : Bool} {b n : ℕ} → known b ≡ true → Greatest sign b n → BufSize sign b n
of-type k g = record { of-type = λ _. g; of_none = λ h. absurd (let z : ◌≡◌ {A = ℕ} 0 1 = cc in omega arith) }

-- a type has 1 to 64 bits
pub known-range : (bits : ℕ) → known bits ≡ true → (1 ≤ bits) × (bits ≤ 64)
known-range bits h = go (eqb bits 8) (eqb bits 16) (eqb bits 32) (eqb bits 64) refl refl refl refl
  where
    go : (a b c d : Bool) → eqb bits 8 ≡ a → eqb bits 16 ≡ b → eqb bits 32 ≡ c → eqb bits 64 ≡ d → (1 ≤ bits) × (bits ≤ 64)
    go true b c d e f g i = (omega (arith, eqb-true bits 8 e), omega (arith, eqb-true bits 8 e))
    go false true c d e f g i = (omega (arith, eqb-true bits 16 f), omega (arith, eqb-true bits 16 f))
    go false false true d e f g i = (omega (arith, eqb-true bits 32 g), omega (arith, eqb-true bits 32 g))
    go false false false true e f g i = (omega (arith, eqb-true bits 64 i), omega (arith, eqb-true bits 64 i))
    go false false false false e f g i = absurd (let t : ◌≡◌ {A = Bool} false true = rw (e, f, g, i) at h in let z : ◌≡◌ {A = ℕ} 0 1 = cc in omega arith)
