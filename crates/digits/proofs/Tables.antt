-- A table that holds a rule's value at each place: antt computes the rule at each entry and compares, once. Then the rule of each pair.
-- Assumes nothing.
use mathlib.Core.Path.{◌≡◌, ◌∙◌}
use mathlib.Core.List.{[], ◌∷◌}
use Prim.Native.Nat.{ℕ, zero, suc, ◌+◌, ◌*◌, ◌/◌, ◌%◌, ◌<◌}
use native.Mathlib.Nat.{add-zero, zero-add, add-suc, suc-add, le_of_suc-le-suc, not-suc-le-zero, div-one, pow-zero}
use native.Mathlib.Omega.{arith}
use borrow.Author.Tests.{eq-eqb, ne_eqb}
use lib.ListN.{get_or}
use Rattle.digits.specs.Digits.{last}
use Rattle.digits.specs.Text.{ascii, last_text}
use Rattle.digits.specs.Tables.{tabulate, pair_byte, pair_table}

from : (n : ℕ) (f : ℕ → ℕ) (i k : ℕ) → k < n → get_or (tabulate n f i) k 0 ≡ f (i + k)
from zero f i k h = absurd (not-suc-le-zero h)
from (suc n) f i zero h = rw add-zero
from (suc n) f i (suc k) h = from n f (suc i) k (le_of_suc-le-suc h) ∙ rw (suc-add, add-suc)

pub tabulated : (n : ℕ) (f : ℕ → ℕ) (k : ℕ) → k < n → get_or (tabulate n f 0) k 0 ≡ f k
tabulated n f k h = from n f 0 k h ∙ rw zero-add

-- byte 2k of the table is the tens digit of k, byte 2k + 1 the units digit
pub table-tens : (k : ℕ) → k < 100 → get_or pair_table (k * 2) 0 ≡ 48 + k / 10
unfolding pair_table
table-tens k h = tabulated 200 pair_byte (k * 2) (omega arith) ∙ rw (eq-eqb (k * 2 % 2) 0 (omega arith)) (omega arith)

pub table-units : (k : ℕ) → k < 100 → get_or pair_table (k * 2 + 1) 0 ≡ 48 + k % 10
unfolding pair_table
table-units k h = tabulated 200 pair_byte (k * 2 + 1) (omega arith) ∙ rw (ne_eqb ((k * 2 + 1) % 2) 0 (λ e. omega arith)) (omega arith)

-- the two bytes of the pair k are the text of the last two digits of k
pub pair-text : (k : ℕ) → k < 100 → last_text ascii 10 2 k ≡ get_or pair_table (k * 2) 0 ∷ get_or pair_table (k * 2 + 1) 0 ∷ []
unfolding last_text last
pair-text k h = rw (table-tens k h, table-units k h, pow-zero, div-one) (let e : k / 10 % 10 ≡ k / 10 = omega arith in rw e)
