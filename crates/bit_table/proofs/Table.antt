-- A table of the digits in order gives the alphabet's text, in any base that it has the digits of.
-- Assumes nothing.
use mathlib.Core.Path.{◌≡◌}
use Prim.Native.Nat.{ℕ, ◌≤◌, ◌<◌}
use native.Mathlib.Nat.{lt_of_lt_of_le}
use borrow.Author.Tests.{lt-ltb}
use Rattle.digits.specs.Digits.{digits}
use Rattle.digits.specs.Tables.{tabulate}
use Rattle.digits.specs.Text.{ascii, text}
use Rattle.digits.proofs.Digits.{digits-below}
use Rattle.digits.proofs.Tables.{tabulated}
use Rattle.lanes.proofs.Letters.{map_same}
use Rattle.bit_table.specs.Bits.{lower, table_byte}

module _ (α β : ℕ → ℕ) (b : ℕ) (same : (d : ℕ) → d < b → α d ≡ β d) where
  text_same : 1 < b → (n : ℕ) → text α b n ≡ text β b n
  unfolding text
  text_same big n = map_same α β b same (digits b n) (digits-below b big n)

pub table-text : (k : ℕ) (α : ℕ → ℕ) (b n : ℕ) → 1 < b → b ≤ k → text (table_byte (tabulate k α 0)) b n ≡ text α b n
table-text k α b n big h = text_same (table_byte (tabulate k α 0)) α b (λ d l. tabulated k α d (lt_of_lt_of_le l h)) big n

-- where no digit is a letter, the alphabet is that of decimal
pub plain-text : (b n : ℕ) → 1 < b → b ≤ 10 → text ascii b n ≡ text lower b n
plain-text b n big h = text_same ascii lower b (λ d l. rw (lt-ltb d 10 (lt_of_lt_of_le l h))) big n
