-- One more digit of a field: all are digits then, and the number is ten times the one before and the digit. Assumes nothing.
use Rattle.std.proofs.Common.{◌≡◌, ◌∙◌, ℕ, ◌+◌, ◌*◌, ◌<◌, List, [], ◌∷◌, ◌++◌, length, get_or, take, subst, sym, ap}
use Rattle.std.proofs.lemmas.List.{take_more}
use Rattle.std.proofs.lemmas.Int.Digits.{digits_value_more}
use Rattle.std.specs.Char.{digit_value}
use Rattle.std.specs.Str.Parse.{AllDigits, digits_value}

all_digits-last : (ds : List ℕ) (c : ℕ) → AllDigits 10 ds → digit_value c < 10 → AllDigits 10 (ds ++ (c ∷ []))
all_digits-last [] c a h = (h, tt)
all_digits-last (d ∷ ds) c a h = (a.0, all_digits-last ds c a.1 h)

pub next_digit : (field : List ℕ) (i n m : ℕ) → i < length field
    → AllDigits 10 (take i field) × (digits_value 10 (take i field) ≡ n)
    → (digit_value (get_or field i 0) < 10) × (m ≡ n * 10 + digit_value (get_or field i 0))
    → AllDigits 10 (take (i + 1) field) × (digits_value 10 (take (i + 1) field) ≡ m)
next_digit field i n m l so more = (
  subst (AllDigits 10) (sym (take_more field i 0 l)) (all_digits-last (take i field) (get_or field i 0) so.0 more.0),
  digits_value_more 10 field i l ∙ ap (λ k. k * 10 + digit_value (get_or field i 0)) so.1 ∙ sym more.1,
)
