-- The decimal text of a 64-bit number is the library's, and stands whole at the end of twenty bytes. Assumes nothing.
use Rattle.std.proofs.Common.{◌≡◌, refl, ◌∙◌, ℕ, ◌+◌, ◌-◌, ◌*◌, ◌^◌, ◌<◌, List, [], ◌∷◌, map, length, get_or, take, drop, length-drop, sym, ap, arith}
use Rattle.std.specs.Fmt.{decimal}
use Rattle.std.specs.Char.{digit_value}
use Rattle.std.specs.Str.Parse.{AllDigits, digits_value, digits_value_after}
use Rattle.std.proofs.lemmas.Str.{digit_value_digit}
use Rattle.std.proofs.lemmas.Str.Parse.{numerals_by_value, tells_digits}
use Rattle.std.proofs.lemmas.Fmt.{decimal-digits_value}
use lib.Dec.{lit<}
use lib.Seq.{take_all}
use Rattle.digits.specs.Digits.{digits, value_from, value, Below}
use Rattle.digits.specs.Text.{ascii, text}
use Rattle.digits.proofs.Digits.{canonical}
use Rattle.digits.proofs.Text.{text-some}
use Rattle.decimal.specs.Ends.{EndPromise}
use Rattle.decimal.proofs.Ends.{from_start}
use Rattle.decimal.proofs.Room.{room_for_any}

digit_of : (d : ℕ) → d < 10 → digit_value (48 + d) ≡ d
digit_of d h = omega (arith, digit_value_digit (48 + d) (omega arith, omega arith))

all_digits : (ds : List ℕ) → Below 10 ds → AllDigits 10 (map ascii ds)
unfolding Below
all_digits [] b = tt
all_digits (d ∷ ds) b = (omega (arith, digit_of d b.0, b.0), all_digits ds b.1)

same_value : (a : ℕ) (ds : List ℕ) → Below 10 ds → digits_value_after 10 a (map ascii ds) ≡ value_from 10 a ds
unfolding Below value_from
same_value a [] b = refl
same_value a (d ∷ ds) b =
    ap (λ k. digits_value_after 10 (a * 10 + k) (map ascii ds)) (digit_of d b.0) ∙ same_value (a * 10 + d) ds b.1

lead_alone : (ds : List ℕ) → 0 < length ds → (1 < length ds → 0 < get_or ds 0 0) → get_or (map ascii ds) 0 0 ≡ 48 → length (map ascii ds) ≡ 1
lead_alone [] p l e = absurd (omega arith)
lead_alone (d ∷ []) p l e = refl
lead_alone (d ∷ (x ∷ xs)) p l e = absurd (omega (arith, l (omega arith)))

pub library_decimal : (n : ℕ) → n < 2 ^ 64 → decimal n ≡ text ascii 10 n
unfolding text value
library_decimal n h =
    let c = canonical 10 (lit< tt) n in
    let ds = digits 10 n in
    let v : digits_value 10 (map ascii ds) ≡ n = same_value 0 ds c.each ∙ c.stands in
    let own = numerals_by_value (AllDigits 10) tells_digits in
    ap decimal (sym v) ∙ decimal-digits_value own (map ascii ds) (all_digits ds c.each) (text-some ascii 10 (lit< tt) n) (lead_alone ds c.some c.lead) (omega (arith, v))

-- from the start on, twenty bytes are the whole text
pub shown : (l : List ℕ) (n r : ℕ) (l' : List ℕ) → n < 2 ^ 64 → length l ≡ 20 → length l' ≡ 20 → EndPromise (text ascii 10 n) l r l'
    → take (20 - r) (drop r l') ≡ decimal n
shown l n r l' h room same e =
    take_all (20 - r) (drop r l') (omega (arith, length-drop r l', same))
    ∙ from_start e ∙ rw (room_for_any n (length l) h (omega (arith, room))) (sym (library_decimal n h))
