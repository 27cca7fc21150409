-- Where a byte stands first in a text, by a look at each place from the front. Assumes nothing.
use Rattle.std.proofs.Common.{◌≡◌, ℕ, ◌<◌, List, length, get_or, Some, None, true, false, eqb, arith}
use Rattle.std.proofs.lemmas.Grind.{common_steps}
use Rattle.std.proofs.lemmas.List.Sums.{position_or_len_is}
use Rattle.std.specs.List.{position, position_or_len}

pub found : (byte : ℕ) (text : List ℕ) (i : ℕ) → i < length text → ((k : ℕ) → k < i → eqb (get_or text k 0) byte ≡ false)
    → eqb (get_or text i 0) byte ≡ true → position (λ each. eqb each byte) text ≡ Some i
found byte text i l before here =
    let e : position_or_len (λ each. eqb each byte) text ≡ i = position_or_len_is (λ each. eqb each byte) text i 0 (omega arith) before (λ h. here) in
    grind (arith, common_steps)

pub nowhere : (byte : ℕ) (text : List ℕ) → ((k : ℕ) → k < length text → eqb (get_or text k 0) byte ≡ false)
    → position (λ each. eqb each byte) text ≡ None
nowhere byte text before =
    let e : position_or_len (λ each. eqb each byte) text ≡ length text = position_or_len_is (λ each. eqb each byte) text (length text) 0 (omega arith) before (λ h. absurd (omega arith)) in
    grind (arith, common_steps)
