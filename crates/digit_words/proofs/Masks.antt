-- What the test of a word says of each of its bytes. Over how many bytes it has.
-- Assumes nothing.
use Rattle.std.proofs.Common.{◌≡◌, ℕ, zero, suc, ◌+◌, ◌*◌, ◌/◌, ◌%◌, ◌^◌, ◌<◌, ◌≤◌, List, [], ◌∷◌, map, replicate, sym, ap, ◌∙◌, subst, mod-lt, mod-eq_of_lt, div-add-mod', arith, lit<, lit≤}
use lib.Bits.{bit_and, bit_or, and_block, and_high, and_le_l, and_le_r, or_add_and}
use Rattle.digits.specs.Digits.{Below}
use Rattle.lanes.specs.Lanes.{word}
use Rattle.lanes.proofs.Letters.{bytes-more, bytes_most}
use Rattle.words.specs.Bytes.{bytes_of}

pub or-zero : (a b : ℕ) → bit_or a b ≡ 0 → (a ≡ 0) × (b ≡ 0)
or-zero a b e = let s = or_add_and a b in let l = and_le_l a b in let r = and_le_r a b in (omega arith, omega arith)

-- the upper half of each of k bytes
abbrev pub mask : ℕ → ℕ
mask k = word 256 (replicate k 240)

-- a byte has nothing in its upper half
none : (r : ℕ) → r < 256 → bit_and r 240 ≡ 0 → r < 16
none r h e =
    let f : r / 16 % 16 * 16 ≡ 0 = sym (and_high r 4 4) ∙ e in
    let g : r / 16 % 16 ≡ r / 16 = mod-eq_of_lt (omega arith) in
    omega arith

-- where the upper halves are empty, each byte is below 16
pub halved : (k w : ℕ) → bit_and w (mask k) ≡ 0 → Below 16 (bytes_of k w)
unfolding Below bytes_of word
halved zero w e = tt
halved (suc k) w e =
    let l : w % 256 < 256 = mod-lt w (lit< tt) in
    let both : bit_and (w / 256) (mask k) * 256 + bit_and (w % 256) 240 ≡ 0 =
    sym (and_block 8 (w / 256) (mask k) (w % 256) 240 l (lit< tt)) ∙ ap (λ (x : ℕ). bit_and x (mask (suc k))) (div-add-mod' w 256) ∙ e in
    (none (w % 256) l (omega (arith, both)), halved k (w / 256) (omega (arith, both)))

less : (c b : ℕ) (ds : List ℕ) → Below (c + b) (map (λ (d : ℕ). c + d) ds) → Below b ds
unfolding Below
less c b [] h = tt
less c b (d ∷ ds) h = (omega (arith, h.0), less c b ds h.1)

sixes-fit : (w : ℕ) → w ≤ 0x0f0f_0f0f_0f0f_0f0f → w + 0x0606_0606_0606_0606 < 2 ^ 64
sixes-fit w h = omega arith

-- with 6 more the upper halves stay empty below ten alone
pub faultless : (w more : ℕ) → w < 2 ^ 64 → more ≡ (w + 0x0606_0606_0606_0606) % 2 ^ 64 → bit_or (bit_and w (mask 8)) (bit_and more (mask 8)) ≡ 0 → Below 10 (bytes_of 8 w)
unfolding word
faultless w more h e z =
    let o = or-zero (bit_and w (mask 8)) (bit_and more (mask 8)) z in
    let low : Below 16 (bytes_of 8 w) = halved 8 w o.0 in
    let m : more ≡ w + 0x0606_0606_0606_0606 = e ∙ mod-eq_of_lt (sixes-fit w (bytes_most 8 w 15 h low)) in
    less 6 10 (bytes_of 8 w) (subst (Below 16) (ap (bytes_of 8) m ∙ bytes-more 8 w 16 h low 6 (lit≤ tt)) (halved 8 more o.1))
