-- What a text of digits stands for, from its words: the first digits of a word, two texts joined, and the three ways in which words overlap.
-- Assumes nothing.
use Rattle.std.proofs.Common.{◌≡◌, ℕ, zero, suc, ◌+◌, ◌-◌, ◌*◌, ◌/◌, ◌%◌, ◌^◌, ◌<◌, ◌≤◌, List, [], ◌∷◌, ◌++◌, map, length, get_or, take, drop, replicate, sym, refl, ap, ◌∙◌, subst, ap₂, append_assoc, mod-lt, mod-eq_of_lt, div-add-mod', arith, lit<, length-drop, take-append-drop, length-take-le, take_all, get_or-take, take-take, drop-drop, drop_at}
use mathlib.Core.List.{map-append}
use lib.ListN.{get_or-append, length-map}
use lib.Seq.{take-append-le}
use Rattle.digits.specs.Digits.{value, value_from, Below, Canonical}
use Rattle.digits.specs.Text.{ascii, text, decimal}
use Rattle.digits.proofs.Digits.{Below-append, value_from-append, unique}
use Rattle.digits.proofs.Last.{value_from-is}
use Rattle.digits.proofs.Text.{map-drop}
use Rattle.words.specs.Bytes.{bytes_of}
use Rattle.words.proofs.Bytes.{bytes-cons, bytes-join}
use Rattle.digit_words.proofs.Shifts.{Below-take, value-zeros, low, around-below}

-- l is a text of digits, and v the number that they stand for
record Number (l : List ℕ) (v : ℕ) : Type 0 where
  digits : List ℕ
  each : Below 10 digits
  text : l ≡ map ascii digits
  is : v ≡ value 10 digits

-- with no zero in front it is the text of the number
whole : {l : List ℕ} {v : ℕ} → Number l v → 0 < length l → (1 < length l → get_or l 0 0 ≡ 48 → ⊥) → l ≡ decimal v
unfolding text
whole {l} {v} N some f = N.text ∙ ap (map ascii) (unique 10 (lit< tt) v N.digits K)
  where
    size : length l ≡ length N.digits
    size = ap length N.text ∙ length-map N.digits ascii

    first : (ds : List ℕ) → 0 < length ds → get_or (map ascii ds) 0 0 ≡ 48 + get_or ds 0 0
    first [] h = absurd (omega arith)
    first (d ∷ ds) h = refl

    lead : 1 < length N.digits → 0 < get_or N.digits 0 0
    lead h =
        let e : get_or l 0 0 ≡ 48 + get_or N.digits 0 0 = ap (λ (k : List ℕ). get_or k 0 0) N.text ∙ first N.digits (omega arith) in
        let g : (get_or N.digits 0 0 ≡ 0 → ⊥) = λ z. f (omega (arith, size)) (e ∙ ap (λ (d : ℕ). 48 + d) z) in
        omega arith

    K : Canonical 10 v N.digits
    K = record { stands = sym N.is; each = N.each; some = omega (arith, size); lead = lead }

map-take : (f : ℕ → ℕ) (j : ℕ) (l : List ℕ) → map f (take j l) ≡ take j (map f l)
map-take f zero l = refl
map-take f (suc j) [] = refl
map-take f (suc j) (x ∷ l) = ap (λ (m : List ℕ). f x ∷ m) (map-take f j l)

-- the bytes of w are digits, and those of u their text
pub record Figures (u w : ℕ) : Type 0 where
  pub each : Below 10 (bytes_of 8 w)
  pub text : bytes_of 8 u ≡ map ascii (bytes_of 8 w)

pub faultless : {u w : ℕ} → Below 10 (bytes_of 8 w) → (Below 10 (bytes_of 8 w) → bytes_of 8 u ≡ map ascii (bytes_of 8 w)) → Figures u w
faultless d f = record { each = d; text = f d }

-- a text behind a text
joined : {l m : List ℕ} {a b : ℕ} → Number l a → Number m b → (k : ℕ) → length m ≡ k → Number (l ++ m) (a * 10 ^ k + b)
unfolding value
joined {l} {m} {a} {b} L M k e = record {
  digits = L.digits ++ M.digits;
  each = Below-append 10 L.digits M.digits L.each M.each;
  text = ap₂ (λ (x y : List ℕ). x ++ y) L.text M.text ∙ sym (map-append ascii L.digits M.digits);
  is =
      let n : length M.digits ≡ k = sym (length-map M.digits ascii) ∙ ap length (sym M.text) ∙ e in
      sym
      (value_from-append 10 (lit< tt) 0 L.digits M.digits ∙ value_from-is 10 (lit< tt) (value 10 L.digits) M.digits
      ∙ ap₂ (λ (x y : ℕ). x + y) (ap₂ (λ (x y : ℕ). x * 10 ^ y) (sym L.is) n) (sym M.is));
}

-- the first byte of a word of figures
first_byte : {u w : ℕ} → Figures u w → get_or (bytes_of 8 u) 0 0 ≡ 48 + w % 256
unfolding bytes_of
first_byte F = ap (λ (l : List ℕ). get_or l 0 0) F.text

no_zero : {u w : ℕ} (l : List ℕ) → Figures u w → bytes_of 8 u ≡ take 8 (drop 0 l) → (w % 256 ≡ 0 → ⊥) → get_or l 0 0 ≡ 48 → ⊥
no_zero l F e f z = let h = sym (get_or-take 8 l 0 0 (lit< tt)) ∙ ap (λ (k : List ℕ). get_or k 0 0) (sym e) ∙ first_byte F in f (omega arith)

-- ---- from one word

module _ {u w v : ℕ} {l : List ℕ} (F : Figures u w) (e : bytes_of 8 u ≡ l) where
  first_of : (j : ℕ) → v ≡ value 10 (take j (bytes_of 8 w)) → Number (take j l) v
  first_of j h = record {
    digits = take j (bytes_of 8 w);
    each = Below-take 10 j (bytes_of 8 w) F.each;
    text = ap (take j) (sym e ∙ F.text) ∙ sym (map-take ascii j (bytes_of 8 w));
    is = h;
  }

  all_of : v ≡ value 10 (bytes_of 8 w) → Number l v
  all_of h = record { digits = bytes_of 8 w; each = F.each; text = sym e ∙ F.text; is = h }

-- ---- 1 to 3 digits

two_bytes : (a b : ℕ) → a < 10 → b < 10 → bytes_of 2 (a + b * 256) ≡ a ∷ b ∷ []
unfolding bytes_of
two_bytes a b ha hb =
    let e : a + b * 256 ≡ (0 * 256 + b) * 256 + a = omega arith in
    ap (bytes_of 2) e ∙ bytes-cons 1 (0 * 256 + b) a (omega arith) ∙ ap (λ (l : List ℕ). a ∷ l) (bytes-cons 0 0 b (omega arith))

read-two : (w c : ℕ) → w < 65536 → w % 256 * 100 + w / 256 * 10 + c ≡ value 10 (bytes_of 2 w ++ (c ∷ []))
unfolding bytes_of value value_from
read-two w c h = let m : w / 256 % 256 ≡ w / 256 = mod-eq_of_lt (omega (arith, div-add-mod' w 256)) in rw m (omega arith)

pub three-is : (a b c k : ℕ) → a < 10 → b < 10 → k ≤ 2
    → (a + b * 256) * 2 ^ (k * 8) % 2 ^ 64 % 65536 % 256 * 100 + (a + b * 256) * 2 ^ (k * 8) % 2 ^ 64 % 65536 / 256 * 10 + c ≡ value 10 (take (2 - k) (a ∷ b ∷ []) ++ (c ∷ []))
three-is a b c k ha hb hk =
    let x = (a + b * 256) * 2 ^ (k * 8) % 2 ^ 64 in
    let e : bytes_of 2 (x % 65536) ≡ replicate k 0 ++ take (2 - k) (a ∷ b ∷ []) = low 2 6 k (a + b * 256) hk ∙ ap (λ (l : List ℕ). replicate k 0 ++ take (2 - k) l) (two_bytes a b ha hb) in
    read-two (x % 65536) c (mod-lt x (lit< tt)) ∙ ap (λ (l : List ℕ). value 10 (l ++ (c ∷ []))) e
    ∙ ap (value 10) (append_assoc (replicate k 0) (take (2 - k) (a ∷ b ∷ [])) (c ∷ [])) ∙ value-zeros k (take (2 - k) (a ∷ b ∷ []) ++ (c ∷ []))

three-text : (l : List ℕ) (a b c : ℕ) → 0 < length l → length l < 4 → get_or l 0 0 ≡ 48 + a → get_or l (length l / 2) 0 ≡ 48 + b → get_or l (length l - 1) 0 ≡ 48 + c
    → l ≡ map ascii (take (2 - (3 - length l)) (a ∷ b ∷ []) ++ (c ∷ []))
three-text [] a b c some few ea eb ec = absurd (omega arith)
three-text (x ∷ []) a b c some few ea eb ec = ap (λ (z : ℕ). z ∷ []) ec
three-text (x ∷ y ∷ []) a b c some few ea eb ec = ap₂ (λ (p z : ℕ). p ∷ z ∷ []) ea ec
three-text (x ∷ y ∷ z ∷ []) a b c some few ea eb ec = rw (ea, eb, ec)
three-text (x ∷ y ∷ z ∷ t ∷ l) a b c some few ea eb ec = absurd (omega arith)

pub three-number : (l : List ℕ) (a b c v : ℕ) → 0 < length l → length l < 4 → (a < 10 → get_or l 0 0 ≡ 48 + a) → (b < 10 → get_or l (length l / 2) 0 ≡ 48 + b) → (c < 10 → get_or l (length l - 1) 0 ≡ 48 + c)
    → a < 10 → b < 10 → c < 10 → v ≡ value 10 (take (2 - (3 - length l)) (a ∷ b ∷ []) ++ (c ∷ [])) → (a ≡ 0 → length l ≤ 1) → l ≡ decimal v
unfolding Below
three-number l a b c v some few ea eb ec ha hb hc h f = whole (record {
  digits = take (2 - (3 - length l)) (a ∷ b ∷ []) ++ (c ∷ []);
  each = Below-append 10 (take (2 - (3 - length l)) (a ∷ b ∷ [])) (c ∷ []) (Below-take 10 (2 - (3 - length l)) (a ∷ b ∷ []) (ha, (hb, tt))) (hc, tt);
  text = three-text l a b c some few (ea ha) (eb hb) (ec hc);
  is = h;
}) some (λ m z. let g : a ≡ 0 = omega (arith, ea ha) in let k = f g in omega arith)

-- ---- 4 to 7 digits

-- what is taken of two overlapping parts is the whole
around-text : (l : List ℕ) (j : ℕ) → j + 4 ≡ length l → j ≤ 4 → l ≡ take j (take 4 l ++ take 4 (drop j l)) ++ drop 4 (take 4 l ++ take 4 (drop j l))
around-text l j e h =
    let four : length (take 4 l) ≡ 4 = length-take-le 4 l (omega arith) in
    let f : take j (take 4 l ++ take 4 (drop j l)) ≡ take j l = take-append-le j (take 4 l) (take 4 (drop j l)) (omega arith) ∙ take-take j 4 l h in
    let g : drop 4 (take 4 l ++ take 4 (drop j l)) ≡ drop j l = drop_at (take 4 l) (take 4 (drop j l)) 4 four ∙ take_all 4 (drop j l) (omega (arith, length-drop j l)) in
    sym (ap₂ (λ (x y : List ℕ). x ++ y) f g ∙ take-append-drop j l)

pub seven-number : (l : List ℕ) (lo hi w v : ℕ) → 4 ≤ length l → length l < 8 → bytes_of 4 lo ≡ take 4 (drop 0 l) → lo < 2 ^ 32 → bytes_of 4 hi ≡ take 4 (drop (length l - 4) l)
    → Figures (lo + hi * 4294967296) w → v ≡ value 10 (take (4 - (8 - length l)) (bytes_of 8 w) ++ drop 4 (bytes_of 8 w)) → (w % 256 ≡ 0 → ⊥) → l ≡ decimal v
seven-number l lo hi w v some few el hl eh F h f = whole (record {
  digits = take (4 - (8 - length l)) (bytes_of 8 w) ++ drop 4 (bytes_of 8 w);
  each = around-below w (8 - length l) F.each;
  text = text;
  is = h;
}) (omega arith) (λ m z. f (omega (arith, first, z)))
  where
    left : 4 - (8 - length l) ≡ length l - 4
    left = omega arith

    both : bytes_of 8 (lo + hi * 4294967296) ≡ take 4 l ++ take 4 (drop (length l - 4) l)
    both =
        let e : lo + hi * 4294967296 ≡ hi * 4294967296 + lo = omega arith in
        ap (bytes_of 8) e ∙ bytes-join 4 4 hi hl ∙ ap₂ (λ (x y : List ℕ). x ++ y) el eh

    first : get_or l 0 0 ≡ 48 + w % 256
    first =
        sym (get_or-take 4 l 0 0 (lit< tt)) ∙ sym (get_or-append (take 4 l) (take 4 (drop (length l - 4) l)) 0 0 (omega (arith, length-take-le 4 l some))) ∙ ap (λ (k : List ℕ). get_or k 0 0) (sym both) ∙ first_byte F

    digits-text : map ascii (take (length l - 4) (bytes_of 8 w) ++ drop 4 (bytes_of 8 w)) ≡ take (length l - 4) (map ascii (bytes_of 8 w)) ++ drop 4 (map ascii (bytes_of 8 w))
    digits-text = map-append ascii (take (length l - 4) (bytes_of 8 w)) (drop 4 (bytes_of 8 w)) ∙ ap₂ (λ (x y : List ℕ). x ++ y) (map-take ascii (length l - 4) (bytes_of 8 w)) (map-drop ascii 4 (bytes_of 8 w))

    text : l ≡ map ascii (take (4 - (8 - length l)) (bytes_of 8 w) ++ drop 4 (bytes_of 8 w))
    text =
        around-text l (length l - 4) (omega arith) (omega arith) ∙ ap (λ (x : List ℕ). take (length l - 4) x ++ drop 4 x) (sym both ∙ F.text) ∙ sym digits-text
        ∙ ap (λ (i : ℕ). map ascii (take i (bytes_of 8 w) ++ drop 4 (bytes_of 8 w))) (sym left)

-- ---- from 8 digits on

-- the last eight bytes
last-eight : (l : List ℕ) (j : ℕ) → j + 8 ≡ length l → take 8 (drop j l) ≡ drop j l
last-eight l j e = take_all 8 (drop j l) (omega (arith, length-drop j l))

pub eight-number : (l : List ℕ) (u w v : ℕ) → length l ≡ 8 → bytes_of 8 u ≡ take 8 (drop 0 l) → Figures u w → v ≡ value 10 (bytes_of 8 w) → (w % 256 ≡ 0 → ⊥) → l ≡ decimal v
eight-number l u w v e eu F h f = whole (all_of F (eu ∙ take_all 8 l (omega arith)) h) (omega arith) (λ m. no_zero l F eu f)

-- the last eight, of any longer text
ending : (l : List ℕ) (u w v : ℕ) → 8 ≤ length l → bytes_of 8 u ≡ take 8 (drop (length l - 8) l) → Figures u w → v ≡ value 10 (bytes_of 8 w) → Number (drop (length l - 8) l) v
ending l u w v h eu F e = all_of F (eu ∙ last-eight l (length l - 8) (omega arith)) e

-- the first, up to the place j
beginning : (l : List ℕ) (j i u w v : ℕ) → j ≡ i → j ≤ 8 → bytes_of 8 u ≡ take 8 (drop 0 l) → Figures u w → v ≡ value 10 (take i (bytes_of 8 w)) → Number (take j l) v
beginning l j i u w v e h eu F ev = subst (λ (m : List ℕ). Number m v) (take-take j 8 l h) (first_of F eu j (ev ∙ ap (λ (k : ℕ). value 10 (take k (bytes_of 8 w))) (sym e)))

pub sixteen-number : (l : List ℕ) (u w t x v z : ℕ) → 8 < length l → length l ≤ 16 → bytes_of 8 u ≡ take 8 (drop (length l - 8) l) → Figures u w → v ≡ value 10 (bytes_of 8 w)
    → bytes_of 8 t ≡ take 8 (drop 0 l) → Figures t x → z ≡ value 10 (take (8 - (16 - length l)) (bytes_of 8 x)) → (x % 256 ≡ 0 → ⊥) → l ≡ decimal (z * 100000000 + v)
sixteen-number l u w t x v z some few eu F ev et G ez f =
    whole (subst (λ (m : List ℕ). Number m (z * 100000000 + v)) (take-append-drop (length l - 8) l)
    (joined (beginning l (length l - 8) (8 - (16 - length l)) t x z (omega arith) (omega arith) et G ez) (ending l u w v (omega arith) eu F ev) 8 (length-drop (length l - 8) l ∙ omega arith))) (omega arith) (λ k. no_zero l G et f)

pub twenty-number : (l : List ℕ) (u w s m t x v y z : ℕ) → 16 < length l → length l ≤ 20 → bytes_of 8 u ≡ take 8 (drop (length l - 8) l) → Figures u w → v ≡ value 10 (bytes_of 8 w)
    → bytes_of 8 s ≡ take 8 (drop (length l - 16) l) → Figures s m → y ≡ value 10 (bytes_of 8 m) → bytes_of 8 t ≡ take 8 (drop 0 l) → Figures t x → z ≡ value 10 (take (8 - (24 - length l)) (bytes_of 8 x))
    → (x % 256 ≡ 0 → ⊥) → l ≡ decimal (z * 10000000000000000 + (y * 100000000 + v))
twenty-number l u w s m t x v y z some few eu F ev es G ey et H ez f =
    whole (subst (λ (m : List ℕ). Number m (z * 10000000000000000 + (y * 100000000 + v))) (take-append-drop (length l - 16) l)
    (joined (beginning l (length l - 16) (8 - (24 - length l)) t x z (omega arith) (omega arith) et H ez) low-sixteen 16 (length-drop (length l - 16) l ∙ omega arith))) (omega arith) (λ k. no_zero l H et f)
  where
    next : drop 8 (drop (length l - 16) l) ≡ drop (length l - 8) l
    next = let e : length l - 16 + 8 ≡ length l - 8 = omega arith in drop-drop 8 (length l - 16) l ∙ ap (λ (i : ℕ). drop i l) e

    behind : take 8 (drop (length l - 16) l) ++ drop (length l - 8) l ≡ drop (length l - 16) l
    behind = ap (λ (k : List ℕ). take 8 (drop (length l - 16) l) ++ k) (sym next) ∙ take-append-drop 8 (drop (length l - 16) l)

    low-sixteen : Number (drop (length l - 16) l) (y * 100000000 + v)
    low-sixteen = subst (λ (k : List ℕ). Number k (y * 100000000 + v)) behind (joined (all_of G es ey) (ending l u w v (omega arith) eu F ev) 8 (length-drop (length l - 8) l ∙ omega arith))
