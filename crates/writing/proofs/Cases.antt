-- Which way each test of the definitions went, and the one answer by the form.
-- Assumes nothing.
use mathlib.Core.Bool.{Bool, true, false, cond}
use mathlib.Core.List.{List, ◌++◌, append-nil}
use Rattle.std.specs.Prelude.{Option, None, Ok, Err}
use mathlib.Core.Path.{◌≡◌, refl, sym, ap, ap₂, ◌∙◌}
use Prim.Native.Nat.{ℕ, ◌+◌, ◌-◌, ◌≤◌, ◌<◌}
use native.Mathlib.Omega.{arith}
use lib.Dec.{leb}
use borrow.Author.Tests.{ne_eqb, leb-true, le-leb, lt-leb}
use lib.IntN.{ℤ, nat_abs}
use lib.ListN.{length}
use Rattle.buffer.specs.AtEnd.{ended, begun}
use Rattle.buffer.proofs.AtEnd.{ended-whole}
use Rattle.kinds.specs.Kinds.{known, is_in_type, meaning, negative, pattern, split_of}
use Rattle.kinds.specs.declared.Split.{Split}
pub use Rattle.kinds.proofs.Sizes.{known-range}
use Rattle.padding.specs.Padding.{sign_of, prefix_of}
use Rattle.padding.proofs.Padding.{plan-none, padded-is}
use Rattle.scientific.specs.Layout.{exp_text}
use Rattle.scientific.specs.Sci.{sci}
use Rattle.writing.specs.Promise.{Written, house, Unframed, known_options, settled, fitted, after, kept_answer, exponent_answer, answer_of, answer, Writes, Places}
use Rattle.writing.specs.Text.{exponent_letter, framed, unframed, numeral, text_of}
use Rattle.writing.specs.declared.Options.{Options}
use Rattle.writing.specs.declared.Refusal.TheVariants as refusal

-- ---- digits with nothing around them but a minus

module _ (o : Options) (negative : Bool) (format : ℕ) (digits : List ℕ) where
  pub unframes : {p : Option ℕ} → Unframed o p → framed o negative format digits ≡ unframed negative digits
  unframes U =
      let w = U.width in
      let k : o.width - (length (sign_of negative o.plus) + (length (prefix_of o.alternate format) + length digits)) ≡ 0 = omega arith in
      padded-is o.zero o.fill o.align o.width (sign_of negative o.plus) (prefix_of o.alternate format) digits (plan-none o.zero o.align _ k)
      ∙ rw (U.plus, U.alternate) (ap₂ (λ (x y : List ℕ). x ++ y) (append-nil (sign_of negative false)) (append-nil digits))

-- ---- room

module _ (t l : List ℕ) (need : ℕ) (e : need ≡ length t) where
  pub lacks-room : length l < need → Places t l need l
  lacks-room h = record { long = e; leaves = rw (lt-leb (length t) (length l) (omega arith)) refl }

  pub has_room : (l' : List ℕ) → need ≤ length l → l' ≡ ended l need t → Places t l need l'
  has_room l' h g = record { long = e; leaves = rw (le-leb (length t) (length l) (omega arith)) (g ∙ rw e (ended-whole l t)) }

-- the answer for it
pub settles : {t l : List ℕ} {need : ℕ} {l' : List ℕ} {r : Written} → Places t l need l' → r ≡ settled need (length l) → Writes t (fitted t (length l)) l r l'
settles {t = t} {l = l} P e = record { answers = e ∙ ap (λ (n : ℕ). settled n (length l)) P.long; leaves = P.leaves ∙ go (leb (length t) (length l)) refl }
  where
    go : (b : Bool) → leb (length t) (length l) ≡ b → cond (leb (length t) (length l)) (begun l t) l ≡ after (fitted t (length l)) t l
    go true h = rw h refl
    go false h = rw h refl

module _ {t l : List ℕ} {need : ℕ} {l' : List ℕ} (P : Places t l need l') where
  pub settles-room : length l < need → Writes t (fitted t (length l)) l (Err (refusal.NoRoom need)) l'
  settles-room h = settles P (rw (lt-leb need (length l) h) refl)

  pub settles-done : need ≤ length l → Writes t (fitted t (length l)) l (Ok need) l'
  settles-done h = settles P (rw (le-leb need (length l) h) refl)

-- ---- the whole text and the one answer, by the form

module _ (bits : ℕ) (z : ℤ) (format : ℕ) (o : Options) (room : ℕ) where
  pub options-refused : known_options format o ≡ false → answer_of bits z format o room ≡ Err refusal.Options
  unfolding answer_of
  options-refused h = rw h

  pub decimal-text : format ≡ 0 → text_of bits z format o ≡ framed o (negative z) format (numeral format (nat_abs z))
  unfolding text_of
  decimal-text e = rw e

  pub radix-text : (format ≡ 0 → ⊥) → format ≤ 4 → text_of bits z format o ≡ framed o false format (numeral format (pattern bits z))
  unfolding text_of
  radix-text h l = rw (ne_eqb format 0 h, le-leb format 4 l)

  pub exponent-text : 4 < format → text_of bits z format o ≡ framed o (negative z) format (exp_text (exponent_letter format) o.precision (nat_abs z))
  unfolding text_of
  exponent-text l = rw (ne_eqb format 0 (λ e. omega arith), lt-leb format 4 l)

  module _ (k : known_options format o ≡ true) where
    -- a form that needs no more than a number is never refused for its exponent
    pub plain-answer : format ≤ 4 → answer_of bits z format o room ≡ fitted (text_of bits z format o) room
    unfolding answer_of
    plain-answer l = rw (k, le-leb format 4 l)

    pub exponent-answer : 4 < format → answer_of bits z format o room ≡ exponent_answer o (negative z) format (nat_abs z) room
    unfolding answer_of
    exponent-answer l = rw (k, lt-leb format 4 l, exponent-text l)

    pub plain-writes : (l : List ℕ) (r : Written) (l' : List ℕ) → length l ≡ room → format ≤ 4 → Writes (text_of bits z format o) (fitted (text_of bits z format o) (length l)) l r l'
        → Writes (text_of bits z format o) (answer_of bits z format o room) l r l'
    plain-writes l r l' i h W = rw (plain-answer h, ← i) W

  -- from what the layers below were given, to the value
  module _ (s : Split) (e : s ≡ split_of z) where
    sign : s.negative ≡ negative z
    sign = ap (λ (x : Split). x.negative) e

    size : s.magnitude ≡ nat_abs z
    size = ap (λ (x : Split). x.magnitude) e

    pub decimal-shown : format ≡ 0 → text_of bits z format o ≡ framed o s.negative format (numeral format s.magnitude)
    decimal-shown f = rw (sign, size) (decimal-text f)

    pub exponent-writes : known_options format o ≡ true → (l : List ℕ) (r : Written) (l' : List ℕ) → length l ≡ room → 4 < format
        → Writes (framed o s.negative format (exp_text (exponent_letter format) o.precision s.magnitude)) (exponent_answer o s.negative format s.magnitude (length l)) l r l'
        → Writes (text_of bits z format o) (answer_of bits z format o room) l r l'
    exponent-writes k l r l' i f W = rw (exponent-answer k f, exponent-text f, ← i, ← sign, ← size) W

  pub radix-shown : (m : ℕ) → m ≡ pattern bits z → (format ≡ 0 → ⊥) → format ≤ 4 → text_of bits z format o ≡ framed o false format (numeral format m)
  radix-shown m e f h = rw e (radix-text f h)

-- the fill is one byte
pub fill_known : (format : ℕ) (o : Options) → known_options format o ≡ true → o.fill ≤ 126
fill_known format o h = go (leb format 6) (leb o.align 3) (leb 32 o.fill) (leb o.fill 126) refl refl refl refl
  where
    go : (a b c d : Bool) → leb format 6 ≡ a → leb o.align 3 ≡ b → leb 32 o.fill ≡ c → leb o.fill 126 ≡ d → o.fill ≤ 126
    go a b c true e f g i = leb-true o.fill 126 i
    go true true true false e f g i = absurd (let t : ◌≡◌ {A = Bool} false true = rw (e, f, g, i) at h in let z : ◌≡◌ {A = ℕ} 0 1 = cc in omega arith)
    go true true false false e f g i = absurd (let t : ◌≡◌ {A = Bool} false true = rw (e, f, g) at h in let z : ◌≡◌ {A = ℕ} 0 1 = cc in omega arith)
    go true false c false e f g i = absurd (let t : ◌≡◌ {A = Bool} false true = rw (e, f) at h in let z : ◌≡◌ {A = ℕ} 0 1 = cc in omega arith)
    go false b c false e f g i = absurd (let t : ◌≡◌ {A = Bool} false true = rw e at h in let z : ◌≡◌ {A = ℕ} 0 1 = cc in omega arith)

pub house-unframed : Unframed house None
house-unframed = record { width = refl; plus = refl; alternate = refl; precision = refl }

pub house-known : (format : ℕ) → format ≤ 6 → known_options format house ≡ true
house-known format h = simp (le-leb format 6 h)

pub house-unknown : (format : ℕ) → 6 < format → known_options format house ≡ false
house-unknown format h = rw (lt-leb format 6 h)

-- ---- the answer to an exponent form

module _ (p : Option ℕ) (n : ℕ) (t l : List ℕ) where
  pub exponent-refused : 99 < (sci p n).expo → Writes t (kept_answer p n t (length l)) l (Err refusal.Exponent) l
  exponent-refused h = rw (lt-leb (sci p n).expo 99 h) (record { answers = refl; leaves = refl })

  pub exponent-kept : (r : Written) (l' : List ℕ) → (sci p n).expo ≤ 99 → Writes t (fitted t (length l)) l r l' → Writes t (kept_answer p n t (length l)) l r l'
  exponent-kept r l' h W = rw (le-leb (sci p n).expo 99 h) W

-- ---- a type and a value that are judged first

module _ (signed : Bool) (bits p format : ℕ) (o : Options) (l : List ℕ) where
  pub type-refused : known bits ≡ false → Writes (text_of bits (meaning 64 signed p) format o) (answer signed bits p format o (length l)) l (Err refusal.Type) l
  unfolding answer
  type-refused h = rw h (record { answers = refl; leaves = refl })

  pub value-refused : known bits ≡ true → is_in_type signed bits (meaning 64 signed p) ≡ false → Writes (text_of bits (meaning 64 signed p) format o) (answer signed bits p format o (length l)) l (Err refusal.Value) l
  unfolding answer
  value-refused h g = rw (h, g) (record { answers = refl; leaves = refl })

  pub judged : known bits ≡ true → is_in_type signed bits (meaning 64 signed p) ≡ true → (r : Written) (l' : List ℕ)
      → Writes (text_of bits (meaning 64 signed p) format o) (answer_of bits (meaning 64 signed p) format o (length l)) l r l'
      → Writes (text_of bits (meaning 64 signed p) format o) (answer signed bits p format o (length l)) l r l'
  unfolding answer
  judged h g r l' W = rw (h, g) W

-- one answer meets a promise, and it leaves one buffer
pub one_answer : {t : List ℕ} {a : Written} {l : List ℕ} {r s : Written} {m n : List ℕ} → Writes t a l r m → Writes t a l s n → (r ≡ s) × (m ≡ n)
one_answer p q = (p.answers ∙ sym q.answers, p.leaves ∙ sym q.leaves)
