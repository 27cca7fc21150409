-- `framing::write_radix` meets its contract: hex is written into a part that it fills. Assumes nothing.
use mathlib.Core.List.{List, append-nil}
use mathlib.Core.Path.{◌≡◌, ap, ◌∙◌}
use Prim.Native.Nat.{ℕ, ◌+◌, ◌-◌, ◌≤◌}
use native.Mathlib.Nat.{le_refl}
use native.Mathlib.Omega.{arith}
use borrow.Author.Tests.{le-leb}
use borrow.Rule.Slice.PartMut.{mid_of, put_mid}
use lib.ListN.{length, take, drop, length-drop}
use lib.Seq.{drop-drop, drop-length, length-take-le}
use Rattle.buffer.specs.AtEnd.{ended, begun}
use Rattle.writing.specs.Promise.{Places}
use Rattle.writing.specs.Text.{numeral}
use Rattle.framing.proofs.write_radix.Goals as goal
use Rattle.framing.proofs.write_radix.Goals.{Start}

-- a text in a part that it fills, and the part in its buffer
fills : (t m : List ℕ) → length m ≡ length t → begun m t ≡ t
unfolding begun
fills t m e = rw (← e, drop-length m) (append-nil t)

part-ended : (t l p : List ℕ) (a e n : ℕ) → a + length t ≡ e → e ≤ length l → Places t (mid_of a (e - a) l) n p → put_mid a (e - a) l p ≡ ended l e t
unfolding ended
part-ended t l p a e n i h P =
    let k : e - a ≡ length t = omega arith in
    let m : length (take (e - a) (drop a l)) ≡ length t = length-take-le (e - a) (drop a l) (rw (length-drop a l) (omega arith)) ∙ k in
    let b : e - length t ≡ a = omega arith in
    let j : a + (e - a) ≡ e = omega arith in
    let d : drop (e - a) (drop a l) ≡ drop e l = drop-drop (e - a) a l ∙ ap (λ (i : ℕ). drop i l) j in
    let q : p ≡ t = P.leaves ∙ rw (m, le-leb (length t) (length t) (le_refl (length t))) (fills t (take (e - a) (drop a l)) m) in
    rw (q, b, d)

-- digits that are known by another name are as many, and have the room that was asked for
room : (s : Start) {t : List ℕ} → numeral s.args.format s.args.n ≡ t → (s.args.count ≡ length t) × (s.args.count ≤ s.args.end) × (s.args.end ≤ length s.args.out.now)
room s e = (s.requires.1 ∙ ap length e, s.requires.2, s.requires.3)

pub counted_binary-requires : goal.counted_binary-requires
counted_binary-requires c = room (goal.at.counted_binary-requires c).Start (ap (λ (f : ℕ). numeral f c.args.n) c.in-1.is)

pub returns-in-1 : goal.returns-in-1
returns-in-1 c = rw c.in-1.is c.counted_binary.ensures.1

pub counted_octal-requires : goal.counted_octal-requires
counted_octal-requires c = room (goal.at.counted_octal-requires c).Start (ap (λ (f : ℕ). numeral f c.args.n) c.in-2.is)

pub returns-in-2 : goal.returns-in-2
returns-in-2 c = rw c.in-2.is c.counted_octal.ensures.1

pub returns-in_default : goal.returns-in_default
returns-in_default c =
    part-ended (numeral c.args.format c.args.n) c.args.out.now c.write_hex.new.out (c.args.end - c.args.count) c.args.end c.write_hex.result (omega (arith, c.requires.1, c.requires.2)) c.requires.3 c.write_hex.ensures
