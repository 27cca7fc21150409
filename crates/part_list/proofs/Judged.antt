-- What the number 0 says of an answer: it is DONE, so the text has room, and the promise is kept by writing it.
-- Assumes nothing.
use mathlib.Core.Path.{◌≡◌, refl, sym, ◌∙◌}
use mathlib.Core.List.{List}
use Prim.Native.Nat.{ℕ, ◌≤◌}
use native.Mathlib.Omega.{arith}
use lib.ListN.{length}
use Rattle.buffer.specs.AtEnd.{ended}
use Rattle.part_answers.specs.Answers.{Answer, wrote, Writes, number_of, value_of}
use Rattle.part_answers.proofs.Answers.{wrote-done, is-done, writes-done}
use Rattle.parts.specs.Parts.{text_of, Inside, true_length}
use Rattle.parts.specs.declared.Part.{Part}
use Rattle.parts.specs.declared.Sign.{Sign}

module _ (sign : Sign) (ps : List Part) (src out : List ℕ) {w : Answer} (a : w ≡ wrote (length src) (length out) sign ps) (z : number_of w ≡ 0) where
  module _ {end : ℕ} (v : end ≡ value_of w) where
    -- what the writer of the text asks
    pub has_room : Inside (length src) ps × (true_length sign ps ≤ end) × (end ≤ length out)
    has_room = let d = wrote-done (length src) (length out) sign ps (value_of w) (sym a ∙ is-done w z) in (d.0, omega (arith, d.1), omega (arith, d.2))

    pub is-written : {out' : List ℕ} → out' ≡ ended out end (text_of sign src ps) → Writes sign ps src out w out'
    is-written e = writes-done sign (value_of w) ps src out a (is-done w z) (e ∙ rw v)

  -- the same where the text ends at the answer's own value
  pub done_is_written : {out' : List ℕ} → out' ≡ ended out (value_of w) (text_of sign src ps) → Writes sign ps src out w out'
  done_is_written e = is-written refl e
