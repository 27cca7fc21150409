-- Demand 3, as `scientific` proves it. Assumes nothing.
use Rattle.std.proofs.Common.{Some, pos, lit<}
use Rattle.scientific.specs.Sci.{sci}
use Rattle.scientific.proofs.Demand.{demand3, shortest, zero-denotes}
use Rattle.scientific.proofs.Fixed.{fixed-expo}
use Rattle.scientific.proofs.Order.{finer-texts, ordered-texts}
use Rattle.claims.specs.Demand3.{OfExponent}
use Rattle.claims.proofs.Demand2.{of-text}

pub of-exponent : OfExponent
unfolding sci
of-exponent = record {
  written = λ bits n p o U h.
      let t = of-text.exponent-is bits (pos n) o (Some p) U in
      let k = fixed-expo 99 n p (lit< tt) h in
      (rw t.0 (demand3 101 n p (lit< tt) k), rw t.1 (demand3 69 n p (lit< tt) k));
  rounded = λ letter n p h k. demand3 letter n p h k;
  in-full = λ letter n h k. shortest letter n h k;
  held = λ n p h. fixed-expo 99 n p (lit< tt) h;
  zero_is = λ letter p h. zero-denotes letter p h;
  finer = λ letter n p p' h k k' l signed x x' r r' D D' d d'. finer-texts letter n p p' h k k' l signed x x' r r' D D' d d';
  ordered = λ letter n m p h k k' l signed x y r r' D E d d'. ordered-texts letter n m p h k k' l signed x y r r' D E d d';
}
