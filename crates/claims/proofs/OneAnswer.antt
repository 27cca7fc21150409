-- One answer to each promise, from the laws of the layers. Assumes nothing.
use Rattle.decimal.proofs.Ends as ends
use Rattle.edge.proofs.Edge as edge
use Rattle.kinds.proofs.Sizes as sizes
use Rattle.part_answers.proofs.Answers as parting
use Rattle.reader.proofs.Outcomes as reading
use Rattle.writing.proofs.Cases as writing
use Rattle.claims.specs.OneAnswer.{OneAnswer}

pub one_answer : OneAnswer
one_answer = record {
  write = λ signed bits p format o l r s m n p' q. writing.one_answer p' q;
  write-short = λ signed bits p format l r s m n p' q. writing.one_answer p' q;
  write-by-type = λ bits z format o l r s m n p q. writing.one_answer p q;
  read = λ sgn bits format t r s p q. reading.one_answer sgn bits format t r s p q;
  end-unsigned = λ n l r s m m' p q. ends.one_answer p q;
  end-signed = λ z l r s m m' p q. ends.one_answer p q;
  parts = λ sign ps src out r s m n p q. parting.one_answer p q;
  edge-write = λ t a l n v k w m m' p q. edge.one_answer p q;
  edge-read = λ sgn bits format t n v k w p q. edge.one-reading p q;
  size = λ sgn bits m n p q. sizes.one_answer p q;
}
