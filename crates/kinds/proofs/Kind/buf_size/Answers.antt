-- `kinds::Kind::buf_size` meets its contract: each constant is the greatest decimal length of its type, which antt computes from the law over the bits.
-- Assumes nothing.
use mathlib.Core.Path.{refl}
use Rattle.digits.specs.Digits.{up_to, bare, digits}
use Rattle.digits.specs.Text.{text}
use Rattle.kinds.proofs.Sizes.{greatest-signed, greatest-unsigned, of-type}
use Rattle.kinds.proofs.Kind.buf_size.Goals as goal

pub returns-in-8-false : goal.returns-in-8-false
unfolding text digits bare up_to
returns-in-8-false c = rw (c.in-8-false.is-0, c.in-8-false.is-1) (of-type refl (greatest-unsigned 8))

pub returns-in-8-true : goal.returns-in-8-true
unfolding text digits bare up_to
returns-in-8-true c = rw (c.in-8-true.is-0, c.in-8-true.is-1) (of-type refl (greatest-signed 8))

pub returns-in-16-false : goal.returns-in-16-false
unfolding text digits bare up_to
returns-in-16-false c = rw (c.in-16-false.is-0, c.in-16-false.is-1) (of-type refl (greatest-unsigned 16))

pub returns-in-16-true : goal.returns-in-16-true
unfolding text digits bare up_to
returns-in-16-true c = rw (c.in-16-true.is-0, c.in-16-true.is-1) (of-type refl (greatest-signed 16))

pub returns-in-32-false : goal.returns-in-32-false
unfolding text digits bare up_to
returns-in-32-false c = rw (c.in-32-false.is-0, c.in-32-false.is-1) (of-type refl (greatest-unsigned 32))

pub returns-in-32-true : goal.returns-in-32-true
unfolding text digits bare up_to
returns-in-32-true c = rw (c.in-32-true.is-0, c.in-32-true.is-1) (of-type refl (greatest-signed 32))

pub returns-in-64-false : goal.returns-in-64-false
unfolding text digits bare up_to
returns-in-64-false c = rw (c.in-64-false.is-0, c.in-64-false.is-1) (of-type refl (greatest-unsigned 64))

pub returns-in-64-true : goal.returns-in-64-true
unfolding text digits bare up_to
returns-in-64-true c = rw (c.in-64-true.is-0, c.in-64-true.is-1) (of-type refl (greatest-signed 64))
