-- The starred trials: the texts by computing, the readings by the reader's trials. Assumes nothing.
use Rattle.std.proofs.Common.{refl}
use Rattle.digits.specs.Digits.{up_to, bare, digits, last}
use Rattle.digits.specs.Text.{text, last_text, signed}
use Rattle.padding.specs.Padding.{padded}
use Rattle.scientific.specs.Sci.{exponent_of, trimmed, short, up, rounded, carried, fixed_at, fixed, sci}
use Rattle.scientific.specs.Layout.{point, layout, exp_text}
use Rattle.reader.proofs.Trials.{trials}
use Rattle.writing.specs.Text.{text_of}
use Rattle.claims.specs.Trials.{Starred}

pub starred : Starred
unfolding text_of padded exp_text layout point sci short trimmed fixed fixed_at carried rounded up exponent_of text last_text last digits bare up_to signed
starred = record {
  zero = refl;
  year = refl;
  smallest = refl;
  hex = refl;
  prefixed = refl;
  zeros = refl;
  centred = refl;
  zero-p2 = refl;
  tie-15 = refl;
  tie-25 = refl;
  tie-95 = refl;
  carry = refl;
  largest = refl;
  twenty = refl;
  greatest = trials.greatest;
  one_more = trials.one_more;
  zeros-lead = trials.zeros-lead;
}
