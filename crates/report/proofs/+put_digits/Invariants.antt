-- The measure of `put_digits`: how many digits there may be. Assumes nothing.
use Rattle.report.proofs.+put_digits.Given as goal

abbrev pub decreases-put_digits : goal.decreases-put_digits
decreases-put_digits l = l.most
