-- `descent::descend` ends: each call is one level down. Assumes nothing.
use Rattle.descent.proofs.+descend.Given as goal

abbrev pub decreases-descend : goal.decreases-descend
decreases-descend l = l.level
