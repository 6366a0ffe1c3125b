-- The marks of count files (02, wish 3). Assumes nothing.
use Rattle.std.specs.Prelude.{ℕ, Bool, ◌||◌, eqb}

-- "5 goes on Friday, 7 goes on Sunday": the marks by which files are deleted
unfoldable pub goes : ℕ → Bool
goes k = eqb k 5 || eqb k 7

-- "0 permanent", or one of these: the marks that a file may have
unfoldable pub is_mark : ℕ → Bool
is_mark k = eqb k 0 || goes k
