-- What a function that gathers text in a buffer does to it. Assumes nothing.
use Rattle.std.specs.Prelude.{ℕ, ◌+◌, ◌≡◌, List, length}
use Rattle.codec.specs.Parts.{put}

-- the text stands behind the first `at` bytes, up to `end`, and every other byte is as it was
pub record Gathered (before : List ℕ) (at : ℕ) (text after : List ℕ) (end : ℕ) : Type 0 where
  pub ends : end ≡ at + length text
  pub written : after ≡ put before at text
