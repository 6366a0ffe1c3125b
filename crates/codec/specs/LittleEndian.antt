-- Little-endian numbers in lists of bytes (01, "Log bytes").
-- `number` and `bytes` are what contracts cite; w is a width in bytes. Assumes nothing.
use Rattle.std.specs.Prelude.{ℕ, zero, suc, ◌+◌, ◌*◌, ◌/◌, ◌%◌, ◌<◌, List, [], ◌∷◌, get_or}

-- the number that w bytes from place at hold, the lowest byte first; a byte past the end reads as 0
unfoldable pub number : ℕ → List ℕ → ℕ → ℕ
number zero xs at = 0
number (suc w) xs at = get_or xs at 0 + 256 * number w xs (suc at)

-- the w lowest bytes of n, the lowest first
unfoldable pub bytes : ℕ → ℕ → List ℕ
bytes zero n = []
bytes (suc w) n = n % 256 ∷ bytes w (n / 256)

-- every element is a byte
unfoldable pub AreBytes : List ℕ → Type 0
AreBytes xs = (i : ℕ) → get_or xs i 0 < 256
