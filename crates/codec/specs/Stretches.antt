-- Comparing and filling, place by place (02, wish 8), whatever the step of the code. Assumes nothing.
use Rattle.std.specs.Prelude.{ℕ, ◌-◌, ◌≤◌, ◌<◌, ◌≡◌, List, true, length, get_or}
use borrow.Rule.Slice.PartMut.{put_mid}
use Rattle.codec.specs.Parts.{zeros, part, same}

-- the two stretches have the same byte at each place
abbrev pub EachAgrees : List ℕ → List ℕ → Type 0
EachAgrees xs ys = (i : ℕ) → i < length xs → get_or xs i 0 ≡ get_or ys i 0

-- "For stretches of any one length, the comparison of bytes says yes exactly when each byte agrees": of what `same_bytes`
-- answers
abbrev pub ComparesEach : Type 0
ComparesEach = (xs ys : List ℕ) → length xs ≡ length ys → (same xs ys ≡ true → EachAgrees xs ys) × (EachAgrees xs ys → same xs ys ≡ true)

-- ys is xs with zeros at places a to e - 1, and no other place written
pub record ZeroedIn (a e : ℕ) (xs ys : List ℕ) : Type 0 where
  pub as_long : length ys ≡ length xs
  pub zero_in : (i : ℕ) → a ≤ i → i < e → get_or ys i 0 ≡ 0
  pub kept_before : (i : ℕ) → i < a → get_or ys i 0 ≡ get_or xs i 0
  pub kept_behind : (i : ℕ) → e ≤ i → get_or ys i 0 ≡ get_or xs i 0

-- "the fill zeros each byte of its stretch and no other": of the memory xs whose stretch `&mut xs[a..e]` was lent to `fill_zero`
-- and came back as zs
abbrev pub FillsEach : Type 0
FillsEach = (a e : ℕ) (xs zs : List ℕ) → a ≤ e → e ≤ length xs → zs ≡ zeros (length (part a (e - a) xs)) → ZeroedIn a e xs (put_mid a (e - a) xs zs)
