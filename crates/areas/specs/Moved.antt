-- What keep and drop do to the areas, whatever these hold. Assumes nothing.
use Rattle.std.specs.Prelude.{ℕ, ◌+◌, ◌*◌, ◌≤◌, ◌<◌, ◌≡◌, List, Bool, cond, take}
use Rattle.codec.specs.Parts.{put, moved_up, moved_down}
use Rattle.model.specs.declared.Entry.{Entry}
use Rattle.model.specs.Files.{files_in, areas_bytes, staying, closed_up}

-- a place among the files, a table, and areas for a file more
pub record AreaFree (limit files at areas table : ℕ) : Type 0 where
  pub limit_high : limit ≤ 1024
  pub files_few : files < 16
  pub within : at ≤ files
  pub areas_long : 8 * limit * (files + 1) ≤ areas
  pub table_is : table ≡ 8 * limit

-- the areas from place at on go up by one, and the table stands there
abbrev pub area_put : (R files at : ℕ) → List ℕ → List ℕ → List ℕ
area_put R files at table areas = put (moved_up areas (8 * R * at) (8 * R * files) (8 * R)) (8 * R * at) table

-- the area of file i brought down to place j, if its entry stays
abbrev pub area_joined : Bool → (size i j : ℕ) → List ℕ → List ℕ
area_joined stays size i j areas = cond stays (moved_down areas (size * j) (size * i) size) areas

-- the areas of the files that stay, closed up, and zeros behind them
abbrev pub areas_closed : (Entry → Bool) → (R files : ℕ) → List Entry → List ℕ → List ℕ
areas_closed stays R files es areas =
    put areas 0 (areas_bytes (closed_up R files (staying stays (files_in R areas 0 (take files es)))))
