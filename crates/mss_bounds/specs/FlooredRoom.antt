-- Room for floored lists.
use Rattle.std.specs.Prelude.{◌≡◌, ℕ}
use Rattle.mss_census.specs.declared.ward_census.TheConstants.{CENSUS_ROOM}

-- The copy has room for each floored list, and the scratch for its pushes.
pub record HasRooms (copy scratch : ℕ) : Type 0 where
  pub copy_room : copy ≡ CENSUS_ROOM
  pub scratch_room : scratch ≡ CENSUS_ROOM
