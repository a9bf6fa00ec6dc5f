-- What the list of a prefix shows.
use Rattle.std.specs.Prelude.{◌≡◌, ℕ, List}
use Rattle.mss_model.specs.declared.parts.TableParts.{TableParts}
use Rattle.mss_census.specs.WardLists.{WardLists, lists_of}
use Rattle.mss_floor.specs.FloorLists.{steady_table}
use Rattle.mss_census.specs.declared.ward_census.TheConstants.{CENSUS_ROOM}

-- The version of certificates that it serves, the lists of its tables and those from which their floors are made, and the
-- list of the prefix that was set last.
pub record PrefixListView : Type 0 where
  pub version : ℕ
  pub lists : WardLists
  pub steady : List (List (List ℕ))
  pub list : List ℕ

-- it was made for these tables
pub record IsListOf (tables : TableParts) (v : PrefixListView) : Type 0 where
  pub lists_are : v.lists ≡ lists_of tables
  pub steady_are : v.steady ≡ steady_table tables

-- there is room for each floored list
pub record IsRoomy (size scratch : ℕ) : Type 0 where
  pub list_room : size ≡ CENSUS_ROOM
  pub scratch_room : scratch ≡ CENSUS_ROOM
