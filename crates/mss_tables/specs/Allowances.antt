-- The beds of wards that are always taken.
use Rattle.std.specs.Prelude.{ℕ, ◌==◌, List, map, position, slice_index}
use Rattle.std.specs.List.{range_with_len}
use Rattle.std.specs.Option.{option_map_or}

-- the allowance beside a ward's number in the watch list, and 0 where it isn't there
abbrev pub allowance : List ℕ → List ℕ → ℕ → ℕ
allowance watch allow ward = option_map_or (λ place. slice_index allow place) (position (λ watched. watched == ward) watch) 0

-- the allowance of each of so many wards
abbrev pub allow_of : List ℕ → List ℕ → ℕ → List ℕ
allow_of watch allow wards = map (allowance watch allow) (range_with_len 1 wards)
