-- The numbers and the names of the kinds of fault.
use Rattle.std.specs.Prelude.{ℕ, ◌-◌, List, [], map, slice_index_or}
use Rattle.mss_model.specs.declared.faults.Kind.{Kind}
use Rattle.mss_model.specs.declared.faults.Kind.TheVariants.{TooLong, Toml, Key, Version, Range, Level, Watch, Header, Columns, Number, Name, TooMany, Unknown, Twice, HoursOrder, ChanceSum, StayEnd, StayAfterEnd, StayOrder, NoRecord, Word}
use Rattle.mss_model.specs.declared.faults.TheConstants.{KIND_NAMES}

-- the kinds of fault are numbered from 1
abbrev pub kind_number : Kind → ℕ
kind_number TooLong = 1
kind_number Toml = 2
kind_number Key = 3
kind_number Version = 4
kind_number Range = 5
kind_number Level = 6
kind_number Watch = 7
kind_number Header = 8
kind_number Columns = 9
kind_number Number = 10
kind_number Name = 11
kind_number TooMany = 12
kind_number Unknown = 13
kind_number Twice = 14
kind_number HoursOrder = 15
kind_number ChanceSum = 16
kind_number StayEnd = 17
kind_number StayAfterEnd = 18
kind_number StayOrder = 19
kind_number NoRecord = 20
kind_number Word = 21

-- the name of a kind, by its number
abbrev pub kind_name : Kind → List ℕ
kind_name kind = slice_index_or (map (λ name. name.now) KIND_NAMES) (kind_number kind - 1) []
