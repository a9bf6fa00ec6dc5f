use Rattle.std.proofs.Common.{◌≡◌, map, take, true}
use Rattle.toml.specs.View.{view}
use Rattle.mss_model.specs.Limits.{AreBetween}
use Rattle.mss_settings.specs.Faults.{are_numbers, numbers_of}
use Rattle.mss_settings.proofs.lists.numbers_of.Given as goal

abbrev pub invariant-loop-item : goal.invariant-loop-item
invariant-loop-item l = record {
  numbers : l.numbers ≡ numbers_of l.low l.high (map view (take l.item-index l.items));
  all : are_numbers l.low l.high (map view (take l.item-index l.items)) ≡ true;
  within : AreBetween l.low l.high l.numbers;
}
