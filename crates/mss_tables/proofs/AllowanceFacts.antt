-- The allowances of wards are within their limits.
use Rattle.std.proofs.Common.{◌≡◌, ◌≤◌, ◌+◌, ◌==◌, ℕ, zero, suc, Bool, true, false, List, [], ◌∷◌, Option, Some, None, length, get_or, position, nat_lt, refl, ◌∙◌, arith, inl, inr}
use Rattle.std.specs.Prelude.{slice_index}
use Rattle.std.specs.List.{list_any, position_or_len, range_with_len}
use Rattle.std.specs.Option.{option_map_or}
use Rattle.std.proofs.lemmas.Bool.{cases_Bool}
use Rattle.std.proofs.lemmas.Bool.Decides.{nat_tests}
use Rattle.std.proofs.lemmas.List.Elements.{All-head, All-map, All-tail}
use Rattle.std.proofs.lemmas.List.FromFn.{get_or-map-range_with_len, length-map-range_with_len}
use Rattle.mss_model.specs.Limits.{AreBetween, AreDistinct, Between}
use Rattle.mss_settings.specs.Meaning.{IsSettings}
use Rattle.mss_settings.specs.declared.settings.Settings.{Settings}
use Rattle.mss_tables.specs.Allowances.{allow_of, allowance}
use Rattle.mss_tables.specs.HospitalLimits.{AreWatched}

number-few : (most : ℕ) (allow : List ℕ) (place : ℕ) → AreBetween 0 most allow → get_or allow place 0 ≤ most
number-few most [] place few = omega arith
number-few most (n ∷ allow) zero few = (All-head (Between 0 most) n allow few).1
number-few most (n ∷ allow) (suc place) few = number-few most allow place (All-tail (Between 0 most) n allow few)

found-few : (most : ℕ) (allow : List ℕ) (place : Option ℕ) → AreBetween 0 most allow → option_map_or (λ k. slice_index allow k) place 0 ≤ most
found-few most allow None few = omega arith
found-few most allow (Some place) few = number-few most allow place few

absent : (test : ℕ → Bool) (watch : List ℕ) → list_any test watch ≡ false → position_or_len test watch ≡ length watch
absent test [] e = refl
absent test (n ∷ watch) e = elim (cases_Bool (test n)) [
  | inl passes ↦ let bad : true ≡ false = rw passes at e in cc
  | inr fails ↦ let rest : list_any test watch ≡ false = rw fails at e in let more = absent test watch rest in rw fails (omega arith)
]

-- a ward that isn't watched has no allowance
none-unwatched : (watch allow : List ℕ) (ward : ℕ) → list_any (λ watched. watched == ward) watch ≡ false → allowance watch allow ward ≡ 0
none-unwatched watch allow ward e =
    let past : nat_lt (length watch) (length watch) ≡ false = grind (arith, nat_tests) in
    rw (absent (λ watched. watched == ward) watch e, past) refl

-- the watched wards and the allowances
pub are-watched : (s : Settings) (wards : ℕ) (watch : List ℕ) → IsSettings s → length watch ≡ length s.watch → AreBetween 1 wards watch → AreDistinct watch
    → AreWatched wards (record { watch = watch; allow = allow_of watch s.allow wards })
are-watched s wards watch settings count within distinct = record {
  some_watch = rw count settings.some_watch;
  watch = within;
  distinct = distinct;
  allow = record {
    count = length-map-range_with_len (allowance watch s.allow) 1 wards;
    between = All-map (Between 0 1000) (allowance watch s.allow) (range_with_len 1 wards) (λ i d h.
        (omega arith, found-few 1000 s.allow (position (λ watched. watched == get_or (range_with_len 1 wards) i d) watch) settings.allow.between));
  };
  unwatched = λ place here none.
      get_or-map-range_with_len (allowance watch s.allow) 1 wards place (place + 1) 0 here (omega arith) ∙ none-unwatched watch s.allow (place + 1) none;
}
